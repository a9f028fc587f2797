-- The frames of a run, one by one: a moment lies in the first call or in the rest, and its state is one that the run passes.
use Prim.Native.Nat.{ℕ, ◌+◌, ◌-◌, ◌<◌, ◌≤◌, zero, suc}
use mathlib.Core.Path.{◌≡◌, refl, ap, sym, ◌∙◌, subst}
use mathlib.Core.Bool.{Bool, true, false, cond, ◌||◌}
use mathlib.Core.List.{List, [], ◌∷◌}
use lib.IntN.{ℤ}
use lib.Dec.{eqb, ltb}
use borrow.Author.Tests.{le-ltb, lt-ltb, ltb-true, ltb-false}
use lib.Ieee.{Float}
use native.Mathlib.Omega.{arith}
use Rattle.voice.specs.declared.Voice.{Voice}
use Rattle.voice.specs.declared.Slot.{Slot}
use Rattle.state.specs.declared.Engine.{Engine}
use Rattle.state.specs.Slots.{slot_at}
use Rattle.state.specs.Channels.{channel_at}
use Rattle.state.proofs.SlotsLaws.{slot_map}
use Rattle.state.proofs.AnswersLaws.{or_no}
use Rattle.state.specs.Answers.{Answered}
use Rattle.state.specs.Answers.{done, refused}
use Rattle.state.specs.Slots.{with_clock}
use lib.ListN.{length}
use Rattle.engine.specs.Rendering.{window, slot_after, played, render, render_number, distance}
use Rattle.engine.proofs.RenderingLaws.{slot-stays}
use Rattle.promises.specs.Calls.{Call, does, next, run, voice_in, frames_of, frames_run, starts_in, among, seats}
use Rattle.voice.specs.Frames.{after}
use Rattle.promises.specs.Moments.{Moment, moment_in, moment, state_at, in_front, started_at}
use Rattle.promises.proofs.Voices.{Fixed, call-sounded}
use Rattle.promises.proofs.Frames.{after-keeps, after-sounded}
use Rattle.promises.specs.Calls as Calls

-- nothing lies among no frames
pub no-frame : {k : ℕ} → k < 0 → ⊥
no-frame {k} h = omega arith

-- ---- which call a moment lies in

-- in the first call
pub moment-here : (k : ℕ) (x : Call) (xs : List Call) (e : Engine) → k < frames_of x e → moment k (x ∷ xs) e ≡ moment_in x k e
unfolding moment
moment-here k x xs e h = rw (lt-ltb k (frames_of x e) h)

-- or in the rest
pub moment-later : (k : ℕ) (x : Call) (xs : List Call) (e : Engine) → moment (frames_of x e + k) (x ∷ xs) e ≡ moment k xs (next x e)
unfolding moment
moment-later k x xs e =
    let q : frames_of x e + k - frames_of x e ≡ k = omega arith in
    rw (le-ltb (frames_of x e + k) (frames_of x e) (omega arith), q)

-- a voice started behind the frames of the first call is started by the rest
pub started-later : (i k : ℕ) (x : Call) (xs : List Call) (e : Engine) → started_at i (frames_of x e + k) (x ∷ xs) e ≡ false
    → started_at i k xs (next x e) ≡ false
unfolding started_at
started-later i k x xs e h =
    let q : frames_of x e + k - frames_of x e ≡ k = omega arith in
    let t = le-ltb (frames_of x e + k) (frames_of x e) (omega arith) in
    subst (λ (n : ℕ). started_at i n xs (next x e) ≡ false) q
    (or_no (cond (eqb (frames_of x e + k) 0) (among i (starts_in x e)) false) (started_at i (frames_of x e + k - frames_of x e) xs (next x e))
    (sym (ap (λ (b : Bool). cond b false (cond (eqb (frames_of x e + k) 0) (among i (starts_in x e)) false || started_at i (frames_of x e + k - frames_of x e) xs (next x e))) t) ∙ h)).1

-- a call that renders a frame starts no voice
starts_none : (i : ℕ) (x : Call) (e : Engine) → 0 < frames_of x e → among i (starts_in x e) ≡ false
unfolding among seats
starts_none i (Calls.NoteOn b ram rom c k v) e h = absurd (no-frame h)
starts_none i (Calls.NoteOff c k) e h = absurd (no-frame h)
starts_none i (Calls.Control c n v) e h = absurd (no-frame h)
starts_none i (Calls.Program c p) e h = absurd (no-frame h)
starts_none i (Calls.Bend c b) e h = absurd (no-frame h)
starts_none i (Calls.Render to ram rom out) e h = refl
starts_none i (Calls.Ask s) e h = absurd (no-frame h)

-- none is started by the first call
pub started-first : (i : ℕ) (x : Call) (xs : List Call) (e : Engine) → started_at i 0 (x ∷ xs) e ≡ false → among i (starts_in x e) ≡ false
unfolding started_at
started-first i x xs e h = by (frames_of x e) refl h
  where
    by : (n : ℕ) → frames_of x e ≡ n → cond (ltb 0 n) false (among i (starts_in x e) || started_at i (0 - n) xs (next x e)) ≡ false
        → among i (starts_in x e) ≡ false
    by zero q g = (or_no (among i (starts_in x e)) (started_at i 0 xs (next x e)) g).0
    by (suc n) q g = starts_none i x e (omega arith)

-- ---- the state at a moment

-- a slot after n frames
pub slot-at : (ram rom : List ℤ) (n : ℕ) (e : Engine) (i : ℕ) → slot_at (played ram rom n e) i ≡ slot_after ram rom e n (slot_at e i)
unfolding played
slot-at ram rom n e i = slot_map e e (slot_after ram rom e n) i (slot-stays ram rom e n)

-- it sounds then: it sounded before
pub part-sounded : (ram rom : List ℤ) (n : ℕ) (e : Engine) (i : ℕ) → (slot_at (played ram rom n e) i).sounding ≡ true → (slot_at e i).sounding ≡ true
part-sounded ram rom n e i on =
    let s = slot_at e i in
    after-sounded (channel_at e s.voice.channel) (window ram rom s.voice) n s
    (sym (ap (λ (t : Slot). t.sounding) (slot-at ram rom n e i)) ∙ on)

-- and what movement does not touch holds of its voice still
pub part-keeps : (P : Voice → Type 0) → Fixed P → (ram rom : List ℤ) (n : ℕ) (e : Engine) (i : ℕ) → P (voice_in i e) → P (voice_in i (played ram rom n e))
part-keeps P k ram rom n e i h =
    let s = slot_at e i in
    subst (λ (t : Slot). P t.voice) (sym (slot-at ram rom n e i))
    (after-keeps (channel_at e s.voice.channel) (window ram rom s.voice) P (λ v g p. k v g p v.marked) n s h)

-- the memories that a render is lent
pub ram_of : Call → List ℤ
ram_of (Calls.NoteOn b ram rom c k v) = []
ram_of (Calls.NoteOff c k) = []
ram_of (Calls.Control c n v) = []
ram_of (Calls.Program c p) = []
ram_of (Calls.Bend c b) = []
ram_of (Calls.Render to ram rom out) = ram
ram_of (Calls.Ask i) = []

pub rom_of : Call → List ℤ
rom_of (Calls.NoteOn b ram rom c k v) = []
rom_of (Calls.NoteOff c k) = []
rom_of (Calls.Control c n v) = []
rom_of (Calls.Program c p) = []
rom_of (Calls.Bend c b) = []
rom_of (Calls.Render to ram rom out) = rom
rom_of (Calls.Ask i) = []

-- the render of a frame is done
pub record DoneAt (m : Moment) : Type 0 where
  pub to : ℕ
  pub out : List Float
  pub done : (does (Calls.Render to m.ram m.rom out) m.called).status ≡ 0

-- a frame of the first call: its render is called in the state before it, and is done; the state in front of it has k frames of
-- it behind it; and behind them all stand the slots after the call
pub record In (x : Call) (k : ℕ) (e : Engine) : Type 0 where
  pub called : (moment_in x k e).called ≡ e
  pub render : DoneAt (moment_in x k e)
  pub state : state_at (moment_in x k e) ≡ played (ram_of x) (rom_of x) k e
  pub ends : (i : ℕ) → slot_at (next x e) i ≡ slot_at (played (ram_of x) (rom_of x) (frames_of x e) e) i

pub in-call : (x : Call) (k : ℕ) (e : Engine) → k < frames_of x e → In x k e
unfolding render played ram_of rom_of
in-call (Calls.NoteOn b ram rom c n v) k e h = absurd (no-frame h)
in-call (Calls.NoteOff c n) k e h = absurd (no-frame h)
in-call (Calls.Control c n v) k e h = absurd (no-frame h)
in-call (Calls.Program c p) k e h = absurd (no-frame h)
in-call (Calls.Bend c b) k e h = absurd (no-frame h)
in-call (Calls.Render to ram rom out) k e h =
    let a = by (eqb (render_number to ram rom (length out) e) 0) refl h in
    record { called = refl; render = record { to = to; out = out; done = a.0 }; state = refl; ends = a.1 }
  where
    n : ℕ
    n = render_number to ram rom (length out) e

    d : ℕ
    d = distance e to

    tells : Bool → Answered
    tells b = cond b (done 0 (with_clock (played ram rom d e) to)) (refused n e)

    by : (b : Bool) → eqb n 0 ≡ b → k < cond (eqb (tells b).status 0) d 0
        → ((tells b).status ≡ 0) × ((i : ℕ) → slot_at (tells b).engine i ≡ slot_at (played ram rom (cond (eqb (tells b).status 0) d 0) e) i)
    by true q g = (refl, λ i. refl)
    by false q g = absurd (no-frame (subst (λ (t : Bool). k < cond t d 0) q g))
in-call (Calls.Ask s) k e h = absurd (no-frame h)

-- the state in front of a frame of the first call
pub front-here : (k : ℕ) (x : Call) (xs : List Call) (e : Engine) → k < frames_of x e → in_front k (x ∷ xs) e ≡ played (ram_of x) (rom_of x) k e
front-here k x xs e h = ap state_at (moment-here k x xs e h) ∙ (in-call x k e h).state

-- and of a frame of the rest
pub front-later : (k : ℕ) (x : Call) (xs : List Call) (e : Engine) → frames_of x e ≤ k → in_front k (x ∷ xs) e ≡ in_front (k - frames_of x e) xs (next x e)
front-later k x xs e h =
    let r : k ≡ frames_of x e + (k - frames_of x e) = omega arith in
    ap (λ (n : ℕ). state_at (moment n (x ∷ xs) e)) r ∙ ap state_at (moment-later (k - frames_of x e) x xs e)

-- the state in which the render of a moment is called is one that a run reaches
pub record Passed (m : Moment) (e : Engine) : Type 0 where
  pub calls : List Call
  pub reaches : m.called ≡ run calls e

pub passed : (k : ℕ) (xs : List Call) (e : Engine) → Passed (moment k xs e) e
unfolding moment run
passed k [] e = record { calls = []; reaches = refl }
passed k (x ∷ xs) e = by (passed (k - frames_of x e) xs (next x e)) (ltb k (frames_of x e)) refl
  where
    later : Moment
    later = moment (k - frames_of x e) xs (next x e)

    by : Passed later (next x e) → (b : Bool) → ltb k (frames_of x e) ≡ b → Passed (cond b (moment_in x k e) later) e
    by rest true q = record { calls = []; reaches = (in-call x k e (ltb-true k (frames_of x e) q)).called }
    by rest false q = record { calls = x ∷ rest.calls; reaches = rest.reaches }

-- the render of each frame of a run is done
pub done_at : (k : ℕ) (xs : List Call) (e : Engine) → k < frames_run xs e → DoneAt (moment k xs e)
unfolding frames_run
done_at k [] e h = absurd (no-frame h)
done_at k (x ∷ xs) e h =
    by (λ (g : k - frames_of x e < frames_run xs (next x e)). done_at (k - frames_of x e) xs (next x e) g) (ltb k (frames_of x e)) refl
  where
    by : (k - frames_of x e < frames_run xs (next x e) → DoneAt (moment (k - frames_of x e) xs (next x e))) → (b : Bool) → ltb k (frames_of x e) ≡ b
        → DoneAt (moment k (x ∷ xs) e)
    by rest true q =
        let g = ltb-true k (frames_of x e) q in
        subst DoneAt (sym (moment-here k x xs e g)) (in-call x k e g).render
    by rest false q =
        let g = ltb-false k (frames_of x e) q in
        let r : frames_of x e + (k - frames_of x e) ≡ k = omega arith in
        subst DoneAt (sym (moment-later (k - frames_of x e) x xs e) ∙ ap (λ (n : ℕ). moment n (x ∷ xs) e) r) (rest (omega arith))

-- a slot that sounds in front of frame k, and in which none was started before, sounds at the beginning
pub front-sounded : (xs : List Call) (e : Engine) (i k : ℕ) → (slot_at (in_front k xs e) i).sounding ≡ true
    → ((j : ℕ) → j ≤ k → started_at i j xs e ≡ false) → (slot_at e i).sounding ≡ true
unfolding moment
front-sounded [] e i k on own = part-sounded [] [] 0 e i on
front-sounded (x ∷ xs) e i k on own =
    by (λ (o : (slot_at (in_front (k - frames_of x e) xs (next x e)) i).sounding ≡ true) (f : (j : ℕ) → j ≤ k - frames_of x e → started_at i j xs (next x e) ≡ false).
    front-sounded xs (next x e) i (k - frames_of x e) o f) (ltb k (frames_of x e)) refl
  where
    Rest : Type 0
    Rest =
        (slot_at (in_front (k - frames_of x e) xs (next x e)) i).sounding ≡ true
        → ((j : ℕ) → j ≤ k - frames_of x e → started_at i j xs (next x e) ≡ false) → (slot_at (next x e) i).sounding ≡ true

    by : Rest → (b : Bool) → ltb k (frames_of x e) ≡ b → (slot_at e i).sounding ≡ true
    by rest true q =
        let h = ltb-true k (frames_of x e) q in
        part-sounded (ram_of x) (rom_of x) k e i (subst (λ (y : Engine). (slot_at y i).sounding ≡ true) (front-here k x xs e h) on)
    by rest false q =
        let l = ltb-false k (frames_of x e) q in
        call-sounded x e i (started-first i x xs e (own 0 (omega arith)))
        (rest (subst (λ (y : Engine). (slot_at y i).sounding ≡ true) (front-later k x xs e l) on)
        (λ j h. started-later i j x xs e (own (frames_of x e + j) (omega arith))))

-- behind the last frame stand the slots after the run
pub front-end : (xs : List Call) (e : Engine) (i : ℕ) → slot_at (in_front (frames_run xs e) xs e) i ≡ slot_at (run xs e) i
unfolding moment frames_run run after
front-end [] e i = slot-at [] [] 0 e i
front-end (x ∷ xs) e i =
    let q : frames_of x e + frames_run xs (next x e) - frames_of x e ≡ frames_run xs (next x e) = omega arith in
    ap (λ (y : Engine). slot_at y i) (front-later (frames_of x e + frames_run xs (next x e)) x xs e (omega arith))
    ∙ ap (λ (n : ℕ). slot_at (in_front n xs (next x e)) i) q ∙ front-end xs (next x e) i
