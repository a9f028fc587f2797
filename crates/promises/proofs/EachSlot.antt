-- What a call does to one slot: it stands, is marked, released or freed, gets a voice, or is played for the call's frames.
use mathlib.Core.Path.{◌≡◌, refl, ap, ◌∙◌, sym, subst}
use mathlib.Core.List.{List, [], ◌∷◌, map}
use mathlib.Core.Logic.{◌⊎◌, inl, inr, ⊎_elim}
use mathlib.Core.Bool.{Bool, true, cond, false, ◌||◌, or-true, not, ◌&&◌}
use Prim.Native.Nat.{ℕ, zero, suc}
use lib.ListN.{get_or, set, length}
use borrow.Author.Tests.{eqb-true, eqb-false, not-true}
use lib.Dec.{eqb, T, ltb}
use lib.IntN.{ℤ}
use lib.Ieee.{Float}
use Rattle.voice.specs.declared.Voice.{Voice}
use Rattle.voice.specs.declared.Slot.{Slot}
use Rattle.voice.specs.Release.{release}
use Rattle.events.specs.Keys.{mark, let_off, held, pedal_down, held_key, pedal_held, off, off_key, note_off}
use Rattle.state.specs.Slots.{with_voice, cut, slot_at, slots_of, with_slots, of_channel, with_clock}
use Rattle.voice.specs.Changes.{free, sounds, blank}
use Rattle.events.specs.Starting.{Started, start, start_all, class_in, rival, cleared, struck}
use Rattle.promises.specs.Calls.{seats, among, voice_in, Call, next, frames_of, begun, starts_in, channel_of}
use Rattle.state.proofs.SlotsLaws.{slots-back, slot-other, slot_map}
use Rattle.state.specs.Seats.{seat, start_in}
use Rattle.state.specs.declared.Engine.{Engine}
use Rattle.engine.specs.Rendering.{slot_after, distance, played, render_number, render}
use Rattle.voice.specs.Stages.{released}
use Rattle.events.specs.Controls.{pedal, silence, controlled, with_pedal, control_change}
use Rattle.state.specs.Answers.{Answered}
use Rattle.state.specs.Channels.{channel_at, with_channel}
use Rattle.state.specs.Answers.{refused, answer, done, past_two, past_one, past_bend}
use Rattle.events.proofs.KeysLaws.{off-keeps}
use Rattle.events.specs.Striking.{layer_voices, note_on_number, note_on, bank_from}
use Rattle.engine.proofs.RenderingLaws.{slot-stays}
use Rattle.events.specs.Programs.{with_program, program_change}
use Rattle.events.specs.Bends.{with_bend, pitch_bend}
use Rattle.promises.specs.Calls as Calls

-- v is one of a list
abbrev pub Among : Voice → List Voice → Type 0
Among v [] = ⊥
Among v (u ∷ us) = (u ≡ v) ⊎ Among v us

-- ---- tests of slots that are picked, and slots that are not

-- let go
pub let_off-picked : (down : Bool) (p : Slot → Bool) (s : Slot) → p s ≡ true → let_off down p s ≡ with_voice s (cond down (mark s.voice) (release s.voice))
unfolding let_off
let_off-picked down p s e = simp e

-- freed
pub cut-picked : (p : Slot → Bool) (s : Slot) → p s ≡ true → cut p s ≡ free s.voice
unfolding cut
cut-picked p s e = simp e

-- left as it was
pub cut_left : (p : Slot → Bool) (s : Slot) → p s ≡ false → cut p s ≡ s
unfolding cut
cut_left p s e = simp e

-- ---- layers

-- a voice was put into slot i
pub record Placed (i : ℕ) (vs : List Voice) (x : Started) (t : Slot) : Type 0 where
  pub voice : Voice
  pub is : t ≡ sounds voice
  pub from : Among voice vs
  pub into : among i (seats vs x) ≡ true

set_here : {A : Type 0} (xs : List A) (i : ℕ) (a d : A) → (get_or (set xs i a) i d ≡ a) ⊎ (get_or (set xs i a) i d ≡ get_or xs i d)
set_here [] i a d = inr refl
set_here (x ∷ xs) zero a d = inl refl
set_here (x ∷ xs) (suc i) a d = set_here xs i a d

-- slot i after a voice is started in slot i
start-here : (v : Voice) (x : Started) (i : ℕ) → i ≡ seat x.engine x.mine
    → (slot_at (start v x).engine i ≡ sounds v) ⊎ (slot_at (start v x).engine i ≡ slot_at x.engine i)
unfolding start start_in
start-here v x i q =
    let j = seat x.engine x.mine in
    let back = slots-back (set (slots_of x.engine) j (sounds v)) in
    let at : slot_at (with_slots x.engine (set (slots_of x.engine) j (sounds v))) j ≡ get_or (set (slots_of x.engine) j (sounds v)) j (free blank) =
    ap (λ (ss : List Slot). get_or ss j (free blank)) back in
    rw q (⊎_elim (λ h. inl (at ∙ h)) (λ h. inr (at ∙ h)) (set_here (slots_of x.engine) j (sounds v) (free blank)))

-- and of another slot
pub start-there : (v : Voice) (x : Started) (i : ℕ) → (i ≡ seat x.engine x.mine → ⊥) → slot_at (start v x).engine i ≡ slot_at x.engine i
unfolding start start_in
start-there v x i h = slot-other x.engine x.engine (seat x.engine x.mine) i (sounds v) h

-- slot i after all layers: as it was, or with the voice of one of them
pub layered : (vs : List Voice) (x : Started) (i : ℕ)
    → (slot_at (start_all vs x).engine i ≡ slot_at x.engine i) ⊎ Placed i vs x (slot_at (start_all vs x).engine i)
unfolding start_all seats among
layered [] x i = inl refl
layered (v ∷ vs) x i =
    ⊎_elim (λ h. one h (eqb (seat x.engine x.mine) i) refl) (λ p. inr (more p)) (layered vs (start v x) i)
  where
    j : ℕ
    j = seat x.engine x.mine

    t : Slot
    t = slot_at (start_all vs (start v x)).engine i

    more : Placed i vs (start v x) t → Placed i (v ∷ vs) x t
    more p = record { voice = p.voice; is = p.is; from = inr p.from; into = rw p.into (or-true (eqb j i)) }

    one : t ≡ slot_at (start v x).engine i → (b : Bool) → eqb j i ≡ b → (t ≡ slot_at x.engine i) ⊎ Placed i (v ∷ vs) x t
    one h true e =
        ⊎_elim (λ k. inr (record { voice = v; is = h ∙ k; from = inl refl; into = ap (λ (b : Bool). b || among i (seats vs (start v x))) e })) (λ k. inl (h ∙ k))
        (start-here v x i (sym (eqb-true j i e)))
    one h false e = inl (h ∙ start-there v x i (λ q. eqb-false j i e (sym q)))

-- ---- one call

-- slot i before and after a call of channel c that renders n frames and starts the voices vs in the slots ss; y is the state after
pub data Turn (e : Engine) (i c n : ℕ) (vs : List Voice) (ss : List ℕ) (y : Engine) : Type 0 where
  stands : slot_at y i ≡ slot_at e i → n ≡ 0 → Turn e i c n vs ss y
  pedalled : slot_at y i ≡ with_voice (slot_at e i) (mark (voice_in i e)) → n ≡ 0
      → held c (slot_at e i) ≡ true → pedal_down e c ≡ true → Turn e i c n vs ss y
  loosed : slot_at y i ≡ with_voice (slot_at e i) (release (voice_in i e)) → n ≡ 0 → of_channel c (slot_at e i) ≡ true → Turn e i c n vs ss y
  freed : slot_at y i ≡ free (voice_in i e) → n ≡ 0 → of_channel c (slot_at e i) ≡ true → Turn e i c n vs ss y
  started : (v : Voice) → slot_at y i ≡ sounds v → n ≡ 0 → Among v vs → among i ss ≡ true → Turn e i c n vs ss y
  goes : (ram rom : List ℤ) → slot_at y i ≡ slot_after ram rom e n (slot_at e i) → Turn e i c n vs ss y

-- what call x does to slot i
abbrev pub What : Call → Engine → ℕ → Type 0
What x e i = Turn e i (channel_of x) (frames_of x e) (begun x e) (starts_in x e) (next x e)

-- either of two
pub either : {A : Type 0} (P : A → Type 0) (b : Bool) (x y : A) → P x → P y → P (cond b x y)
either P true x y h k = h
either P false x y h k = k

-- a test is not both
pub never : false ≡ true → ⊥
never e = subst (λ (b : Bool). T (not b)) e tt

-- both of two tests hold
pub and_both : (a b : Bool) → (a && b) ≡ true → (a ≡ true) × (b ≡ true)
and_both true b e = (refl, e)
and_both false b e = absurd (never e)

-- what is held is of the channel
pub held-channel : (c : ℕ) (s : Slot) → held c s ≡ true → of_channel c s ≡ true
unfolding held
held-channel c s h =
    (and_both (of_channel c s) (not (released s.voice.stage))
    (and_both (of_channel c s && not (released s.voice.stage)) (not s.voice.marked) h).0).0

-- and not released
pub held-unreleased : (c : ℕ) (s : Slot) → held c s ≡ true → released s.voice.stage ≡ false
unfolding held
held-unreleased c s h =
    not-true (released s.voice.stage)
    (and_both (of_channel c s) (not (released s.voice.stage))
    (and_both (of_channel c s && not (released s.voice.stage)) (not s.voice.marked) h).0).1

key-held : (c k : ℕ) (s : Slot) → held_key c k s ≡ true → held c s ≡ true
unfolding held_key
key-held c k s h = (and_both (held c s) (eqb s.voice.key k) h).0

pedal-channel : (c : ℕ) (s : Slot) → pedal_held c s ≡ true → of_channel c s ≡ true
unfolding pedal_held
pedal-channel c s h = (and_both (of_channel c s) s.voice.marked h).0

rival-channel : (c : ℕ) (vs : List Voice) (s : Slot) → rival c vs s ≡ true → of_channel c s ≡ true
unfolding rival
rival-channel c vs s h = (and_both (of_channel c s) (class_in s.voice.class vs) h).0

module _ (e : Engine) (i c : ℕ) (vs : List Voice) (ss : List ℕ) where
  -- from e to y, with no frame
  abbrev To : Engine → Type 0
  To y = Turn e i c 0 vs ss y

  as_it_was : To e
  as_it_was = stands refl refl

  answered : (n : ℕ) (a : Answered) → To a.engine → To (answer n e a).engine
  answered n a h = either (λ (x : Answered). To x.engine) (eqb n 0) a (refused n e) h as_it_was

  lets : (y : Engine) (down : Bool) (p : Slot → Bool) → p (free blank) ≡ false
      → (p (slot_at e i) ≡ true → of_channel c (slot_at e i) ≡ true)
      → (p (slot_at e i) ≡ true → down ≡ true → (held c (slot_at e i) ≡ true) × (pedal_down e c ≡ true))
      → To (with_slots y (map (let_off down p) (slots_of e)))
  lets y down p h o m = by (p (slot_at e i)) refl down refl
    where
      s : Slot
      s = slot_at e i

      at : slot_at (with_slots y (map (let_off down p) (slots_of e))) i ≡ let_off down p s
      at = slot_map e y (let_off down p) i (off-keeps down p (free blank) h)

      by : (b : Bool) → p s ≡ b → (d : Bool) → down ≡ d → To (with_slots y (map (let_off down p) (slots_of e)))
      by false q d r = stands (at ∙ off-keeps down p s q) refl
      by true q true r = pedalled (at ∙ let_off-picked down p s q ∙ ap (λ (b : Bool). with_voice s (cond b (mark s.voice) (release s.voice))) r) refl (m q r).0 (m q r).1
      by true q false r = loosed (at ∙ let_off-picked down p s q ∙ ap (λ (b : Bool). with_voice s (cond b (mark s.voice) (release s.voice))) r) refl (o q)

  cuts : (y : Engine) (p : Slot → Bool) → p (free blank) ≡ false → (p (slot_at e i) ≡ true → of_channel c (slot_at e i) ≡ true)
      → To (with_slots y (map (cut p) (slots_of e)))
  cuts y p h o = by (p (slot_at e i)) refl
    where
      at : slot_at (with_slots y (map (cut p) (slots_of e))) i ≡ cut p (slot_at e i)
      at = slot_map e y (cut p) i (cut_left p (free blank) h)

      by : (b : Bool) → p (slot_at e i) ≡ b → To (with_slots y (map (cut p) (slots_of e)))
      by true q = freed (at ∙ cut-picked p (slot_at e i) q) refl (o q)
      by false q = stands (at ∙ cut_left p (slot_at e i) q) refl

  let-key : (key : ℕ) → To (off_key c key e).engine
  unfolding off_key off held_key held of_channel
  let-key key =
      lets e (pedal_down e c) (held_key c key) refl (λ h. held-channel c (slot_at e i) (key-held c key (slot_at e i) h)) (λ h d. (key-held c key (slot_at e i) h, d))

  control-to : (control value : ℕ) → To (controlled c control value e)
  unfolding controlled pedal silence off held of_channel pedal_held
  control-to control value =
      either To (eqb control 0) _ _ (stands refl refl)
      (either To (eqb control 7) _ _ (stands refl refl)
      (either To (eqb control 11) _ _ (stands refl refl)
      (either To (eqb control 64) _ _
      (either To (ltb value 64) _ _
      (lets (with_channel e c (with_pedal (channel_at e c) value)) false (pedal_held c) refl (pedal-channel c (slot_at e i)) (λ h d. absurd (never d)))
      (stands refl refl))
      (either To (eqb control 120) _ _ (cuts e (of_channel c) refl (λ h. h))
      (either To (eqb control 123) _ _ (lets e (pedal_down e c) (held c) refl (held-channel c (slot_at e i)) (λ h d. (h, d))) as_it_was)))))

  -- layers that are started, ss being their slots
  strikes : ss ≡ seats vs (record { engine = cleared c vs e; mine = 0 }) → To (struck c vs e).engine
  unfolding struck cleared rival of_channel
  strikes q = ⊎_elim (λ h. out (cuts e (rival c vs) refl (rival-channel c vs (slot_at e i))) h) into (layered vs x i)
    where
      x : Started
      x = record { engine = cleared c vs e; mine = 0 }

      into : Placed i vs x (slot_at (start_all vs x).engine i) → To (start_all vs x).engine
      into p = started p.voice p.is refl p.from (ap (among i) q ∙ p.into)

      out : To (cleared c vs e) → slot_at (start_all vs x).engine i ≡ slot_at (cleared c vs e) i → To (start_all vs x).engine
      out (stands a n) h = stands (h ∙ a) n
      out (pedalled a n l d) h = pedalled (h ∙ a) n l d
      out (loosed a n o) h = loosed (h ∙ a) n o
      out (freed a n o) h = freed (h ∙ a) n o
      out (started v a n f t) h = started v (h ∙ a) n f t
      out (goes ram rom a) h = goes ram rom (h ∙ a)

-- a note-on of the voices vs, by its tests (past its ranges, velocity 0, not refused) and the number n of the others: its answer
abbrev pub answer_at : (c k : ℕ) → List Voice → Engine → (t z q : Bool) → ℕ → Answered
answer_at c k vs e t z q n =
    cond (eqb (cond t 2 0) 0) (cond z (off_key c k e) (cond q (done (length vs) (struck c vs e).engine) (refused n e))) (refused (cond t 2 0) e)

-- the voices that it starts
abbrev pub strikes_at : (c k : ℕ) → List Voice → Engine → (t z q : Bool) → ℕ → List Voice
strikes_at c k vs e t z q n = cond (eqb (answer_at c k vs e t z q n).status 0) (cond z [] vs) []

-- and their slots
abbrev pub seats_at : (c k : ℕ) → List Voice → Engine → (t z q : Bool) → ℕ → List ℕ
seats_at c k vs e t z q n = seats (strikes_at c k vs e t z q n) (record { engine = cleared c (strikes_at c k vs e t z q n) e; mine = 0 })

-- a note-on
note-on-to : (b : List ℕ) (ram rom : List ℤ) (c k v : ℕ) (e : Engine) (i : ℕ) → What (Calls.NoteOn b ram rom c k v) e i
unfolding note_on
note-on-to b ram rom c k v e i = by (past_two c k v) (eqb v 0) (eqb number 0) number
  where
    vs : List Voice
    vs = layer_voices (bank_from b) c k v e

    number : ℕ
    number = note_on_number (bank_from b) ram rom c k v e

    by : (t z q : Bool) (n : ℕ)
        → Turn e i c 0 (strikes_at c k vs e t z q n) (seats_at c k vs e t z q n) (answer_at c k vs e t z q n).engine
    by true z q n = stands refl refl
    by false true q n = let-key e i c _ _ k
    by false false true n = strikes e i c _ _ refl
    by false false false n = stands refl refl

-- a render
render-to : (to : ℕ) (ram rom : List ℤ) (out : List Float) (e : Engine) (i : ℕ) → What (Calls.Render to ram rom out) e i
unfolding render played
render-to to ram rom out e i = by (eqb (render_number to ram rom (length out) e) 0) refl
  where
    n : ℕ
    n = render_number to ram rom (length out) e

    d : ℕ
    d = distance e to

    tells : Bool → Answered
    tells b = cond b (done 0 (with_clock (played ram rom d e) to)) (refused n e)

    by : (b : Bool) → eqb n 0 ≡ b → Turn e i 16 (cond (eqb (tells b).status 0) d 0) [] (seats [] (record { engine = cleared 16 [] e; mine = 0 })) (tells b).engine
    by true h = goes ram rom (slot_map e e (slot_after ram rom e d) i (slot-stays ram rom e d))
    by false h = stands refl (ap (λ (t : Bool). cond t d 0) h)

-- every call
pub what : (x : Call) (e : Engine) (i : ℕ) → What x e i
unfolding note_off control_change program_change pitch_bend
what (Calls.NoteOn b ram rom c k v) e i = note-on-to b ram rom c k v e i
what (Calls.NoteOff c k) e i = answered e i c _ _ (cond (past_one c k) 2 0) (off_key c k e) (let-key e i c _ _ k)
what (Calls.Control c n v) e i = answered e i c _ _ (cond (past_two c n v) 2 0) (done 0 (controlled c n v e)) (control-to e i c _ _ n v)
what (Calls.Program c p) e i =
    answered e i c _ _ (cond (past_one c p) 2 0) (done 0 (with_channel e c (with_program (channel_at e c) p))) (stands refl refl)
what (Calls.Bend c b) e i =
    answered e i c _ _ (cond (past_bend c b) 2 0) (done 0 (with_channel e c (with_bend (channel_at e c) b))) (stands refl refl)
what (Calls.Render to ram rom out) e i = render-to to ram rom out e i
what (Calls.Ask s) e i = stands refl refl
