-- Demand 3 over a run of calls: each call leaves the voice of a slot as it is, lets it go, or moves it by its frames; runs add up.
use Prim.Native.Nat.{ℕ, zero, suc, ◌+◌, ◌-◌, ◌*◌, ◌<◌, ◌≤◌}
use mathlib.Core.Path.{◌≡◌, refl, ap, ap₂, sym, ◌∙◌, subst}
use mathlib.Core.Bool.{Bool, true, false, not, ◌&&◌, ◌||◌, cond}
use borrow.Author.Tests.{eqb-true, ltb-true, ltb-false}
use lib.Dec.{eqb, ltb, T}
use native.Mathlib.Nat.{add-zero}
use mathlib.Core.List.{List, [], ◌∷◌}
use lib.IntN.{ℤ, ◌+ℤ◌, pos, negsuc, nat_abs}
use native.Mathlib.Omega.{arith}
use lib.Signed.{lt_z}
use Rattle.voice.specs.declared.Stage.{Stage}
use Rattle.voice.specs.declared.Voice.{Voice}
use Rattle.voice.specs.Changes.{with_moved, sounds, free}
use Rattle.voice.specs.Stages.{past, released, dead}
use Rattle.voice.proofs.Advance.{place_after, place-add, going, enter-past}
use Rattle.voice.proofs.FramesLaws.{frame_on, living-plays}
use Rattle.voice.specs.declared.Framed.{Framed}
use Rattle.events.specs.Keys.{mark}
use Rattle.voice.specs.declared.Stage.TheVariants.{Delay, Attack, Hold, Decay, Sustain, Release}
use Rattle.voice.specs.Release.{let_go, release}
use Rattle.promises.proofs.Demand2.{let-go}
use Rattle.voice.specs.Motion.{folds, folded, settled, step, pitch_total}
use Rattle.voice.specs.declared.Slot.{Slot}
use Rattle.voice.specs.declared.Channel.{Channel}
use Rattle.voice.specs.Sound.{loss}
use Rattle.voice.specs.Frames.{after, frame, read_and_moved, loud}
use Rattle.voice.specs.Internal.Frames.{after_at}
use Rattle.voice.proofs.RunLaws.{once}
use Rattle.curves.specs.Pitch.{step_of, lifted, bend_cents}
use Rattle.state.specs.declared.Engine.{Engine}
use Rattle.state.specs.Channels.{channel_at}
use Rattle.promises.specs.Calls.{voice_in, Call, next, run, frames_of, frames_run, starts_in, among}
use Rattle.promises.specs.Demand3.{cents_in, Keeps, KeepsAll, ReadAtThePlace, Moved, PlaceBetween, PlaceBetweenAlways, PlaceHolds, RatesHold, PlaceHoldsAlways}
use Rattle.promises.specs.Moments.{Moment, moment, state_at, in_front, started_at, stage_in}
use Rattle.promises.proofs.Moments.{no-frame, slot-at, part-keeps, ram_of, rom_of, in-call, front-here, front-later, front-end, front-sounded, started-later, started-first, moment-later}
use Rattle.engine.proofs.CutLaws.{played-cut, after-channel, after-window}
use Rattle.state.specs.Slots.{with_voice, slot_at}
use Rattle.engine.specs.Rendering.{window, slot_after, played}
use Rattle.promises.proofs.EachSlot.{What, stands, pedalled, loosed, freed, started, goes, never, what}
use Rattle.curves.proofs.OctaveLaws.{up_le}
use Rattle.curves.proofs.PitchLaws.{step_right, steps}
use Rattle.promises.proofs.States.{states-hold, frames-hold}
use Rattle.state.specs.Quiet.{fresh}
use Rattle.arith.proofs.FloorsLaws.{sub-pos}
use Rattle.arith.specs.Holds.{held_to}

-- ---- a voice that has gone on

-- u is v gone on by n frames of step st: only stage, place and mark differ; past the delay; once released, released; and where a
-- loop that stops at release is not released in between, the place is the one after n frames
pub record On (v u : Voice) (st n : ℕ) : Type 0 where
  pub stage : Stage
  pub at : ℕ
  pub mark : Bool
  pub is : u ≡ with_moved v stage at mark
  pub past : past stage ≡ true
  pub kept : released v.stage ≡ true → released stage ≡ true
  pub place : (v.mode ≡ 3 → released stage ≡ released v.stage) → at ≡ place_after st v n

-- as it was
pub still : (v : Voice) (st : ℕ) → past v.stage ≡ true → On v v st 0
still v st h = record { stage = v.stage; at = v.place; mark = v.marked; is = refl; past = h; kept = λ e. e; place = λ h. refl }

-- marked, and released
marked-on : (v : Voice) (st : ℕ) → past v.stage ≡ true → On v (mark v) st 0
marked-on v st h = record { stage = v.stage; at = v.place; mark = true; is = refl; past = h; kept = λ e. e; place = λ h. refl }

let-past : (v : Voice) (s : Stage) → past (let_go v s) ≡ true
let-past v (Delay left) = refl
let-past v (Attack t) = refl
let-past v (Hold t) = refl
let-past v (Decay t) = refl
let-past v Sustain = refl
let-past v (Release a t) = refl

released-on : (v : Voice) (st : ℕ) → On v (release v) st 0
unfolding release
released-on v st =
    record { stage = let_go v v.stage; at = v.place; mark = false; is = refl; past = let-past v v.stage; kept = λ e. let-go v v.stage; place = λ h. refl }

-- ---- runs add up

-- folding looks at the stage of a voice of mode 3 alone
same-folds : (v : Voice) (s : Stage) (p : ℕ) (m : Bool) → (v.mode ≡ 3 → released s ≡ released v.stage)
    → folds (with_moved v s p m) s ≡ folds v v.stage
unfolding folds
same-folds v s p m h = by (eqb v.mode 3) refl
  where
    by : (b : Bool) → eqb v.mode 3 ≡ b
        → (ltb v.loopfrom v.loopto && (eqb v.mode 1 || eqb v.mode 3 && not (released s)))
        ≡ (ltb v.loopfrom v.loopto && (eqb v.mode 1 || eqb v.mode 3 && not (released v.stage)))
    by true e = rw (h (eqb-true v.mode 3 e))
    by false e = rw e

same-settled : (v : Voice) (s : Stage) (p q : ℕ) (m : Bool) → (v.mode ≡ 3 → released s ≡ released v.stage)
    → settled (with_moved v s p m) s q ≡ settled v v.stage q
unfolding settled
same-settled v s p q m h = ap (λ (b : Bool). cond b (folded v q) q) (same-folds v s p m h)

-- released never goes away, so what is the same at both ends is the same between
between : (a b c : Bool) → (a ≡ true → b ≡ true) → (b ≡ true → c ≡ true) → c ≡ a → b ≡ a
between true b c f g e = f refl
between false true c f g e = absurd (subst (λ (x : Bool). T x) (sym (g refl) ∙ e) tt)
between false false c f g e = refl

join : (v : Voice) (s : Stage) (p : ℕ) (m : Bool) (t : Voice) (st a b : ℕ)
    → (released v.stage ≡ true → released s ≡ true)
    → ((v.mode ≡ 3 → released s ≡ released v.stage) → p ≡ place_after st v a)
    → On (with_moved v s p m) t st b → On v t st (a + b)
join v s p m t st a b k q o =
    record { stage = o.stage; at = o.at; mark = o.mark; is = o.is; past = o.past; kept = λ e. o.kept (k e); place = λ h. ends b o.place h }
  where
    ends : (b : ℕ) → ((v.mode ≡ 3 → released o.stage ≡ released s) → o.at ≡ place_after st (with_moved v s p m) b)
        → (v.mode ≡ 3 → released o.stage ≡ released v.stage) → o.at ≡ place_after st v (a + b)
    ends zero f h =
        let j : v.mode ≡ 3 → released s ≡ released v.stage = λ e. between (released v.stage) (released s) (released o.stage) k o.kept (h e) in
        f (λ e. h e ∙ sym (j e)) ∙ q j ∙ ap (place_after st v) (sym (add-zero a))
    ends (suc b) f h =
        let j : v.mode ≡ 3 → released s ≡ released v.stage = λ e. between (released v.stage) (released s) (released o.stage) k o.kept (h e) in
        f (λ e. h e ∙ sym (j e)) ∙ same-settled v s p (p + suc b * st) m j
        ∙ ap (λ (x : ℕ). settled v v.stage (x + suc b * st)) (q j) ∙ place-add st v a b

-- a frames, and then b
pub on-on : {v u t : Voice} (st a b : ℕ) → On v u st a → On u t st b → On v t st (a + b)
on-on {v} {u} {t} st a b o r =
    join v o.stage o.at o.mark t st a b o.kept o.place (subst (λ (x : Voice). On x t st b) o.is r)

-- ---- slots

-- slot s of the state before, slot t of the state after: t sounds with the voice gone on
abbrev pub Onward : Slot → Slot → ℕ → ℕ → Type 0
Onward s t st n = On s.voice t.voice st n

-- a slot that sounds
slot-on : (s : Slot) → s.sounding ≡ true → s ≡ sounds s.voice
slot-on s a = ap with (a)
  where
    with : Bool → Slot
    with b = record { sounding = b; voice = s.voice }

-- n frames of a slot
run_on : (c : Channel) (w : List ℤ) (n : ℕ) (s : Slot) → s.sounding ≡ true → past s.voice.stage ≡ true
    → (after c w n s).sounding ≡ true → Onward s (after c w n s) (step c s.voice) n
run_on c w n s a h e =
    let v = s.voice in
    let st = step c v in
    let l = loss c v in
    let is : s ≡ sounds v = slot-on s a in
    let o : after c w n s ≡ after_at st l w n (sounds v) = once c w s n ∙ ap (after_at st l w n) is in
    let g = going st l w v n h (sym (ap (λ (x : Slot). x.sounding) o) ∙ e) in
    record {
      stage = g.stage;
      at = place_after st v n;
      mark = v.marked;
      is = ap (λ (x : Slot). x.voice) (o ∙ g.is);
      past = g.past;
      kept = λ r. g.same ∙ r;
      place = λ h. refl;
    }

-- ---- calls

-- the step at a pitch total of c cents
step_is : (i : ℕ) (c : ℤ) (e : Engine) → cents_in i e ≡ c → step (channel_at e (voice_in i e).channel) (voice_in i e) ≡ step_of (lifted c) (voice_in i e).rate
unfolding step
step_is i c e h = ap (λ (z : ℤ). step_of (lifted z) (voice_in i e).rate) h

-- n frames of the slots of e; none moves no place, whatever the step
after_on : (ram rom : List ℤ) (n : ℕ) (e : Engine) (i st : ℕ) → (slot_at e i).sounding ≡ true → past (voice_in i e).stage ≡ true
    → (0 < n → step (channel_at e (voice_in i e).channel) (voice_in i e) ≡ st)
    → (slot_after ram rom e n (slot_at e i)).sounding ≡ true → Onward (slot_at e i) (slot_after ram rom e n (slot_at e i)) st n
after_on ram rom zero e i st on h t k =
    let r = run_on (channel_at e (voice_in i e).channel) (window ram rom (voice_in i e)) zero (slot_at e i) on h k in
    record { stage = r.stage; at = r.at; mark = r.mark; is = r.is; past = r.past; kept = r.kept; place = r.place }
after_on ram rom (suc n) e i st on h t k =
    subst (λ (y : ℕ). Onward (slot_at e i) (slot_after ram rom e (suc n) (slot_at e i)) y (suc n)) (t (omega arith))
    (run_on (channel_at e (voice_in i e).channel) (window ram rom (voice_in i e)) (suc n) (slot_at e i) on h k)

-- the same of the state after them
part-on : (ram rom : List ℤ) (n : ℕ) (e : Engine) (i st : ℕ) → (slot_at e i).sounding ≡ true → past (voice_in i e).stage ≡ true
    → (0 < n → step (channel_at e (voice_in i e).channel) (voice_in i e) ≡ st)
    → (slot_at (played ram rom n e) i).sounding ≡ true → On (voice_in i e) (voice_in i (played ram rom n e)) st n
part-on ram rom n e i st on h t k =
    let q = slot-at ram rom n e i in
    subst (λ (s : Slot). Onward (slot_at e i) s st n) (sym q)
    (after_on ram rom n e i st on h t (sym (ap (λ (s : Slot). s.sounding) q) ∙ k))

-- each call
each : (x : Call) (i : ℕ) (c : ℤ) (e : Engine) (st : ℕ) → (slot_at e i).sounding ≡ true → past (voice_in i e).stage ≡ true
    → step_of (lifted c) (voice_in i e).rate ≡ st → Keeps i c x e → On (voice_in i e) (voice_in i (next x e)) st (frames_of x e)
each x i c e st on h q m = by (what x e i)
  where
    v : Voice
    v = voice_in i e

    -- no frame
    at : {t : Slot} (s : Slot) → t ≡ s → frames_of x e ≡ 0 → On v s.voice st 0 → On v t.voice st (frames_of x e)
    at s a n o = rw (a, n) o

    by : What x e i → On v (voice_in i (next x e)) st (frames_of x e)
    by (stands a n) = at (slot_at e i) a n (still v st h)
    by (pedalled a n l d) = at (with_voice (slot_at e i) (mark v)) a n (marked-on v st h)
    by (loosed a n o) = at (with_voice (slot_at e i) (release v)) a n (released-on v st)
    by (freed a n o) = at (free v) a n (still v st h)
    by (started u a n f t) = absurd (never (sym m.own ∙ t))
    by (goes ram rom a) =
        subst (λ (s : Slot). On v s.voice st (frames_of x e)) (sym a)
        (after_on ram rom (frames_of x e) e i st on h (λ g. step_is i c e (m.tuned g) ∙ q) (sym (ap (λ (s : Slot). s.sounding) a) ∙ m.lives))

-- ---- frames of a run

-- the pitch total stays within a render
cents-part : (ram rom : List ℤ) (n : ℕ) (e : Engine) (i : ℕ) → cents_in i (played ram rom n e) ≡ cents_in i e
unfolding played pitch_total
cents-part ram rom n e i =
    part-keeps (λ (v : Voice). pitch_total (channel_at e v.channel) v ≡ cents_in i e) (λ v g p m h. h) ram rom n e i refl

-- in front of frame k of the rest
cents-later : (i k : ℕ) (x : Call) (xs : List Call) (e : Engine) → cents_in i (in_front (frames_of x e + k) (x ∷ xs) e) ≡ cents_in i (in_front k xs (next x e))
cents-later i k x xs e = ap (λ (m : Moment). cents_in i (state_at m)) (moment-later k x xs e)

-- up to frame b the voice in slot i is neither ended nor taken (in front of frames from `first` on), and in each frame from a on
-- its pitch total is c
record Unbroken (i : ℕ) (c : ℤ) (first a b : ℕ) (xs : List Call) (e : Engine) : Type 0 where
  frames : b ≤ frames_run xs e
  lives : (slot_at (in_front b xs e) i).sounding ≡ true
  own : (k : ℕ) → first ≤ k → k ≤ b → started_at i k xs e ≡ false
  tuned : (k : ℕ) → a ≤ k → k < b → cents_in i (in_front k xs e) ≡ c

-- .. from the beginning of a run
abbrev Reaches : ℕ → ℤ → ℕ → List Call → Engine → Type 0
Reaches i c b xs e = Unbroken i c 0 0 b xs e

-- so is the rest of the run, where b lies behind its first call
unbroken-rest : (i : ℕ) (c : ℤ) (first a b : ℕ) (x : Call) (xs : List Call) (e : Engine) → frames_of x e ≤ b → Unbroken i c first a b (x ∷ xs) e
    → Unbroken i c (first - frames_of x e) (a - frames_of x e) (b - frames_of x e) xs (next x e)
unfolding frames_run
unbroken-rest i c first a b x xs e l r =
    let g = r.frames in
    record {
      frames = omega arith;
      lives = subst (λ (y : Engine). (slot_at y i).sounding ≡ true) (front-later b x xs e l) r.lives;
      own = λ k h j. started-later i k x xs e (r.own (frames_of x e + k) (omega arith) (omega arith));
      tuned = λ k h j. sym (cents-later i k x xs e) ∙ r.tuned (frames_of x e + k) (omega arith) (omega arith);
    }

-- and from the end of the first call on, where that lies behind `first` and a
unbroken-from : (i : ℕ) (c : ℤ) (first a b : ℕ) (x : Call) (xs : List Call) (e : Engine) → first ≤ frames_of x e → a ≤ frames_of x e → frames_of x e ≤ b
    → Unbroken i c first a b (x ∷ xs) e → Reaches i c (b - frames_of x e) xs (next x e)
unbroken-from i c first a b x xs e f g l r =
    let p : first - frames_of x e ≡ 0 = omega arith in
    let q : a - frames_of x e ≡ 0 = omega arith in
    subst (λ (n : ℕ). Unbroken i c n 0 (b - frames_of x e) xs (next x e)) p
    (subst (λ (n : ℕ). Unbroken i c (first - frames_of x e) n (b - frames_of x e) xs (next x e)) q (unbroken-rest i c first a b x xs e l r))

-- the first call keeps the voice
reaches-first : (i : ℕ) (c : ℤ) (b : ℕ) (x : Call) (xs : List Call) (e : Engine) → frames_of x e ≤ b → Reaches i c b (x ∷ xs) e → Keeps i c x e
reaches-first i c b x xs e l r =
    let f = unbroken-from i c 0 0 b x xs e (omega arith) (omega arith) l r in
    record {
      lives = front-sounded xs (next x e) i (b - frames_of x e) f.lives (λ k h. f.own k (omega arith) h);
      own = started-first i x xs e (r.own 0 (omega arith) (omega arith));
      tuned = λ h. sym (cents-part (ram_of x) (rom_of x) 0 e i) ∙ subst (λ (y : Engine). cents_in i y ≡ c) (front-here 0 x xs e h) (r.tuned 0 (omega arith) (omega arith));
    }

-- the voice has gone on by b frames
to-frame : (xs : List Call) (i : ℕ) (c : ℤ) (e : Engine) (b st : ℕ) → (slot_at e i).sounding ≡ true → past (voice_in i e).stage ≡ true
    → step_of (lifted c) (voice_in i e).rate ≡ st → Reaches i c b xs e → On (voice_in i e) (voice_in i (in_front b xs e)) st b
unfolding frames_run moment
to-frame [] i c e b st on h q r =
    let g = r.frames in
    let z : 0 ≡ b = omega arith in
    subst (λ (n : ℕ). On (voice_in i e) (voice_in i (played [] [] 0 e)) st n) z
    (part-on [] [] 0 e i st on h (λ (n : 0 < 0). absurd (no-frame n)) r.lives)
to-frame (x ∷ xs) i c e b st on h q r =
    by (λ (p : past (voice_in i (next x e)).stage ≡ true) (l : frames_of x e ≤ b) (s : step_of (lifted c) (voice_in i (next x e)).rate ≡ st).
    to-frame xs i c (next x e) (b - frames_of x e) st (reaches-first i c b x xs e l r).lives p s (unbroken-from i c 0 0 b x xs e (omega arith) (omega arith) l r))
    (ltb b (frames_of x e)) refl
  where
    Rest : Type 0
    Rest =
        past (voice_in i (next x e)).stage ≡ true → frames_of x e ≤ b → step_of (lifted c) (voice_in i (next x e)).rate ≡ st
        → On (voice_in i (next x e)) (voice_in i (in_front (b - frames_of x e) xs (next x e))) st (b - frames_of x e)

    by : Rest → (t : Bool) → ltb b (frames_of x e) ≡ t → On (voice_in i e) (voice_in i (in_front b (x ∷ xs) e)) st b
    by rest true t =
        let l = ltb-true b (frames_of x e) t in
        let f = front-here b x xs e l in
        let n : 0 < b → step (channel_at e (voice_in i e).channel) (voice_in i e) ≡ st =
        λ g. step_is i c e (sym (cents-part (ram_of x) (rom_of x) 0 e i) ∙ subst (λ (y : Engine). cents_in i y ≡ c) (front-here 0 x xs e (omega arith)) (r.tuned 0 (omega arith) g)) ∙ q in
        subst (λ (y : Engine). On (voice_in i e) (voice_in i y) st b) (sym f)
        (part-on (ram_of x) (rom_of x) b e i st on h n (subst (λ (y : Engine). (slot_at y i).sounding ≡ true) f r.lives))
    by rest false t =
        let l = ltb-false b (frames_of x e) t in
        let o = each x i c e st on h q (reaches-first i c b x xs e l r) in
        let p : past (voice_in i (next x e)).stage ≡ true = ap (λ (v : Voice). past v.stage) o.is ∙ o.past in
        let s : step_of (lifted c) (voice_in i (next x e)).rate ≡ st = ap (λ (v : Voice). step_of (lifted c) v.rate) o.is ∙ q in
        let n : frames_of x e + (b - frames_of x e) ≡ b = omega arith in
        subst (λ (y : Engine). On (voice_in i e) (voice_in i y) st b) (sym (front-later b x xs e l))
        (subst (On (voice_in i e) (voice_in i (in_front (b - frames_of x e) xs (next x e))) st) n
        (on-on st (frames_of x e) (b - frames_of x e) o (rest p l s)))

-- a pitch total is held to -9,600..4,800
cents-in : (i : ℕ) (e : Engine) → lifted (cents_in i e) ≤ 14400
unfolding pitch_total
cents-in i e = up_le 9600 4800 ((voice_in i e).pitch +ℤ bend_cents (channel_at e (voice_in i e).channel).bend)

-- the place of a voice that has gone on by one frame or more
place_of : (v u : Voice) (st n : ℕ) → On v u st n → 0 < n → (v.mode ≡ 3 → released u.stage ≡ released v.stage)
    → u.place ≡ cond (folds u u.stage) (folded v (v.place + n * st)) (v.place + n * st)
unfolding settled
place_of v u st zero o h k = absurd (no h)
  where
    no : 0 < 0 → ⊥
    no h = omega arith
place_of v u st (suc n) o h k =
    let j : v.mode ≡ 3 → released o.stage ≡ released v.stage = λ e. sym (ap (λ (x : Voice). released x.stage) o.is) ∙ k e in
    let f : folds u u.stage ≡ folds v v.stage = ap (λ (x : Voice). folds x x.stage) o.is ∙ same-folds v o.stage o.at o.mark j in
    ap (λ (x : Voice). x.place) o.is ∙ o.place j
    ∙ ap (λ (b : Bool). cond b (folded v (v.place + suc n * st)) (v.place + suc n * st)) (sym f)

-- a total that is held, above -28,800
exponent-of : (k : ℤ) → pos (lifted (held_to (negsuc 9599) (pos 4800) k) + 19200) ≡ pos 28800 +ℤ held_to (negsuc 9599) (pos 4800) k
exponent-of k = by (lt_z k (negsuc 9599)) refl (lt_z (pos 4800) k) refl
  where
    inside : (k : ℤ) → lt_z k (negsuc 9599) ≡ false → pos (lifted k + 19200) ≡ pos 28800 +ℤ k
    inside (pos a) l = ap pos (omega arith)
    inside (negsuc a) l =
        let g : a ≤ 9599 = ltb-false 9599 a l in
        ap (λ (z : ℤ). pos (nat_abs z + 19200)) (sub-pos 9600 (suc a) (omega arith)) ∙ ap pos (omega arith) ∙ sym (sub-pos 28800 (suc a) (omega arith))

    by : (p : Bool) → lt_z k (negsuc 9599) ≡ p → (q : Bool) → lt_z (pos 4800) k ≡ q
        → pos (lifted (cond p (negsuc 9599) (cond q (pos 4800) k)) + 19200) ≡ pos 28800 +ℤ cond p (negsuc 9599) (cond q (pos 4800) k)
    by true p q r = refl
    by false p true r = refl
    by false p false r = inside k p

-- a pitch total is held, so it stands above -28,800
exponent-in : (i : ℕ) (e : Engine) → pos (lifted (cents_in i e) + 19200) ≡ pos 28800 +ℤ cents_in i e
unfolding pitch_total
exponent-in i e = exponent-of ((voice_in i e).pitch +ℤ bend_cents (channel_at e (voice_in i e).channel).bend)

-- what is said of the place, from the voice gone on and a state in which c is its pitch total
moved_by : (i : ℕ) (c : ℤ) (n : ℕ) (a b y : Engine) → 0 < n → cents_in i y ≡ c → (400 ≤ (voice_in i a).rate) × ((voice_in i a).rate ≤ 50000)
    → On (voice_in i a) (voice_in i b) (step_of (lifted c) (voice_in i a).rate) n
    → ((voice_in i a).mode ≡ 3 → released (voice_in i b).stage ≡ released (voice_in i a).stage) → Moved i c n a b
moved_by i c n a b y h q rate o k =
    let st = step_of (lifted c) (voice_in i a).rate in
    let near = steps (lifted c) (voice_in i a).rate st n h
    (step_right (lifted c) (voice_in i a).rate (subst (λ (z : ℤ). lifted z ≤ 14400) q (cents-in i y)) (omega arith) (omega arith)) in
    record {
      place = place_of (voice_in i a) (voice_in i b) st n o h k;
      above = near.above;
      below = near.below;
      exponent = subst (λ (z : ℤ). pos (lifted z + 19200) ≡ pos 28800 +ℤ z) q (exponent-in i y);
    }

-- a run that keeps the voice call by call: it sounds at the end, none is started in its slot, and each frame is tuned
keeps-lives : (xs : List Call) (i : ℕ) (c : ℤ) (e : Engine) → (slot_at e i).sounding ≡ true → KeepsAll i c xs e → (slot_at (run xs e) i).sounding ≡ true
unfolding run
keeps-lives [] i c e on m = on
keeps-lives (x ∷ xs) i c e on m = keeps-lives xs i c (next x e) m.0.lives m.1

pub keeps-own : (xs : List Call) (i : ℕ) (c : ℤ) (e : Engine) → KeepsAll i c xs e → (k : ℕ) → started_at i k xs e ≡ false
unfolding started_at
keeps-own [] i c e m k = refl
keeps-own (x ∷ xs) i c e m k = by (keeps-own xs i c (next x e) m.1 (k - frames_of x e)) (ltb k (frames_of x e)) (eqb k 0)
  where
    by : started_at i (k - frames_of x e) xs (next x e) ≡ false → (s t : Bool)
        → cond s false (cond t (among i (starts_in x e)) false || started_at i (k - frames_of x e) xs (next x e)) ≡ false
    by r true t = refl
    by r false true = rw m.0.own r
    by r false false = r

pub keeps-tuned : (xs : List Call) (i : ℕ) (c : ℤ) (e : Engine) → KeepsAll i c xs e → (k : ℕ) → k < frames_run xs e → cents_in i (in_front k xs e) ≡ c
unfolding frames_run
keeps-tuned [] i c e m k h = absurd (no-frame h)
keeps-tuned (x ∷ xs) i c e m k h =
    by (λ (g : k - frames_of x e < frames_run xs (next x e)). keeps-tuned xs i c (next x e) m.1 (k - frames_of x e) g) (ltb k (frames_of x e)) refl
  where
    by : (k - frames_of x e < frames_run xs (next x e) → cents_in i (in_front (k - frames_of x e) xs (next x e)) ≡ c)
        → (b : Bool) → ltb k (frames_of x e) ≡ b → cents_in i (in_front k (x ∷ xs) e) ≡ c
    by r true q =
        let g = ltb-true k (frames_of x e) q in
        ap (cents_in i) (front-here k x xs e g) ∙ cents-part (ram_of x) (rom_of x) k e i ∙ m.0.tuned (omega arith)
    by r false q =
        let g = ltb-false k (frames_of x e) q in
        ap (cents_in i) (front-later k x xs e g) ∙ r (omega arith)

-- so it reaches the end of the run
keeps-reaches : (xs : List Call) (i : ℕ) (c : ℤ) (e : Engine) → (slot_at e i).sounding ≡ true → KeepsAll i c xs e → Reaches i c (frames_run xs e) xs e
keeps-reaches xs i c e on m =
    record {
      frames = omega arith;
      lives = ap (λ (s : Slot). s.sounding) (front-end xs e i) ∙ keeps-lives xs i c e on m;
      own = λ k h j. keeps-own xs i c e m k;
      tuned = λ k h j. keeps-tuned xs i c e m k j;
    }

-- the run as a whole
pub place-holds : PlaceHolds
place-holds i c xs e on h rate n m k =
    let r = keeps-reaches xs i c e on m in
    let o = to-frame xs i c e (frames_run xs e) (step_of (lifted c) (voice_in i e).rate) on h refl r in
    moved_by i c (frames_run xs e) e (run xs e) (in_front 0 xs e) n (r.tuned 0 (omega arith) n) rate
    (subst (λ (s : Slot). On (voice_in i e) s.voice (step_of (lifted c) (voice_in i e).rate) (frames_run xs e)) (front-end xs e i) o) k

-- ---- any two frames

-- between two frames of the first call
both-here : (i a b st : ℕ) (x : Call) (e : Engine) → a < b
    → (slot_at (played (ram_of x) (rom_of x) a e) i).sounding ≡ true → past (voice_in i (played (ram_of x) (rom_of x) a e)).stage ≡ true
    → step (channel_at (played (ram_of x) (rom_of x) a e) (voice_in i (played (ram_of x) (rom_of x) a e)).channel) (voice_in i (played (ram_of x) (rom_of x) a e)) ≡ st
    → (slot_at (played (ram_of x) (rom_of x) b e) i).sounding ≡ true
    → On (voice_in i (played (ram_of x) (rom_of x) a e)) (voice_in i (played (ram_of x) (rom_of x) b e)) st (b - a)
both-here i a b st x e l on h t k =
    let n : a + (b - a) ≡ b = omega arith in
    let q : played (ram_of x) (rom_of x) b e ≡ played (ram_of x) (rom_of x) (b - a) (played (ram_of x) (rom_of x) a e) =
    ap (λ (m : ℕ). played (ram_of x) (rom_of x) m e) (sym n) ∙ played-cut (ram_of x) (rom_of x) e a (b - a) in
    subst (λ (y : Engine). On (voice_in i (played (ram_of x) (rom_of x) a e)) (voice_in i y) st (b - a)) (sym q)
    (part-on (ram_of x) (rom_of x) (b - a) (played (ram_of x) (rom_of x) a e) i st on h (λ g. t) (subst (λ (y : Engine). (slot_at y i).sounding ≡ true) q k))

-- the voice has gone on by b - a frames
between-on : (xs : List Call) (e : Engine) (i a b : ℕ) (c : ℤ) (st : ℕ) → a < b
    → (slot_at (in_front a xs e) i).sounding ≡ true → past (voice_in i (in_front a xs e)).stage ≡ true
    → step_of (lifted c) (voice_in i (in_front a xs e)).rate ≡ st → Unbroken i c (suc a) a b xs e
    → On (voice_in i (in_front a xs e)) (voice_in i (in_front b xs e)) st (b - a)
unfolding frames_run
between-on [] e i a b c st l on h q s = let g = s.frames in absurd (no-frame {k = a} (omega arith))
between-on (x ∷ xs) e i a b c st l on h q s =
    by (λ (g : frames_of x e ≤ a).
    between-on xs (next x e) i (a - frames_of x e) (b - frames_of x e) c st (omega arith)
    (subst (λ (y : Engine). (slot_at y i).sounding ≡ true) (front-later a x xs e g) on)
    (subst (λ (y : Engine). past (voice_in i y).stage ≡ true) (front-later a x xs e g) h)
    (subst (λ (y : Engine). step_of (lifted c) (voice_in i y).rate ≡ st) (front-later a x xs e g) q) (later g))
    (ltb a (frames_of x e)) refl (ltb b (frames_of x e)) refl
  where
    f : ℕ
    f = frames_of x e

    later : f ≤ a → Unbroken i c (suc (a - f)) (a - f) (b - f) xs (next x e)
    later g =
        let n : suc a - f ≡ suc (a - f) = omega arith in
        subst (λ (m : ℕ). Unbroken i c m (a - f) (b - f) xs (next x e)) n (unbroken-rest i c (suc a) a b x xs e (omega arith) s)

    P : ℕ → Engine
    P k = played (ram_of x) (rom_of x) k e

    Goal : Type 0
    Goal = On (voice_in i (in_front a (x ∷ xs) e)) (voice_in i (in_front b (x ∷ xs) e)) st (b - a)

    -- a in the first call: from there to frame k of it
    inside : (k : ℕ) → a < k → a < f → (slot_at (P k) i).sounding ≡ true → On (voice_in i (P a)) (voice_in i (P k)) st (k - a)
    inside k g j o =
        let w = front-here a x xs e j in
        both-here i a k st x e g (subst (λ (y : Engine). (slot_at y i).sounding ≡ true) w on)
        (subst (λ (y : Engine). past (voice_in i y).stage ≡ true) w h)
        (subst (λ (y : Engine). step (channel_at y (voice_in i y).channel) (voice_in i y) ≡ st) w
        (step_is i c (in_front a (x ∷ xs) e) (s.tuned a (omega arith) l) ∙ q)) o

    by : (f ≤ a → On (voice_in i (in_front (a - f) xs (next x e))) (voice_in i (in_front (b - f) xs (next x e))) st (b - f - (a - f)))
        → (t : Bool) → ltb a f ≡ t → (u : Bool) → ltb b f ≡ u → Goal
    by rest false t u v =
        let g = ltb-false a f t in
        let z : b - f - (a - f) ≡ b - a = omega arith in
        subst (λ (y : Engine). On (voice_in i y) (voice_in i (in_front b (x ∷ xs) e)) st (b - a)) (sym (front-later a x xs e g))
        (subst (λ (y : Engine). On (voice_in i (in_front (a - f) xs (next x e))) (voice_in i y) st (b - a)) (sym (front-later b x xs e (omega arith)))
        (subst (On (voice_in i (in_front (a - f) xs (next x e))) (voice_in i (in_front (b - f) xs (next x e))) st) z (rest g)))
    by rest true t true v =
        let g = ltb-true a f t in
        let j = ltb-true b f v in
        subst (λ (y : Engine). On (voice_in i y) (voice_in i (in_front b (x ∷ xs) e)) st (b - a)) (sym (front-here a x xs e g))
        (subst (λ (y : Engine). On (voice_in i (P a)) (voice_in i y) st (b - a)) (sym (front-here b x xs e j))
        (inside b l g (subst (λ (y : Engine). (slot_at y i).sounding ≡ true) (front-here b x xs e j) s.lives)))
    by rest true t false v =
        let g = ltb-true a f t in
        let j = ltb-false b f v in
        let r = unbroken-from i c (suc a) a b x xs e g (omega arith) j s in
        let ends = (in-call x a e g).ends i in
        let live = front-sounded xs (next x e) i (b - f) r.lives (λ k h. r.own k (omega arith) h) in
        let o : On (voice_in i (P a)) (voice_in i (next x e)) st (f - a) =
        subst (λ (y : Slot). On (voice_in i (P a)) y.voice st (f - a)) (sym ends) (inside f g g (sym (ap (λ (y : Slot). y.sounding) ends) ∙ live)) in
        let p : past (voice_in i (next x e)).stage ≡ true = ap (λ (w : Voice). past w.stage) o.is ∙ o.past in
        let w : step_of (lifted c) (voice_in i (P a)).rate ≡ st = subst (λ (y : Engine). step_of (lifted c) (voice_in i y).rate ≡ st) (front-here a x xs e g) q in
        let k : step_of (lifted c) (voice_in i (next x e)).rate ≡ st = ap (λ (u : Voice). step_of (lifted c) u.rate) o.is ∙ w in
        let z : f - a + (b - f) ≡ b - a = omega arith in
        subst (λ (y : Engine). On (voice_in i y) (voice_in i (in_front b (x ∷ xs) e)) st (b - a)) (sym (front-here a x xs e g))
        (subst (λ (y : Engine). On (voice_in i (P a)) (voice_in i y) st (b - a)) (sym (front-later b x xs e j))
        (subst (On (voice_in i (P a)) (voice_in i (in_front (b - f) xs (next x e))) st) z
        (on-on st (f - a) (b - f) o (to-frame xs i c (next x e) (b - f) st live p k r))))

-- any two frames, with the bounds
pub place-between : PlaceBetween
place-between xs e i a b c l n on h rate s k =
    moved_by i c (b - a) (in_front a xs e) (in_front b xs e) (in_front a xs e) (omega arith) (s.tuned a (omega arith) l) rate
    (between-on xs e i a b c (step_of (lifted c) (voice_in i (in_front a xs e)).rate) l on h refl
    (record { frames = n; lives = s.lives; own = s.own; tuned = s.tuned })) k

-- it is one of the bounds of every voice that sounds
pub rates-hold : RatesHold
rates-hold before i on = (states-hold before i on).rate

-- the two together
pub place-always : PlaceHoldsAlways
place-always before i c xs on h n m k = place-holds i c xs (run before fresh) on h (rates-hold before i on) n m k

-- any two frames, from the fresh state
pub between-always : PlaceBetweenAlways
between-always xs i a b c l n on h s k =
    place-between xs fresh i a b c l n on h (frames-hold xs i a on).rate s k

-- ---- what is heard

-- one frame of a slot whose voice is past its delay and not at its envelope's end
frame-reads : (c : Channel) (w : List ℤ) (t : Slot) → t.sounding ≡ true → past t.voice.stage ≡ true → dead t.voice (stage_in t.voice) ≡ false
    → frame c w t ≡ read_and_moved (step c t.voice) (loss c t.voice) w t.voice (stage_in t.voice)
unfolding frame
frame-reads c w t on h d =
    let v = t.voice in
    frame_on (step c v) (loss c v) w t on ∙ living-plays (step c v) (loss c v) w v (stage_in v) d (enter-past v v.stage h).0

-- its frame is read at its place
pub read_at : ReadAtThePlace
unfolding played read_and_moved loud
read_at i m on h d =
    let s = slot_at m.called i in
    let c = channel_at m.called s.voice.channel in
    let w = window m.ram m.rom s.voice in
    let t = slot_at (state_at m) i in
    let q : t ≡ after c w m.into s = slot-at m.ram m.rom m.into m.called i in
    let a : channel_at (state_at m) t.voice.channel ≡ c =
    ap (λ (y : Slot). channel_at m.called y.voice.channel) q ∙ ap (channel_at m.called) (after-channel c w m.into s) in
    let b : window m.ram m.rom t.voice ≡ w = ap (λ (y : Slot). window m.ram m.rom y.voice) q ∙ after-window m.ram m.rom c w m.into s in
    let r = ap (frame c w) (sym q) ∙ ap₂ (λ (x : Channel) (y : List ℤ). frame x y t) (sym a) (sym b)
    ∙ frame-reads (channel_at (state_at m) t.voice.channel) (window m.ram m.rom t.voice) t on h d in
    record { left = ap (λ (f : Framed). f.left) r; right = ap (λ (f : Framed). f.right) r }
