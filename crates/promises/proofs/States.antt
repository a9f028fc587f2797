-- Reached states: a voice starts in its bounds, and neither a mark, nor a release, nor a frame takes it out of them.
use Prim.Native.Nat.{ℕ, zero, suc, ◌+◌, ◌*◌, ◌/◌, ◌<◌, ◌≤◌}
use mathlib.Core.Bool.{Bool, true, false, not, cond, ◌&&◌, ◌||◌, and-false}
use mathlib.Core.Path.{◌≡◌, refl, sym, ap, ◌∙◌, subst}
use mathlib.Core.List.{List, [], ◌∷◌}
use mathlib.Core.Logic.{◌⊎◌, inl, inr, ⊎_elim}
use native.Mathlib.Nat.{not-suc-le-zero, min-eq_left, div-le_of_le-mul, div-lt_iff_lt-mul}
use native.Mathlib.Omega.{arith}
use borrow.Author.Tests.{le-leb, lt-ltb, le-ltb, eqb-false}
use lib.Dec.{eqb, ltb, lit<}
use lib.Ieee.{Float}
use lib.IntN.{ℤ, pos, negsuc}
use lib.ListN.{length, get_or, take, drop, length-drop}
use lib.Seq.{get_or-take, get_or-drop, length-take-le}
use Rattle.arith.specs.Within.{Within}
use Rattle.arith.proofs.HoldsLaws.{clamp-in}
use Rattle.records.specs.Windows.{loops}
use Rattle.voice.specs.declared.Channel.{Channel}
use Rattle.voice.specs.declared.Slot.{Slot}
use Rattle.voice.specs.declared.Stage.{Stage}
use Rattle.voice.specs.declared.Stage.TheVariants.{Delay, Attack, Hold, Decay, Sustain, Release}
use Rattle.voice.specs.declared.Voice.{Voice}
use Rattle.voice.specs.Changes.{with_moved, sounds, free}
use Rattle.voice.specs.Frames.{silent, moved, go_on, read_and_moved, living, frame_at, frame, after}
use Rattle.voice.specs.Motion.{span, folds, folded, settled, ended}
use Rattle.voice.specs.Reading.{before, behind}
use Rattle.voice.specs.Release.{let_go, release}
use Rattle.voice.specs.Sound.{pan_of}
use Rattle.voice.specs.Stages.{level_at, entered, dead, waiting, released, spent}
use Rattle.voice.proofs.FramesLaws.{folds-loop}
use Rattle.voice.proofs.Advance.{Follows, from-decay, from-hold, from-attack, from-delay, spent-released}
use Rattle.voice.proofs.Inside.{Inside, Read, Reads, settled-in, never-outside}
use Rattle.voice.proofs.MotionLaws.{split}
use Rattle.state.specs.Quiet.{fresh}
use Rattle.state.specs.Channels.{channel_at, no_channel}
use Rattle.state.specs.Reach.{memory}
use Rattle.state.specs.Slots.{slot_at, of_channel}
use Rattle.state.specs.declared.Engine.{Engine}
use Rattle.events.specs.Keys.{pedal_held}
use Rattle.events.specs.Starting.{cleared}
use Rattle.engine.specs.Rendering.{window}
use Rattle.promises.specs.Calls.{Call, Render, does, run, voice_in, frames_run}
use Rattle.promises.specs.Age.{Ordered}
use Rattle.promises.specs.States.{NoSecondRelease, OrderUnguarded, NoOrderGuard, amid, InBounds, StatesHold, FramesHold, Unguarded, NoGuardActs, NoGuardInFrames, NoZeroChannel, Windowed, NoEmptyWindow, Sample, Behind, Before, ReadsOwn, OnlyItsSamples, first_of, second_of, third_of}
use Rattle.promises.proofs.Banks.{Came, came}
use Rattle.promises.proofs.Demand1.{render-numbers}
use Rattle.promises.proofs.Demand2.{let-go}
use Rattle.promises.proofs.AgeLaws.{order-slots, renewed-is}
use Rattle.promises.proofs.EachSlot.{never, and_both, held-unreleased}
use Rattle.promises.specs.Moments.{moment, in_front, stage_in}
use Rattle.promises.proofs.Moments.{slot-at, part-sounded, part-keeps, passed, done_at}
use Rattle.engine.proofs.CutLaws.{after-window}
use Rattle.promises.proofs.Kept.{layers}
use Rattle.promises.proofs.Seats.{ordered-lasts, ordered-run, sized-run}
use Rattle.promises.proofs.Voices.{Lasts, lasts-from-fresh}

-- ---- folding

-- what folds in a stage folds in one that is not released any sooner
folds-before : (v : Voice) (s g : Stage) → (released s ≡ true → released g ≡ true) → folds v g ≡ true → folds v s ≡ true
unfolding folds
folds-before v s g =
    by (ltb v.loopfrom v.loopto) (eqb v.mode 1) (eqb v.mode 3) (released s) (released g)
  where
    by : (a b c x y : Bool) → (x ≡ true → y ≡ true) → (a && (b || c && not y)) ≡ true → (a && (b || c && not x)) ≡ true
    by false b c x y h e = e
    by true true c x y h e = refl
    by true false false x y h e = e
    by true false true false y h e = refl
    by true false true true true h e = e
    by true false true true false h e = h refl

-- what folds is of mode 1 or 3
folds-mode : (v : Voice) (s : Stage) → folds v s ≡ true → loops v.mode ≡ true
unfolding folds loops
folds-mode v s = by (ltb v.loopfrom v.loopto) (eqb v.mode 1) (eqb v.mode 3) (not (released s))
  where
    by : (a b c x : Bool) → (a && (b || c && x)) ≡ true → (b || c) ≡ true
    by true true c x e = refl
    by true false true x e = refl
    by true false false x e = e
    by false b c x e = absurd (never e)

-- ---- stages

-- frame t of an attack that is not spent
abbrev Unspent : Voice → Stage → Type 0
Unspent v (Delay left) = Unit {0}
Unspent v (Attack t) = t < v.attack
Unspent v (Hold t) = Unit {0}
Unspent v (Decay t) = Unit {0}
Unspent v Sustain = Unit {0}
Unspent v (Release a t) = Unit {0}

-- and no release
abbrev Held : Voice → Stage → Type 0
Held v s = Unspent v s × (released s ≡ false)

held-follows : (v : Voice) → Follows v (Held v)
held-follows v = record { attack = λ t l. (l, refl); hold = λ t. (tt, refl); decay = λ t. (tt, refl); sustain = (tt, refl) }

-- once spent stages are left, an attack is not spent; and it is released as before
enters : (v : Voice) (s : Stage) → Unspent v (entered v s) × (released (entered v s) ≡ released s)
enters v (Delay left) = from-delay v (Held v) (held-follows v) left (λ q. (tt, refl))
enters v (Attack t) = from-attack v (Held v) (held-follows v) t
enters v (Hold t) = from-hold v (Held v) (held-follows v) t
enters v (Decay t) = from-decay v (Held v) (held-follows v) t
enters v Sustain = (tt, refl)
enters v (Release a t) = (tt, refl)

-- frame t of an attack of N frames: N is not 0, and t is at most N
abbrev Attacking : Voice → Stage → Type 0
Attacking v (Delay left) = Unit {0}
Attacking v (Attack t) = (0 < v.attack) × (t ≤ v.attack)
Attacking v (Hold t) = Unit {0}
Attacking v (Decay t) = Unit {0}
Attacking v Sustain = Unit {0}
Attacking v (Release a t) = Unit {0}

-- as the bounds say it
in-attack : (v : Voice) (s : Stage) → Attacking v s → (t : ℕ) → s ≡ Attack t → (0 < v.attack) × (t ≤ v.attack)
in-attack v s h t q = subst (Attacking v) q h

-- so it is once a frame of it is spent
spent-attacking : (v : Voice) (s : Stage) → Unspent v s → Attacking v (spent s)
spent-attacking v (Delay left) h = tt
spent-attacking v (Attack t) h = (omega arith, omega arith)
spent-attacking v (Hold t) h = tt
spent-attacking v (Decay t) h = tt
spent-attacking v Sustain h = tt
spent-attacking v (Release a t) h = tt

-- a release is no attack
let-attacking : (v : Voice) (s : Stage) → Attacking v (let_go v s)
let-attacking v (Delay left) = tt
let-attacking v (Attack t) = tt
let-attacking v (Hold t) = tt
let-attacking v (Decay t) = tt
let-attacking v Sustain = tt
let-attacking v (Release a t) = tt

-- ---- a voice starts in its bounds

-- mode 0, 1 or 3
three : (n : ℕ) → n < 4 → (n ≡ 2 → ⊥) → (n ≡ 0) ⊎ (n ≡ 1) ⊎ (n ≡ 3)
three zero h k = inl refl
three (suc zero) h k = inr (inl refl)
three (suc (suc zero)) h k = absurd (k refl)
three (suc (suc (suc n))) h k = inr (inr (omega arith))

-- each that a call starts
starts : (x : Call) (u : Voice) → Came x u → InBounds u
starts x u c =
    let g = c.good in
    let m = c.made in
    record {
      channel = c.small;
      mode = three u.mode g.mode-low g.mode-not;
      loop = g.loop-some;
      loop-in = g.loop-high;
      place = rw m.place (omega (arith, g.some));
      folded = λ e. rw m.place (omega (arith, folds-loop u u.stage e));
      pan = m.pan;
      attack = λ t q. absurd (never (sym (ap waiting q) ∙ m.waits));
      marked = λ e. absurd (never (sym g.unmarked ∙ e));
      rate = (g.rate-low, g.rate-high);
    }

-- ---- no call takes it out of them

-- with another stage and place
shifts : (v : Voice) (s : Stage) (p : ℕ) (m : Bool) → InBounds v → p < span v * 16777216
    → (folds v s ≡ true → p < v.loopto * 16777216) → ((t : ℕ) → s ≡ Attack t → (0 < v.attack) × (t ≤ v.attack))
    → (m ≡ true → released s ≡ false) → InBounds (with_moved v s p m)
unfolding folds
shifts v s p m h k f a r =
    record {
      channel = h.channel;
      mode = h.mode;
      loop = h.loop;
      loop-in = h.loop-in;
      place = k;
      folded = f;
      pan = h.pan;
      attack = a;
      marked = r;
      rate = h.rate;
    }

-- released, its place stands
lets : (v : Voice) → InBounds v → InBounds (release v)
unfolding release
lets v h =
    shifts v (let_go v v.stage) v.place false h (omega (arith, h.place))
    (λ e. h.folded (folds-before v v.stage (let_go v v.stage) (λ r. let-go v v.stage) e))
    (in-attack v (let_go v v.stage) (let-attacking v v.stage)) (λ e. absurd (never e))

-- a frame
plays : (st : ℕ) (l : ℤ) (w : List ℤ) (s : Slot) → InBounds s.voice → InBounds (frame_at st l w s).slot.voice
unfolding frame_at living read_and_moved go_on
plays st l w s h = by s.sounding (dead v g) (waiting g) (ended v g (v.place + st)) refl
  where
    v : Voice
    v = s.voice

    g : Stage
    g = entered s.voice s.voice.stage

    -- it is released as before
    same : released (spent g) ≡ released v.stage
    same = spent-released g ∙ (enters v v.stage).1

    at : (p : ℕ) → p < span v * 16777216 → (folds v (spent g) ≡ true → p < v.loopto * 16777216) → InBounds (moved v g p)
    at p k f =
        shifts v (spent g) p v.marked h k f (in-attack v (spent g) (spent-attacking v g (enters v v.stage).0))
        (λ e. same ∙ h.marked e)

    by : (a b c d : Bool) → ended v g (v.place + st) ≡ d
        → InBounds (cond a (cond b (silent (free v)) (cond c (silent (sounds (moved v g v.place))) (record { slot = cond d (free v) (sounds (moved v g (settled v g (v.place + st)))); left = (read_and_moved st l w v g).left; right = (read_and_moved st l w v g).right }))) (silent s)).slot.voice
    by true true c d e = h
    by true false true d e = at v.place (omega (arith, h.place)) (λ f. h.folded (folds-before v v.stage (spent g) (λ r. same ∙ r) f))
    by true false false true e = h
    by true false false false e =
        let z = settled-in v g (v.place + st) (λ f. h.loop-in (folds-mode v g f)) e in
        at (settled v g (v.place + st)) z.0 (λ f. z.1 (folds-before v g (spent g) (λ r. spent-released g ∙ r) f))
    by false b c d e = h

-- n frames
plays-on : (c : Channel) (w : List ℤ) (n : ℕ) (s : Slot) → InBounds s.voice → InBounds (after c w n s).voice
unfolding after frame
plays-on c w zero s h = h
plays-on c w (suc n) s h = plays _ _ w (after c w n s) (plays-on c w n s h)

-- so no call takes them away
lasts : Lasts InBounds
lasts =
    record {
      marks = λ v r h. shifts v v.stage v.place true h (omega (arith, h.place)) h.folded h.attack (λ e. r);
      lets = lets;
      plays = plays-on;
    }

-- after any run
pub states-hold : StatesHold
states-hold = lasts-from-fresh InBounds lasts (λ x e u f. starts x u (came x e u f))

-- in the state in which the render of a frame is called
called-holds : (xs : List Call) (i k : ℕ) → (slot_at (moment k xs fresh).called i).sounding ≡ true → InBounds (voice_in i (moment k xs fresh).called)
called-holds xs i k =
    let p = passed k xs fresh in
    subst (λ (y : Engine). (slot_at y i).sounding ≡ true → InBounds (voice_in i y)) (sym p.reaches) (states-hold p.calls i)

-- and in front of the frame
pub frames-hold : FramesHold
frames-hold xs i k on =
    let m = moment k xs fresh in
    let s = slot_at m.called i in
    let c = channel_at m.called s.voice.channel in
    let w = window m.ram m.rom s.voice in
    subst (λ (t : Slot). InBounds t.voice) (sym (slot-at m.ram m.rom m.into m.called i))
    (plays-on c w m.into s (called-holds xs i k (part-sounded m.ram m.rom m.into m.called i on)))

-- ---- no guard acts

-- frame t of an attack of N frames, t at most N: the level is at most full as it is
full : (n t : ℕ) → t ≤ n → level_at n t ≡ 16777216 * t / n
unfolding level_at
full n t h = min-eq_left (div-le_of_le-mul n {m = 16777216 * t} {n = 16777216} (omega arith))

-- a loop that has a length in modes 1 and 3 needs no test
untested : (v : Voice) (s : Stage) → InBounds v → folds v s ≡ (eqb v.mode 1 || eqb v.mode 3 && not (released s))
unfolding folds loops
untested v s h = by (eqb v.mode 1) (eqb v.mode 3) (λ e. lt-ltb v.loopfrom v.loopto (h.loop e))
  where
    by : (a b : Bool) → ((a || b) ≡ true → ltb v.loopfrom v.loopto ≡ true)
        → (ltb v.loopfrom v.loopto && (a || b && not (released s))) ≡ (a || b && not (released s))
    by true b l = rw (l refl) refl
    by false true l = rw (l refl) refl
    by false false l = and-false (ltb v.loopfrom v.loopto)

-- a pan within -500..500 is not held
unheld : (p : ℤ) → Within p 500 → pan_of p ≡ p
unheld (pos a) h = clamp-in (negsuc 499) (pos 500) (pos a) refl (le-ltb 500 a h.within)
unheld (negsuc a) h = clamp-in (negsuc 499) (pos 500) (negsuc a) (le-ltb 499 a (omega (arith, h.within))) refl

-- all of them
unguarded : (v : Voice) → InBounds v → Unguarded v
unguarded v h =
    record {
      level = λ t q. full v.attack t (h.attack t q).1;
      played = λ t q.
          let l : t < v.attack = subst (Unspent v) q (enters v v.stage).0 in
          (l, full v.attack t (omega arith));
      folding = λ s. untested v s h;
      pan = unheld v.pan h.pan;
    }

-- after any run
pub no-guard-acts : NoGuardActs
no-guard-acts xs i on = unguarded (voice_in i (run xs fresh)) (states-hold xs i on)

-- and in front of each frame
pub no-guard-in-frames : NoGuardInFrames
no-guard-in-frames xs i k on = unguarded (voice_in i (in_front k xs fresh)) (frames-hold xs i k on)

-- what stands past the end does not matter before it
any-default : {A : Type 0} (xs : List A) (i : ℕ) (d e : A) → i < length xs → get_or xs i d ≡ get_or xs i e
any-default [] i d e h = absurd (not-suc-le-zero h)
any-default (x ∷ xs) zero d e h = refl
any-default (x ∷ xs) (suc i) d e h = any-default xs i d e (omega arith)

-- there are 16 channels
pub no-zero-channel : NoZeroChannel
no-zero-channel xs channel other h = any-default (run xs fresh).channels channel no_channel other (omega (arith, (sized-run xs).channels))

-- what the pedal holds is marked
pub no-second-release : NoSecondRelease
unfolding pedal_held of_channel
no-second-release xs channel i (inl h) = held-unreleased channel (slot_at (run xs fresh) i) h
no-second-release xs channel i (inr h) =
    let s = slot_at (run xs fresh) i in
    let a = and_both (s.sounding && eqb s.voice.channel channel) s.voice.marked h in
    (states-hold xs i (and_both s.sounding (eqb s.voice.channel channel) a.0).0).marked a.1

-- an order is read and renewed as it is
plain-order : (e : Engine) → Ordered e.order → OrderUnguarded e
plain-order e h = record { entries = order-slots e.order h.slots; newest = λ i l. renewed-is i e.order l h }

-- it is one through any run, and through any layers
pub no-order-guard : NoOrderGuard
unfolding cleared
no-order-guard xs channel vs us =
    let e = run xs fresh in
    let o = ordered-run xs in
    (plain-order e o, plain-order (amid channel vs us e) (layers (λ (y : Engine). Ordered y.order) ordered-lasts us (record { engine = cleared channel vs e; mine = 0 }) o))

-- where the memory reaches, a voice in its bounds has its whole window
whole-window : (ram rom : List ℤ) (v : Voice) → InBounds v → v.end ≤ length (memory ram rom v) → Windowed ram rom v
unfolding window
whole-window ram rom v h l =
    let m = memory ram rom v in
    let some : 0 < span v = omega (arith, h.place) in
    let part : window ram rom v ≡ take (span v) (drop v.start m) = rw (le-leb v.start v.end (omega arith), le-leb v.end (length m) l) refl in
    record {
      part = part;
      whole = ap length part ∙ length-take-le (span v) (drop v.start m) (rw (length-drop v.start m) (omega arith));
      some = some;
    }

-- where a render is done, the memory of a voice that sounds reaches
memory-reaches : (to : ℕ) (ram rom : List ℤ) (out : List Float) (e : Engine) (i : ℕ) → (does (Render to ram rom out) e).status ≡ 0
    → (slot_at e i).sounding ≡ true → (voice_in i e).end ≤ length (memory ram rom (voice_in i e))
memory-reaches to ram rom out e i ok on =
    let v = voice_in i e in
    ⊎_elim (λ p. absurd (((render-numbers to ram rom out e).done.0 ok).2 (record { slot = i; sounds = on; past = p }))) (λ l. l)
    (split (length (memory ram rom v)) v.end)

-- so it does in front of each frame of the render
frame-reaches : (xs : List Call) (i k : ℕ) → k < frames_run xs fresh → (slot_at (in_front k xs fresh) i).sounding ≡ true
    → (voice_in i (in_front k xs fresh)).end ≤ length (memory (moment k xs fresh).ram (moment k xs fresh).rom (voice_in i (in_front k xs fresh)))
frame-reaches xs i k h on =
    let m = moment k xs fresh in
    let d = done_at k xs fresh h in
    part-keeps (λ (v : Voice). v.end ≤ length (memory m.ram m.rom v)) (λ v g p b l. l) m.ram m.rom m.into m.called i
    (memory-reaches d.to m.ram m.rom d.out m.called i d.done (part-sounded m.ram m.rom m.into m.called i on))

-- and no window is empty there
pub no-empty-window : NoEmptyWindow
no-empty-window xs i k h on =
    whole-window (moment k xs fresh).ram (moment k xs fresh).rom (voice_in i (in_front k xs fresh)) (frames-hold xs i k on) (frame-reaches xs i k h on)

-- ---- a voice reads its own samples

-- while it folds, the sample behind one of the loop is one of the loop
behind-lt : (from to i : ℕ) → from < to → i < to → behind true from to i < to
unfolding behind
behind-lt from to i h k = by (eqb (i + 1) to) refl
  where
    by : (b : Bool) → eqb (i + 1) to ≡ b → cond b from (i + 1) < to
    by true q = h
    by false q = ⊎_elim (λ l. l) (λ g. absurd (eqb-false (i + 1) to q (omega arith))) (split (i + 1) to)

module _ (ram rom : List ℤ) (v : Voice) (h : Windowed ram rom v) (l : v.end ≤ length (memory ram rom v)) where
  -- number j of the window, before its end
  is-sample : (j : ℕ) → j < length (window ram rom v) → Sample ram rom v j
  is-sample j k =
      let m = memory ram rom v in
      let less : j < span v = omega (arith, h.whole) in
      record {
        before = omega arith;
        lent = omega arith;
        is = ap (λ (w : List ℤ). get_or w j (pos 0)) h.part ∙ get_or-take (span v) (drop v.start m) j (pos 0) less ∙ get_or-drop v.start m j (pos 0);
      }

  -- while it folds, both numbers behind lie before the loop's end
  in-loop : InBounds v → folds v (stage_in v) ≡ true → (second_of v < v.loopto) × (third_of v < v.loopto)
  in-loop b q =
      let g = stage_in v in
      let l = folds-loop v g q in
      let p = b.folded (folds-before v v.stage g (λ r. (enters v v.stage).1 ∙ r) q) in
      let at : v.place / 16777216 < v.loopto = (div-lt_iff_lt-mul (lit< tt)).1 p in
      let second : second_of v < v.loopto = rw q (behind-lt v.loopfrom v.loopto (v.place / 16777216) l at) in
      let third : behind true v.loopfrom v.loopto (second_of v) < v.loopto = behind-lt v.loopfrom v.loopto (second_of v) l second in
      (second, subst (λ (f : Bool). behind f v.loopfrom v.loopto (second_of v) < v.loopto) (sym q) third)

  -- such a number is a sample, or one of the zeros behind where it does not fold
  is-behind : InBounds v → (n j : ℕ) → (folds v (stage_in v) ≡ true → j < v.loopto) → Read (window ram rom v) n j
      → Sample ram rom v j ⊎ ((folds v (stage_in v) ≡ false) × Behind ram rom v n j)
  is-behind b n j t (inl k) = inl (is-sample j k)
  is-behind b n j t (inr k) = by (folds v (stage_in v)) refl
    where
      by : (f : Bool) → folds v (stage_in v) ≡ f → Sample ram rom v j ⊎ ((folds v (stage_in v) ≡ false) × Behind ram rom v n j)
      by false q = inr (q, record { behind = omega (arith, k.0, h.whole, h.some); near = omega (arith, k.1, h.whole, h.some); zero = k.2 })
      by true q = absurd (over j v.loopto (span v) (t q) (b.loop-in (folds-mode v (stage_in v) q)) (omega (arith, k.0, h.whole)))
        where
          over : (j to n : ℕ) → j < to → to ≤ n → n ≤ j → ⊥
          over j to n x y z = omega arith

  -- what stands before a sample
  is-before : (j : ℕ) → j < length (window ram rom v) → Before ram rom v j
  unfolding before
  is-before zero k = refl
  is-before (suc j) k = (refl, is-sample j (omega arith))

  -- and so all four
  reads-own : InBounds v → Reads (window ram rom v) v (stage_in v) → ReadsOwn ram rom v
  reads-own b r =
      record {
        fore = is-before (first_of v) r.first;
        first = is-sample (first_of v) r.first;
        second = is-behind b 1 (second_of v) (λ q. (in-loop b q).0) r.second;
        third = is-behind b 2 (third_of v) (λ q. (in-loop b q).1) r.third;
      }

-- what a frame reads, by the window that its render found
frame-reads : (xs : List Call) (i k : ℕ) → k < frames_run xs fresh → (slot_at (in_front k xs fresh) i).sounding ≡ true
    → Reads (window (moment k xs fresh).ram (moment k xs fresh).rom (voice_in i (in_front k xs fresh))) (voice_in i (in_front k xs fresh))
    (stage_in (voice_in i (in_front k xs fresh)))
frame-reads xs i k h on =
    let m = moment k xs fresh in
    let d = done_at k xs fresh h in
    let s = slot_at m.called i in
    let v = s.voice in
    let c = channel_at m.called v.channel in
    let w = window m.ram m.rom v in
    let was = part-sounded m.ram m.rom m.into m.called i on in
    let b = called-holds xs i k was in
    let whole = whole-window m.ram m.rom v b (memory-reaches d.to m.ram m.rom d.out m.called i d.done was) in
    let inside : Inside w v = record { window = whole.whole; place = omega (arith, b.place); loop = λ g f. b.loop-in (folds-mode v g f) } in
    subst (λ (t : Slot). Reads (window m.ram m.rom t.voice) t.voice (stage_in t.voice)) (sym (slot-at m.ram m.rom m.into m.called i))
    (subst (λ (y : List ℤ). Reads y (after c w m.into s).voice (stage_in (after c w m.into s).voice)) (sym (after-window m.ram m.rom c w m.into s))
    (never-outside c w m.into s inside (stage_in (after c w m.into s).voice)))

-- its own samples
pub only-its-samples : OnlyItsSamples
only-its-samples xs i k h on =
    reads-own (moment k xs fresh).ram (moment k xs fresh).rom (voice_in i (in_front k xs fresh)) (no-empty-window xs i k h on) (frame-reaches xs i k h on)
    (frames-hold xs i k on) (frame-reads xs i k h on)
