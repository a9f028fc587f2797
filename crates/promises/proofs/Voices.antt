-- What every call keeps of the voices: what no movement changes, and that no slot begins to sound but by a start.
use Prim.Native.Nat.{ℕ, zero, suc, ◌+◌}
use mathlib.Core.Bool.{Bool, true, false, ◌||◌}
use mathlib.Core.Path.{◌≡◌, sym, ap, ◌∙◌, subst, refl}
use mathlib.Core.List.{List, [], ◌∷◌, ◌++◌}
use lib.ListN.{get_or, replicate}
use lib.Dec.{eqb}
use lib.IntN.{ℤ}
use native.Mathlib.Nat.{add-zero}
use native.Mathlib.Omega.{arith}
use Rattle.voice.specs.declared.Stage.{Stage}
use Rattle.voice.specs.declared.Voice.{Voice}
use Rattle.voice.specs.Changes.{with_moved, sounds, free, blank}
use Rattle.state.specs.declared.Engine.{Engine}
use Rattle.state.specs.Slots.{slot_at, with_voice, paired}
use Rattle.promises.specs.Calls.{voice_in, Call, next, channel_of, frames_of, begun, starts_in, among, run, history, frames_run}
use Rattle.voice.specs.Release.{let_go, release}
use Rattle.voice.specs.Stages.{released}
use Rattle.voice.specs.declared.Channel.{Channel}
use Rattle.voice.specs.declared.Slot.{Slot}
use Rattle.voice.specs.Frames.{after}
use Rattle.state.specs.Channels.{channel_at}
use Rattle.events.specs.Keys.{mark}
use Rattle.engine.specs.Rendering.{window, slot_after}
use Rattle.promises.proofs.EachSlot.{Among, What, stands, pedalled, loosed, freed, started, goes, never, what, held-unreleased}
use Rattle.promises.proofs.Frames.{after-keeps, after-sounded, Late, late-after}
use Rattle.state.specs.Quiet.{fresh}
use Rattle.state.proofs.AnswersLaws.{or_no}

-- a property that stage, place and mark do not touch
abbrev pub Fixed : (Voice → Type 0) → Type 0
Fixed P = (v : Voice) (g : Stage) (p : ℕ) (m : Bool) → P v → P (with_moved v g p m)

-- it holds of every voice that sounds
abbrev pub Everyone : (Voice → Type 0) → Engine → Type 0
Everyone P e = (i : ℕ) → (slot_at e i).sounding ≡ true → P (voice_in i e)

-- a property that no mark of a voice that is not released, no release and no frame takes away
pub record Lasts (P : Voice → Type 0) : Type 0 where
  pub marks : (v : Voice) → released v.stage ≡ false → P v → P (mark v)
  pub lets : (v : Voice) → P v → P (release v)
  pub plays : (c : Channel) (w : List ℤ) (n : ℕ) (s : Slot) → P s.voice → P (after c w n s).voice

-- what they do not touch they do not take away
fixed-lasts : (P : Voice → Type 0) → Fixed P → Lasts P
unfolding release
fixed-lasts P k =
    record {
      marks = λ v r h. k v v.stage v.place true h;
      lets = λ v h. k v (let_go v v.stage) v.place false h;
      plays = λ c w n s h. after-keeps c w P (λ v g p. k v g p v.marked) n s h;
    }

module _ (P : Voice → Type 0) (k : Lasts P) (x : Call) (e : Engine) (i : ℕ) where
  -- one call, one slot: P of the voice before, and of a voice that the call starts there
  pub call-voice : ((slot_at e i).sounding ≡ true → P (voice_in i e)) → ((u : Voice) → Among u (begun x e) → among i (starts_in x e) ≡ true → P u)
      → (slot_at (next x e) i).sounding ≡ true → P (voice_in i (next x e))
  call-voice h new on = by (what x e i)
    where
      s : Slot
      s = slot_at e i

      at : (t : Slot) → slot_at (next x e) i ≡ t → (t.sounding ≡ true → P t.voice) → P (voice_in i (next x e))
      at t a j = subst (λ (y : Slot). P y.voice) (sym a) (j (sym (ap (λ (y : Slot). y.sounding) a) ∙ on))

      by : What x e i → P (voice_in i (next x e))
      by (stands a n) = at s a h
      by (pedalled a n l d) = at (with_voice s (mark s.voice)) a (λ o. k.marks s.voice (held-unreleased (channel_of x) s l) (h o))
      by (loosed a n c) = at (with_voice s (release s.voice)) a (λ o. k.lets s.voice (h o))
      by (freed a n c) = at (free s.voice) a (λ o. absurd (never o))
      by (started u a n f t) = at (sounds u) a (λ o. new u f t)
      by (goes ram rom a) =
          at (slot_after ram rom e (frames_of x e) s) a
          (λ o. k.plays (channel_at e s.voice.channel) (window ram rom s.voice) (frames_of x e) s
          (h (after-sounded (channel_at e s.voice.channel) (window ram rom s.voice) (frames_of x e) s o)))

-- a run
pub run-everyone : (P : Voice → Type 0) → Lasts P → ((x : Call) (e : Engine) (u : Voice) → Among u (begun x e) → P u)
    → (xs : List Call) (e : Engine) → Everyone P e → Everyone P (run xs e)
unfolding run
run-everyone P k new [] e h = h
run-everyone P k new (x ∷ xs) e h = run-everyone P k new xs (next x e) (λ i on. call-voice P k x e i (h i) (λ u f t. new x e u f) on)

-- no slot of the fresh state sounds
pub fresh-free : (i : ℕ) → (slot_at fresh i).sounding ≡ false
unfolding fresh paired
fresh-free i = silent (replicate 32 blank) i
  where
    silent : (vs : List Voice) (i : ℕ) → (get_or (paired 0 vs) i (free blank)).sounding ≡ false
    silent [] i = refl
    silent (v ∷ vs) zero = refl
    silent (v ∷ vs) (suc i) = silent vs i

-- a run from the fresh state: what every started voice has and keeps, every voice that sounds has
pub lasts-from-fresh : (P : Voice → Type 0) → Lasts P → ((x : Call) (e : Engine) (u : Voice) → Among u (begun x e) → P u) → (xs : List Call) → Everyone P (run xs fresh)
lasts-from-fresh P k new xs = run-everyone P k new xs fresh (λ i on. absurd (never (sym (fresh-free i) ∙ on)))

-- the same of what no movement touches
pub from-fresh : (P : Voice → Type 0) → Fixed P → ((x : Call) (e : Engine) (u : Voice) → Among u (begun x e) → P u) → (xs : List Call) → Everyone P (run xs fresh)
from-fresh P k = lasts-from-fresh P (fixed-lasts P k)

-- ---- a slot in which no voice is started

-- in neither part of a history
pub among-parts : (i : ℕ) (xs ys : List ℕ) → among i (xs ++ ys) ≡ false → (among i xs ≡ false) × (among i ys ≡ false)
unfolding among
among-parts i [] ys e = (refl, e)
among-parts i (x ∷ xs) ys e =
    let p = or_no (eqb x i) (among i (xs ++ ys)) e in
    let q = among-parts i xs ys p.1 in
    (ap (λ (b : Bool). b || among i xs) p.0 ∙ q.0, q.1)

-- it sounds after a call: it sounded before
pub call-sounded : (x : Call) (e : Engine) (i : ℕ) → among i (starts_in x e) ≡ false → (slot_at (next x e) i).sounding ≡ true → (slot_at e i).sounding ≡ true
call-sounded x e i none on = by (what x e i)
  where
    s : Slot
    s = slot_at e i

    at : (t : Slot) → slot_at (next x e) i ≡ t → t.sounding ≡ true
    at t a = sym (ap (λ (y : Slot). y.sounding) a) ∙ on

    by : What x e i → s.sounding ≡ true
    by (stands a n) = at s a
    by (pedalled a n l d) = at (with_voice s (mark s.voice)) a
    by (loosed a n c) = at (with_voice s (release s.voice)) a
    by (freed a n c) = absurd (never (at (free s.voice) a))
    by (started u a n f t) = absurd (never (sym none ∙ t))
    by (goes ram rom a) =
        after-sounded (channel_at e s.voice.channel) (window ram rom s.voice) (frames_of x e) s (at (slot_after ram rom e (frames_of x e) s) a)

-- .. and before a run
pub run-sounded : (xs : List Call) (e : Engine) (i : ℕ) → among i (history xs e) ≡ false → (slot_at (run xs e) i).sounding ≡ true → (slot_at e i).sounding ≡ true
unfolding run history
run-sounded [] e i none on = on
run-sounded (x ∷ xs) e i none on =
    let p = among-parts i (starts_in x e) (history xs (next x e)) none in
    call-sounded x e i p.0 (run-sounded xs (next x e) i p.1 on)

-- its voice keeps what movement does not touch
pub run-voice : (P : Voice → Type 0) → Fixed P → (xs : List Call) (e : Engine) (i : ℕ) → among i (history xs e) ≡ false
    → (slot_at (run xs e) i).sounding ≡ true → P (voice_in i e) → P (voice_in i (run xs e))
unfolding run history
run-voice P k [] e i none on h = h
run-voice P k (x ∷ xs) e i none on h =
    let p = among-parts i (starts_in x e) (history xs (next x e)) none in
    run-voice P k xs (next x e) i p.1 on
    (call-voice P (fixed-lasts P k) x e i (λ o. h) (λ u f t. absurd (never (sym p.0 ∙ t))) (run-sounded xs (next x e) i p.1 on))

-- ---- a released voice

late-call : (x : Call) (e : Engine) (i f : ℕ) → among i (starts_in x e) ≡ false → (slot_at (next x e) i).sounding ≡ true
    → Late f (voice_in i e) → Late (f + frames_of x e) (voice_in i (next x e))
unfolding release
late-call x e i f none on k = by (what x e i)
  where
    s : Slot
    s = slot_at e i

    still : (t : Slot) → slot_at (next x e) i ≡ t → frames_of x e ≡ 0 → Late f t.voice → Late (f + frames_of x e) (voice_in i (next x e))
    still t a n l = subst (λ (y : Slot). Late (f + frames_of x e) y.voice) (sym a) (rw (n, add-zero) l)

    by : What x e i → Late (f + frames_of x e) (voice_in i (next x e))
    by (stands a n) = still s a n k
    by (pedalled a n l d) =
        still (with_voice s (mark s.voice)) a n (record { from = k.from; t = k.t; stage = k.stage; spent = k.spent; young = k.young })
    by (loosed a n c) =
        still (with_voice s (release s.voice)) a n
        (record { from = k.from; t = k.t; stage = ap (let_go s.voice) k.stage; spent = k.spent; young = k.young })
    by (freed a n c) = still (free s.voice) a n k
    by (started u a n g t) = absurd (never (sym none ∙ t))
    by (goes ram rom a) =
        subst (λ (y : Slot). Late (f + frames_of x e) y.voice) (sym a)
        (late-after (channel_at e s.voice.channel) (window ram rom s.voice) f (frames_of x e) s k (sym (ap (λ (y : Slot). y.sounding) a) ∙ on))

pub late-run : (xs : List Call) (e : Engine) (i f : ℕ) → among i (history xs e) ≡ false → (slot_at (run xs e) i).sounding ≡ true
    → Late f (voice_in i e) → Late (f + frames_run xs e) (voice_in i (run xs e))
unfolding run history frames_run
late-run [] e i f none on k = rw add-zero k
late-run (x ∷ xs) e i f none on k =
    let p = among-parts i (starts_in x e) (history xs (next x e)) none in
    let q : f + frames_of x e + frames_run xs (next x e) ≡ f + (frames_of x e + frames_run xs (next x e)) = omega arith in
    subst (λ (m : ℕ). Late m (voice_in i (run xs (next x e)))) q
    (late-run xs (next x e) i (f + frames_of x e) p.1 on (late-call x e i f p.0 (run-sounded xs (next x e) i p.1 on) k))
