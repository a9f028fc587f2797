-- Demand 2: the October night, and its end in silence.
use Prim.Native.Nat.{ℕ, ◌≤◌, ◌<◌, zero, suc, ◌+◌, ◌^◌}
use mathlib.Core.Path.{◌≡◌, refl, ap, ◌∙◌, sym, subst}
use mathlib.Core.Bool.{false, ◌&&◌, Bool, true, cond, not}
use lib.Dec.{eqb}
use mathlib.Core.List.{List, [], ◌∷◌}
use native.Mathlib.Omega.{arith}
use native.Mathlib.Nat.{le_refl, le_trans, le-max_left, le-max_right, max-le, add-le-add}
use borrow.Author.Tests.{eqb-true, not-true, eq-eqb}
use lib.ListN.{get_or, length}
use lib.IntN.{ℤ}
use mathlib.Core.Logic.{◌⊎◌, ⊎_elim, inl, inr}
use Rattle.voice.specs.declared.Voice.{Voice}
use Rattle.voice.specs.Changes.{free, blank, sounds}
use Rattle.state.specs.Slots.{of_channel, with_voice, slots_of, slot_at, word_of}
use Rattle.events.specs.Keys.{pedal_down, held, held_key, mark}
use Rattle.voice.specs.declared.Slot.{Slot}
use Rattle.voice.specs.Release.{release}
use Rattle.state.specs.declared.Engine.{Engine}
use Rattle.state.specs.Channels.{channel_at}
use Rattle.promises.proofs.EachSlot.{and_both, never, What, stands, pedalled, loosed, freed, started, goes, what, Among}
use Rattle.promises.proofs.Pedal.{marks-run, fresh-marks}
use Rattle.promises.specs.Night.{strikes, leaves, struck_after, NotHeld, KeyIsLeft, KeyIsReleased, Into, ends, left, right, Piece, Overlap, quiet, more, OctoberNight, FreeInTime, longest, SilentInTime, ReleasesEnd, NoStrike, NightEnds, NightEndsAlways}
use Rattle.voice.specs.declared.Channel.{Channel}
use Rattle.promises.specs.Calls.{Call, next, voice_in, frames_of, run, begun, among, history, frames_run, seats}
use Rattle.events.specs.Starting.{struck}
use Rattle.state.specs.Answers.{Answered}
use Rattle.engine.specs.Rendering.{window, slot_after}
use Rattle.voice.specs.Stages.{released}
use Rattle.voice.specs.Frames.{after}
use Rattle.promises.proofs.Frames.{after-keeps, after-sounded, late-none, late-after}
use Rattle.promises.proofs.Banks.{came}
use Rattle.state.specs.Quiet.{fresh}
use Rattle.promises.proofs.Voices.{fresh-free, from-fresh, run-sounded, run-voice, late-run}
use Rattle.promises.proofs.Kept.{Sized, sized-lasts, run-keeps}
use Rattle.promises.proofs.Seats.{sized-run}
use Rattle.state.proofs.SeatsLaws.{word_back}
use Rattle.promises.proofs.Demand2.{reaches, zero-off, gone, free-held}
use Rattle.promises.specs.Calls as Calls

-- ---- held voices, by their parts

-- what it is to be held by a key, test by test
pub record Holds (c k : ℕ) (s : Slot) : Type 0 where
  pub sounding : s.sounding ≡ true
  pub channel : s.voice.channel ≡ c
  pub unreleased : released s.voice.stage ≡ false
  pub unmarked : s.voice.marked ≡ false
  pub key : s.voice.key ≡ k

-- .. of the one test
pub holds : (c k : ℕ) (s : Slot) → held_key c k s ≡ true → Holds c k s
unfolding held_key held of_channel
holds c k s h =
    let a = and_both (s.sounding && eqb s.voice.channel c && not (released s.voice.stage) && not s.voice.marked) (eqb s.voice.key k) h in
    let b = and_both (s.sounding && eqb s.voice.channel c && not (released s.voice.stage)) (not s.voice.marked) a.0 in
    let d = and_both (s.sounding && eqb s.voice.channel c) (not (released s.voice.stage)) b.0 in
    let f = and_both s.sounding (eqb s.voice.channel c) d.0 in
    record {
      sounding = f.0;
      channel = eqb-true s.voice.channel c f.1;
      unreleased = not-true (released s.voice.stage) d.1;
      unmarked = not-true s.voice.marked b.1;
      key = eqb-true s.voice.key k a.1;
    }

-- .. and back
pub hold-back : (c k : ℕ) (s : Slot) → Holds c k s → held_key c k s ≡ true
unfolding held_key held of_channel
hold-back c k s h =
    rw (h.sounding, eq-eqb s.voice.channel c h.channel, h.unreleased, h.unmarked, eq-eqb s.voice.key k h.key) refl

-- a slot held after n frames was held before them
held-before : (ch : Channel) (w : List ℤ) (n c k : ℕ) (s : Slot) → held_key c k (after ch w n s) ≡ true → held_key c k s ≡ true
held-before ch w n c k s h =
    let t = holds c k (after ch w n s) h in
    hold-back c k s (record {
      sounding = after-sounded ch w n s t.sounding;
      channel = sym (after-keeps ch w (λ (v : Voice). v.channel ≡ s.voice.channel) (λ v g p q. q) n s refl) ∙ t.channel;
      unreleased = by (released s.voice.stage) refl t.sounding t.unreleased;
      unmarked = sym (after-keeps ch w (λ (v : Voice). v.marked ≡ s.voice.marked) (λ v g p q. q) n s refl) ∙ t.unmarked;
      key = sym (after-keeps ch w (λ (v : Voice). v.key ≡ s.voice.key) (λ v g p q. q) n s refl) ∙ t.key;
    })
  where
    by : (b : Bool) → released s.voice.stage ≡ b → (after ch w n s).sounding ≡ true → released (after ch w n s).voice.stage ≡ false → b ≡ false
    by false q on u = refl
    by true q on u = let l = late-after ch w 0 n s (late-none s.voice q) on in absurd (never (sym u ∙ ap released l.stage))

-- ---- one key

module _ (c k : ℕ) where
  -- a call that does not strike the key
  gone-call : (x : Call) (e : Engine) → strikes c k x ≡ false → NotHeld c k e → NotHeld c k (next x e)
  gone-call x e n h i = by (what x e i)
    where
      s : Slot
      s = slot_at e i

      at : (t : Slot) → slot_at (next x e) i ≡ t → held_key c k t ≡ false → held_key c k (slot_at (next x e) i) ≡ false
      at t a q = ap (held_key c k) a ∙ q

      new : (u : Voice) → Among u (begun x e) → (b : Bool) → held_key c k (sounds u) ≡ b → b ≡ false
      new u f false q = refl
      new u f true q =
          let p = holds c k (sounds u) q in
          absurd (never (sym n ∙ subst (λ (y : ℕ). strikes c y x ≡ true) p.key (subst (λ (y : ℕ). strikes y u.key x ≡ true) p.channel (came x e u f).struck)))

      on : (ram rom : List ℤ) (m : ℕ) (b : Bool) → held_key c k (slot_after ram rom e m s) ≡ b → b ≡ false
      on ram rom m false q = refl
      on ram rom m true q = absurd (never (sym (h i) ∙ held-before (channel_at e s.voice.channel) (window ram rom s.voice) m c k s q))

      by : What x e i → held_key c k (slot_at (next x e) i) ≡ false
      by (stands a z) = at s a (h i)
      by (pedalled a z l d) = at (with_voice s (mark s.voice)) a (gone c k s true)
      by (loosed a z o) = at (with_voice s (release s.voice)) a (gone c k s false)
      by (freed a z o) = at (free s.voice) a (free-held c k s.voice)
      by (started u a z f t) = at (sounds u) a (new u f (held_key c k (sounds u)) refl)
      by (goes ram rom a) = at (slot_after ram rom e (frames_of x e) s) a (on ram rom (frames_of x e) (held_key c k (slot_after ram rom e (frames_of x e) s)) refl)

  -- a call that leaves it
  left-call : c ≤ 15 → k ≤ 127 → (x : Call) (e : Engine) → leaves c k x ≡ true → NotHeld c k (next x e)
  left-call hc hk (Calls.NoteOn b ram rom ch key v) e l = by (eqb v 0) refl (eqb ch c) refl l
    where
      by : (z : Bool) → eqb v 0 ≡ z → (y : Bool) → eqb ch c ≡ y → cond z (cond y (eqb key k) false) false ≡ true → NotHeld c k (next (Calls.NoteOn b ram rom ch key v) e)
      by false p y q r i = absurd (never r)
      by true p false q r i = absurd (never r)
      by true p true q r i =
          ap (λ (y : ℕ). held_key c k (slot_at (next (Calls.NoteOn b ram rom y key v) e) i)) (eqb-true ch c q)
          ∙ ap (λ (y : ℕ). held_key c k (slot_at (next (Calls.NoteOn b ram rom c y v) e) i)) (eqb-true key k r)
          ∙ ap (λ (y : ℕ). held_key c k (slot_at (next (Calls.NoteOn b ram rom c k y) e) i)) (eqb-true v 0 p)
          ∙ ap (λ (a : Answered). held_key c k (slot_at a.engine i)) (zero-off b ram rom c k e hc hk) ∙ (reaches c k e hc hk).none i
  left-call hc hk (Calls.NoteOff ch key) e l = by (eqb ch c) refl l
    where
      by : (y : Bool) → eqb ch c ≡ y → cond y (eqb key k) false ≡ true → NotHeld c k (next (Calls.NoteOff ch key) e)
      by false q r i = absurd (never r)
      by true q r i =
          ap (λ (y : ℕ). held_key c k (slot_at (next (Calls.NoteOff y key) e) i)) (eqb-true ch c q)
          ∙ ap (λ (y : ℕ). held_key c k (slot_at (next (Calls.NoteOff c y) e) i)) (eqb-true key k r) ∙ (reaches c k e hc hk).none i
  left-call hc hk (Calls.Control ch n v) e l = absurd (never l)
  left-call hc hk (Calls.Program ch p) e l = absurd (never l)
  left-call hc hk (Calls.Bend ch b) e l = absurd (never l)
  left-call hc hk (Calls.Render to ram rom out) e l = absurd (never l)
  left-call hc hk (Calls.Ask i) e l = absurd (never l)

  -- a run behind whose last strike the key is left
  gone-run : c ≤ 15 → k ≤ 127 → (xs : List Call) (e : Engine) (b : Bool) → (b ≡ false → NotHeld c k e) → struck_after c k b xs ≡ false → NotHeld c k (run xs e)
  unfolding run struck_after
  gone-run hc hk [] e b h q = h q
  gone-run hc hk (x ∷ xs) e b h q =
      gone-run hc hk xs (next x e) (cond (strikes c k x) true (cond (leaves c k x) false b)) (λ z. by (strikes c k x) refl (leaves c k x) refl z) q
    where
      by : (s : Bool) → strikes c k x ≡ s → (l : Bool) → leaves c k x ≡ l → cond s true (cond l false b) ≡ false → NotHeld c k (next x e)
      by true p l r z = absurd (never (sym z))
      by false p true r z = left-call hc hk x e r
      by false p false r z = gone-call x e p (h z)

-- from any state on
pub key_left : KeyIsLeft
key_left c k b xs e hc hk h q = gone-run c k hc hk xs e b h q

-- a voice that is neither held nor marked is released
let-off : (c k : ℕ) (s : Slot) → s.sounding ≡ true → s.voice.channel ≡ c → s.voice.key ≡ k → held_key c k s ≡ false → (s.voice.marked ≡ true → ⊥)
    → released s.voice.stage ≡ true
let-off c k s on p q h n = by (released s.voice.stage) refl s.voice.marked refl
  where
    by : (r : Bool) → released s.voice.stage ≡ r → (m : Bool) → s.voice.marked ≡ m → r ≡ true
    by true u m v = refl
    by false u true v = absurd (n v)
    by false u false v = absurd (never (sym h ∙ hold-back c k s (record { sounding = on; channel = p; unreleased = u; unmarked = v; key = q })))

-- not held, and not marked either
pub key-released : KeyIsReleased
key-released c k b xs e hc hk h q marks up i on p r =
    let y = run xs e in
    let down = marks-run xs e marks i on in
    let n : (voice_in i y).marked ≡ true → ⊥ = λ m. never (sym up ∙ subst (λ (d : ℕ). pedal_down y d ≡ true) p (down m)) in
    let-off c k (slot_at y i) on p r (gone-run c k hc hk xs e b h q i) n

-- ---- the October night

-- two pieces run into each other are a piece: what is struck is struck by one of them
mixed : (c k : ℕ) {xs ys zs : List Call} → Into xs ys zs → (a b d : Bool) → (d ≡ true → (a ≡ true) ⊎ (b ≡ true))
    → struck_after c k a xs ≡ false → struck_after c k b ys ≡ false → struck_after c k d zs ≡ false
unfolding struck_after
mixed c k ends a b d h p q = by d refl
  where
    by : (y : Bool) → d ≡ y → y ≡ false
    by false e = refl
    by true e = ⊎_elim (λ z. absurd (never (sym p ∙ z))) (λ z. absurd (never (sym q ∙ z))) (h e)
mixed c k (left {x} r) a b d h p q =
    mixed c k r (cond (strikes c k x) true (cond (leaves c k x) false a)) b (cond (strikes c k x) true (cond (leaves c k x) false d)) (by (strikes c k x) (leaves c k x)) p q
  where
    by : (s l : Bool) → cond s true (cond l false d) ≡ true → (cond s true (cond l false a) ≡ true) ⊎ (b ≡ true)
    by true l e = inl refl
    by false true e = absurd (never e)
    by false false e = h e
mixed c k (right {y} r) a b d h p q =
    mixed c k r a (cond (strikes c k y) true (cond (leaves c k y) false b)) (cond (strikes c k y) true (cond (leaves c k y) false d)) (by (strikes c k y) (leaves c k y)) p q
  where
    by : (s l : Bool) → cond s true (cond l false d) ≡ true → (a ≡ true) ⊎ (cond s true (cond l false b) ≡ true)
    by true l e = inr refl
    by false true e = absurd (never e)
    by false false e = h e

overlap-piece : {xs : List Call} → Overlap xs → Piece xs
unfolding struck_after
overlap-piece quiet c k = refl
overlap-piece (more p o m) c k = mixed c k m false false false (λ e. absurd (never e)) (p c k) (overlap-piece o c k)

-- no voice of the fresh state is held
fresh-left : (c k : ℕ) → NotHeld c k fresh
fresh-left c k j = by (held_key c k (slot_at fresh j)) refl
  where
    by : (b : Bool) → held_key c k (slot_at fresh j) ≡ b → b ≡ false
    by false q = refl
    by true q = absurd (never (sym (fresh-free j) ∙ (holds c k (slot_at fresh j) q).sounding))

-- key by key
pub october : OctoberNight
october night o up i on =
    let v = voice_in i (run night fresh) in
    let r = from-fresh (λ (u : Voice). (u.channel ≤ 15) × (u.key ≤ 127)) (λ u g p m h. h) (λ x y u f. let g = came x y u f in (g.small, g.key)) night i on in
    key-released v.channel v.key false night fresh r.0 r.1 (λ z. fresh-left v.channel v.key) (overlap-piece o v.channel v.key) fresh-marks (up v.channel) i on refl refl

-- ---- and its end

-- a voice that still sounds is released for as many frames as were rendered, and its release is shorter
pub free-in-time : FreeInTime
free-in-time i xs e h none n = by (slot_at (run xs e) i).sounding refl
  where
    over : (f t r o : ℕ) → o + 1 ≤ f → 0 + f ≤ t → (0 < 0 + f → t ≤ r) → r ≡ o → ⊥
    over f t r o a b c d = let g : t ≤ r = c (omega arith) in omega arith

    by : (b : Bool) → (slot_at (run xs e) i).sounding ≡ b → b ≡ false
    by false q = refl
    by true q =
        let k = late-run xs e i 0 none q (late-none (voice_in i e) h) in
        let r = run-voice (λ (v : Voice). v.release ≡ (voice_in i e).release) (λ v g p m j. j) xs e i none q refl in
        absurd (over (frames_run xs e) k.t (voice_in i (run xs e)).release (voice_in i e).release n k.spent k.young r)

nowhere : (i : ℕ) → among i [] ≡ false
unfolding among
nowhere i = refl

-- a slot that sounds has a release that is at most the longest
long : (ss : List Slot) (i : ℕ) → (get_or ss i (free blank)).sounding ≡ true → (get_or ss i (free blank)).voice.release ≤ longest ss
unfolding longest
long [] i on = absurd (never on)
long (s ∷ ss) zero on = rw on (le-max_left s.voice.release (longest ss))
long (s ∷ ss) (suc i) on = le_trans (long ss i on) (le-max_right (cond s.sounding s.voice.release 0) (longest ss))

-- and the longest is at most what all are
long-most : (n : ℕ) (ss : List Slot) → ((i : ℕ) → (get_or ss i (free blank)).sounding ≡ true → (get_or ss i (free blank)).voice.release ≤ n) → longest ss ≤ n
unfolding longest
long-most n [] h = omega arith
long-most n (s ∷ ss) h = max-le (by s.sounding refl) (long-most n ss (λ i. h (suc i)))
  where
    by : (b : Bool) → s.sounding ≡ b → cond b s.voice.release 0 ≤ n
    by true q = h 0 q
    by false q = omega arith

-- no slot sounds: the word is 0
quiet_word : (ss : List Slot) → ((i : ℕ) → (get_or ss i (free blank)).sounding ≡ false) → word_of ss ≡ 0
unfolding word_of
quiet_word [] h = refl
quiet_word (s ∷ ss) h = rw (h 0, quiet_word ss (λ i. h (suc i))) refl

-- slot by slot
pub silent-in-time : SilentInTime
silent-in-time before xs all none enough =
    let e = run before fresh in
    let y = run xs e in
    let z = run-keeps Sized sized-lasts xs e (sized-run before) in
    let w : y.sounding < 2 ^ length y.voices = subst (λ (n : ℕ). y.sounding < 2 ^ n) (sym z.voices) z.word in
    sym (word_back y.sounding y.voices w) ∙ quiet_word (slots_of y) (λ i. by i (slot_at y i).sounding refl)
  where
    by : (i : ℕ) (b : Bool) → (slot_at (run xs (run before fresh)) i).sounding ≡ b → (slot_at (run xs (run before fresh)) i).sounding ≡ false
    by i false q = q
    by i true q =
        let e = run before fresh in
        let never-starts : among i (history xs e) ≡ false = ap (among i) none ∙ nowhere i in
        let on = run-sounded xs e i never-starts q in
        free-in-time i xs e (all i on) never-starts (le_trans (add-le-add (long (slots_of e) i on) (le_refl 1)) enough)

-- every voice has been started by a call
pub releases-end : ReleasesEnd
releases-end xs =
    long-most 4480280 (slots_of (run xs fresh))
    (from-fresh (λ (v : Voice). v.release ≤ 4480280) (λ u g p m h. h) (λ x e u f. (came x e u f).made.release) xs)

-- a call that strikes no key starts no voice
no-strike : (xs : List Call) (e : Engine) → NoStrike xs → history xs e ≡ []
unfolding history seats
no-strike [] e h = refl
no-strike (x ∷ xs) e h = rw (empty (begun x e) (λ u f. never (sym (h.0 u.channel u.key) ∙ (came x e u f).struck))) (no-strike xs (next x e) h.1)
  where
    empty : (vs : List Voice) → ((u : Voice) → Among u vs → ⊥) → vs ≡ []
    empty [] n = refl
    empty (v ∷ vs) n = absurd (n v (inl refl))

-- after the night all are released
pub night-ends : NightEnds
night-ends night morning o up none enough =
    silent-in-time night morning (october night o up) (no-strike morning (run night fresh) none) enough

-- with the longest release that there is
pub night-ends-always : NightEndsAlways
night-ends-always night morning o up none enough =
    night-ends night morning o up none (le_trans (add-le-add (releases-end night) (le_refl 1)) enough)
