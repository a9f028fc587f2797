-- Demand 2, the pedal: what lifting it does, and that no voice is marked while its pedal is up.
use Prim.Native.Nat.{ℕ, ◌≤◌, ◌<◌, zero, suc}
use mathlib.Core.Path.{◌≡◌, refl, ap, ◌∙◌, sym, subst}
use mathlib.Core.Bool.{false, ◌&&◌, and-false, Bool, true, cond, ◌||◌}
use lib.Dec.{eqb, leb, ltb}
use mathlib.Core.List.{map, List, [], ◌∷◌}
use native.Mathlib.Omega.{arith}
use borrow.Author.Tests.{le-ltb, lt-ltb, ltb-false, eqb-true, ltb-true, le-leb, eq-eqb}
use lib.ListN.{get_or, set, length}
use lib.Seq.{get_or-set_other}
use Rattle.voice.specs.declared.Voice.{Voice}
use Rattle.voice.specs.Changes.{free, blank, sounds}
use Rattle.state.specs.Slots.{of_channel, with_voice, slots_of, with_slots, slot_at, with_clock}
use Rattle.events.specs.Keys.{pedal_held, let_off, note_off, pedal_down, off, off_key, mark}
use Rattle.voice.specs.declared.Slot.{Slot}
use Rattle.voice.specs.Release.{release}
use Rattle.events.specs.Controls.{with_pedal, pedal, controlled, control_change, with_stored, with_volume, with_expression, silence}
use Rattle.state.specs.declared.Engine.{Engine}
use Rattle.state.specs.Channels.{channel_at, with_channel, no_channel}
use Rattle.state.proofs.SlotsLaws.{slot_map}
use Rattle.events.proofs.KeysLaws.{off-keeps}
use Rattle.promises.proofs.EachSlot.{let_off-picked, either, and_both, never, What, stands, pedalled, loosed, freed, started, goes, what, held-channel}
use Rattle.promises.specs.Pedal.{LiftingReleases, MarksUnderPedal, NoMarkWithoutPedal}
use Rattle.events.specs.Striking.{note_on, layer_voices, note_on_number, bank_from}
use Rattle.voice.specs.declared.Channel.{Channel}
use Rattle.state.specs.Answers.{past_two, done, refused, answer, past_one, past_bend}
use Rattle.state.proofs.AnswersLaws.{or_no}
use Rattle.promises.specs.Calls.{Call, next, voice_in, frames_of, channel_of, run}
use Rattle.events.specs.Starting.{Started, start, start_all, cleared, struck}
use Rattle.state.specs.Answers.{Answered}
use Rattle.events.specs.Programs.{with_program, program_change}
use Rattle.events.specs.Bends.{with_bend, pitch_bend}
use Rattle.state.specs.Seats.{start_in}
use Rattle.engine.specs.Rendering.{distance, played, render_number, render, window, slot_after}
use Rattle.promises.proofs.Frames.{after-keeps, after-sounded}
use Rattle.promises.proofs.Banks.{came}
use Rattle.state.specs.Quiet.{fresh}
use Rattle.promises.proofs.Voices.{fresh-free}
use Rattle.promises.specs.Calls as Calls

-- ---- lifting the pedal

-- a free slot is held by no pedal
free-pedal : (channel : ℕ) (v : Voice) → pedal_held channel (free v) ≡ false
unfolding pedal_held of_channel
free-pedal channel v = refl

-- what is released is marked no more
unmarked : (channel : ℕ) (s : Slot) → pedal_held channel (with_voice s (release s.voice)) ≡ false
unfolding pedal_held of_channel release
unmarked channel s = and-false (s.sounding && eqb s.voice.channel channel)

-- past the tests it is this
lift-is : (channel value : ℕ) (e : Engine) → channel ≤ 15 → value < 64 → control_change channel 64 value e
    ≡ done 0 (with_slots (with_channel e channel (with_pedal (channel_at e channel) value)) (map (let_off false (pedal_held channel)) (slots_of e)))
unfolding control_change controlled pedal
lift-is channel value e h k =
    let low : value ≤ 127 = omega arith in
    simp (le-ltb 15 channel h, le-ltb 127 value low, lt-ltb value 64 k)

-- slot by slot
pub lifts : LiftingReleases
lifts channel value e h k =
    record {
      done = d ∙ sym (ap (λ (a : Answered). done 0 a.engine) d);
      all = λ i t. at i ∙ let_off-picked false (pedal_held channel) (slot_at e i) t;
      none = λ i. ap (pedal_held channel) (at i) ∙ no (slot_at e i) (pedal_held channel (slot_at e i)) refl;
      others = λ i t. at i ∙ off-keeps false (pedal_held channel) (slot_at e i) t;
      channels = ap (λ (a : Answered). a.engine.channels) d;
      order = ap (λ (a : Answered). a.engine.order) d;
      clock = ap (λ (a : Answered). a.engine.clock) d;
    }
  where
    d : control_change channel 64 value e
        ≡ done 0 (with_slots (with_channel e channel (with_pedal (channel_at e channel) value)) (map (let_off false (pedal_held channel)) (slots_of e)))
    d = lift-is channel value e h k

    at : (i : ℕ) → slot_at (control_change channel 64 value e).engine i ≡ let_off false (pedal_held channel) (slot_at e i)
    at i =
        ap (λ (a : Answered). slot_at a.engine i) d
        ∙ slot_map e (with_channel e channel (with_pedal (channel_at e channel) value)) (let_off false (pedal_held channel)) i
        (off-keeps false (pedal_held channel) (free blank) (free-pedal channel blank))

    no : (s : Slot) (b : Bool) → pedal_held channel s ≡ b → pedal_held channel (let_off false (pedal_held channel) s) ≡ false
    no s true t = ap (pedal_held channel) (let_off-picked false (pedal_held channel) s t) ∙ unmarked channel s
    no s false t = ap (pedal_held channel) (off-keeps false (pedal_held channel) s t) ∙ t

-- ---- what calls do to a channel's pedal

-- a channel set to one with the same pedal
set-pedal : (cs : List Channel) (c d : ℕ) (x : Channel) → x.pedal ≡ (get_or cs c no_channel).pedal → (get_or (set cs c x) d no_channel).pedal ≡ (get_or cs d no_channel).pedal
set-pedal [] c d x h = refl
set-pedal (y ∷ cs) zero zero x h = h
set-pedal (y ∷ cs) zero (suc d) x h = refl
set-pedal (y ∷ cs) (suc c) zero x h = refl
set-pedal (y ∷ cs) (suc c) (suc d) x h = set-pedal cs c d x h

-- or to one whose pedal is down
set-down : (cs : List Channel) (c d : ℕ) (x : Channel) → leb 64 x.pedal ≡ true → leb 64 (get_or cs d no_channel).pedal ≡ true → leb 64 (get_or (set cs c x) d no_channel).pedal ≡ true
set-down [] c d x h k = k
set-down (y ∷ cs) zero zero x h k = h
set-down (y ∷ cs) zero (suc d) x h k = k
set-down (y ∷ cs) (suc c) zero x h k = k
set-down (y ∷ cs) (suc c) (suc d) x h k = set-down cs c d x h k

-- one of two, knowing the test
when : {A : Type 0} (P : A → Type 0) (b : Bool) (x y : A) → (b ≡ true → P x) → P y → P (cond b x y)
when P true x y h k = h refl
when P false x y h k = k

in-fifteen : (c n v : ℕ) → past_two c n v ≡ false → c ≤ 15
in-fifteen c n v q = ltb-false 15 c (or_no (ltb 15 c) (ltb 127 n) (or_no (ltb 15 c || ltb 127 n) (ltb 127 v) q).0).0

-- a call lifts the pedal of channel d
pub record Lift (x : Call) (d : ℕ) : Type 0 where
  pub value : ℕ
  pub is : x ≡ Calls.Control d 64 value
  pub range : d ≤ 15
  pub low : value < 64

module _ (d : ℕ) (e : Engine) (down : pedal_down e d ≡ true) where
  -- the pedal is still down
  abbrev Down : Engine → Type 0
  Down y = pedal_down y d ≡ true

  told : (n : ℕ) (a : Answered) → Down a.engine → Down (answer n e a).engine
  told n a k = either (λ (x : Answered). Down x.engine) (eqb n 0) a (refused n e) k down

  -- starting voices sets no channel
  layers : (vs : List Voice) (x : Started) → Down x.engine → Down (start_all vs x).engine
  unfolding start_all start start_in
  layers [] x h = h
  layers (v ∷ vs) x h = layers vs (start v x) h

  off-down : (c k : ℕ) → Down (off_key c k e).engine
  unfolding off_key off
  off-down c k = down

  same : (c : ℕ) (x : Channel) → x.pedal ≡ (channel_at e c).pedal → Down (with_channel e c x)
  same c x h = ap (leb 64) (set-pedal e.channels c d x h) ∙ down

  pedal-down : (c v : ℕ) → (c ≡ d → v < 64 → ⊥) → Down (pedal c v e)
  unfolding pedal
  pedal-down c v h = by (ltb v 64) refl
    where
      x : Channel
      x = with_pedal (channel_at e c) v

      by : (b : Bool) → ltb v 64 ≡ b → Down (cond b (with_slots (with_channel e c x) (map (let_off false (pedal_held c)) (slots_of e))) (with_channel e c x))
      by true q = ap (λ (y : Channel). leb 64 y.pedal) (get_or-set_other e.channels c d x no_channel (λ p. h (sym p) (ltb-true v 64 q))) ∙ down
      by false q = set-down e.channels c d x (le-leb 64 v (ltb-false v 64 q)) down

  controls-down : (c n v : ℕ) → (c ≡ d → n ≡ 64 → v < 64 → ⊥) → Down (controlled c n v e)
  unfolding controlled silence off
  controls-down c n v h =
      either Down (eqb n 0) _ _ (same c (with_stored (channel_at e c) v) refl)
      (either Down (eqb n 7) _ _ (same c (with_volume (channel_at e c) v) refl)
      (either Down (eqb n 11) _ _ (same c (with_expression (channel_at e c) v) refl)
      (when Down (eqb n 64) _ _ (λ q. pedal-down c v (λ p l. h p (eqb-true n 64 q) l))
      (either Down (eqb n 120) _ _ down
      (either Down (eqb n 123) _ _ down down)))))

  -- a pedal that is down stays down, unless the call lifts it
  stays-down : (x : Call) → (Lift x d → ⊥) → Down (next x e)
  unfolding note_on note_off control_change program_change pitch_bend render struck cleared played
  stays-down (Calls.NoteOn b ram rom c k v) h =
      let vs = layer_voices (bank_from b) c k v e in
      told (cond (past_two c k v) 2 0) _
      (either (λ (x : Answered). Down x.engine) (eqb v 0) _ _ (off-down c k)
      (told (note_on_number (bank_from b) ram rom c k v e) (done (length vs) (struck c vs e).engine) (layers vs (record { engine = cleared c vs e; mine = 0 }) down)))
  stays-down (Calls.NoteOff c k) h = told (cond (past_one c k) 2 0) (off_key c k e) (off-down c k)
  stays-down (Calls.Control c n v) h = by (past_two c n v) refl
    where
      by : (t : Bool) → past_two c n v ≡ t → Down (answer (cond t 2 0) e (done 0 (controlled c n v e))).engine
      by true q = down
      by false q =
          controls-down c n v (λ p m l. h (record { value = v; is = ap (λ (y : ℕ). Calls.Control y n v) p ∙ ap (λ (y : ℕ). Calls.Control d y v) m; range = subst (λ (y : ℕ). y ≤ 15) p (in-fifteen c n v q); low = l }))
  stays-down (Calls.Program c p) h =
      let x = with_program (channel_at e c) p in
      told (cond (past_one c p) 2 0) (done 0 (with_channel e c x)) (same c x refl)
  stays-down (Calls.Bend c b) h =
      let x = with_bend (channel_at e c) b in
      told (cond (past_bend c b) 2 0) (done 0 (with_channel e c x)) (same c x refl)
  stays-down (Calls.Render to ram rom out) h =
      told (render_number to ram rom (length out) e) (done 0 (with_clock (played ram rom (distance e to) e) to)) down
  stays-down (Calls.Ask i) h = down

-- ---- no voice is marked while its pedal is up

-- a slot's channel
pub of-channel : (c : ℕ) (s : Slot) → of_channel c s ≡ true → s.voice.channel ≡ c
unfolding of_channel
of-channel c s h = eqb-true s.voice.channel c (and_both s.sounding (eqb s.voice.channel c) h).1

-- the pedal was down for a voice that is marked after a call
was-down : (x : Call) (e : Engine) → MarksUnderPedal e → (i : ℕ) → (slot_at (next x e) i).sounding ≡ true → (voice_in i (next x e)).marked ≡ true
    → pedal_down e (voice_in i (next x e)).channel ≡ true
unfolding release
was-down x e h i on m = by (what x e i)
  where
    s : Slot
    s = slot_at e i

    at : (t : Slot) → slot_at (next x e) i ≡ t → (t.sounding ≡ true → t.voice.marked ≡ true → pedal_down e t.voice.channel ≡ true)
        → pedal_down e (voice_in i (next x e)).channel ≡ true
    at t a k =
        subst (λ (y : Slot). pedal_down e y.voice.channel ≡ true) (sym a)
        (k (sym (ap (λ (y : Slot). y.sounding) a) ∙ on) (sym (ap (λ (y : Slot). y.voice.marked) a) ∙ m))

    by : What x e i → pedal_down e (voice_in i (next x e)).channel ≡ true
    by (stands a n) = at s a (h i)
    by (pedalled a n l d) =
        at (with_voice s (mark s.voice)) a
        (λ o p. subst (λ (c : ℕ). pedal_down e c ≡ true) (sym (of-channel (channel_of x) s (held-channel (channel_of x) s l))) d)
    by (loosed a n c) = at (with_voice s (release s.voice)) a (λ o p. absurd (never p))
    by (freed a n c) = at (free s.voice) a (λ o p. absurd (never o))
    by (started u a n f t) = at (sounds u) a (λ o p. absurd (never (sym (came x e u f).good.unmarked ∙ p)))
    by (goes ram rom a) =
        let ch = channel_at e s.voice.channel in
        let w = window ram rom s.voice in
        let n = frames_of x e in
        at (slot_after ram rom e n s) a
        (λ o p. subst (λ (c : ℕ). pedal_down e c ≡ true) (sym (after-keeps ch w (λ (v : Voice). v.channel ≡ s.voice.channel) (λ v g q r. r) n s refl))
        (h i (after-sounded ch w n s o) (sym (after-keeps ch w (λ (v : Voice). v.marked ≡ s.voice.marked) (λ v g q r. r) n s refl) ∙ p)))

-- a marked voice is held by the pedal
marked-is : (c : ℕ) (s : Slot) → s.sounding ≡ true → s.voice.channel ≡ c → s.voice.marked ≡ true → pedal_held c s ≡ true
unfolding pedal_held of_channel
marked-is c s a b d = rw (a, eq-eqb s.voice.channel c b, d) refl

-- a call keeps it
marks-call : (x : Call) (e : Engine) → MarksUnderPedal e → MarksUnderPedal (next x e)
marks-call x e h i on m =
    let c = (voice_in i (next x e)).channel in
    stays-down c e (was-down x e h i on m) x
    (λ l. never (sym (ap (λ (y : Call). pedal_held c (slot_at (next y e) i)) l.is ∙ (lifts c l.value e l.range l.low).none i)
    ∙ marked-is c (slot_at (next x e) i) on refl m))

-- and so does a run
pub marks-run : (xs : List Call) (e : Engine) → MarksUnderPedal e → MarksUnderPedal (run xs e)
unfolding run
marks-run [] e h = h
marks-run (x ∷ xs) e h = marks-run xs (next x e) (marks-call x e h)

pub fresh-marks : MarksUnderPedal fresh
fresh-marks i on m = absurd (never (sym (fresh-free i) ∙ on))

-- it is so at first, and no call breaks it
pub no-mark : NoMarkWithoutPedal
no-mark xs = marks-run xs fresh fresh-marks
