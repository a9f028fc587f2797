-- Demand 2, controls: each is its definition past the tests.
use Prim.Native.Nat.{ℕ, zero, suc, ◌≤◌}
use mathlib.Core.Bool.{Bool, true, false, ◌&&◌}
use mathlib.Core.List.{List, [], ◌∷◌, map}
use mathlib.Core.Path.{◌≡◌, refl, sym, ap, ap₂, ◌∙◌}
use native.Mathlib.Omega.{arith}
use lib.Dec.{eqb, ltb}
use lib.ListN.{get_or}
use borrow.Author.Tests.{le-ltb, lt-ltb, ltb-true, ltb-false, eqb-true, eqb-false}
use Rattle.voice.specs.declared.Slot.{Slot}
use Rattle.voice.specs.declared.Voice.{Voice}
use Rattle.voice.specs.Changes.{free, blank}
use Rattle.state.specs.Answers.{Answered}
use Rattle.state.specs.declared.Engine.{Engine}
use Rattle.state.specs.Quiet.{fresh}
use Rattle.state.specs.Slots.{slot_at, slots_of, with_slots, of_channel, cut}
use Rattle.state.proofs.SlotsLaws.{slot_map, slots-back}
use Rattle.events.specs.Bends.{pitch_bend}
use Rattle.events.specs.Keys.{held, held_key, pedal_down, let_off, off, off_key, note_off}
use Rattle.events.proofs.KeysLaws.{off-keeps}
use Rattle.events.specs.Controls.{controlled, control_change, pedal, silence}
use Rattle.events.specs.Programs.{program_change}
use Rattle.promises.proofs.EachSlot.{and_both, let_off-picked, cut-picked, cut_left}
use Rattle.promises.proofs.Demand2.{off-done, gone}
use Rattle.promises.specs.Controls.{ControlsSetOne, BendSetsOne, OthersDoNothing, AllSoundOff, AllNotesOff, AllNotesOffAlways, keys_off}
use Rattle.state.specs.Answers.{done}
use Rattle.state.proofs.AnswersLaws.{or_no}
use Rattle.promises.specs.Calls.{run}
use Rattle.promises.proofs.Banks.{came}
use Rattle.engine.proofs.CutLaws.{map-two}
use Rattle.promises.proofs.Voices.{from-fresh}

-- within its ranges each is done
pub sets-one : ControlsSetOne
unfolding control_change controlled pedal program_change
sets-one channel value e h k =
    record {
      stored = simp (le-ltb 15 channel h, le-ltb 127 value k);
      volume = simp (le-ltb 15 channel h, le-ltb 127 value k);
      expression = simp (le-ltb 15 channel h, le-ltb 127 value k);
      down = λ d. simp (le-ltb 15 channel h, le-ltb 127 value k, le-ltb value 64 d);
      program = simp (le-ltb 15 channel h, le-ltb 127 value k);
    }

-- a bend has a range of its own
pub bend-sets : BendSetsOne
unfolding pitch_bend
bend-sets channel bend e h k = simp (le-ltb 15 channel h, le-ltb 16383 bend k)

-- no test of a control's number holds
pub nothing-done : OthersDoNothing
unfolding control_change controlled
nothing-done channel control value e h j k none =
    let a = or_no (eqb control 0) _ none in
    let b = or_no (eqb control 7) _ a.1 in
    let c = or_no (eqb control 11) _ b.1 in
    let d = or_no (eqb control 64) _ c.1 in
    let f = or_no (eqb control 120) _ d.1 in
    let g = or_no (eqb control 123) _ f.1 in
    simp (le-ltb 15 channel h, le-ltb 127 control j, le-ltb 127 value k, a.0, b.0, c.0, d.0, f.0, g.0)

-- past the tests it is `silence`
silence-is : (channel value : ℕ) (e : Engine) → channel ≤ 15 → value ≤ 127 → control_change channel 120 value e ≡ record { status = 0; count = 0; engine = silence channel e }
unfolding control_change controlled
silence-is channel value e h k = simp (le-ltb 15 channel h, le-ltb 127 value k)

free_of : (channel : ℕ) → of_channel channel (free blank) ≡ false
unfolding of_channel
free_of channel = refl

-- slot by slot
pub sound-off : AllSoundOff
unfolding silence
sound-off channel value e h k =
    let d = silence-is channel value e h k in
    let at : (i : ℕ) → slot_at (control_change channel 120 value e).engine i ≡ cut (of_channel channel) (slot_at e i) =
    λ i. ap (λ (a : Answered). slot_at a.engine i) d ∙ slot_map e e (cut (of_channel channel)) i (cut_left (of_channel channel) (free blank) (free_of channel)) in
    record {
      done = d ∙ sym (ap (λ (a : Answered). record { status = 0; count = 0; engine = a.engine }) d);
      freed = λ i t. at i ∙ cut-picked (of_channel channel) (slot_at e i) t;
      others = λ i t. at i ∙ cut_left (of_channel channel) (slot_at e i) t;
      channels = ap (λ (a : Answered). a.engine.channels) d;
      order = ap (λ (a : Answered). a.engine.order) d;
      clock = ap (λ (a : Answered). a.engine.clock) d;
    }

-- a held voice of the channel whose key is below n
abbrev held_below : ℕ → ℕ → Slot → Bool
held_below channel n s = held channel s && ltb s.voice.key n

-- key n is let off behind those below it: together they are those below n + 1
one_more : (channel n : ℕ) (down : Bool) (s : Slot)
    → let_off down (held_key channel n) (let_off down (held_below channel n) s) ≡ let_off down (held_below channel (suc n)) s
unfolding held_key
one_more channel n down s = by (held channel s) refl (ltb s.voice.key n) refl (eqb s.voice.key n) refl
  where
    by : (h : Bool) → held channel s ≡ h → (l : Bool) → ltb s.voice.key n ≡ l → (q : Bool) → eqb s.voice.key n ≡ q
        → let_off down (held_key channel n) (let_off down (held_below channel n) s) ≡ let_off down (held_below channel (suc n)) s
    by false p l e q f =
        ap (let_off down (held_key channel n)) (off-keeps down (held_below channel n) s (simp p))
        ∙ off-keeps down (held_key channel n) s (simp p) ∙ sym (off-keeps down (held_below channel (suc n)) s (simp p))
    by true p true e q f =
        let more : ltb s.voice.key (suc n) ≡ true = lt-ltb s.voice.key (suc n) (omega (arith, ltb-true s.voice.key n e)) in
        let gets = let_off-picked down (held_below channel n) s (simp (p, e)) in
        ap (let_off down (held_key channel n)) gets
        ∙ off-keeps down (held_key channel n) _ (gone channel n s down) ∙ sym (let_off-picked down (held_below channel (suc n)) s (simp (p, more)))
    by true p false e true f =
        let more : ltb s.voice.key (suc n) ≡ true = lt-ltb s.voice.key (suc n) (omega (arith, eqb-true s.voice.key n f)) in
        ap (let_off down (held_key channel n)) (off-keeps down (held_below channel n) s (simp (p, e)))
        ∙ let_off-picked down (held_key channel n) s (simp (p, f)) ∙ sym (let_off-picked down (held_below channel (suc n)) s (simp (p, more)))
    by true p false e false f =
        let less : ltb s.voice.key (suc n) ≡ false = le-ltb _ _ (above s.voice.key n (ltb-false s.voice.key n e) (eqb-false s.voice.key n f)) in
        ap (let_off down (held_key channel n)) (off-keeps down (held_below channel n) s (simp (p, e)))
        ∙ off-keeps down (held_key channel n) s (simp (p, f)) ∙ sym (off-keeps down (held_below channel (suc n)) s (simp (p, less)))
      where
        above : (k n : ℕ) → n ≤ k → (k ≡ n → ⊥) → suc n ≤ k
        above k n a b = omega (arith, a, b)

-- f and g over a list, where they are the same at each place of it
each : (f g : Slot → Slot) (ss : List Slot) → ((i : ℕ) → f (get_or ss i (free blank)) ≡ g (get_or ss i (free blank))) → map f ss ≡ map g ss
each f g [] k = refl
each f g (s ∷ ss) k = ap₂ (λ (x : Slot) (xs : List Slot). x ∷ xs) (k zero) (each f g ss (λ i. k (suc i)))

-- the keys up to n let off one by one
keys-off : (channel n : ℕ) (e : Engine) → channel ≤ 15 → n ≤ 127
    → keys_off channel (suc n) e ≡ with_slots e (map (let_off (pedal_down e channel) (held_below channel (suc n))) (slots_of e))
unfolding keys_off off_key off held_key
keys-off channel zero e h k =
    ap (λ (a : Answered). a.engine) (off-done channel 0 e h k)
    ∙ ap (with_slots e) (each _ _ (slots_of e) (λ i. first (get_or (slots_of e) i (free blank))))
  where
    none : (s : Slot) → let_off (pedal_down e channel) (held_below channel 0) s ≡ s
    none s = off-keeps (pedal_down e channel) (held_below channel 0) s (no (held channel s) (ltb s.voice.key 0) (le-ltb s.voice.key 0 (omega arith)))
      where
        no : (b l : Bool) → l ≡ false → (b && l) ≡ false
        no true l e = e
        no false l e = refl

    first : (s : Slot) → let_off (pedal_down e channel) (held_key channel 0) s ≡ let_off (pedal_down e channel) (held_below channel 1) s
    first s = sym (ap (let_off (pedal_down e channel) (held_key channel 0)) (none s)) ∙ one_more channel 0 (pedal_down e channel) s
keys-off channel (suc n) e h k =
    let down = pedal_down e channel in
    let f = let_off down (held_below channel (suc n)) in
    let ss = map f (slots_of e) in
    ap (λ (x : Engine). (note_off channel (suc n) x).engine) (keys-off channel n e h (omega arith))
    ∙ ap (λ (a : Answered). a.engine) (off-done channel (suc n) (with_slots e ss) h k)
    ∙ ap (λ (xs : List Slot). with_slots e (map (let_off down (held_key channel (suc n))) xs)) (slots-back ss)
    ∙ ap (with_slots e) (sym (map-two f (let_off down (held_key channel (suc n))) (let_off down (held_below channel (suc (suc n)))) (λ s. sym (one_more channel (suc n) down s)) (slots_of e)))

-- past the tests it lets off every held voice
notes-is : (channel value : ℕ) (e : Engine) → channel ≤ 15 → value ≤ 127 → control_change channel 123 value e ≡ record { status = 0; count = 0; engine = off channel (held channel) e }
unfolding control_change controlled
notes-is channel value e h k = simp (le-ltb 15 channel h, le-ltb 127 value k)

-- a held voice sounds
held-sounds : (channel : ℕ) (s : Slot) → held channel s ≡ true → s.sounding ≡ true
unfolding held of_channel
held-sounds channel s t = (and_both _ _ (and_both _ _ (and_both _ _ t).0).0).0

-- all of them: every held voice
pub notes-off : AllNotesOff
unfolding off
notes-off channel value e h k low =
    notes-is channel value e h k
    ∙ ap (done 0) (ap (with_slots e) (each _ _ (slots_of e) same) ∙ sym (keys-off channel 127 e h (omega arith)))
  where
    same : (i : ℕ) → let_off (pedal_down e channel) (held channel) (slot_at e i) ≡ let_off (pedal_down e channel) (held_below channel 128) (slot_at e i)
    same i = by (held channel (slot_at e i)) refl
      where
        by : (b : Bool) → held channel (slot_at e i) ≡ b → let_off (pedal_down e channel) (held channel) (slot_at e i) ≡ let_off (pedal_down e channel) (held_below channel 128) (slot_at e i)
        by false p =
            off-keeps (pedal_down e channel) (held channel) (slot_at e i) p
            ∙ sym (off-keeps (pedal_down e channel) (held_below channel 128) (slot_at e i) (simp p))
        by true p =
            let_off-picked (pedal_down e channel) (held channel) (slot_at e i) p
            ∙ sym (let_off-picked (pedal_down e channel) (held_below channel 128) (slot_at e i) (simp (p, key (held-sounds channel (slot_at e i) p))))
          where
            key : (slot_at e i).sounding ≡ true → ltb (slot_at e i).voice.key 128 ≡ true
            key t = lt-ltb (slot_at e i).voice.key 128 (omega (arith, low i t))

-- the keys of all voices that calls start are in range
pub notes-off-always : AllNotesOffAlways
notes-off-always before channel value h k =
    notes-off channel value (run before fresh) h k
    (from-fresh (λ (u : Voice). u.key ≤ 127) (λ u g p m q. q) (λ x y u f. (came x y u f).key) before)
