-- The slots of a state, and a state made of slots: each gives the other back.
use Prim.Native.Nat.{ℕ, ◌+◌, ◌*◌, ◌/◌, ◌%◌, zero, suc}
use mathlib.Core.Path.{◌≡◌, refl, ap, sym, ◌∙◌}
use mathlib.Core.Bool.{Bool, true, false, cond}
use native.Mathlib.Omega.{arith}
use borrow.Author.Tests.{eq-eqb, ne_eqb}
use lib.Dec.{eqb}
use mathlib.Core.List.{List, [], ◌∷◌, map}
use lib.ListN.{get_or, set}
use lib.Seq.{get_or-set_other}
use Rattle.voice.specs.declared.Slot.{Slot}
use Rattle.state.specs.Slots.{paired, word_of, records_of, slots_of, slot_at, with_slots}
use Rattle.voice.specs.Changes.{blank, free}
use Rattle.state.specs.declared.Engine.{Engine}

-- the lowest bit of a word, and the rest
low : (b : Bool) (w : ℕ) → (eqb ((cond b 1 0 + 2 * w) % 2) 1 ≡ b) × ((cond b 1 0 + 2 * w) / 2 ≡ w)
low true w = (eq-eqb ((1 + 2 * w) % 2) 1 (omega arith), omega arith)
low false w = (ne_eqb ((0 + 2 * w) % 2) 1 (λ h. omega arith), omega arith)

-- the slots of a word and of records that were made of slots
pub slots-back : (ss : List Slot) → paired (word_of ss) (records_of ss) ≡ ss
unfolding paired word_of
slots-back [] = refl
slots-back (s ∷ ss) =
    let h = low s.sounding (word_of ss) in
    rw (h.0, h.1) (ap (◌∷◌ s) (slots-back ss))

-- f over a list, at i, where f keeps what a read past the end gives
pub map_at : {A : Type 0} (f : A → A) (xs : List A) (i : ℕ) (d : A) → f d ≡ d → get_or (map f xs) i d ≡ f (get_or xs i d)
map_at f [] i d h = sym h
map_at f (x ∷ xs) zero d h = refl
map_at f (x ∷ xs) (suc i) d h = map_at f xs i d h

-- slot i of a state whose slots have gone through f
pub slot_map : (e x : Engine) (f : Slot → Slot) (i : ℕ) → f (free blank) ≡ free blank → slot_at (with_slots x (map f (slots_of e))) i ≡ f (slot_at e i)
slot_map e x f i h =
    ap (λ (ss : List Slot). get_or ss i (free blank)) (slots-back (map f (slots_of e))) ∙ map_at f (slots_of e) i (free blank) h

-- slot j of a state in which slot i was set
pub slot-other : (e x : Engine) (i j : ℕ) (s : Slot) → (j ≡ i → ⊥) → slot_at (with_slots x (set (slots_of e) i s)) j ≡ slot_at e j
slot-other e x i j s h =
    ap (λ (ss : List Slot). get_or ss j (free blank)) (slots-back (set (slots_of e) i s)) ∙ get_or-set_other (slots_of e) i j s (free blank) h
