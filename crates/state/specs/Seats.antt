-- 01, "Slots, keys and the clock": which slot a layer takes. `order` is the slots from the oldest start to the newest.
use Rattle.std.specs.Prelude.{ℕ, suc, ◌%◌, ◌+◌, cond, List, [], ◌∷◌, map, ◌++◌, eqb, ltb, get_or, take, set}
use Rattle.voice.specs.declared.Slot.{Slot}
use Rattle.state.specs.declared.Engine.{Engine}
use Rattle.arith.specs.Words.{bit}
use Rattle.voice.specs.Stages.{released}
use Rattle.state.specs.Slots.{slot_at, slots_of, with_slots, with_order}
use Rattle.voice.specs.declared.Voice.{Voice}
use Rattle.voice.specs.Changes.{sounds}

-- the lowest free slot; as many as there are slots where none is free
unfoldable pub lowest_free : List Slot → ℕ
lowest_free [] = 0
lowest_free (s ∷ ss) = cond s.sounding (suc (lowest_free ss)) 0

-- the order of age, each entry read as a slot (an entry is below 32 as it is: `order-slots`)
abbrev pub order_of : Engine → List ℕ
order_of e = map (λ (i : ℕ). i % 32) e.order

-- how soon a slot is taken, lower first: released voices, then by struck velocity; last those started by this note-on
unfoldable pub claim : Engine → ℕ → ℕ → ℕ
claim e mine i =
    cond (eqb (bit mine i) 1) 512
    (cond (released (slot_at e i).voice.stage) (slot_at e i).voice.velocity (256 + (slot_at e i).voice.velocity))

-- the first of a list at which f is least, b to begin with
unfoldable pub least_by : (ℕ → ℕ) → ℕ → List ℕ → ℕ
least_by f b [] = b
least_by f b (x ∷ xs) = least_by f (cond (ltb (f x) (f b)) x b) xs

-- the slot to take where none is free: by claim, then the older
unfoldable pub taken : Engine → ℕ → ℕ
taken e mine = least_by (claim e mine) (get_or (order_of e) 0 0) (order_of e)

-- the slot for the next layer; `mine` is the word of the slots that this note-on has started
unfoldable pub seat : Engine → ℕ → ℕ
seat e mine = cond (ltb (lowest_free (slots_of e)) 32) (lowest_free (slots_of e)) (taken e mine)

-- a list without the first i in it
unfoldable pub without : ℕ → List ℕ → List ℕ
without i [] = []
without i (x ∷ xs) = cond (eqb x i) xs (x ∷ without i xs)

-- slot i moved behind all others: it is the newest
unfoldable pub renewed : ℕ → List ℕ → List ℕ
renewed i xs = take 32 (without i xs ++ (i ∷ []))

-- a voice started in slot i
unfoldable pub start_in : ℕ → Voice → Engine → Engine
start_in i v e = with_order (with_slots e (set (slots_of e) i (sounds v))) (renewed i (order_of e))
