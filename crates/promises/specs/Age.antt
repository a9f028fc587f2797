-- 01, "Slots, keys and the clock": age. What it means that `order` is the slots from the oldest start to the newest.
use Rattle.std.specs.Prelude.{ℕ, ◌<◌, List, [], ◌∷◌, ◌++◌, ◌≡◌, eqb, ltb, length, Bool, true, false, cond}
use Rattle.arith.specs.Lists.{count_if}
use Rattle.voice.specs.declared.Voice.{Voice}
use Rattle.state.specs.Quiet.{fresh}
use Rattle.state.specs.Seats.{seat}
use Rattle.events.specs.Starting.{Started, start, cleared}
use Rattle.promises.specs.Calls.{Call, run, history, begun, channel_of}

-- each entry is a slot
abbrev pub Slots : List ℕ → Type 0
Slots [] = Unit {0}
Slots (x ∷ xs) = (x < 32) × Slots xs

-- each of the 32 slots stands in it once
pub record Ordered (order : List ℕ) : Type 0 where
  pub length : length order ≡ 32
  pub slots : Slots order
  pub once : (i : ℕ) → i < 32 → count_if (eqb i) order ≡ 1

-- slot i stands before slot j
unfoldable pub older : List ℕ → ℕ → ℕ → Bool
older [] i j = false
older (x ∷ xs) i j = cond (eqb x i) true (cond (eqb x j) false (older xs i j))

-- whether of slots i and j a voice was last started in j, after a history of starts; b says so of the time before
unfoldable pub started_last : List ℕ → ℕ → ℕ → Bool → Bool
started_last [] i j b = b
started_last (x ∷ xs) i j b = started_last xs i j (cond (eqb x j) true (cond (eqb x i) false b))

-- an order of the slots is their age after a history of starts: each stands once, and i before j exactly if, of the two, a voice
-- was last started in j (at first, if i is the lower number)
abbrev pub OfAge : List ℕ → List ℕ → Type 0
OfAge past order =
    Ordered order
    × ((i j : ℕ) → i < 32 → j < 32 → (i ≡ j → ⊥) → older order i j ≡ started_last past i j (ltb i j))

-- after any run, without end
abbrev pub OrderIsAge : Type 0
OrderIsAge = (xs : List Call) → OfAge (history xs fresh) (run xs fresh).order

-- each layer in its turn (as in `RightSeats`): the order that its seat is found by is age after the past and the layers before it
abbrev pub AgedLayers : List ℕ → List Voice → Started → Type 0
AgedLayers past [] x = Unit {0}
AgedLayers past (v ∷ vs) x =
    OfAge past x.engine.order × AgedLayers (past ++ (seat x.engine x.mine ∷ [])) vs (start v x)

-- after any run, for all layers that the next call starts
abbrev pub LayersAge : Type 0
LayersAge =
    (xs : List Call) (x : Call)
    → AgedLayers (history xs fresh) (begun x (run xs fresh))
    (record { engine = cleared (channel_of x) (begun x (run xs fresh)) (run xs fresh); mine = 0 })
