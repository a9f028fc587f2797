-- Laws of a note-on's loops: each goes along the first layers of a list, and a turn is one layer more.
use mathlib.Core.Path.{◌≡◌, refl, ap}
use mathlib.Core.Bool.{Bool, ◌||◌}
use mathlib.Core.List.{List, [], ◌∷◌, ◌++◌}
use Prim.Native.Nat.{ℕ, ◌+◌, ◌<◌}
use lib.ListN.{take, length, get_or}
use native.Mathlib.Numerals.{add-one}
use lib.Seq.{take-suc}
use Rattle.std.specs.List.{list_any}
use Rattle.arith.specs.Lists.{any_of}
use Rattle.voice.specs.declared.Voice.{Voice}
use Rattle.events.specs.Starting.{rival, Started, start, start_all}
use Rattle.voice.specs.Changes.{free, blank}
use Rattle.state.specs.Slots.{of_channel, cut}

-- what the library finds along a list is what the definitions find
pub any_found : (p : Voice → Bool) (vs : List Voice) → list_any p vs ≡ any_of p vs
any_found p [] = refl
any_found p (v ∷ vs) = ap (λ (b : Bool). p v || b) (any_found p vs)

-- a free slot is no rival
pub rival-free : (channel : ℕ) (vs : List Voice) (v : Voice) → cut (rival channel vs) (free v) ≡ free v
unfolding cut rival of_channel
rival-free channel vs v = refl

start-snoc : (vs : List Voice) (v : Voice) (x : Started) → start_all (vs ++ (v ∷ [])) x ≡ start v (start_all vs x)
unfolding start_all
start-snoc [] v x = refl
start-snoc (y ∷ vs) v x = start-snoc vs v (start y x)

-- starts: before the first turn, and a turn
pub start_none : (vs : List Voice) (x : Started) → start_all (take 0 vs) x ≡ x
unfolding start_all
start_none vs x = refl

-- layer i is started
pub start-turn : (vs : List Voice) (i : ℕ) (x : Started) → i < length vs → start_all (take (i + 1) vs) x ≡ start (get_or vs i blank) (start_all (take i vs) x)
start-turn vs i x h = rw (add-one, take-suc vs i blank h) (start-snoc (take i vs) (get_or vs i blank) x)
