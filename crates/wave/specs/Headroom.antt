-- Sums poured at a lower level: each number of the call and its case, shares of a run, and the level that a run needs.
use Rattle.std.specs.Prelude.{List, [], ◌∷◌, ◌++◌, ◌⊎◌, ◌≡◌, ℕ, ◌+◌, ◌*◌, ◌%◌, ◌<◌, ◌≤◌, max, ℤ, pos, neg_ℤ, length, take}
use Rattle.curves.specs.Levels.{gain_of}
use Rattle.wave.specs.Lowering.{attenuation_for, frames_past, loudest_of, lowered_by, sums_into, sums_number, sums_poured}
use Rattle.wave.specs.Refusals.{GivenIn, KeptBehind}

-- each number of a pour of sums and its case
pub record SumsNumbers (zs : List ℤ) (room : ℕ) : Type 0 where
  pub thirteen : GivenIn (sums_number zs room) 13 (length zs % 2 ≡ 1)
  pub fifteen : GivenIn (sums_number zs room) 15 ((length zs % 2 ≡ 0) × (room < 2 * length zs))
  pub done : GivenIn (sums_number zs room) 0 ((length zs % 2 ≡ 0) × (2 * length zs ≤ room))
  pub no_other : (sums_number zs room ≡ 0) ⊎ (sums_number zs room ≡ 13) ⊎ (sums_number zs room ≡ 15)

-- of every run of sums and every output
abbrev pub SummingNumbers : Type 0
SummingNumbers = (zs : List ℤ) (room : ℕ) → SumsNumbers zs room

-- a refusal writes nothing, and says no frame and no size
abbrev pub SumsRefused : Type 0
SumsRefused =
    (a : ℕ) (zs : List ℤ) (out : List ℕ) → (sums_number zs (length out) ≡ 0 → ⊥)
    → (sums_into a zs out ≡ out) × ((sums_poured a zs (length out)).held ≡ 0) × ((sums_poured a zs (length out)).loudest ≡ 0)

-- where it is done, all that lies behind the bytes is as it was
abbrev pub SumsKeepTheRest : Type 0
SumsKeepTheRest =
    (a : ℕ) (zs : List ℤ) (out : List ℕ) → sums_number zs (length out) ≡ 0 → KeptBehind (2 * length zs) out (sums_into a zs out)

-- two runs, one behind the other, give the bytes of both at once; their held frames add up, and the louder one is the loudest
abbrev pub SumsInShares : Type 0
SumsInShares =
    (a : ℕ) (xs ys : List ℤ) (one two out : List ℕ) → sums_number xs (length one) ≡ 0 → sums_number ys (length two) ≡ 0
    → 2 * length (xs ++ ys) ≤ length out
    → (sums_number (xs ++ ys) (length out) ≡ 0)
    × (take (2 * length (xs ++ ys)) (sums_into a (xs ++ ys) out) ≡ take (2 * length xs) (sums_into a xs one) ++ take (2 * length ys) (sums_into a ys two))
    × (frames_past (gain_of a) (xs ++ ys) ≡ frames_past (gain_of a) xs + frames_past (gain_of a) ys)
    × (loudest_of (xs ++ ys) ≡ max (loudest_of xs) (loudest_of ys))

-- at attenuation 0 a sum is as it was
abbrev pub ZeroKeeps : Type 0
ZeroKeeps = (z : ℤ) → lowered_by (gain_of 0) z ≡ z

-- at attenuation 0 no frame is held exactly where all sums are from -2^23 to 2^23
abbrev pub HeldAtZero : Type 0
HeldAtZero =
    (zs : List ℤ) (room : ℕ) → sums_number zs room ≡ 0
    → ((sums_poured 0 zs room).held ≡ 0 → loudest_of zs ≤ 8388608) × (loudest_of zs ≤ 8388608 → (sums_poured 0 zs room).held ≡ 0)

-- with the attenuation for a size, or with more, no frame is held of sums of at most that size
abbrev pub NoneIsHeld : Type 0
NoneIsHeld =
    (size a : ℕ) (zs : List ℤ) (room : ℕ) → size < 4294967296 → attenuation_for size ≤ a → loudest_of zs ≤ size
    → (sums_poured a zs room).held ≡ 0

-- with less, a frame is held in which a sum goes so far down
abbrev pub LessHolds : Type 0
LessHolds =
    (size a : ℕ) (r : ℤ) (room : ℕ) → a < attenuation_for size → 4 ≤ room
    → (sums_poured a (neg_ℤ (pos size) ∷ r ∷ []) room).held ≡ 1
