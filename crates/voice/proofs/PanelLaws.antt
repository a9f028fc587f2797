-- A level is told as exactly its 2^24th part.
use mathlib.Core.Path.{refl, ◌≡◌, sym, subst}
use mathlib.Core.Bool.{false}
use Prim.Native.Nat.{ℕ, ◌≤◌}
use lib.IntN.{pos}
use lib.Ieee.{Float}
use Rattle.arith.specs.Floats.{Over}
use Rattle.voice.specs.Panel.{level_of}
use Rattle.arith.proofs.FloatsLaws.{round-down}

-- the level's fraction is a binary32 itself
pub level-exact : (n : ℕ) → n ≤ 16777216 → Over (level_of n) (pos n) 16777216
unfolding level_of
level-exact n h = record { value = round-down false n 24 125 refl h }

-- a float that is made as the nearest one is the fraction itself
pub level-made : (x : Float) (n : ℕ) → n ≤ 16777216 → x ≡ level_of n → (x ≡ level_of n) × Over x (pos n) 16777216
level-made x n h e = (e, subst (λ (y : Float). Over y (pos n) 16777216) (sym e) (level-exact n h))
