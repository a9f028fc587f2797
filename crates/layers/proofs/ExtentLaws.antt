-- Laws of a place held to 32 bits.
use mathlib.Core.Bool.{Bool, true, false, cond}
use mathlib.Core.Path.{◌≡◌, refl, ap, ◌∙◌}
use native.Mathlib.Omega.{arith}
use lib.Dec.{ltb, leb}
use lib.IntN.{ℤ, pos, negsuc, nat_abs}
use borrow.Author.Tests.{ltb-true, ltb-false, le-ltb, le-leb, lt-leb}
use Prim.Native.Nat.{ℕ}
use Rattle.arith.specs.Holds.{held_to, word32}

-- it is held to 0..4,294,967,295
pub word_held : (x : ℤ) → nat_abs (held_to (pos 0) (pos 4294967295) x) ≡ word32 x
unfolding word32
word_held (negsuc a) = refl
word_held (pos a) = by (ltb 4294967295 a) refl
  where
    by : (t : Bool) → ltb 4294967295 a ≡ t → nat_abs (cond (ltb a 0) (pos 0) (cond t (pos 4294967295) (pos a))) ≡ cond (leb a 4294967295) a 4294967295
    by true e = rw (lt-leb a 4294967295 (ltb-true 4294967295 a e), le-ltb a 0 (omega arith)) refl
    by false e = rw (le-leb a 4294967295 (ltb-false 4294967295 a e), le-ltb a 0 (omega arith)) refl

-- a place as the code has it, read back from its bits
pub word-of : {r : ℕ} {x y z : ℤ} → r ≡ word32 x → x ≡ y → y ≡ z → r ≡ word32 z
word-of e f g = e ∙ ap word32 (f ∙ g)
