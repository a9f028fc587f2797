-- The value of `a && b` where the two ways of the code meet.
use mathlib.Core.Bool.{Bool, true, false, ◌&&◌}
use mathlib.Core.Path.{◌≡◌}

module _ (x y : Bool) {r : Bool} where
  -- by the way on which a holds
  pub and_yes : x ≡ true → r ≡ y → r ≡ (x && y)
  and_yes e f = rw e f

  -- by the way on which it does not
  pub and_no : x ≡ false → r ≡ false → r ≡ (x && y)
  and_no e f = rw e f
