-- The number of a quantity, as the code's contracts bound it.
use Rattle.smf.specs.declared.Quantity.{Quantity}
use Rattle.std.specs.Prelude.{ℕ, Option, Some, None}

-- the number itself, 0 where there is none
abbrev pub value_of : Option Quantity → ℕ
value_of None = 0
value_of (Some q) = q.value
