-- Standard MIDI Files: numbers of fixed size, the high byte first, and variable-length quantities. A byte past the end reads as 0.
use Rattle.smf.specs.declared.Quantity.{Quantity}
use Rattle.std.specs.Prelude.{cond, List, ℕ, zero, suc, ◌+◌, ◌*◌, ◌-◌, ltb, Option, Some, None}
use Rattle.arith.specs.Bytes.{u8_at}

-- a number of two bytes
unfoldable pub two_at : List ℕ → ℕ → ℕ
two_at b at = u8_at b at * 256 + u8_at b (at + 1)

-- a number of three bytes
unfoldable pub three_at : List ℕ → ℕ → ℕ
three_at b at = two_at b at * 256 + u8_at b (at + 2)

-- a number of four bytes
unfoldable pub four_at : List ℕ → ℕ → ℕ
four_at b at = two_at b at * 65536 + two_at b (at + 2)

-- a quantity that is read, with the place behind it
abbrev pub quantity : ℕ → ℕ → Option Quantity
quantity value behind = Some (record { value = value; behind = behind })

-- the rest of a quantity, of at most n bytes in front of the edge, behind the bits v: seven bits of each byte, the high ones first; the last byte alone is below 128
unfoldable pub quantity_from : ℕ → List ℕ → ℕ → ℕ → ℕ → Option Quantity
quantity_from zero b edge at v = None
quantity_from (suc n) b edge at v =
    let x = u8_at b at in
    cond (ltb at edge) (cond (ltb x 128) (quantity (v * 128 + x) (at + 1)) (quantity_from n b edge (at + 1) (v * 128 + (x - 128)))) None

-- the quantity at a place, with the place behind it: of one to four bytes, all in front of the edge
unfoldable pub quantity_at : List ℕ → ℕ → ℕ → Option Quantity
quantity_at b edge at = quantity_from 4 b edge at 0
