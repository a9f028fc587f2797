-- Output numbers by the bits of a binary32, its sign aside: 0; or a field of 8 bits and 23 digits behind a leading one.
use Rattle.std.specs.Prelude.{Bool, true, false, cond, ℕ, ◌+◌, ◌-◌, ◌*◌, ◌/◌, ◌%◌, ◌^◌, eqb, ltb}

-- the digits with their leading one: the size times 2^(150 - field)
abbrev pub digits_of : ℕ → ℕ
digits_of size = 8388608 + size % 8388608

-- how many of the digits stand behind those of k
abbrev pub tail_of : ℕ → ℕ
tail_of size = 127 - size / 8388608

-- the size of k: the digits without the tail
unfoldable pub k_bits : ℕ → ℕ
k_bits size = cond (eqb size 0) 0 (digits_of size / 2 ^ tail_of size)

-- whether the tail is all zeros, for a size from 2^-23 to 1
unfoldable pub is_output_bits : ℕ → Bool
is_output_bits size =
    cond (eqb size 0) true
    (cond (ltb 1065353216 size) false
    (cond (ltb (size / 8388608) 104) false
    (eqb (digits_of size / 2 ^ tail_of size * 2 ^ tail_of size) (digits_of size))))

-- the 16-bit number of a k of this size, in two's complement
unfoldable pub word_of : Bool → ℕ → ℕ
word_of negative size =
    cond negative ((65536 - (size + 255) / 256) % 65536) (cond (ltb 8388352 size) 32767 (size / 256))
