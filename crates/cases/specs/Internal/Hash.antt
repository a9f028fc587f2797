-- The case files' form: the FNV-1a hash of 64 bits over bytes. A binary32 number's 32 bits count as four bytes and a sample's 16 as two, the low byte first.
use Rattle.std.specs.Prelude.{ℕ, ◌*◌, ◌/◌, ◌%◌, ◌^◌, cond, List, [], ◌∷◌, ℤ, bit_xor, is_nan, to_bits, Float}
use Rattle.std.specs.Float.{binary32}
use Rattle.arith.specs.Floors.{mod_z}

-- A number's bits. A NaN has no bits of its own: it counts as the quiet one, 7fc00000 in hex.
unfoldable pub bits_of : Float → ℕ
bits_of x = cond (is_nan x) 2143289344 (to_bits binary32 x)

-- The product with the prime, 100000001b3 in hex, modulo 2^64.
unfoldable pub times : ℕ → ℕ
times h = h * 1099511628211 % 2 ^ 64

-- The hash after one byte more.
unfoldable pub hash_byte : ℕ → ℕ → ℕ
hash_byte h b = times (bit_xor h b)

-- The hash after the four bytes of a number's bits more.
unfoldable pub hash_bits : ℕ → ℕ → ℕ
hash_bits h n = hash_byte (hash_byte (hash_byte (hash_byte h (n % 256)) (n / 256 % 256)) (n / 65536 % 256)) (n / 16777216)

-- The hash after a binary32 number more.
abbrev pub hash_number : ℕ → Float → ℕ
hash_number h x = hash_bits h (bits_of x)

-- The hash after the two bytes of a sample more, which is in two's complement.
unfoldable pub hash_sample : ℕ → ℤ → ℕ
hash_sample h s = hash_byte (hash_byte h (mod_z s 65536 % 256)) (mod_z s 65536 / 256)

-- The hash after all of a list more, by what one more does to it.
unfoldable pub hash_each : {A : Type 0} → (ℕ → A → ℕ) → ℕ → List A → ℕ
hash_each f h [] = h
hash_each f h (x ∷ xs) = hash_each f (f h x) xs

-- The hash after all of the numbers more.
abbrev pub hash_all : ℕ → List Float → ℕ
hash_all h xs = hash_each hash_number h xs

-- The hash after all of the bytes more.
abbrev pub hash_bytes : ℕ → List ℕ → ℕ
hash_bytes h bs = hash_each hash_byte h bs

-- The hash after all of the samples more.
abbrev pub hash_samples : ℕ → List ℤ → ℕ
hash_samples h ss = hash_each hash_sample h ss
