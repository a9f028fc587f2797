-- What 02's four points promise beside the sum itself: where they lie so that anyone can say what is read, that is read.
use Rattle.std.specs.Prelude.{ℕ, ◌<◌, true, ◌≡◌, ℤ, pos, negsuc, ◌+ℤ◌, ◌-ℤ◌, ◌*ℤ◌}
use Rattle.arith.specs.Floors.{floor_z}
use Rattle.arith.specs.Holds.{between_z}
use Rattle.arith.specs.Within.{Within}
use Rattle.voice.specs.Reading.{Q, curve, interpolated}

-- x is a signed 16-bit number
abbrev pub Sample16 : ℤ → Type 0
Sample16 x = between_z (negsuc 32767) (pos 32767) x ≡ true

-- at a sample its number is read, whatever stands around it
abbrev pub ReadsPoint : Type 0
ReadsPoint = (x0 x1 x2 x3 : ℤ) → Sample16 x1 → interpolated x0 x1 x2 x3 0 ≡ x1

-- four points on a line are read as the straight line between x1 and x2 is, rounded down
abbrev pub ReadsLine : Type 0
ReadsLine =
    (x d : ℤ) (q : ℕ) → q < Q → Sample16 x → Sample16 (x +ℤ d)
    → interpolated (x -ℤ d) x (x +ℤ d) (x +ℤ d +ℤ d) q ≡ x +ℤ floor_z (d *ℤ pos q) Q

-- and four equal points as themselves
abbrev pub ReadsEqual : Type 0
ReadsEqual = (x : ℤ) (q : ℕ) → q < Q → Sample16 x → interpolated x x x x q ≡ x

-- the sum of any four samples is less than 2^62, up or down: no code of 64 bits loses a part of it
abbrev pub SumFits : Type 0
SumFits =
    (x0 x1 x2 x3 : ℤ) (q : ℕ) → q < Q → Within x0 32768 → Within x1 32768 → Within x2 32768 → Within x3 32768
    → Within (curve x0 x1 x2 x3 q) 4611686018427387903
