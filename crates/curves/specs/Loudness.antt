-- 02, M-105: each gain is the number of 01's rule, whichever way it is kept.
use Rattle.std.specs.Prelude.{ℕ, ◌+◌, ◌*◌, ◌^◌, ◌/◌, ◌≤◌, ◌<◌, ◌≡◌}
use Rattle.curves.specs.Levels.{gain_of}

-- n has the property, and whatever has it is at most n
pub record Largest (P : ℕ → Type 0) (n : ℕ) : Type 0 where
  pub holds : P n
  pub most : (m : ℕ) → P m → m ≤ n

-- 01's rule for the gain G of a cB: G^200 * 10^a <= 2^4,800
abbrev pub Lowered : ℕ → ℕ → Type 0
Lowered a g = g ^ 200 * 10 ^ a ≤ 2 ^ 4800

-- every gain is the largest number by the rule
abbrev pub GainIsLargest : Type 0
GainIsLargest = (a : ℕ) → a ≤ 1440 → Largest (Lowered a) (gain_of a)

-- so it is the same number as before: whatever is the largest by the rule is this gain
abbrev pub GainStays : Type 0
GainStays = (a g : ℕ) → a ≤ 1440 → Largest (Lowered a) g → gain_of a ≡ g

-- a further 200 cB divide by ten, rounding down
abbrev pub FurtherTenth : Type 0
FurtherTenth = (a : ℕ) → a + 200 ≤ 1440 → gain_of (a + 200) ≡ gain_of a / 10

-- above 1,440 cB the gain is 0
abbrev pub SilentPast : Type 0
SilentPast = (a : ℕ) → 1440 < a → gain_of a ≡ 0
