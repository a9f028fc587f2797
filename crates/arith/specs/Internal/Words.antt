-- A word as a set of slots, as the code's contracts say it.
use Rattle.std.specs.Prelude.{◌≡◌, ℕ, ◌<◌, zero, suc, ◌/◌, ◌%◌, cond, eqb}
use Rattle.arith.specs.Words.{bit}

-- m is the set n, with slot t in it as b says
pub record With (n t b m : ℕ) : Type 0 where
  pub here : bit m t ≡ b
  pub kept : (j : ℕ) → j < 32 → (j ≡ t → ⊥) → bit m j ≡ bit n j

-- the lowest of the first k slots that is not in the set; k where all are
unfoldable pub lowest_clear : ℕ → ℕ → ℕ
lowest_clear zero word = 0
lowest_clear (suc k) word = cond (eqb (word % 2) 1) (suc (lowest_clear k (word / 2))) 0
