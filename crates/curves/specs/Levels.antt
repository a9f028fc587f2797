-- 01, "Tables and steps", with 02's M-105: gains, and what a velocity or a control takes away, in cB.
use Rattle.std.specs.Prelude.{ℕ, zero, suc, ◌/◌, ◌%◌, List, ◌∷◌, get_or, cond, leb, ltb}
use Rattle.curves.specs.GainTable.{gains0}
use Rattle.curves.specs.VelocityTable.{velocities0}

-- G for a in 0..199, the gains that are kept (`GainIsLargest` is the rule of every gain)
abbrev pub gains : List ℕ
gains = gains0

-- a number divided by ten, rounding down, n times
abbrev pub tenths : ℕ → ℕ → ℕ
tenths zero g = g
tenths (suc n) g = tenths n (g / 10)

-- the gain of a cB, in 2^-24: a kept one, divided once for each further 200 cB; 0 above 1,440
unfoldable pub gain_of : ℕ → ℕ
gain_of a = cond (ltb 1440 a) 0 (tenths (a / 200) (get_or gains (a % 200) 0))

-- a for v in 1..127 (`velocity-largest` is its rule), behind 960 for a control's 0
abbrev pub velocities : List ℕ
velocities = 960 ∷ velocities0

-- the cB of velocity v, or of control 7 or 11 at v (0 gives 960)
unfoldable pub cb_of : ℕ → ℕ
cb_of v = get_or velocities v 0

-- how many of f a, f (a + 1) and so on, n of them, are above the level, up to the first that is not
unfoldable pub above : (ℕ → ℕ) → ℕ → ℕ → ℕ → ℕ
above f l a zero = 0
above f l a (suc n) = cond (leb (f a) l) 0 (suc (above f l (suc a) n))

-- the least a whose gain is at most the level; 1,000 if above that (as at level 0: no gain below 1,000 cB is 0)
unfoldable pub least_cb : ℕ → ℕ
least_cb l = above gain_of l 0 1000
