-- The search for the least attenuation among the gains that are kept.
use Rattle.std.specs.Prelude.{ℕ, get_or}
use Rattle.curves.specs.Levels.{gains, above}

-- the kept gain of i cB
abbrev pub kept : ℕ → ℕ
kept i = get_or gains i 0

-- how many of the kept gains are above m
unfoldable pub louder : ℕ → ℕ
louder m = above kept m 0 200
