-- Songs of several tracks: gaps that no delta time says are bridged by tempo changes that change nothing.
use Rattle.std.specs.Prelude.{List, [], ◌∷◌, ℕ, zero, suc, ◌*◌, ◌-◌, ◌/◌}
use Rattle.smf.specs.Spelling.{Mark, Tempo}

-- the most that a delta time says
abbrev pub longest_delta : ℕ
longest_delta = 268435455

-- how many bridges a gap needs: as long as more than the longest delta time is left
unfoldable pub bridges_of : ℕ → ℕ
bridges_of gap = (gap - 1) / longest_delta

-- what is left of it for the delta time behind them
unfoldable pub rest_of : ℕ → ℕ
rest_of gap = gap - bridges_of gap * longest_delta

-- so many changes to the tempo in force, each the longest delta time behind the one before, in front of some marks
unfoldable pub bridged : ℕ → ℕ → List Mark → List Mark
bridged tempo zero ms = ms
bridged tempo (suc n) ms = Tempo longest_delta tempo ∷ bridged tempo n ms
