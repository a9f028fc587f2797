-- The state with another word, as the loops over slots leave it.
use Rattle.std.specs.Prelude.{ℕ}
use Rattle.state.specs.declared.Engine.{Engine}
use Rattle.state.specs.Quiet.{changed}

-- the state with another word
abbrev pub with_word : Engine → ℕ → Engine
with_word e w = changed e e.voices e.channels w e.order e.clock
