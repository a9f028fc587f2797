-- The state and the word of started slots, as the code holds them.
use Rattle.events.specs.declared.Begun.{Begun}
use Rattle.events.specs.Starting.{Started}
use Rattle.state.specs.declared.Engine.{Engine}

-- what a note-on has started, as the definitions have it
abbrev pub started_of : Begun → Started
started_of b = record { engine = b.engine; mine = b.mine }

-- before its first layer
abbrev pub begin : Engine → Started
begin e = record { engine = e; mine = 0 }
