-- What C's memory holds: the last call's number, count, refused events and place, and the player's twin.
use Rattle.std.specs.Prelude.{ℕ}
use Rattle.state.specs.Answers.{Answered}
use Rattle.state.specs.declared.Engine.{Engine}
use Rattle.player.specs.declared.Player.{Player}
use Rattle.player.specs.declared.Begun.{Begun}
use Rattle.player.specs.declared.Answer.{Answer}
use Rattle.player.specs.Cues.{with_engine}
use Rattle.cabinet.specs.declared.Flat.{Flat}
use Rattle.cabinet.specs.Twins.{player_of, player_to}

-- the player in C's memory
abbrev pub player_in : Flat → Player
player_in s = player_of s.player

-- .. and its engine
abbrev pub engine_in : Flat → Engine
engine_in s = (player_in s).engine

-- C's memory, from the four numbers of an answer and a player
abbrev pub kept : ℕ → ℕ → ℕ → ℕ → Player → Flat
kept number count refused place p =
    record { number = number; count = count; refused = refused; place = place; player = player_to p }

-- after a direct call: the engine's answer, and the player with the engine as that leaves it
abbrev pub kept_answer : Answered → Flat → Flat
kept_answer a s = kept a.status a.count 0 0 (with_engine (player_in s) a.engine)

-- after a start: its number, and the place of the file's first fault
abbrev pub kept_start : Begun → Flat
kept_start b = kept b.number 0 0 b.place b.player

-- after a render of a song: its number, the events applied, and the refused ones among them
abbrev pub kept_play : Answer → Flat
kept_play a = kept a.number a.applied a.refused 0 a.player
