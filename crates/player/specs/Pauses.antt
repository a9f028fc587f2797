-- The player: start and stop. Both let all channels go, and a song that starts finds them as in a fresh engine.
use Rattle.std.specs.Prelude.{ℕ, zero, suc, cond, List, None, ◌==◌}
use Rattle.smf.specs.Songs.{opening_of, handed_of}
use Rattle.state.specs.declared.Engine.{Engine}
use Rattle.events.specs.Controls.{control_change}
use Rattle.events.specs.Programs.{program_change}
use Rattle.events.specs.Bends.{pitch_bend}
use Rattle.player.specs.declared.Player.{Player}
use Rattle.player.specs.declared.Begun.{Begun}
use Rattle.player.specs.Cues.{cued}

-- a channel let go: control 64 with 0, and then control 123
unfoldable pub hushed : ℕ → Engine → Engine
hushed channel e = (control_change channel 123 0 (control_change channel 64 0 e).engine).engine

-- the first n channels, in order
unfoldable pub hushed_to : ℕ → Engine → Engine
hushed_to zero e = e
hushed_to (suc n) e = hushed n (hushed_to n e)

-- a channel as in a fresh engine: bank 0 stored and, by program 0, taken, bend 8,192, control 7 at 100, 11 at 127
unfoldable pub freshened : ℕ → Engine → Engine
freshened channel e =
    (control_change channel 11 127
    (control_change channel 7 100
    (pitch_bend channel 8192
    (program_change channel 0
    (control_change channel 0 0 e).engine).engine).engine).engine).engine

-- the first n channels, in order
unfoldable pub freshened_to : ℕ → Engine → Engine
freshened_to zero e = e
freshened_to (suc n) e = freshened n (freshened_to n e)

-- stop: all channels are let go, and no event is left
unfoldable pub stopped : Player → Player
stopped p = record { engine = hushed_to 16 p.engine; cursor = p.cursor; event = None; began = p.began }

-- a player whose channels are let go and fresh, and whose song begins now
abbrev pub readied : Player → Player
readied p =
    record {
      engine = freshened_to 16 (hushed_to 16 p.engine);
      cursor = p.cursor;
      event = p.event;
      began = p.engine.clock;
    }

-- start: a refused file changes nothing; else what was playing stops, and the song's first event comes next
unfoldable pub started : List ℕ → Player → Begun
started song p =
    cond ((opening_of song).number == 0)
    (record { number = 0; place = 0; player = cued (readied p) (handed_of song (opening_of song).cursor) })
    (record { number = (opening_of song).number; place = (opening_of song).place; player = p })
