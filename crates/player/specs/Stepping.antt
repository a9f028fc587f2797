-- The player: a song event by event. A host asks how far the next event is, renders so many frames by the engine's own render, and steps.
use Rattle.std.specs.Prelude.{ℕ, ◌+◌, ◌*◌, cond, List, ℤ}
use Rattle.player.specs.declared.Player.{Player}
use Rattle.player.specs.declared.Stepped.{Stepped}
use Rattle.player.specs.Acting.{heeded}
use Rattle.player.specs.Cues.{song_over, coming_event}
use Rattle.player.specs.Playing.{opened, applying}

-- a step: the event that comes next is applied, due or not, and its number told; where none is left nothing changes
unfoldable pub step_taken : List ℕ → List ℕ → List ℤ → List ℤ → Player → Stepped
step_taken song bank ram rom p =
    cond (song_over p) (record { number = 0; applied = 0; player = p })
    (record {
      number = (heeded bank ram rom (coming_event p) p.engine).status;
      applied = 1;
      player = (applying song bank ram rom (opened p)).player;
    })

-- the bytes of the event that comes next: its status, and 256 times the first and 65,536 times the second behind it; 0 where none is left
unfoldable pub next_event : Player → ℕ
next_event p = cond (song_over p) 0 ((coming_event p).status + 256 * (coming_event p).first + 65536 * (coming_event p).second)

-- its frame, counted from the song's start; 0 where none is left
unfoldable pub next_frame : Player → ℕ
next_frame p = cond (song_over p) 0 (coming_event p).frame
