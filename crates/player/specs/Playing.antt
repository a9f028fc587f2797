-- The player: render. Before each frame the events that are due act, one after the other; then the engine makes the frame.
use Rattle.std.specs.Prelude.{ℕ, zero, suc, ◌+◌, ◌*◌, ◌%◌, cond, List, [], ◌++◌, length, drop, ℤ, ◌==◌, Float}
use Rattle.smf.specs.Songs.{turns, handed_of}
use Rattle.state.specs.declared.Engine.{Engine}
use Rattle.state.specs.Slots.{with_clock}
use Rattle.engine.specs.Rendering.{distance, render_number, output, played}
use Rattle.player.specs.declared.Answer.{Answer}
use Rattle.player.specs.declared.Player.{Player}
use Rattle.player.specs.declared.Tally.{Tally}
use Rattle.player.specs.Acting.{heeded}
use Rattle.player.specs.Cues.{coming_event, with_engine, cued, is_due}

-- no event is applied yet
abbrev pub opened : Player → Tally
opened p = record { player = p; applied = 0; refused = 0 }

-- a done render's answer
abbrev pub reported : Tally → Answer
reported x = record { number = 0; applied = x.applied; refused = x.refused; player = x.player }

-- 1 where a call was refused
abbrev pub refusal : ℕ → ℕ
refusal status = cond (status == 0) 0 1

-- the engine's own n frames: its voices, and its clock
unfoldable pub ticked : List ℤ → List ℤ → ℕ → Engine → Engine
ticked ram rom zero e = e
ticked ram rom (suc n) e = with_clock (played ram rom (suc n) e) ((e.clock + suc n) % 4294967296)

-- .. of a player's engine
unfoldable pub forward : List ℤ → List ℤ → ℕ → Tally → Tally
forward ram rom n x =
    record { player = with_engine x.player (ticked ram rom n x.player.engine); applied = x.applied; refused = x.refused }

module _ (song bank : List ℕ) (ram rom : List ℤ) where
  -- that event applied: it acts and is counted, and the one behind it, in the song that is lent, comes next
  unfoldable pub applying : Tally → Tally
  applying x =
      let a = heeded bank ram rom (coming_event x.player) x.player.engine in
      record {
        player = cued (with_engine x.player a.engine) (handed_of song x.player.cursor);
        applied = x.applied + 1;
        refused = x.refused + refusal a.status;
      }

  -- the events that are due applied, one after the other, at most n of them
  unfoldable pub caught_up : ℕ → Tally → Tally
  caught_up zero x = x
  caught_up (suc n) x = cond (is_due x.player) (caught_up n (applying x)) x

  -- in front of a frame: all that are due (law `none-due`: there are no more)
  abbrev pub prepared : Tally → Tally
  prepared x = caught_up (turns song) x

  -- performed n frames
  unfoldable pub performed : ℕ → Tally → Tally
  performed zero x = x
  performed (suc n) x = performed n (forward ram rom 1 (prepared x))

  -- the numbers of n frames
  unfoldable pub numbers : ℕ → Tally → List Float
  numbers zero x = []
  numbers (suc n) x = output ram rom (prepared x).player.engine 1 ++ numbers n (forward ram rom 1 (prepared x))

  -- render: its tests are the engine's, at its start; refused, nothing is applied and nothing changes
  unfoldable pub answered : ℕ → ℕ → Player → Answer
  answered to room p =
      cond (render_number to ram rom room p.engine == 0)
      (reported (performed (distance p.engine to) (opened p)))
      (record { number = render_number to ram rom room p.engine; applied = 0; refused = 0; player = p })

  -- and all of the lent output: done, its first 2n numbers are written and no other; refused, none
  unfoldable pub sounded_into : ℕ → List Float → Player → List Float
  sounded_into to out p =
      cond (render_number to ram rom (length out) p.engine == 0)
      (numbers (distance p.engine to) (opened p) ++ drop (2 * distance p.engine to) out) out
