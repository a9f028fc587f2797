-- The frames of a run, one by one: where each lies, the state in front of it, and what a slot adds in it.
use Rattle.std.specs.Prelude.{ℕ, ◌-◌, List, [], ◌∷◌, Bool, false, cond, ◌||◌, ℤ, eqb, ltb}
use Rattle.voice.specs.declared.Stage.{Stage}
use Rattle.voice.specs.declared.Voice.{Voice}
use Rattle.voice.specs.Stages.{entered}
use Rattle.state.specs.declared.Engine.{Engine}
use Rattle.state.specs.Slots.{slot_at}
use Rattle.engine.specs.Rendering.{played, slot_left, slot_right}
use Rattle.promises.specs.Calls.{Call, NoteOn, NoteOff, Control, Program, Bend, Render, Ask, next, frames_of, starts_in, among}

-- where a frame lies: in a render that is lent ram and rom and called in a state, behind so many of the render's frames
pub record Moment : Type 0 where
  pub ram : List ℤ
  pub rom : List ℤ
  pub called : Engine
  pub into : ℕ

-- a state outside every render
abbrev pub outside : Engine → Moment
outside e = record { ram = []; rom = []; called = e; into = 0 }

-- frame k of a call
abbrev pub moment_in : Call → ℕ → Engine → Moment
moment_in (NoteOn b ram rom c n v) k e = outside e
moment_in (NoteOff c n) k e = outside e
moment_in (Control c n v) k e = outside e
moment_in (Program c p) k e = outside e
moment_in (Bend c b) k e = outside e
moment_in (Render to ram rom out) k e = record { ram = ram; rom = rom; called = e; into = k }
moment_in (Ask i) k e = outside e

-- frame k of a run, counted from 0, whichever render it falls into; behind the last frame stands the state after the run
unfoldable pub moment : ℕ → List Call → Engine → Moment
moment k [] e = outside e
moment k (x ∷ xs) e = cond (ltb k (frames_of x e)) (moment_in x k e) (moment (k - frames_of x e) xs (next x e))

-- the state at a moment: the frames before it are rendered
abbrev pub state_at : Moment → Engine
state_at m = played m.ram m.rom m.into m.called

-- the state in front of frame k of a run: all that is called before it is done, and so are all frames before it
abbrev pub in_front : ℕ → List Call → Engine → Engine
in_front k xs e = state_at (moment k xs e)

-- a voice is started in slot i by a call that comes behind frame k - 1 and before frame k
unfoldable pub started_at : ℕ → ℕ → List Call → Engine → Bool
started_at i k [] e = false
started_at i k (x ∷ xs) e =
    cond (ltb k (frames_of x e)) false
    (cond (eqb k 0) (among i (starts_in x e)) false || started_at i (k - frames_of x e) xs (next x e))

-- what slot i adds to the left sum of the frame at a moment
abbrev pub adds_left : ℕ → Moment → ℤ
adds_left i m = slot_left m.ram m.rom m.called m.into (slot_at m.called i)

-- and to the right sum
abbrev pub adds_right : ℕ → Moment → ℤ
adds_right i m = slot_right m.ram m.rom m.called m.into (slot_at m.called i)

-- the stage that a voice is in once spent ones are left, as at the start of its frame
abbrev pub stage_in : Voice → Stage
stage_in v = entered v v.stage
