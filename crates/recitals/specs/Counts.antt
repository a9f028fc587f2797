-- What a render of the player counts, and what a step answers: the events that they report as refused are the calls of these events that the engine refuses.
use Rattle.std.specs.Prelude.{List, [], ◌∷◌, ◌≡◌, ℕ, ◌+◌, ◌<◌, ℤ, Float}
use Rattle.state.specs.declared.Engine.{Engine}
use Rattle.player.specs.declared.Player.{Player}
use Rattle.player.specs.Playing.{refusal}
use Rattle.promises.specs.Calls.{Call, does, next}
use Rattle.recitals.specs.Turns.{Play, Step, calls_of, refused_in}

-- how many of some calls the engine refuses
unfoldable pub refused_calls : List Call → Engine → ℕ
refused_calls [] e = 0
refused_calls (x ∷ xs) e = refusal (does x e).status + refused_calls xs (next x e)

-- a render counts as refused exactly those of its calls that are: its renders of single frames are done
abbrev pub RefusedAreCounted : Type 0
RefusedAreCounted =
    (song bank : List ℕ) (ram rom : List ℤ) (to : ℕ) (out : List Float) (p : Player) → p.engine.clock < 4294967296
    → refused_in (Play song bank ram rom to out) p ≡ refused_calls (calls_of (Play song bank ram rom to out) p) p.engine

-- and so does a step
abbrev pub RefusedStepIsCounted : Type 0
RefusedStepIsCounted =
    (song bank : List ℕ) (ram rom : List ℤ) (p : Player)
    → refused_in (Step song bank ram rom) p ≡ refused_calls (calls_of (Step song bank ram rom) p) p.engine
