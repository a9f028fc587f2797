-- The panel: it is told the stage by its name, and its level exactly where the stage has one.
use Rattle.std.specs.Prelude.{ℕ, ◌<◌, ◌≡◌, true, false, [], ◌∷◌, pos, Float}
use Rattle.arith.specs.Floats.{Over}
use Rattle.curves.specs.Levels.{gain_of}
use Rattle.voice.specs.declared.Shown.{Shown}
use Rattle.voice.specs.declared.Stage.{Stage}
use Rattle.voice.specs.declared.Stage.TheVariants.{Delay, Attack, Hold, Decay, Sustain, Release}
use Rattle.voice.specs.declared.Voice.{Voice}
use Rattle.voice.specs.Stages.{level_at, envelope}
use Rattle.state.specs.declared.Engine.{Engine}
use Rattle.state.specs.Board.{ask}
use Rattle.state.specs.Slots.{slot_at}
use Rattle.promises.specs.Calls.{Ask, does, told, voice_in}
use Rattle.voice.specs.declared.Shown.TheVariants as is

-- the answer names a stage that has no level; its number is 0 and it has no value
pub record Named (i : ℕ) (e : Engine) (stage : Shown) : Type 0 where
  pub names : ask i e ≡ stage
  pub number : (does (Ask i) e).status ≡ 0
  pub values : told (Ask i) e ≡ []

-- the answer names a stage with its level: n 2^-24 of full, exactly; its number is 0 and the level is its one value
pub record WithLevel (i : ℕ) (e : Engine) (stage : Float → Shown) (n : ℕ) : Type 0 where
  pub level : Float
  pub exact : Over level (pos n) 16777216
  pub names : ask i e ≡ stage level
  pub number : (does (Ask i) e).status ≡ 0
  pub values : told (Ask i) e ≡ level ∷ []

-- each stage by its own name: the attack with its level; decay, sustain and release with the envelope's gain
abbrev pub Tells : ℕ → Engine → Voice → Stage → Type 0
Tells i e v (Delay left) = Named i e is.Delay
Tells i e v (Attack t) = WithLevel i e is.Attack (level_at v.attack t)
Tells i e v (Hold t) = Named i e is.Hold
Tells i e v (Decay t) = WithLevel i e is.Decay (gain_of (envelope v (Decay t)))
Tells i e v Sustain = WithLevel i e is.Sustain (gain_of (envelope v Sustain))
Tells i e v (Release a t) = WithLevel i e is.Release (gain_of (envelope v (Release a t)))

-- a slot that sounds is told by its voice's stage, and one that does not is free; the state is asked, not changed
abbrev pub PanelIsExact : Type 0
PanelIsExact =
    (i : ℕ) (e : Engine) → i < 32
    → ((slot_at e i).sounding ≡ true → Tells i e (voice_in i e) (voice_in i e).stage)
    × ((slot_at e i).sounding ≡ false → Named i e is.Free)
    × ((does (Ask i) e).engine ≡ e)
