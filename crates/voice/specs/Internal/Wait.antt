-- The frames of a delay.
use Rattle.std.specs.Prelude.{ℕ}
use Rattle.voice.specs.declared.Stage.{Stage}
use Rattle.voice.specs.declared.Stage.TheVariants.{Delay, Attack, Hold, Decay, Sustain, Release}

-- those that a stage has left
abbrev pub left_in : Stage → ℕ
left_in (Delay left) = left
left_in (Attack t) = 0
left_in (Hold t) = 0
left_in (Decay t) = 0
left_in Sustain = 0
left_in (Release a t) = 0
