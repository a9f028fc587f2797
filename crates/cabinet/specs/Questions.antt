-- What the panel is told of a slot, as two numbers.
use Rattle.std.specs.Prelude.{ℕ, Float}
use Rattle.std.specs.Float.{binary32}
use Rattle.std.specs.Float.Ieee.{of_bits}
use Rattle.voice.specs.declared.Shown.{Shown}
use Rattle.voice.specs.declared.Shown.TheVariants as is

-- its stage: 0 delay, 1 attack, 2 hold, 3 decay, 4 sustain, 5 release, 6 a free slot, 7 a slot past 31, which is refused
abbrev pub lamp_stage : Shown → ℕ
lamp_stage is.Delay = 0
lamp_stage (is.Attack x) = 1
lamp_stage is.Hold = 2
lamp_stage (is.Decay x) = 3
lamp_stage (is.Sustain x) = 4
lamp_stage (is.Release x) = 5
lamp_stage is.Free = 6
lamp_stage is.Refused = 7

-- the number 0: all its bits are 0
abbrev pub no_level : Float
no_level = of_bits binary32 0

-- its level, 0 where a stage has none
abbrev pub lamp_level : Shown → Float
lamp_level is.Delay = no_level
lamp_level (is.Attack x) = x
lamp_level is.Hold = no_level
lamp_level (is.Decay x) = x
lamp_level (is.Sustain x) = x
lamp_level (is.Release x) = x
lamp_level is.Free = no_level
lamp_level is.Refused = no_level
