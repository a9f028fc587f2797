-- 01, "A voice, frame by frame": attenuation, gain, level, pan.
use Rattle.std.specs.Prelude.{ℤ, pos, ◌+ℤ◌, negsuc, ◌*ℤ◌, ◌-ℤ◌, ℕ}
use Rattle.curves.specs.Levels.{cb_of, gain_of}
use Rattle.voice.specs.declared.Voice.{Voice}
use Rattle.voice.specs.declared.Channel.{Channel}
use Rattle.arith.specs.Floors.{floor_z}
use Rattle.voice.specs.declared.Stage.{Stage}
use Rattle.voice.specs.declared.Stage.TheVariants.{Delay, Attack, Hold, Decay, Sustain, Release}
use Rattle.voice.specs.Stages.{level_at}
use Rattle.arith.specs.Holds.{held_to}

-- generator 48 and velocity, 7 and 11 as they stand
unfoldable pub loss : Channel → Voice → ℤ
loss c v = v.attenuation +ℤ pos (cb_of c.volume) +ℤ pos (cb_of c.expression)

-- z, or 0 where it is below
abbrev pub least0 : ℤ → ℕ
least0 (pos n) = n
least0 (negsuc n) = 0

-- the attenuation, at least 0
abbrev pub whole_loss : ℤ → ℕ → ℕ
whole_loss loss envelope = least0 (loss +ℤ pos envelope)

-- floor(reading * gain / 2^16)
unfoldable pub gained : ℤ → ℕ → ℤ
gained x a = floor_z (x *ℤ pos (gain_of a)) 65536

-- in attack, then floor(u * level / 2^24)
abbrev pub shaped : Voice → Stage → ℤ → ℤ
shaped v (Delay left) u = u
shaped v (Attack t) u = floor_z (u *ℤ pos (level_at v.attack t)) 16777216
shaped v (Hold t) u = u
shaped v (Decay t) u = u
shaped v Sustain u = u
shaped v (Release a t) u = u

-- the pan, held to -500..500 as its total is
abbrev pub pan_of : ℤ → ℤ
pan_of p = held_to (negsuc 499) (pos 500) p

-- left: floor(u * (500 - p) / 1,000)
unfoldable pub left_of : ℤ → ℤ → ℤ
left_of u p = floor_z (u *ℤ (pos 500 -ℤ pan_of p)) 1000

-- right: floor(u * (500 + p) / 1,000)
unfoldable pub right_of : ℤ → ℤ → ℤ
right_of u p = floor_z (u *ℤ (pos 500 +ℤ pan_of p)) 1000
