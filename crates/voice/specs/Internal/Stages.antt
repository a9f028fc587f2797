-- Room for frames more in a stage's count.
use Rattle.std.specs.Prelude.{ℕ, ◌+◌, ◌<◌, ◌≡◌, false}
use Rattle.voice.specs.declared.Stage.{Stage}
use Rattle.voice.specs.declared.Stage.TheVariants.{Delay, Attack, Hold, Decay, Sustain, Release}
use Rattle.voice.specs.declared.Voice.{Voice}
use Rattle.voice.specs.Stages.{dead}

-- j frames more are a 32-bit count
abbrev pub RoomBy : ℕ → Stage → Type 0
RoomBy j (Delay left) = Unit {0}
RoomBy j (Attack t) = t + j < 4294967296
RoomBy j (Hold t) = t + j < 4294967296
RoomBy j (Decay t) = t + j < 4294967296
RoomBy j Sustain = Unit {0}
RoomBy j (Release a t) = t + j < 4294967296

-- alive in stage s, it has room there for one frame more
abbrev pub Roomy : Voice → Stage → Type 0
Roomy v s = dead v s ≡ false → RoomBy 1 s
