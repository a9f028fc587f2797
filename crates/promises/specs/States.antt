-- Reached states: what holds of every voice that sounds after any run. So no guard ever acts (what a definition adds to 01 for
-- values that 01 does not speak of), and a voice reads its own samples.
use Rattle.std.specs.Prelude.{ℕ, zero, suc, ◌+◌, ◌*◌, ◌/◌, ◌<◌, ◌≤◌, true, false, not, ◌&&◌, ◌||◌, ◌≡◌, List, [], ◌∷◌, ◌++◌, ◌⊎◌, eqb, ℤ, pos, length, get_or, take, drop}
use Rattle.arith.specs.Within.{Within}
use Rattle.records.specs.Windows.{loops}
use Rattle.voice.specs.declared.Channel.{Channel}
use Rattle.voice.specs.declared.Stage.{Stage}
use Rattle.voice.specs.declared.Stage.TheVariants.{Attack}
use Rattle.voice.specs.declared.Voice.{Voice}
use Rattle.voice.specs.Stages.{level_at, released}
use Rattle.voice.specs.Motion.{span, folds}
use Rattle.voice.specs.Reading.{sample, before, behind}
use Rattle.voice.specs.Sound.{pan_of}
use Rattle.state.specs.Channels.{channel_at}
use Rattle.state.specs.Quiet.{fresh}
use Rattle.state.specs.Reach.{memory}
use Rattle.state.specs.Seats.{order_of, without, renewed}
use Rattle.state.specs.Slots.{slot_at}
use Rattle.state.specs.declared.Engine.{Engine}
use Rattle.events.specs.Keys.{held, pedal_held}
use Rattle.events.specs.Starting.{start_all, cleared}
use Rattle.engine.specs.Rendering.{window}
use Rattle.promises.specs.Calls.{Call, run, voice_in, frames_run}
use Rattle.promises.specs.Moments.{moment, in_front, stage_in}

-- ---- 1. What holds of every voice that sounds

-- a voice in its bounds
pub record InBounds (v : Voice) : Type 0 where
  -- its channel is one of the 16
  pub channel : v.channel ≤ 15
  -- its mode is 0, 1 or 3
  pub mode : (v.mode ≡ 0) ⊎ (v.mode ≡ 1) ⊎ (v.mode ≡ 3)
  -- in modes 1 and 3, which fold, its loop has a length
  pub loop : loops v.mode ≡ true → v.loopfrom < v.loopto
  -- and lies in its window
  pub loop-in : loops v.mode ≡ true → v.loopto ≤ span v
  -- its place lies in its window
  pub place : v.place < span v * 16777216
  -- and, while it folds, before its loop's end
  pub folded : folds v v.stage ≡ true → v.place < v.loopto * 16777216
  -- its pan is within -500..500
  pub pan : Within v.pan 500
  -- in attack, frame t of N: N is not 0, and t is at most N
  pub attack : (t : ℕ) → v.stage ≡ Attack t → (0 < v.attack) × (t ≤ v.attack)
  -- marked, it is not released
  pub marked : v.marked ≡ true → released v.stage ≡ false
  -- its rate is 400..50,000
  pub rate : (400 ≤ v.rate) × (v.rate ≤ 50000)

-- after any run, every voice that sounds is in its bounds
abbrev pub StatesHold : Type 0
StatesHold = (xs : List Call) (i : ℕ) → (slot_at (run xs fresh) i).sounding ≡ true → InBounds (voice_in i (run xs fresh))

-- and so it is in front of each frame of any run, inside a render too
abbrev pub FramesHold : Type 0
FramesHold =
    (xs : List Call) (i k : ℕ) → (slot_at (in_front k xs fresh) i).sounding ≡ true → InBounds (voice_in i (in_front k xs fresh))

-- ---- 2. So no guard of the definitions acts

-- with each guard taken away, the definitions give the same number of a voice
pub record Unguarded (v : Voice) : Type 0 where
  -- the least in `level_at`, where the panel or a release asks for the level
  pub level : (t : ℕ) → v.stage ≡ Attack t → level_at v.attack t ≡ 16777216 * t / v.attack
  -- the same where a frame does, once spent stages are left: there t is below N
  pub played : (t : ℕ) → stage_in v ≡ Attack t → (t < v.attack) × (level_at v.attack t ≡ 16777216 * t / v.attack)
  -- the test of the loop in `folds`: it folds in mode 1, and in mode 3 until release
  pub folding : (s : Stage) → folds v s ≡ (eqb v.mode 1 || eqb v.mode 3 && not (released s))
  -- the hold in `pan_of`
  pub pan : pan_of v.pan ≡ v.pan

-- that is so after any run
abbrev pub NoGuardActs : Type 0
NoGuardActs = (xs : List Call) (i : ℕ) → (slot_at (run xs fresh) i).sounding ≡ true → Unguarded (voice_in i (run xs fresh))

-- and in front of each frame of any run
abbrev pub NoGuardInFrames : Type 0
NoGuardInFrames =
    (xs : List Call) (i k : ℕ) → (slot_at (in_front k xs fresh) i).sounding ≡ true → Unguarded (voice_in i (in_front k xs fresh))

-- the zero channel in `channel_at` is never read: whatever else stood past the last channel, the answer is the same for every
-- channel that a voice (`InBounds`) or a call past its tests can have
abbrev pub NoZeroChannel : Type 0
NoZeroChannel =
    (xs : List Call) (channel : ℕ) (other : Channel) → channel ≤ 15
    → channel_at (run xs fresh) channel ≡ get_or (run xs fresh).channels channel other

-- a release is never let go again, as `let_go` allows: what a note-off, 123 or a lifted pedal lets go is not released
abbrev pub NoSecondRelease : Type 0
NoSecondRelease =
    (xs : List Call) (channel i : ℕ)
    → (held channel (slot_at (run xs fresh) i) ≡ true) ⊎ (pedal_held channel (slot_at (run xs fresh) i) ≡ true)
    → released (voice_in i (run xs fresh)).stage ≡ false

-- the order of age without its guards
pub record OrderUnguarded (e : Engine) : Type 0 where
  -- the remainder in `order_of`: its entries are slots as they are
  pub entries : order_of e ≡ e.order
  -- the `take` in `renewed`: a slot that is moved behind all others stood in it, so there are no more than before
  pub newest : (i : ℕ) → i < 32 → renewed i e.order ≡ without i e.order ++ (i ∷ [])

-- the state while a note-on starts its layers vs: the rivals are freed, and us are started
abbrev pub amid : ℕ → List Voice → List Voice → Engine → Engine
amid channel vs us e = (start_all us (record { engine = cleared channel vs e; mine = 0 })).engine

-- after any run, and before each layer that a note-on then starts
abbrev pub NoOrderGuard : Type 0
NoOrderGuard =
    (xs : List Call) (channel : ℕ) (vs us : List Voice)
    → OrderUnguarded (run xs fresh) × OrderUnguarded (amid channel vs us (run xs fresh))

-- a voice's window is never the empty one: it is its part of the lent memory, without a test, and has all its samples, one or more
pub record Windowed (ram rom : List ℤ) (v : Voice) : Type 0 where
  pub part : window ram rom v ≡ take (span v) (drop v.start (memory ram rom v))
  pub whole : length (window ram rom v) ≡ span v
  pub some : 0 < span v

-- that is so of every voice that sounds in a frame of any run, with the memories that the frame's render is lent
abbrev pub NoEmptyWindow : Type 0
NoEmptyWindow =
    (xs : List Call) (i k : ℕ) → k < frames_run xs fresh → (slot_at (in_front k xs fresh) i).sounding ≡ true
    → Windowed (moment k xs fresh).ram (moment k xs fresh).rom (voice_in i (in_front k xs fresh))

-- ---- 3. And a voice reads its own samples

-- number j of the voice's window is a sample: number start + j of its lent memory, before the window's end
pub record Sample (ram rom : List ℤ) (v : Voice) (j : ℕ) : Type 0 where
  pub before : v.start + j < v.end
  pub lent : v.start + j < length (memory ram rom v)
  pub is : sample (window ram rom v) j ≡ get_or (memory ram rom v) (v.start + j) (pos 0)

-- it is one of the first n zeros behind the window's last sample
pub record Behind (ram rom : List ℤ) (v : Voice) (n j : ℕ) : Type 0 where
  pub behind : v.end ≤ v.start + j
  pub near : v.start + j < v.end + n
  pub zero : sample (window ram rom v) j ≡ pos 0

-- the number of the sample at the voice's place
abbrev pub first_of : Voice → ℕ
first_of v = v.place / 16777216

-- the one behind it
abbrev pub second_of : Voice → ℕ
second_of v = behind (folds v (stage_in v)) v.loopfrom v.loopto (first_of v)

-- and the one behind that
abbrev pub third_of : Voice → ℕ
third_of v = behind (folds v (stage_in v)) v.loopfrom v.loopto (second_of v)

-- what stands before number j: a sample and the one before it in the memory, or the 0 in front of the window
abbrev pub Before : (ram rom : List ℤ) → Voice → ℕ → Type 0
Before ram rom v zero = before (window ram rom v) 0 ≡ pos 0
Before ram rom v (suc j) = (before (window ram rom v) (suc j) ≡ sample (window ram rom v) j) × Sample ram rom v j

-- the four numbers that a frame reads at the voice's place: a sample; before it a sample or the 0 in front; behind it samples or, where it does not fold, zeros
pub record ReadsOwn (ram rom : List ℤ) (v : Voice) : Type 0 where
  pub fore : Before ram rom v (first_of v)
  pub first : Sample ram rom v (first_of v)
  pub second : Sample ram rom v (second_of v) ⊎ ((folds v (stage_in v) ≡ false) × Behind ram rom v 1 (second_of v))
  pub third : Sample ram rom v (third_of v) ⊎ ((folds v (stage_in v) ≡ false) × Behind ram rom v 2 (third_of v))

-- so it is in each frame of any run, while the voice sounds
abbrev pub OnlyItsSamples : Type 0
OnlyItsSamples =
    (xs : List Call) (i k : ℕ) → k < frames_run xs fresh → (slot_at (in_front k xs fresh) i).sounding ≡ true
    → ReadsOwn (moment k xs fresh).ram (moment k xs fresh).rom (voice_in i (in_front k xs fresh))
