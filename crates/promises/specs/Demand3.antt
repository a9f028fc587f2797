-- Demand 3: the place of a voice after n frames, over any run of calls, from any frame of it to any other.
use Rattle.std.specs.Prelude.{ℕ, ◌<◌, ◌*◌, ◌+◌, ◌-◌, ◌^◌, ◌≤◌, ℤ, pos, ◌+ℤ◌, true, false, cond, ◌≡◌, List, [], ◌∷◌}
use Rattle.voice.specs.Motion.{pitch_total, folds, folded}
use Rattle.state.specs.declared.Engine.{Engine}
use Rattle.state.specs.Channels.{channel_at}
use Rattle.promises.specs.Calls.{voice_in, Call, next, frames_of, starts_in, among, run, frames_run}
use Rattle.state.specs.Slots.{slot_at}
use Rattle.curves.specs.Pitch.{step_of, lifted}
use Rattle.voice.specs.declared.Voice.{Voice}
use Rattle.voice.specs.Stages.{past, released, dead, envelope}
use Rattle.voice.specs.Sound.{loss, whole_loss, gained, shaped, left_of, right_of}
use Rattle.voice.specs.Reading.{reading}
use Rattle.engine.specs.Rendering.{window}
use Rattle.promises.specs.Moments.{Moment, state_at, in_front, started_at, adds_left, adds_right, stage_in}
use Rattle.state.specs.Quiet.{fresh}

-- its pitch total as it stands
abbrev pub cents_in : ℕ → Engine → ℤ
cents_in i e = pitch_total (channel_at e (voice_in i e).channel) (voice_in i e)

-- from frame a to frame b of a run the voice in slot i is neither ended nor taken (where no voice is started, a slot sounds at
-- b only if it has sounded since a), and in each frame its pitch total is c
pub record Stays (i : ℕ) (c : ℤ) (a b : ℕ) (xs : List Call) (e : Engine) : Type 0 where
  pub lives : (slot_at (in_front b xs e) i).sounding ≡ true
  pub own : (k : ℕ) → a < k → k ≤ b → started_at i k xs e ≡ false
  pub tuned : (k : ℕ) → a ≤ k → k < b → cents_in i (in_front k xs e) ≡ c

-- a call neither ends nor takes the voice in slot i, and where it renders a frame the pitch total is c
pub record Keeps (i : ℕ) (c : ℤ) (x : Call) (e : Engine) : Type 0 where
  pub lives : (slot_at (next x e) i).sounding ≡ true
  pub own : among i (starts_in x e) ≡ false
  pub tuned : 0 < frames_of x e → cents_in i e ≡ c

-- so does each call of a run
abbrev pub KeepsAll : ℕ → ℤ → List Call → Engine → Type 0
KeepsAll i c [] e = Unit {0}
KeepsAll i c (x ∷ xs) e = Keeps i c x e × KeepsAll i c xs (next x e)

-- u of the frame at a moment, for a voice v of it: its window read at its place, at its gain, and in attack at its level
abbrev pub amplitude : Moment → Voice → ℤ
amplitude m v =
    shaped v (stage_in v)
    (gained (reading (folds v (stage_in v)) v.loopfrom v.loopto (window m.ram m.rom v) v.place)
    (whole_loss (loss (channel_at (state_at m) v.channel) v) (envelope v (stage_in v))))

-- A: n times 01's step
abbrev pub advance : ℕ → ℤ → Voice → ℕ
advance n c v = n * step_of (lifted c) v.rate

-- what is said of the place: moved by A, folded while it loops; and A <= n * X < A + 2n, with X = 2^24 * 2^(c/1,200) * rate/44,100.
-- Both sides stand times 44,100 and in 1,200th powers, over whole numbers:
-- (n * X * 44,100)^1200 = n^1200 * 2^(28,800 + c) * rate^1200, where 28,800 is 24 * 1,200 and lifted c + 19,200 is 28,800 + c
pub record Moved (i : ℕ) (c : ℤ) (n : ℕ) (before after : Engine) : Type 0 where
  pub place :
      (voice_in i after).place
      ≡ cond (folds (voice_in i after) (voice_in i after).stage)
      (folded (voice_in i before) ((voice_in i before).place + advance n c (voice_in i before)))
      ((voice_in i before).place + advance n c (voice_in i before))
  pub above :
      (advance n c (voice_in i before) * 44100) ^ 1200
      ≤ n ^ 1200 * (2 ^ (lifted c + 19200) * (voice_in i before).rate ^ 1200)
  pub below :
      n ^ 1200 * (2 ^ (lifted c + 19200) * (voice_in i before).rate ^ 1200)
      < ((advance n c (voice_in i before) + n * 2) * 44100) ^ 1200
  pub exponent : pos (lifted c + 19200) ≡ pos 28800 +ℤ c

-- any two frames a < b of any run, inside a render too: a voice that sounds in front of frame a and is past its delay there has
-- moved by b - a steps in front of frame b; if its loop stops at release, it is not released between them. (A rate of
-- 400..50,000 is what every sounding voice has, `RatesHold`.)
abbrev pub PlaceBetween : Type 0
PlaceBetween =
    (xs : List Call) (e : Engine) (i a b : ℕ) (c : ℤ) → a < b → b ≤ frames_run xs e →
    (slot_at (in_front a xs e) i).sounding ≡ true →
    past (voice_in i (in_front a xs e)).stage ≡ true →
    (400 ≤ (voice_in i (in_front a xs e)).rate) × ((voice_in i (in_front a xs e)).rate ≤ 50000) →
    Stays i c a b xs e →
    ((voice_in i (in_front a xs e)).mode ≡ 3
    → released (voice_in i (in_front b xs e)).stage ≡ released (voice_in i (in_front a xs e)).stage) →
    Moved i c (b - a) (in_front a xs e) (in_front b xs e)

-- so, from the fresh state, nothing is to be supposed but what the customer says
abbrev pub PlaceBetweenAlways : Type 0
PlaceBetweenAlways =
    (xs : List Call) (i a b : ℕ) (c : ℤ) → a < b → b ≤ frames_run xs fresh →
    (slot_at (in_front a xs fresh) i).sounding ≡ true →
    past (voice_in i (in_front a xs fresh)).stage ≡ true →
    Stays i c a b xs fresh →
    ((voice_in i (in_front a xs fresh)).mode ≡ 3
    → released (voice_in i (in_front b xs fresh)).stage ≡ released (voice_in i (in_front a xs fresh)).stage) →
    Moved i c (b - a) (in_front a xs fresh) (in_front b xs fresh)

-- what slot i adds at a moment is what is read at the place of its voice v there, panned
pub record ReadAt (i : ℕ) (m : Moment) (v : Voice) : Type 0 where
  pub left : adds_left i m ≡ left_of (amplitude m v) v.pan
  pub right : adds_right i m ≡ right_of (amplitude m v) v.pan

-- in every frame of a voice that is past its delay and does not end before it is read
abbrev pub ReadAtThePlace : Type 0
ReadAtThePlace =
    (i : ℕ) (m : Moment) → (slot_at (state_at m) i).sounding ≡ true → past (voice_in i (state_at m)).stage ≡ true →
    dead (voice_in i (state_at m)) (stage_in (voice_in i (state_at m))) ≡ false →
    ReadAt i m (voice_in i (state_at m))

-- a voice past its delay, through a run that renders n frames, one or more; if its loop stops at release, not released there
abbrev pub PlaceHolds : Type 0
PlaceHolds =
    (i : ℕ) (c : ℤ) (xs : List Call) (e : Engine) →
    (slot_at e i).sounding ≡ true →
    past (voice_in i e).stage ≡ true →
    (400 ≤ (voice_in i e).rate) × ((voice_in i e).rate ≤ 50000) →
    0 < frames_run xs e →
    KeepsAll i c xs e →
    ((voice_in i e).mode ≡ 3 → released (voice_in i (run xs e)).stage ≡ released (voice_in i e).stage) →
    Moved i c (frames_run xs e) e (run xs e)

-- every voice that sounds after any run has such a rate
abbrev pub RatesHold : Type 0
RatesHold =
    (before : List Call) (i : ℕ) → (slot_at (run before fresh) i).sounding ≡ true →
    (400 ≤ (voice_in i (run before fresh)).rate) × ((voice_in i (run before fresh)).rate ≤ 50000)

-- so, after any run, nothing is to be supposed but what the customer says
abbrev pub PlaceHoldsAlways : Type 0
PlaceHoldsAlways =
    (before : List Call) (i : ℕ) (c : ℤ) (xs : List Call) →
    (slot_at (run before fresh) i).sounding ≡ true →
    past (voice_in i (run before fresh)).stage ≡ true →
    0 < frames_run xs (run before fresh) →
    KeepsAll i c xs (run before fresh) →
    ((voice_in i (run before fresh)).mode ≡ 3
    → released (voice_in i (run xs (run before fresh))).stage ≡ released (voice_in i (run before fresh)).stage) →
    Moved i c (frames_run xs (run before fresh)) (run before fresh) (run xs (run before fresh))
