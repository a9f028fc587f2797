-- 01, the table: a number of 0 is done; any other refuses, with count 0 and the state as it was.
use Rattle.std.specs.Prelude.{ℕ, cond, Bool, ◌||◌, eqb, ltb, Result, Ok, Err}
use Rattle.state.specs.declared.Engine.{Engine}
use Rattle.state.specs.declared.Refusal.{Refusal}
use Rattle.state.specs.declared.Refusal.TheVariants.{NotAdmitted, OutOfRange, NoPreset, TooManyLayers, ClockBehind, TooManyFrames, OutputTooShort, PastMemory}

-- what a call leaves: 01's number (0: done), a count, and the state after
pub record Answered : Type 0 where
  pub status : ℕ
  pub count : ℕ
  pub engine : Engine

-- done, with a count and the state after
abbrev pub done : ℕ → Engine → Answered
done n e = record { status = 0; count = n; engine = e }

-- refused with a number
abbrev pub refused : ℕ → Engine → Answered
refused n e = record { status = n; count = 0; engine = e }

-- the number of a refusal
abbrev pub number : Refusal → ℕ
number NotAdmitted = 1
number OutOfRange = 2
number NoPreset = 3
number TooManyLayers = 4
number ClockBehind = 5
number TooManyFrames = 6
number OutputTooShort = 7
number PastMemory = 8

-- the number of an answer: 0 where it is done
abbrev pub status_of : {A : Type 0} → Result A Refusal → ℕ
status_of (Ok a) = 0
status_of (Err r) = number r

-- the count of an answer: 0 where it is refused
abbrev pub count_of : Result ℕ Refusal → ℕ
count_of (Ok n) = n
count_of (Err r) = 0

-- what a call leaves, by its answer and the state after
abbrev pub told_call : Result ℕ Refusal → Engine → Answered
told_call r e = record { status = status_of r; count = count_of r; engine = e }

-- the answer where the tests gave a number (0: none)
abbrev pub answer : ℕ → Engine → Answered → Answered
answer number e a = cond (eqb number 0) a (refused number e)

-- 2: the channel is past 15, or a past 127
abbrev pub past_one : ℕ → ℕ → Bool
past_one channel a = ltb 15 channel || ltb 127 a

-- 2: the channel is past 15, or a or b past 127
abbrev pub past_two : ℕ → ℕ → ℕ → Bool
past_two channel a b = ltb 15 channel || ltb 127 a || ltb 127 b

-- 2: the channel is past 15, or the bend past 16,383
abbrev pub past_bend : ℕ → ℕ → Bool
past_bend channel bend = ltb 15 channel || ltb 16383 bend
