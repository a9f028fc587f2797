-- The answers of the calls by 02's numbers: 0 where a call is done.
use Rattle.std.specs.Prelude.{ℕ, Result, Ok, Err}
use Rattle.wave.specs.declared.answers.Refusal.{Refusal}
use Rattle.wave.specs.declared.answers.Refusal.TheVariants.{NotOutput, TooLong, NoRoom, NotRecording}
use Rattle.wave.specs.declared.answers.Poured.{Poured}

-- the number of a refusal
abbrev pub refusal_number : Refusal → ℕ
refusal_number NotOutput = 13
refusal_number TooLong = 14
refusal_number NoRoom = 15
refusal_number NotRecording = 28

-- the number of an answer
abbrev pub told_number : Result (Unit {0}) Refusal → ℕ
told_number (Ok _) = 0
told_number (Err r) = refusal_number r

-- what is told of a file that is read: the number, and its frames; 0 where it is refused
pub record Heard : Type 0 where
  pub number : ℕ
  pub frames : ℕ

-- an answer of the reader as it is told
abbrev pub told_heard : Result ℕ Refusal → Heard
told_heard (Ok frames) = record { number = 0; frames = frames }
told_heard (Err r) = record { number = refusal_number r; frames = 0 }

-- what is told of sums that are poured: the number, the frames that were held, and the largest size of a sum; refused, the last two are 0
pub record SumsTold : Type 0 where
  pub number : ℕ
  pub held : ℕ
  pub loudest : ℕ

-- an answer of a pour of sums as it is told
abbrev pub told_sums : Result Poured Refusal → SumsTold
told_sums (Ok p) = record { number = 0; held = p.held; loudest = p.loudest }
told_sums (Err r) = record { number = refusal_number r; held = 0; loudest = 0 }
