-- What is told of a bank's bytes, as numbers.
use Rattle.std.specs.Prelude.{ℕ, Result, Ok, Err}
use Rattle.bank.specs.declared.Fault.{Fault}
use Rattle.bank.specs.declared.FaultKind.{FaultKind}
use Rattle.bank.specs.declared.FaultKind.TheVariants as of
use Rattle.bank.specs.declared.Listed.{Listed}
use Rattle.bank.specs.declared.Listed.TheVariants as on

-- which of admission's seven tests finds a kind
abbrev pub test_number : FaultKind → ℕ
test_number of.Long = 1
test_number of.Chunk = 2
test_number of.Records = 3
test_number of.Index = 4
test_number of.Number = 5
test_number of.Rate = 6
test_number of.Window = 7

-- a fault's kind: 0 none, and else which test found it
abbrev pub fault_kind : Result (Unit {0}) Fault → ℕ
fault_kind (Ok u) = 0
fault_kind (Err f) = test_number f.kind

-- its place, 0 where there is none
abbrev pub fault_place : Result (Unit {0}) Fault → ℕ
fault_place (Ok u) = 0
fault_place (Err f) = f.place

-- a row of the listing: 0, refused: 1, the end: 2
abbrev pub row_kind : Listed → ℕ
row_kind (on.Row p b n) = 0
row_kind on.Refused = 1
row_kind on.End = 2

-- its program, its bank and the next place, 0 where there is no row
abbrev pub row_program : Listed → ℕ
row_program (on.Row p b n) = p
row_program on.Refused = 0
row_program on.End = 0

-- ..
abbrev pub row_bank : Listed → ℕ
row_bank (on.Row p b n) = b
row_bank on.Refused = 0
row_bank on.End = 0

-- ..
abbrev pub row_next : Listed → ℕ
row_next (on.Row p b n) = n
row_next on.Refused = 0
row_next on.End = 0
