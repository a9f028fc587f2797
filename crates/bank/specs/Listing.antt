-- 01, "Bank admission": the listing, a step from one place, a record's number, to the next.
use Rattle.std.specs.Prelude.{cond, List, [], ◌∷◌, ℕ, ◌+◌, ◌-◌, ltb}
use Rattle.bank.specs.Admission.{admitted}
use Rattle.records.specs.Sides.{parts_of}
use Rattle.records.specs.Headers.{program_of, bank_of}
use Rattle.bank.specs.declared.Listed.{Listed}
use Rattle.bank.specs.declared.Listed.TheVariants.{Refused, End, Row}

-- program and bank of the phdr record at a place, and the next place; the end at or past the terminal's
unfoldable pub listed : List ℕ → ℕ → Listed
listed b at =
    let m = parts_of b in
    cond (admitted b) (cond (ltb at (m.presets.nheads - 1)) (Row (program_of b m at) (bank_of b m at) (at + 1)) End) Refused

-- 01's number
abbrev pub listed_number : Listed → ℕ
listed_number Refused = 1
listed_number End = 0
listed_number (Row program bank next) = 0

-- 01's values: program, bank and the next place, where a preset is told
abbrev pub listed_values : Listed → List ℕ
listed_values Refused = []
listed_values End = []
listed_values (Row program bank next) = program ∷ bank ∷ next ∷ []
