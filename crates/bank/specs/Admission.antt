-- 01, "Bank admission", as seven tests, of which the first at fault counts. Each gives the first byte place at fault, or nothing.
use Rattle.std.specs.Prelude.{List, ℕ, ltb, eqb, length, Bool, Option, None, Some, Result, Ok, Err}
use Rattle.std.specs.Result.{result_and}
use Rattle.records.specs.Looking.{given}
use Rattle.records.specs.Sides.{parts_of}
use Rattle.bank.specs.declared.Fault.{Fault}
use Rattle.bank.specs.declared.FaultKind.{FaultKind}
use Rattle.bank.specs.declared.FaultKind.TheVariants.{Long, Chunk, Records, Index, Number, Rate, Window}
use Rattle.bank.specs.Framing.{chunk_fault, records_fault}
use Rattle.bank.specs.Indexes.{index_fault}
use Rattle.bank.specs.Links.{number_fault}
use Rattle.bank.specs.Rates.{rate_fault}
use Rattle.bank.specs.Bounds.{window_fault}

-- 1. too long
unfoldable pub long_fault : List ℕ → Option ℕ
long_fault b = given (ltb 65536 (length b)) 65536

-- a test's answer: the place that it found is a fault of its kind
abbrev pub fault_at : FaultKind → Option ℕ → Result (Unit {0}) Fault
fault_at kind None = Ok tt
fault_at kind (Some p) = Err (record { kind = kind; place = p })

-- the first kind at fault, with its place
unfoldable pub fault_of : List ℕ → Result (Unit {0}) Fault
fault_of b =
    let m = parts_of b in
    result_and (fault_at Long (long_fault b))
    (result_and (fault_at Chunk (chunk_fault b))
    (result_and (fault_at Records (records_fault b))
    (result_and (fault_at Index (index_fault b m))
    (result_and (fault_at Number (number_fault b m))
    (result_and (fault_at Rate (rate_fault b m))
    (fault_at Window (window_fault b m)))))))

-- 01's number for each: 1 where the bank is not admitted
abbrev pub fault_number : Result (Unit {0}) Fault → ℕ
fault_number (Ok u) = 0
fault_number (Err f) = 1

-- a bank is admitted where nothing is at fault
unfoldable pub admitted : List ℕ → Bool
admitted b = eqb (fault_number (fault_of b)) 0
