-- 01, "Bank admission": the listing reader, as steps of the listing from place to place.
use Rattle.std.specs.Prelude.{ℕ, zero, suc, ◌-◌, List}
use Rattle.std.specs.Borrow.{Bor}
use Rattle.bank.specs.declared.Listed.{Listed}
use Rattle.bank.specs.declared.Listed.TheVariants.{Refused, End, Row}
use Rattle.bank.specs.Listing.{listed}
use Rattle.bank.specs.Admission.{fault_number, fault_of}
use Rattle.reader.specs.declared.Opened.{Opened}
use Rattle.reader.specs.declared.Reader.{Reader}
use Rattle.reader.specs.declared.Taken.{Taken}
use Rattle.records.specs.Sides.{parts_of}

-- the place behind what stands at a place: the row's next, else the place itself
abbrev pub place_behind : Listed → ℕ → ℕ
place_behind Refused at = at
place_behind End at = at
place_behind (Row program bank next) at = next

-- where a next leaves the reader
abbrev pub further : List ℕ → ℕ → ℕ
further b at = place_behind (listed b at) at

-- opening: 01's number, and the reader at record 0 over the bank that was lent
abbrev pub opened_of : Bor (List ℕ) → Opened
opened_of s = record { number = fault_number (fault_of s.now); reader = record { bank = s; place = 0 } }

-- a next: what stands at the place, and the reader one further over the same bank
abbrev pub next_of : Reader → Taken
next_of r = record { listed = listed r.bank.now r.place; reader = record { bank = r.bank; place = further r.bank.now r.place } }

-- the place after k nexts from opening
unfoldable pub place_after : List ℕ → ℕ → ℕ
place_after b zero = 0
place_after b (suc k) = further b (place_after b k)

-- what the k-th next from opening gives, counted from 0
abbrev pub nth_listed : List ℕ → ℕ → Listed
nth_listed b k = listed b (place_after b k)

-- how many phdr records there are but the terminal
abbrev pub heads : List ℕ → ℕ
heads b = (parts_of b).presets.nheads - 1
