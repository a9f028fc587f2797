-- What the listing gives at a place, case by case, and where k nexts from opening leave the reader.
use Prim.Native.Nat.{ℕ, ◌+◌, ◌≤◌, ◌<◌, ◌^◌, zero, suc, ◌-◌}
use mathlib.Core.List.{List}
use mathlib.Core.Bool.{true, false, Bool, cond}
use mathlib.Core.Path.{◌≡◌, refl, sym, ap, ◌∙◌}
use native.Mathlib.Omega.{arith}
use borrow.Author.Tests.{lt-ltb, le-ltb, ltb-true, ltb-false}
use lib.Dec.{ltb}
use native.Mathlib.Nat.{add-zero, add-suc}
use native.Mathlib.Numerals.{add-one}
use Rattle.bank.specs.declared.Listed.{Listed}
use Rattle.bank.specs.declared.Listed.TheVariants.{Row, Refused, End}
use Rattle.records.specs.Sides.{parts_of, presets}
use Rattle.records.specs.Headers.{program_of, bank_of}
use Rattle.bank.specs.Admission.{admitted}
use Rattle.bank.proofs.AdmittedLaws.{admitted-room}
use Rattle.bank.specs.Listing.{listed}
use Rattle.records.proofs.ChunksLaws.{chunk_next, chunk-up}
use Rattle.records.specs.Chunks.{bytes_in, records}
use Rattle.reader.specs.Reader.{heads, further, place_after, nth_listed}

-- record k's row
abbrev pub row_at : List ℕ → ℕ → Listed
row_at b k = Row (program_of b (parts_of b) k) (bank_of b (parts_of b) k) (k + 1)

-- ---- one place
module _ (b : List ℕ) where
  pub listed-row : (at : ℕ) → admitted b ≡ true → at < heads b → listed b at ≡ row_at b at
  unfolding listed
  listed-row at well low = simp (well, lt-ltb _ _ low)

  pub listed-end : (at : ℕ) → admitted b ≡ true → heads b ≤ at → listed b at ≡ End
  unfolding listed
  listed-end at well high = simp (well, le-ltb _ _ high)

  pub listed-refused : (at : ℕ) → admitted b ≡ false → listed b at ≡ Refused
  unfolding listed
  listed-refused at bad = simp bad

  -- phdr has fewer records than an admitted bank has bytes
  heads-few : admitted b ≡ true → heads b < 65536
  unfolding parts_of presets records bytes_in
  heads-few well =
      let first = chunk_next b 0 in
      let up = chunk-up b 1 8 in
      omega (arith, first, up, admitted-room b well)

-- ---- a row's next place
-- the next place that a row says, else 0
abbrev next_in : Listed → ℕ
next_in Refused = 0
next_in End = 0
next_in (Row program bank next) = next

-- 1 for a row, else 0
abbrev is_row : Listed → ℕ
is_row Refused = 0
is_row End = 0
is_row (Row program bank next) = 1

chosen : (well low : Bool) (p k n p' k' n' : ℕ) → cond well (cond low (Row p k n) End) Refused ≡ Row p' k' n' → (well ≡ true) × ((low ≡ true) × (n' ≡ n))
chosen true true p k n p' k' n' e = (refl, (refl, sym (ap next_in e)))
chosen true false p k n p' k' n' e = absurd (omega (arith, ap is_row e))
chosen false low p k n p' k' n' e = absurd (omega (arith, ap is_row e))

-- it fits the reader's place
pub row_fits : (b : List ℕ) (at p k n : ℕ) → listed b at ≡ Row p k n → n < 2 ^ 32
unfolding listed
row_fits b at p k n e =
    let g = chosen (admitted b) (ltb at (heads b)) _ _ (at + 1) p k n e in
    omega (arith, g.1.1, ltb-true at (heads b) g.1.0, heads-few b g.0)

-- ---- k nexts
module _ (b : List ℕ) (well : admitted b ≡ true) where
  further-row : (at : ℕ) → at < heads b → further b at ≡ at + 1
  further-row at low = rw (listed-row b at well low) refl

  further-end : (at : ℕ) → heads b ≤ at → further b at ≡ at
  further-end at high = rw (listed-end b at well high) refl

  up_to : (k : ℕ) → k ≤ heads b → place_after b k ≡ k
  unfolding place_after
  up_to zero h = refl
  up_to (suc k) h = rw (up_to k (omega arith)) (further-row k (omega arith) ∙ add-one k)

  from-then-on : (j : ℕ) → place_after b (heads b + j) ≡ heads b
  unfolding place_after
  from-then-on zero = rw add-zero (up_to (heads b) (omega arith))
  from-then-on (suc j) = rw add-suc (rw (from-then-on j) (further-end (heads b) (omega arith)))

  -- the k-th next gives the k-th record of phdr, but the terminal
  pub given-row : (k : ℕ) → k < heads b → nth_listed b k ≡ row_at b k
  given-row k low = rw (up_to k (omega arith)) (listed-row b k well low)

  -- and the end from then on
  pub given-end : (j : ℕ) → nth_listed b (heads b + j) ≡ End
  given-end j = rw (from-then-on j) (listed-end b (heads b) well (omega arith))

-- a bank that is not admitted is refused at each
pub given-refused : (b : List ℕ) → admitted b ≡ false → (k : ℕ) → nth_listed b k ≡ Refused
given-refused b bad k = listed-refused b (place_after b k) bad

-- so the k-th next gives what stands at place k
pub given-listed : (b : List ℕ) (k : ℕ) → nth_listed b k ≡ listed b k
given-listed b k = by (admitted b) refl (ltb k (heads b)) refl
  where
    by : (t : Bool) → admitted b ≡ t → (u : Bool) → ltb k (heads b) ≡ u → nth_listed b k ≡ listed b k
    by false bad u e = given-refused b bad k ∙ sym (listed-refused b k bad)
    by true well true e = let low = ltb-true k (heads b) e in given-row b well k low ∙ sym (listed-row b k well low)
    by true well false e =
        let high = ltb-false k (heads b) e in
        let past : heads b + (k - heads b) ≡ k = omega arith in
        (rw past at (given-end b well (k - heads b))) ∙ sym (listed-end b k well high)
