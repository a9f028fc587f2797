-- What a shelf of readers shows: rows in file order, then the end.
use mathlib.Core.List.{List, [], ◌∷◌, ◌++◌}
use Prim.Native.Nat.{ℕ, zero, suc, ◌+◌, ◌≤◌}
use denote.Ref.{Bor}
use mathlib.Core.Bool.{true, false}
use mathlib.Core.Path.{◌≡◌, refl, ap, ap₂, ◌∙◌}
use native.Mathlib.Nat.{add-zero, add-suc}
use native.Mathlib.Omega.{arith}
use Rattle.reader.specs.Reader.{opened_of, next_of, place_after, nth_listed, heads}
use Rattle.reader.specs.declared.Reader.{Reader}
use Rattle.bank.specs.declared.Listed.{Listed}
use Rattle.reader.proofs.ReaderLaws.{row_at, given-row, given-end, given-refused}
use Rattle.bank.specs.Admission.{admitted}
use Rattle.bank.specs.declared.Listed.TheVariants.{Refused, End}

-- the reader after k nexts from opening
unfoldable pub reader_after : Bor (List ℕ) → ℕ → Reader
reader_after s zero = (opened_of s).reader
reader_after s (suc k) = (next_of (reader_after s k)).reader

-- what the first k nexts from opening give, one behind the other
unfoldable pub nexts : Bor (List ℕ) → ℕ → List Listed
nexts s zero = []
nexts s (suc k) = nexts s k ++ ((next_of (reader_after s k)).listed ∷ [])

-- the rows of phdr's first n records, in file order
unfoldable pub rows : List ℕ → ℕ → List Listed
rows b zero = []
rows b (suc n) = rows b n ++ (row_at b n ∷ [])

-- a list with the same answer j times behind it
unfoldable pub followed : List Listed → Listed → ℕ → List Listed
followed ls l zero = ls
followed ls l (suc j) = followed ls l j ++ (l ∷ [])

abbrev with-last : List Listed → Listed → List Listed
with-last ls l = ls ++ (l ∷ [])

module _ (s : Bor (List ℕ)) where
  -- the bank stays, and the place is the listing's
  reader-after : (k : ℕ) → reader_after s k ≡ record { bank = s; place = place_after s.now k }
  unfolding reader_after place_after
  reader-after zero = refl
  reader-after (suc k) = ap (λ (r : Reader). (next_of r).reader) (reader-after k)

  -- so the k-th next gives what `nth` gives
  pub next-gives : (k : ℕ) → (next_of (reader_after s k)).listed ≡ nth_listed s.now k
  next-gives k = ap (λ (r : Reader). (next_of r).listed) (reader-after k)

  module _ (well : admitted s.now ≡ true) where
    -- k nexts from opening give the first k records
    pub first-records : (k : ℕ) → k ≤ heads s.now → nexts s k ≡ rows s.now k
    unfolding nexts rows
    first-records zero h = refl
    first-records (suc k) h = ap₂ with-last (first-records k (omega arith)) (next-gives k ∙ given-row s.now well k (omega arith))

    -- and the end from then on
    pub then-the-end : (j : ℕ) → nexts s (heads s.now + j) ≡ followed (rows s.now (heads s.now)) End j
    unfolding nexts followed
    then-the-end zero = rw add-zero (first-records (heads s.now) (omega arith))
    then-the-end (suc j) = rw add-suc (ap₂ with-last (then-the-end j) (next-gives (heads s.now + j) ∙ given-end s.now well j))

  -- a bank that is not admitted is refused at each next
  pub refused-always : admitted s.now ≡ false → (k : ℕ) → nexts s k ≡ followed [] Refused k
  unfolding nexts followed
  refused-always bad zero = refl
  refused-always bad (suc k) = ap₂ with-last (refused-always bad k) (next-gives k ∙ given-refused s.now bad k)
