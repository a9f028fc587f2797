-- Laws of the tracks of a file, one behind the other.
use Rattle.std.proofs.Common.{Some, None}
use mathlib.Core.Bool.{Bool, true, false, cond}
use mathlib.Core.List.{List, [], ◌∷◌, map}
use mathlib.Core.Path.{◌≡◌, refl, sym, ap, ◌∙◌}
use Prim.Native.Nat.{ℕ, zero, suc, ◌+◌, ◌≤◌}
use native.Mathlib.Omega.{arith}
use borrow.Author.Tests.{ltb-false}
use lib.Dec.{ltb, eqb}
use lib.ListN.{length, replicate}
use Rattle.smf.specs.declared.Header.{Header}
use Rattle.smf.specs.declared.Header.TheVariants.{Refused, Track}
use Rattle.smf.specs.Quantities.{four_at}
use Rattle.smf.specs.Head.{chunk_end, track_name, track_from}
use Rattle.merge.specs.declared.Entry.{Entry}
use Rattle.merge.specs.Lanes.{first_entry, flaw_of, lanes_behind, flaw_or, lanes_from, flaw_in}
use Rattle.merge.specs.Internal.Lanes.{tick_of}

-- a track lies in the file
pub track-held : (n : ℕ) (b : List ℕ) (at begin end : ℕ) → track_from n b at ≡ Track begin end → end ≤ length b
unfolding track_from
track-held zero b at begin end e = let z : ◌≡◌ {A = ℕ} 0 1 = cc in absurd (omega arith)
track-held (suc n) b at begin end e =
    go (track-held n b (chunk_end b at) begin end) (ltb (length b) (at + 4)) (ltb (length b) (chunk_end b at)) refl (eqb (four_at b at) track_name) e
  where
    go : (track_from n b (chunk_end b at) ≡ Track begin end → end ≤ length b) → (s t : Bool) → ltb (length b) (chunk_end b at) ≡ t → (u : Bool)
        → cond s (Refused 9 at) (cond t (Refused 9 (at + 4)) (cond u (Track (at + 8) (chunk_end b at)) (track_from n b (chunk_end b at)))) ≡ Track begin end → end ≤ length b
    go more true t f u e = let z : ◌≡◌ {A = ℕ} 0 1 = cc in absurd (omega arith)
    go more false true f u e = let z : ◌≡◌ {A = ℕ} 0 1 = cc in absurd (omega arith)
    go more false false f true e =
        let same : chunk_end b at ≡ end = cc in
        omega (arith, same, ltb-false (length b) (chunk_end b at) f)
    go more false false f false e = more e

module _ (b : List ℕ) (n at : ℕ) where
  -- no further track
  pub lanes-cut : (number place : ℕ) → track_from (length b) b at ≡ Refused number place → (lanes_from (suc n) b at ≡ []) × (flaw_in (suc n) b at ≡ Some place)
  unfolding lanes_from flaw_in
  lanes-cut number place e = (rw (e, lanes_from) refl, rw (e, flaw_in) refl)

  -- a track that has a fault
  pub lanes-flawed : (begin end place : ℕ) → track_from (length b) b at ≡ Track begin end → flaw_of b (first_entry b begin end) ≡ Some place
      → (lanes_from (suc n) b at ≡ first_entry b begin end ∷ []) × (flaw_in (suc n) b at ≡ Some place)
  unfolding lanes_from flaw_in
  lanes-flawed begin end place e f = (rw (e, lanes_from) (rw f refl), rw (e, flaw_in) (rw f refl))

  -- one that has none
  pub lanes_on : (begin end : ℕ) → track_from (length b) b at ≡ Track begin end → flaw_of b (first_entry b begin end) ≡ None
      → (lanes_from (suc n) b at ≡ first_entry b begin end ∷ lanes_from n b end) × (flaw_in (suc n) b at ≡ flaw_in n b end)
  unfolding lanes_from flaw_in
  lanes_on begin end e f = (rw (e, lanes_from) (rw f refl), rw (e, flaw_in) (rw f refl))

-- the ticks of so many tracks that are not there
pub ticks-none : (n : ℕ) (e : Entry) → map tick_of (replicate n e) ≡ replicate n e.tick
ticks-none zero e = refl
ticks-none (suc n) e = ap (λ (ts : List ℕ). e.tick ∷ ts) (ticks-none n e)
