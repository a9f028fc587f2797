-- The parts of a file lie where they should.
use mathlib.Core.List.{List}
use mathlib.Core.Path.{refl}
use Prim.Native.Nat.{ℕ, ◌+◌}
use native.Mathlib.Omega.{arith}
use Rattle.riff.specs.Chunks.{body_end}
use Rattle.riff.specs.Form.{bank_type, data_type, list_body, chunk_body}
use Rattle.riff.specs.Faults.{IsList, IsSamples, FirstOf}
use Rattle.riff.specs.Places.{IsBank, AreSamples, PartsStand, PartsWithin}
use Rattle.riff.proofs.FaultsLaws.{Good, Data, found-facts, list-in}

module _ (b : List ℕ) where
  -- a list's body
  pub bank-is : Good b → (p : ℕ) → FirstOf b (body_end b 0) 12 (IsList b bank_type) p → IsBank b (list_body b p)
  unfolding list_body
  bank-is g p f = record { list = p; first = f; begins = refl; ends = omega (arith, (list-in b g bank_type p f).0) }

  -- a chunk's body
  pub samples-are : (d s : ℕ) → Data b d → FirstOf b (body_end b d) (d + 12) (IsSamples b) s → AreSamples b (chunk_body b s)
  unfolding chunk_body
  samples-are d s f g = record { list = d; chunk = s; first-list = f; first = g; begins = refl; ends = refl }

pub parts-stand : PartsStand
parts-stand b z =
    let f = found-facts b z in
    rw f.is (bank-is b f.good f.p f.bank-is, samples-are b f.d f.s f.data_is f.samples-are)

pub parts_within : PartsWithin
parts_within b z =
    let k = parts-stand b z in
    let g = (found-facts b z).good in
    let d = list-in b g data_type k.1.list k.1.first-list in (
      omega (arith, k.0.ends, k.0.first.stands.whole.body-in, g.formed.body-in),
      omega (arith, k.1.ends, k.1.first.stands.whole.body-in, d.1, g.formed.body-in),
    )
