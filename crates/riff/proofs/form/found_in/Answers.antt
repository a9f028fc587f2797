-- The chunks of the sdta list lie in the form, and a list that is found has room for its type.
use Rattle.std.proofs.Common.{◌≡◌, ◌≤◌, ◌<◌, ℕ, List, arith, rules}
use Rattle.riff.specs.Chunks.{size_at, list_name, first_at}
use Rattle.riff.specs.Form.{bank_at, bank_type}
use Rattle.riff.proofs.ChunksLaws.{list-typed}
use Rattle.riff.proofs.FormLaws.{span-in, bank-hit}
use Rattle.riff.proofs.form.found_in.Goals as goal

-- the pdta list that is found has room for its type
bank_typed : (b : List ℕ) (end at : ℕ) → at ≡ first_at b end list_name bank_type 12 → at < end → 4 ≤ size_at b at
unfolding bank_at
bank_typed b end at e h =
    let k = bank-hit b end (omega (arith, e, h)) in
    rw e (list-typed b end bank_type _ k.whole k.named)

pub all_whole-requires : goal.all_whole-requires
all_whole-requires c =
    let within = rw (← c.data_span-data.ensures) at (span-in c.args.b.now c.args.end) in
    (within.0, omega (arith, within))

pub sought-requires : goal.sought-requires
sought-requires c =
    let within = rw (← c.data_span-data.ensures) at (span-in c.args.b.now c.args.end) in
    (within.0, omega (arith, within))

pub list_body-requires-clause-typed : goal.list_body-requires-clause-typed
list_body-requires-clause-typed c = search (rules, bank_typed)

pub chunk_body-requires : goal.chunk_body-requires
chunk_body-requires c =
    let within = rw (← c.data_span-data.ensures) at (span-in c.args.b.now c.args.end) in
    let inside : c.in_ok-samples.samples < c.data_span-data.result.end = search rules in
    omega (arith, within, inside)
