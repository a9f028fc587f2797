-- `reader::nth` meets its contract: so many nexts lead to that very place.
use Rattle.std.proofs.Common.{ap, sym, ◌∙◌}
use Rattle.reader.specs.declared.Taken.{Taken}
use Rattle.reader.proofs.ReaderLaws.{given-listed}
use Rattle.reader.proofs.nth.Goals as goal

pub returns : goal.returns
returns c = ap (λ (t : Taken). t.listed) c.next.ensures ∙ sym (given-listed c.args.bank.now c.args.k)
