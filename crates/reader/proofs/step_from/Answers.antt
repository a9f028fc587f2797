-- `reader::step_from` meets its contract.
use Rattle.std.proofs.Common.{sym, ◌∙◌}
use Rattle.reader.proofs.ReaderLaws.{row_fits}
use Rattle.reader.proofs.step_from.Goals as goal

pub overflow_cast-result : goal.overflow_cast-result
overflow_cast-result c = record { fits = row_fits c.args.bank.now c.args.place _ _ _ (sym c.listed_at-listed.ensures ∙ c.in-Row.is) }
