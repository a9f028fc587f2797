-- `bank::long_fault` meets its contract.
use mathlib.Core.Path.{sym}
use native.Mathlib.Omega.{arith}
use Rattle.bank.proofs.RulesLaws.{long-none, long-some}
use Rattle.bank.proofs.long_fault.Goals as goal

pub returns-then-b-gt65536 : goal.returns-then-b-gt65536
returns-then-b-gt65536 c = sym (long-some c.args.b.now (omega arith))

pub returns : goal.returns
returns c = sym (long-none c.args.b.now (omega arith))
