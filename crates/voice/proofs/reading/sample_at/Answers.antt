-- The sample at i, by the read; behind the last, by the default of a read past a list.
use lib.IntN.{pos}
use lib.ListN.{get_or-eq_default}
use mathlib.Core.Path.{sym}
use Rattle.voice.proofs.reading.sample_at.Goals as goal

pub returns-else-i-w : goal.returns-else-i-w
returns-else-i-w c = let a = c.args in
    sym (get_or-eq_default a.w.now (pos 0) {n = a.i} c.if-i-w.false)
