-- A short step is its own remainder.
use mathlib.Core.Path.{sym}
use native.Mathlib.Nat.{mod-eq_of_lt}
use Rattle.voice.proofs.way.rest.Goals as goal

pub returns-then-st-length : goal.returns-then-st-length
returns-then-st-length c = sym (mod-eq_of_lt c.if-st-length.true)
