-- `size` meets its contract.
use mathlib.Core.Path.{refl, sym, ◌∙◌}
use Rattle.smf.specs.Songs.{bytes_of}
use Rattle.smf.proofs.size.Goals as goal

pub returns-then-is_short : goal.returns-then-is_short
unfolding bytes_of
returns-then-is_short c = rw (sym c.is_short.ensures ∙ c.if-is_short.true) refl

pub returns : goal.returns
unfolding bytes_of
returns c = rw (sym c.is_short.ensures ∙ c.if-is_short.false) refl
