-- The tests are those of the definition, in its order; the quotient times its divisor is below 2^32, so that no bit is lost.
use borrow.Author.Tests.{eq-eqb, le-ltb, lt-ltb, ne_eqb}
use mathlib.Core.Path.{refl}
use Rattle.wave.specs.Internal.Pcm.{is_output_bits}
use Rattle.wave.proofs.PcmLaws.{whole-digits}
use Rattle.wave.proofs.pcm.is_output_bits.Goals as goal

pub returns-then-size-eq0 : goal.returns-then-size-eq0
unfolding is_output_bits
returns-then-size-eq0 c = rw (eq-eqb _ _ c.if-size-eq0.true) refl

pub returns-then-size-gt1065353216 : goal.returns-then-size-gt1065353216
unfolding is_output_bits
returns-then-size-gt1065353216 c = rw (ne_eqb _ _ c.if-size-eq0.false, lt-ltb _ _ c.if-size-gt1065353216.true) refl

pub returns-then-field-lt104 : goal.returns-then-field-lt104
unfolding is_output_bits
returns-then-field-lt104 c = rw (ne_eqb _ _ c.if-size-eq0.false, le-ltb _ _ c.if-size-gt1065353216.false, lt-ltb _ _ c.if-field-lt104.true) refl

pub returns : goal.returns
unfolding is_output_bits
returns c = rw (whole-digits c.args.size, ne_eqb _ _ c.if-size-eq0.false, le-ltb _ _ c.if-size-gt1065353216.false, le-ltb _ _ c.if-field-lt104.false) refl
