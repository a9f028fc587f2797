-- Where such bits are not 0, their field is 104 to 127.
use borrow.Author.Tests.{eq-eqb, ne_eqb}
use mathlib.Core.Path.{refl}
use lib.Dec.{lit≤}
use Rattle.wave.specs.Internal.Pcm.{k_bits}
use Rattle.wave.proofs.PcmLaws.{k-bits-le, short-tail, top_field}
use Rattle.wave.proofs.pcm.k_of_bits.Goals as goal

pub returns-then-size-eq0 : goal.returns-then-size-eq0
unfolding k_bits
returns-then-size-eq0 c = record { value = rw (eq-eqb _ _ c.if-size-eq0.true) refl; bounded = lit≤ tt }

pub overflow_sub-tail : goal.overflow_sub-tail
overflow_sub-tail c = top_field c.args.size c.requires (ne_eqb _ _ c.if-size-eq0.false)

pub overflow_shr-result : goal.overflow_shr-result
overflow_shr-result c = short-tail c.args.size c.requires (ne_eqb _ _ c.if-size-eq0.false)

pub returns : goal.returns
unfolding k_bits
returns c = record { value = rw (ne_eqb _ _ c.if-size-eq0.false) refl; bounded = rw (ne_eqb _ _ c.if-size-eq0.false) at (k-bits-le c.args.size c.requires) }
