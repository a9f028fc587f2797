-- The bytes of the first i numbers are poured, two for each.
use mathlib.Core.Path.{◌≡◌}
use lib.ListN.{length}
use Rattle.wave.proofs.PoursLaws.{poured_upto}
use Rattle.wave.proofs.pours.fill.Given as goal

abbrev pub invariant-loop-i : goal.invariant-loop-i
invariant-loop-i l = (length l.out ≡ length l.initial.out) × (l.out ≡ poured_upto l.numbers l.from l.initial.out l.i)
