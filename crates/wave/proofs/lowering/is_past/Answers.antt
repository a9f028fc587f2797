-- The two comparisons are those of the definition.
use mathlib.Core.Path.{◌≡◌, ap, sym, ◌∙◌}
use lib.Dec.{lit<}
use lib.IntN.{ℤ, pos, negsuc}
use lib.Signed.{lt_z}
use mir.Facts.{to_z-of_z}
use mir.Syntax.{w64}
use mir.Val.{to_z, of_z}
use Rattle.arith.proofs.WithinLaws.{w-back}
use Rattle.wave.specs.Lowering.{lowered_by}
use Rattle.wave.proofs.LoweringLaws.{past-low, past-high}
use Rattle.wave.proofs.lowering.is_past.Goals as goal

pub returns-then-k-ltminus8388608 : goal.returns-then-k-ltminus8388608
returns-then-k-ltminus8388608 c = let is-lowered : to_z w64 (of_z w64 c.lower-k.result) ≡ lowered_by c.args.g c.args.z = w-back w64 c.lower-k.ensures.1 (lit< tt) ∙ c.lower-k.ensures.0
    ∙ ap (lowered_by c.args.g) (to_z-of_z c.ranges.z) in
    let a = c.args in
    c.if-k-ltminus8388608.true ∙ past-low (lowered_by a.g a.z) (sym (ap (λ (k : ℤ). lt_z k (negsuc 8388607)) (is-lowered)) ∙ c.if-k-ltminus8388608.true)

pub returns-else-k-ltminus8388608 : goal.returns-else-k-ltminus8388608
returns-else-k-ltminus8388608 c = let is-lowered : to_z w64 (of_z w64 c.lower-k.result) ≡ lowered_by c.args.g c.args.z = w-back w64 c.lower-k.ensures.1 (lit< tt) ∙ c.lower-k.ensures.0
    ∙ ap (lowered_by c.args.g) (to_z-of_z c.ranges.z) in
    let a = c.args in
    ap (λ (k : ℤ). lt_z (pos 8388608) k) (is-lowered)
    ∙ past-high (lowered_by a.g a.z) (sym (ap (λ (k : ℤ). lt_z k (negsuc 8388607)) (is-lowered)) ∙ c.if-k-ltminus8388608.false)
