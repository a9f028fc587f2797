-- `preset_for` meets its contract: none of the records passed is the preset.
use mathlib.Core.Path.{◌≡◌, sym, ◌∙◌}
use native.Mathlib.Omega.{arith}
use Prim.Native.Nat.{◌-◌}
use Rattle.records.proofs.LookingLaws.{first-none, first-miss0, first-hit0}
use Rattle.layers.specs.LayerSearch.{is_preset, preset_for}
use Rattle.layers.proofs.layer_search.preset_for.Goals as goal

pub loop-h-init : goal.loop-h-init
loop-h-init c = first-none _ _

pub returns-then-is_preset : goal.returns-then-is_preset
unfolding preset_for
returns-then-is_preset c = let a = c.args in
    let p = is_preset a.b.now a.m a.bank a.program in
    sym (first-hit0 p c.loop-h.h (a.m.presets.nheads - 1) c.loop-h.invariant (sym c.is_preset.ensures ∙ c.if-is_preset.true) (omega arith))

pub loop-h-preserved : goal.loop-h-preserved
loop-h-preserved c = let a = c.args in
    let p = is_preset a.b.now a.m a.bank a.program in
    first-miss0 p c.loop-h.h c.loop-h.invariant (sym c.is_preset.ensures ∙ c.if-is_preset.false)

pub returns : goal.returns
unfolding preset_for
returns c = let e : c.loop-h.h ≡ c.args.m.presets.nheads - 1 = omega (arith, c.loop-h-test.false, c.loop-h.auto.h-end, c.saturating_sub-h-end.ensures) in
    sym (rw e at c.loop-h.invariant)
