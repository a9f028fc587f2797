-- The tests are those of the definition, in its order; half the room is compared, so that no product can wrap.
use mathlib.Core.Path.{refl, ap, ap₂, sym, ◌∙◌}
use mathlib.Core.List.{◌++◌}
use native.Mathlib.Omega.{arith}
use Prim.Native.Nat.{ℕ, ◌*◌, min}
use lib.ListN.{length, drop}
use Rattle.wave.specs.Lowering.{frames_past, poured_sums}
use Rattle.wave.proofs.LoweringLaws.{not-odd, sums-0, sums-13, sums-15, sums-answer, sums-refused, sums-written}
use Rattle.wave.proofs.lowering.pour_sums.Goals as goal

pub returns-then-sums-eq1 : goal.returns-then-sums-eq1
returns-then-sums-eq1 c = let a = c.args in
    let zs = a.sums.now in
    let out = a.out.now in
    let r = sums-refused a.attenuation zs out 13 (sums-13 zs (length out) c.if-sums-eq1.true) refl in
    record { value = r.0; output = r.1 }

pub returns-then-out-sums : goal.returns-then-out-sums
returns-then-out-sums c = let a = c.args in
    let zs = a.sums.now in
    let out = a.out.now in
    let few = c.if-out-sums.true in
    let r = sums-refused a.attenuation zs out 15 (sums-15 zs (length out) (not-odd (length zs) c.if-sums-eq1.false) (omega (arith, few))) refl in
    record { value = r.0; output = r.1 }

pub returns : goal.returns
returns c = let a = c.args in
    let zs = a.sums.now in
    let out = a.out.now in
    let enough = c.if-out-sums.false in
    let zero = sums-0 zs (length out) (not-odd (length zs) c.if-sums-eq1.false) (omega (arith, enough)) in
    let gain = c.gain-g.ensures.0 in
    record {
      value = ap₂ (λ (h l : ℕ). record { number = 0; held = h; loudest = l })
          (c.min-held.ensures ∙ ap (λ (k : ℕ). min k 4294967295) (c.frames_past.ensures ∙ ap (λ (k : ℕ). frames_past k zs) gain)) c.loudest_of.ensures
          ∙ sym (sums-answer a.attenuation zs (length out) zero);
      output = c.fill.ensures
          ∙ ap (λ (k : ℕ). poured_sums k zs ++ drop (2 * length zs) out) gain
          ∙ sym (sums-written a.attenuation zs out zero);
    }
