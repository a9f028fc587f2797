-- The bound at the end that the voice has.
use mathlib.Core.Path.{subst}
use Prim.Native.Nat.{ℕ, ◌+◌, ◌*◌, ◌/◌, ◌<◌}
use native.Mathlib.Omega.{arith}
use Rattle.voice.proofs.stretch.limit_of.Goals as goal

pub returns : goal.returns
returns c = let e = c.end_of-end.ensures.0 in
    let st = c.args.st in
    record {
      clear = λ p h.
          let b = c.bound.ensures.clear p h in
          record {
            inside = b.1;
            before = subst (λ (x : ℕ). p / 16777216 + 2 < x) e b.0;
            short = subst (λ (x : ℕ). p + st < x * 16777216) e b.2;
          };
      begins = λ h. (c.if-v-lt16777216.false, omega (arith, c.if-st-eq0.false));
      size = c.bound.ensures.size;
    }
