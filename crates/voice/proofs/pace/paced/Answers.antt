-- Quotients and remainders.
use Prim.Native.Nat.{◌*◌, ◌≤◌}
use native.Mathlib.Omega.{arith}
use native.Mathlib.Nat.{div-add-mod', mod-lt, mul-le-mul}
use Rattle.voice.proofs.pace.paced.Goals as goal

pub overflow_mul-sum : goal.overflow_mul-sum
overflow_mul-sum c = let a = c.args in
    let t : a.t ≤ 4294967295 = omega arith in
    let h : a.whole * a.t ≤ 16777216 * 4294967295 = mul-le-mul c.requires t in
    record { fits = omega arith }

pub returns : goal.returns
returns c = let a = c.args in
    let n = c.at_least_one-frames.result in
    let p = c.at_least_one-frames.ensures.1 in
    record {
      frames = c.at_least_one-frames.ensures.0;
      size = (p, c.at_least_one-frames.ensures.2);
      value = div-add-mod' (a.whole * a.t) n;
      over = mod-lt (a.whole * a.t) p;
      by = div-add-mod' a.whole n;
      more = mod-lt a.whole p;
    }
