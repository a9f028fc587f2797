-- The bytes of the first i numbers are poured, two for each.
use mathlib.Core.Path.{refl, ap, subst, sym, ◌∙◌}
use mathlib.Core.List.{List}
use Prim.Native.Nat.{ℕ, ◌<◌, ◌+◌, ◌*◌, ◌/◌, ◌%◌}
use native.Mathlib.Omega.{arith}
use lib.Dec.{T}
use lib.ListN.{length, set, length-set}
use Rattle.wave.proofs.PoursLaws.{clean_of, output-at, pour-turn, poured-none}
use Rattle.wave.proofs.pours.fill.Goals as goal

pub loop-i-init : goal.loop-i-init
loop-i-init c = (refl, poured-none c.args.numbers.now c.args.from c.args.out.now)

pub pcm-word-requires : goal.pcm-word-requires
pcm-word-requires c = let xs = c.args.numbers.now in
    let inside : c.loop-i.i < length xs = omega arith in
    subst T (sym (output-at xs c.loop-i.i (clean_of xs c.requires.numbers_value) inside)) tt

pub loop-i-preserved : goal.loop-i-preserved
loop-i-preserved c = let xs = c.args.numbers.now in let d = c.args.out.now in let i = c.loop-i.i in let at = c.args.from in
    let w = c.pcm-word.result in
    let inside : i < length xs = omega arith in (
      length-set (set c.loop-i.out (at + 2 * i) (w % 256)) (at + 2 * i + 1) (w / 256) ∙ length-set c.loop-i.out (at + 2 * i) (w % 256) ∙ c.loop-i.invariant.0,
      ap (λ (o : List ℕ). set (set o (at + 2 * i) (w % 256)) (at + 2 * i + 1) (w / 256)) c.loop-i.invariant.1
          ∙ pour-turn xs at d i w inside c.requires.room c.pcm-word.ensures,
    )
