-- The first i bytes are the heading's.
use mathlib.Core.List.{List}
use mathlib.Core.Path.{◌≡◌, ap, subst, sym, ◌∙◌}
use Prim.Native.Nat.{ℕ, ◌<◌}
use native.Mathlib.Nat.{le_of_eq}
use native.Mathlib.Omega.{arith}
use lib.ListN.{take}
use lib.Seq.{get_or-take, take_all}
use Rattle.wave.specs.Playback.{same_bytes}
use Rattle.wave.proofs.PlaybackLaws.{differ-at, same_refl}
use Rattle.wave.proofs.playback.begins.Goals as goal

pub returns-then-file-i : goal.returns-then-file-i
returns-then-file-i c = let i = c.loop-i.i in
    let inside : i < 44 = omega arith in
    differ-at (take 44 c.args.file.now) c.args.head.now i 0 (λ e. c.if-file-i.true (sym (get_or-take 44 c.args.file.now i 0 inside) ∙ e))

pub returns : goal.returns
returns c = let xs = c.args.file.now in let ys = c.args.head.now in
    let i44 : c.loop-i.i ≡ 44 = omega arith in
    let whole : take 44 xs ≡ ys = subst (λ (i : ℕ). take i xs ≡ take i ys) i44 c.loop-i.invariant ∙ take_all 44 ys (le_of_eq c.requires.whole) in
    sym (ap (λ (t : List ℕ). same_bytes t ys) whole ∙ same_refl ys)
