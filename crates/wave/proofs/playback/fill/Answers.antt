-- The first i numbers are the file's, the others as they were.
use mathlib.Core.Path.{◌≡◌, ap, ap₂, ◌∙◌}
use mathlib.Core.List.{List, ◌++◌}
use Prim.Native.Nat.{ℕ, ◌≤◌, ◌<◌, ◌-◌, ◌*◌, ◌/◌}
use native.Mathlib.Nat.{le_of_eq}
use native.Mathlib.Omega.{arith}
use lib.IntN.{ℤ, pos}
use lib.ListN.{length, get_or, set, take, drop, length-set}
use lib.Seq.{take_all}
use mir.Facts.{to_z-of_z}
use mir.Syntax.{w16}
use mir.Val.{to_z, of_z}
use Rattle.wave.specs.Playback.{frames_in, pcms_in}
use Rattle.wave.proofs.PlaybackLaws.{numbers-length, pcm-at, taken-frames, taken-length, taken-numbers}
use Rattle.wave.proofs.PoursLaws.{copy-turn}
use Rattle.wave.proofs.playback.fill.Goals as goal

pub overflow_sub-count : goal.overflow_sub-count
overflow_sub-count c = let whole = taken-length c.args.file.now c.requires.t in omega (arith, whole)

pub u16_at-requires : goal.u16_at-requires
u16_at-requires c = let file = c.args.file.now in
    let most : frames_in file ≤ 1073741814 = taken-frames file c.requires.t in
    let numbers : (length file - 44) / 2 ≡ 2 * frames_in file = taken-numbers file c.requires.t in
    omega arith

pub bounds-out-i : goal.bounds-out-i
bounds-out-i c = let file = c.args.file.now in
    let most : frames_in file ≤ 1073741814 = taken-frames file c.requires.t in
    let numbers : (length file - 44) / 2 ≡ 2 * frames_in file = taken-numbers file c.requires.t in
    omega (arith, c.loop-i.invariant.0, c.requires.room)

pub loop-i-preserved : goal.loop-i-preserved
loop-i-preserved c = let file = c.args.file.now in let vs = pcms_in (drop 44 file) in let i = c.loop-i.i in
    let inside : i < (length file - 44) / 2 = omega arith in
    let numbers : (length file - 44) / 2 ≡ 2 * frames_in file = taken-numbers file c.requires.t in
    let many : length vs ≡ (length file - 44) / 2 = numbers-length file in
    let v : to_z w16 (of_z w16 c.signed16.result) ≡ get_or vs i (pos 0) =
    to_z-of_z {w = w16} {z = c.signed16.result} (record { sfits = c.signed16.type_inv }) ∙ c.signed16.ensures ∙ ap (to_z w16) c.u16_at.ensures ∙ pcm-at file i (pos 0) (omega (arith, inside)) in (
      length-set c.loop-i.out i (to_z w16 (of_z w16 c.signed16.result)) ∙ c.loop-i.invariant.0,
      ap₂ (λ (o : List ℤ) (z : ℤ). set o i z) c.loop-i.invariant.1 v
          ∙ copy-turn vs c.args.out.now i (pos 0) (omega (arith, inside, many)) (omega (arith, inside, numbers, c.requires.room)),
    )

pub returns : goal.returns
returns c = let file = c.args.file.now in let vs = pcms_in (drop 44 file) in
    let all : c.loop-i.i ≡ 2 * frames_in file = omega (arith, taken-numbers file c.requires.t) in
    let many : length vs ≡ 2 * frames_in file = numbers-length file ∙ taken-numbers file c.requires.t in
    c.loop-i.invariant.1 ∙ ap (λ (i : ℕ). take i vs ++ drop i c.args.out.now) all
    ∙ ap (λ (t : List ℤ). t ++ drop (2 * frames_in file) c.args.out.now) (take_all (2 * frames_in file) vs (le_of_eq many))
