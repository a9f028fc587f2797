-- Each turn of the loop puts one gain together.
use Prim.Native.Nat.{ℕ, ◌+◌, ◌<◌}
use native.Mathlib.Numerals.{add-one}
use native.Mathlib.Omega.{arith}
use mathlib.Core.List.{List, ◌++◌, ◌∷◌, []}
use mathlib.Core.Path.{◌≡◌, refl, ◌∙◌}
use lib.ListN.{length, take, drop, set, get_or, length-take}
use lib.Seq.{take-suc}
use Rattle.arith.proofs.Put.{put}
use Rattle.curves.specs.Levels.{gains}
use Rattle.curves.proofs.GainTableLaws.{high_of, low_of, parts_join}
use Rattle.curves.proofs.levels.GainTable.new.Goals as goal

gains-length : length gains ≡ 200
gains-length = refl

-- a turn: one more gain in front
turn : (t₀ t : List ℕ) (a x : ℕ) → length t₀ ≡ 200 → a < 200 → t ≡ take a gains ++ drop a t₀ → x ≡ get_or gains a 0
    → set t a x ≡ take (a + 1) gains ++ drop (a + 1) t₀
turn t₀ t a x n h e q =
    let l : length (take a gains) ≡ a = simp length-take (omega (arith, gains-length)) in
    let k : a < length t₀ = omega arith in
    let g : a < length gains = omega (arith, gains-length) in
    let s : take (a + 1) gains ≡ take a gains ++ (get_or gains a 0 ∷ []) = rw add-one (take-suc gains a 0 g) in
    rw (e, put (take a gains) t₀ a x 0 l k, q, s)

pub loop-a-preserved : goal.loop-a-preserved
unfolding high_of low_of
loop-a-preserved c = let l = c.loop-a in
    let h : l.a < 200 = omega arith in
    (l.invariant.0, turn _ l.entries l.a c.joined.result l.invariant.0 h l.invariant.1 (c.joined.ensures ∙ parts_join l.a h))
