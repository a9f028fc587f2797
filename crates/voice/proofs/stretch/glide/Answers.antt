-- A turn adds one plain frame behind those that are added.
use mathlib.Core.Path.{◌≡◌, refl, sym, ap, ap₂, ◌∙◌, subst}
use Prim.Native.Nat.{ℕ, zero, suc, ◌+◌, ◌*◌, ◌/◌, ◌%◌, ◌<◌, ◌≤◌, min}
use mathlib.Core.List.{List, [], ◌∷◌, ◌++◌}
use mathlib.Core.Logic.{⊎_elim}
use native.Mathlib.Nat.{zero-mul, suc-mul, zero-lt-suc, mul-pos, mul-le-mul, lt_of_mul-lt-mul_right}
use native.Mathlib.Numerals.{add-one}
use native.Mathlib.Omega.{arith}
use lib.Dec.{lit<, lit≤}
use lib.IntN.{ℤ, pos, ◌*ℤ◌}
use lib.ListN.{length, get_or}
use mir.Syntax.{w32, w64}
use Rattle.arith.specs.Floors.{floor_z}
use Rattle.arith.specs.Within.{Within}
use Rattle.arith.proofs.WithinLaws.{w-back, w_le}
use Rattle.voice.proofs.MotionLaws.{split}
use Rattle.voice.specs.Internal.Sides.{part}
use Rattle.voice.specs.Internal.Stretch.{between, plain, plains}
use Rattle.voice.proofs.StretchLaws.{plains-turn, plains-length}
use Rattle.voice.specs.Internal.Sums.{add_at, Small, loudest}
use Rattle.voice.proofs.SumsLaws.{small-none, small-two, add-after, add-beyond, add_at-length, add_at-none}
use Rattle.voice.proofs.stretch.glide.Goals as goal

here : (p st : ℕ) → p ≡ p + 0 * st
here p st = omega (arith, zero-mul st)

no : (j : ℕ) → j < 0 → ⊥
no j h = omega arith

there : (from m st p : ℕ) → p ≡ from + m * st → p + st ≡ from + (m + 1) * st
there from m st p e = rw add-one (omega (arith, suc-mul m st))

earlier : (from st limit m j p : ℕ) → p ≡ from + m * st → p < limit → ((i : ℕ) → i < m → from + i * st < limit)
    → j < m + 1 → from + j * st < limit
earlier from st limit m j p e h k q =
    ⊎_elim (λ (l : j < m). k j l)
    (λ (g : m ≤ j).
    let s : j ≡ m = omega arith in
    subst (λ (x : ℕ). from + x * st < limit) (sym s) (subst (λ (x : ℕ). x < limit) e h))
    (split j m)

-- a place before that of the last frame is that of an earlier one
sooner : (from st most m p : ℕ) → p ≡ from + m * st → p < from + most * st → m < most
sooner from st most m p e h = let k : m * st < most * st = omega arith in lt_of_mul-lt-mul_right st k

-- where the end is reached, a frame went before
first : (m most p from st limit end : ℕ) → p ≡ from + m * st → end ≡ min limit (from + most * st) → end ≤ p → from < limit → 0 < st → 0 < most → 0 < m
first zero most p from st limit end e f h k s z = absurd (never (omega (arith, e, f, h, k, zero-mul st, mul-pos z s)))
  where
    never : from < from → ⊥
    never q = omega arith
first (suc m) most p from st limit end e f h k s z = zero-lt-suc m

-- so many frames lead to a 64-bit place
span : (most st : ℕ) → most ≤ 65536 → st ≤ 4294967295 → most * st ≤ 281474976645120
span most st h k = let z : most * st ≤ 65536 * 4294967295 = mul-le-mul h k in omega arith

pub overflow_mul-most : goal.overflow_mul-most
overflow_mul-most c = let a = c.args in record { fits = omega (arith, span a.most a.st c.requires.begins.3 (omega arith)) }

pub overflow_add-from : goal.overflow_add-from
overflow_add-from c = let a = c.args in record { fits = omega (arith, span a.most a.st c.requires.begins.3 (omega arith), c.requires.window.0, c.requires.begins.2) }

pub loop-p-init : goal.loop-p-init
unfolding plains
loop-p-init c = let a = c.args in
    (omega arith, here a.from a.st, λ j h. absurd (no j h), sym (add_at-none (2 * a.k) a.acc.now), refl, c.requires.sums.0, small-none)

pub read_on-x-requires : goal.read_on-x-requires
read_on-x-requires c = let a = c.args in
    let t : c.loop-p.p < a.limit = omega (arith, c.loop-p-test.true, c.min-end.ensures) in
    (omega (arith, c.loop-p.invariant.1, c.requires.begins.1), c.requires.window.1 c.loop-p.p t)

pub scaled_by-u-requires : goal.scaled_by-u-requires
scaled_by-u-requires c = (rw (w-back w64 c.read_on-x.ensures.1 (lit< tt)) c.read_on-x.ensures.1, c.requires.level.0)

pub part_of-a-requires : goal.part_of-a-requires
part_of-a-requires c = (rw (w-back w64 c.scaled_by-u.ensures.1 (lit< tt)) (w_le c.scaled_by-u.ensures.1 (lit≤ tt)), c.requires.level.1)

pub part_of-b-requires : goal.part_of-b-requires
part_of-b-requires c = (rw (w-back w64 c.scaled_by-u.ensures.1 (lit< tt)) (w_le c.scaled_by-u.ensures.1 (lit≤ tt)), c.requires.level.2)

pub overflow_add-k : goal.overflow_add-k
overflow_add-k c = let early : c.loop-p.p < c.min-end.result = c.loop-p-test.true in
    let turning : c.loop-p.m < c.args.most = let a = c.args in
    sooner a.from a.st a.most c.loop-p.m c.loop-p.p c.loop-p.invariant.1 (omega (arith, early, c.min-end.ensures)) in
    let room : (2 * (c.args.k + c.loop-p.m) + 1 < length c.loop-p.acc) × (length c.loop-p.acc < 9223372036854775808) = (omega (arith, turning, c.loop-p.invariant.4, c.loop-p.invariant.5), omega (arith, c.loop-p.invariant.4, c.loop-p.invariant.5)) in
    omega (arith, room)

pub add_pair-requires : goal.add_pair-requires
add_pair-requires c = let early : c.loop-p.p < c.min-end.result = c.loop-p-test.true in
    let turning : c.loop-p.m < c.args.most = let a = c.args in
    sooner a.from a.st a.most c.loop-p.m c.loop-p.p c.loop-p.invariant.1 (omega (arith, early, c.min-end.ensures)) in
    let room : (2 * (c.args.k + c.loop-p.m) + 1 < length c.loop-p.acc) × (length c.loop-p.acc < 9223372036854775808) = (omega (arith, turning, c.loop-p.invariant.4, c.loop-p.invariant.5), omega (arith, c.loop-p.invariant.4, c.loop-p.invariant.5)) in
    let xs : List ℤ = plains c.args.gain c.args.sides.left c.args.sides.right c.args.w.now c.args.st c.args.from c.loop-p.m in
    let xs-length : length xs ≡ 2 * c.loop-p.m = plains-length c.args.gain c.args.sides.left c.args.sides.right c.args.w.now c.args.st c.args.from c.loop-p.m in
    let behind : (j : ℕ) → 2 * (c.args.k + c.loop-p.m) ≤ j → get_or c.loop-p.acc j (pos 0) ≡ get_or c.args.acc.now j (pos 0) = λ j h. ap (λ (q : List ℤ). get_or q j (pos 0)) c.loop-p.invariant.3
    ∙ add-beyond (2 * c.args.k) xs c.args.acc.now j (omega (arith, xs-length)) in
    let u = c.part_of-b.ensures.1 in
    let t = c.part_of-a.ensures.1 in
    record { sums = (omega (arith, room), λ j h. subst (λ (z : ℤ). Within z (31 * loudest)) (sym (behind j h)) (c.requires.sums.1 j (omega arith))); pair = (rw (w-back w32 t (lit< tt)) t, rw (w-back w32 u (lit< tt)) u) }

pub overflow_add-p : goal.overflow_add-p
overflow_add-p c = let early : c.loop-p.p < c.min-end.result = c.loop-p-test.true in
    let below : c.loop-p.p < c.args.limit = omega (arith, early, c.min-end.ensures) in
    omega (arith, below, c.requires.window.0)

pub overflow_add-m : goal.overflow_add-m
overflow_add-m c = let early : c.loop-p.p < c.min-end.result = c.loop-p-test.true in
    let turning : c.loop-p.m < c.args.most = let a = c.args in
    sooner a.from a.st a.most c.loop-p.m c.loop-p.p c.loop-p.invariant.1 (omega (arith, early, c.min-end.ensures)) in
    let room : (2 * (c.args.k + c.loop-p.m) + 1 < length c.loop-p.acc) × (length c.loop-p.acc < 9223372036854775808) = (omega (arith, turning, c.loop-p.invariant.4, c.loop-p.invariant.5), omega (arith, c.loop-p.invariant.4, c.loop-p.invariant.5)) in
    omega (arith, room)

pub loop-p-smaller : goal.loop-p-smaller
loop-p-smaller c = let early : c.loop-p.p < c.min-end.result = c.loop-p-test.true in
    omega (arith, early, c.requires.begins.0)

pub loop-p-preserved : goal.loop-p-preserved
unfolding plain
loop-p-preserved c = let xs : List ℤ = plains c.args.gain c.args.sides.left c.args.sides.right c.args.w.now c.args.st c.args.from c.loop-p.m in
    let lefts : ℤ = c.part_of-a.result in
    let rights : ℤ = c.part_of-b.result in
    let xs-length : length xs ≡ 2 * c.loop-p.m = plains-length c.args.gain c.args.sides.left c.args.sides.right c.args.w.now c.args.st c.args.from c.loop-p.m in
    let early : c.loop-p.p < c.min-end.result = c.loop-p-test.true in
    let below : c.loop-p.p < c.args.limit = omega (arith, early, c.min-end.ensures) in
    let turning : c.loop-p.m < c.args.most = let a = c.args in
    sooner a.from a.st a.most c.loop-p.m c.loop-p.p c.loop-p.invariant.1 (omega (arith, early, c.min-end.ensures)) in
    let value : c.scaled_by-u.result ≡ plain c.args.gain c.args.w.now (c.args.from + c.loop-p.m * c.args.st) = let g = c.args.gain in
    let w = c.args.w.now in
    rw (w-back w64 c.read_on-x.ensures.1 (lit< tt)) at c.scaled_by-u.ensures.0
    ∙ ap (λ (z : ℤ). floor_z (z *ℤ pos g) 65536) c.read_on-x.ensures.0
    ∙ ap (λ (p : ℕ). floor_z (between w (p / 16777216) (p % 16777216 / 4096) *ℤ pos g) 65536) c.loop-p.invariant.1 in
    let turn : plains c.args.gain c.args.sides.left c.args.sides.right c.args.w.now c.args.st c.args.from (c.loop-p.m + 1) ≡ xs ++ (lefts ∷ rights ∷ []) = let a = c.args in
    let b = w-back w64 c.scaled_by-u.ensures.1 (lit< tt) in
    let x = rw b at c.part_of-a.ensures.0 ∙ ap (λ (z : ℤ). part z a.sides.left) value in
    let y = rw b at c.part_of-b.ensures.0 ∙ ap (λ (z : ℤ). part z a.sides.right) value in
    plains-turn a.gain a.sides.left a.sides.right a.w.now a.st a.from c.loop-p.m
    ∙ ap₂ (λ (p q : ℤ). xs ++ (p ∷ q ∷ [])) (sym x) (sym y) in
    let a = c.args in
    let m = c.loop-p.m in
    let n = 2 * (a.k + m) in
    let e =
    rw (w-back w32 c.part_of-a.ensures.1 (lit< tt), w-back w32 c.part_of-b.ensures.1 (lit< tt)) at c.add_pair.ensures
    ∙ ap (add_at n (lefts ∷ rights ∷ [])) c.loop-p.invariant.3
    ∙ add-after (2 * a.k) n (xs) (lefts ∷ rights ∷ []) a.acc.now (omega (arith, xs-length))
    ∙ ap (λ (zs : List ℤ). add_at (2 * a.k) zs a.acc.now) (sym (turn)) in (
      omega (arith, turning),
      there a.from m a.st c.loop-p.p c.loop-p.invariant.1,
      λ j h. earlier a.from a.st a.limit m j c.loop-p.p c.loop-p.invariant.1 (below) c.loop-p.invariant.2 h,
      e,
      ap length e ∙ add_at-length (2 * a.k) (plains a.gain a.sides.left a.sides.right a.w.now a.st a.from (m + 1)) a.acc.now,
      c.loop-p.invariant.5,
      subst (Small 1) (sym (turn)) (small-two (xs) (lefts) (rights) c.loop-p.invariant.6 c.part_of-a.ensures.1 c.part_of-b.ensures.1),
    )

pub returns : goal.returns
returns c = let a = c.args in
    record { count = (c.loop-p.invariant.0, λ z. first c.loop-p.m a.most c.loop-p.p a.from a.st a.limit c.min-end.result c.loop-p.invariant.1 c.min-end.ensures c.loop-p-test.false c.requires.begins.2 c.requires.begins.0 z); place = (c.loop-p.invariant.1, c.loop-p.invariant.2); sums = c.loop-p.invariant.3; small = c.loop-p.invariant.6 }
