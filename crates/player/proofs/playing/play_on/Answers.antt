-- A turn goes on to the next event, and applies it where frames are left.
use Rattle.std.proofs.Common.{◌≡◌, ℕ, ◌+◌, ◌-◌, ◌*◌, ◌<◌, ◌≤◌, Bool, true, false, cond, ltb, ltb-true, List, ◌++◌, take, drop, Option, None, Some, unwrap_or, sym, refl, ap, ◌∙◌, subst, ap₂, append_assoc, append-nil, arith, rules}
use lib.Ieee.{Float}
use Rattle.engine.specs.Rendering.{output}
use Rattle.smf.specs.declared.Event.{Event}
use Rattle.player.specs.declared.Tally.{Tally}
use Rattle.player.specs.Cues.{song_over, no_event, gap_of}
use Rattle.player.specs.Playing.{opened, forward, applying, performed, numbers}
use Rattle.player.proofs.CuesLaws.{left, gap-most, gap-less, left-low}
use Rattle.player.proofs.PlayingLaws.{left_behind, output-length, written_on, forward-counts, forward-ended, Bounded, turned, turn-after, turn-numbers, turn-less, turn-counts}
use Rattle.player.proofs.playing.play_on.Goals as goal

-- the frame of the event that comes has 32 bits, of a player that is handed in and of one behind a turn
low-given : (c : goal.After-open-x) (o : Option Event) → c.args.p.event ≡ o → (unwrap_or o no_event).frame < 4294967296
low-given c None e = omega arith
low-given c (Some v) e = let t = rw e at c.well_formed in omega (arith, t)

low-after : (c : goal.After-apply_if-x) (o : Option Event) → c.apply_if-x.result.player.event ≡ o → (unwrap_or o no_event).frame < 4294967296
low-after c None e = omega arith
low-after c (Some v) e = let t = rw e at c.apply_if-x.type_inv in omega (arith, t)

pub loop-k-init : goal.loop-k-init
loop-k-init c = let low : Bounded c.args.p × (c.args.p.cursor.end < 4294967296) = (record { clock = omega arith; began = omega arith; frame = low-given c c.args.p.event refl }, omega arith) in
    let a = c.args in
    let o = c.open-x.ensures in
    let n : a.n ≡ a.n - 0 = omega arith in (
      omega arith,
      refl,
      ap (λ (j : ℕ). performed a.file.now a.bank.now a.ram.now a.rom.now j c.open-x.result) n,
      ap (λ (j : ℕ). numbers a.file.now a.bank.now a.ram.now a.rom.now j c.open-x.result) n,
      refl,
      subst (λ (x : Tally). (2 * x.applied + left a.file.now x.player ≤ 4294967296) × (x.refused ≤ x.applied)) (sym o)
          (omega (arith, left-low a.file.now a.p (low).1), omega arith),
      subst (λ (x : Tally). Bounded x.player) (sym o) (low).0,
    )

pub overflow_sub-n : goal.overflow_sub-n
overflow_sub-n c = omega (arith, c.loop-k.invariant.0)

pub overflow_mul-k : goal.overflow_mul-k
overflow_mul-k c = record { fits = omega (arith, c.loop-k.invariant.0, c.requires.0) }

pub go_on-x-requires : goal.go_on-x-requires
go_on-x-requires c = let short : c.gap-m.result ≤ c.args.n - c.loop-k.k = omega (arith, c.gap-m.ensures, gap-most c.loop-k.x.player (c.args.n - c.loop-k.k)) in
    let m = short in
    (omega (arith, m, c.requires.0), omega (arith, m, c.requires.1, c.loop-k.invariant.0, c.loop-k.invariant.1))

pub overflow_add-k : goal.overflow_add-k
overflow_add-k c = let short : c.gap-m.result ≤ c.args.n - c.loop-k.k = omega (arith, c.gap-m.ensures, gap-most c.loop-k.x.player (c.args.n - c.loop-k.k)) in
    record { fits = omega (arith, short, c.loop-k.invariant.0, c.requires.0) }

pub apply_if-x-requires : goal.apply_if-x-requires
apply_if-x-requires c = let a = c.args in
    let i = c.loop-k.invariant.5 in
    let f = forward-counts a.ram.now a.rom.now c.gap-m.result c.loop-k.x in
    let p = ap (λ (x : Tally). x.applied) c.go_on-x.ensures.tally in
    let r = ap (λ (x : Tally). x.refused) c.go_on-x.ensures.tally in
    let q = c.loop-k.x.player in
    let comes : (k m n : ℕ) → ltb (k + m) n ≡ true → k ≤ n → m ≡ gap_of q (n - k) → song_over q ≡ false =
    λ (k m n : ℕ) (t : ltb (k + m) n ≡ true) (h : k ≤ n) (e : m ≡ gap_of q (n - k)). (gap-less q (n - k) (omega (arith, ltb-true (k + m) n t, e))).0 in (
      λ t. ap (λ (x : Tally). song_over x.player) c.go_on-x.ensures.tally ∙ forward-ended a.ram.now a.rom.now c.gap-m.result c.loop-k.x ∙ comes c.loop-k.k c.gap-m.result a.n t c.loop-k.invariant.0 c.gap-m.ensures,
      omega (arith, p, f.0, i.0),
      omega (arith, p, r, f.0, f.1, i.1),
    )

pub loop-k-smaller : goal.loop-k-smaller
loop-k-smaller c = let state : (let a = c.args in
    let most = a.n - c.loop-k.k in
    let m = gap_of c.loop-k.x.player most in
    c.apply_if-x.result ≡ turned a.file.now a.bank.now a.ram.now a.rom.now (ltb m most) m c.loop-k.x) = let a = c.args in
    let most = a.n - c.loop-k.k in
    let g = c.gap-m.ensures in
    c.apply_if-x.ensures
    ∙ ap₂ (λ (t : Bool) (y : Tally). cond t (applying a.file.now a.bank.now a.ram.now a.rom.now y) y)
    (left_behind c.loop-k.k c.gap-m.result a.n c.loop-k.invariant.0 ∙ ap (λ (m : ℕ). ltb m most) g)
    (c.go_on-x.ensures.tally ∙ ap (λ (m : ℕ). forward a.ram.now a.rom.now m c.loop-k.x) g) in
    let a = c.args in
    let most = a.n - c.loop-k.k in
    let m = gap_of c.loop-k.x.player most in
    let g = c.gap-m.ensures in
    let t = turn-less a.file.now a.bank.now a.ram.now a.rom.now most c.loop-k.x (ltb m most) c.loop-k.invariant.6 (omega (arith, c.loop-k-test)) refl in
    let q = ap (λ (x : Tally). left a.file.now x.player) (state) in
    omega (arith, t, q, g, gap-most c.loop-k.x.player most)

pub loop-k-preserved : goal.loop-k-preserved
loop-k-preserved c = let low-next : Bounded c.apply_if-x.result.player = record { clock = omega (arith, c.apply_if-x.type_inv); began = omega (arith, c.apply_if-x.type_inv); frame = low-after c c.apply_if-x.result.player.event refl } in
    let state : (let a = c.args in
    let most = a.n - c.loop-k.k in
    let m = gap_of c.loop-k.x.player most in
    c.apply_if-x.result ≡ turned a.file.now a.bank.now a.ram.now a.rom.now (ltb m most) m c.loop-k.x) = let a = c.args in
    let most = a.n - c.loop-k.k in
    let g = c.gap-m.ensures in
    c.apply_if-x.ensures
    ∙ ap₂ (λ (t : Bool) (y : Tally). cond t (applying a.file.now a.bank.now a.ram.now a.rom.now y) y)
    (left_behind c.loop-k.k c.gap-m.result a.n c.loop-k.invariant.0 ∙ ap (λ (m : ℕ). ltb m most) g)
    (c.go_on-x.ensures.tally ∙ ap (λ (m : ℕ). forward a.ram.now a.rom.now m c.loop-k.x) g) in
    let a = c.args in
    let most = a.n - c.loop-k.k in
    let x = c.loop-k.x in
    let e = x.player.engine in
    let m = gap_of x.player most in
    let d = c.gap-m.result in
    let g = c.gap-m.ensures in
    let f = a.file.now in
    let b = a.bank.now in
    let i = c.loop-k.invariant in
    let few = gap-most x.player most in
    let rest : most - m ≡ a.n - (c.loop-k.k + d) = omega (arith, g, few) in
    let os = output a.ram.now a.rom.now e d in
    let on = written_on c.loop-k.k d a.out.now c.loop-k.out _ os (omega (arith, i.0, i.1, c.requires.1)) (output-length a.ram.now a.rom.now e d) i.4 c.go_on-x.ensures.output in
    let t = turned f b a.ram.now a.rom.now (ltb m most) m x in (
      omega (arith, g, few, i.0),
      search rules,
      i.2 ∙ turn-after f b a.ram.now a.rom.now most x (ltb m most) i.6 refl
          ∙ ap₂ (λ (j : ℕ) (y : Tally). performed f b a.ram.now a.rom.now j y) rest (sym (state)),
      i.3
          ∙ ap (λ (xs : List Float). take (2 * c.loop-k.k) c.loop-k.out ++ xs)
          (turn-numbers f b a.ram.now a.rom.now most x (ltb m most) i.6 refl
          ∙ ap₂ (λ (j : ℕ) (y : Tally). output a.ram.now a.rom.now e m ++ numbers f b a.ram.now a.rom.now j y) rest (sym (state))
          ∙ ap (λ (j : ℕ). output a.ram.now a.rom.now e j ++ numbers f b a.ram.now a.rom.now (a.n - (c.loop-k.k + d)) c.apply_if-x.result) (sym g))
          ∙ sym (append_assoc (take (2 * c.loop-k.k) c.loop-k.out) os (numbers f b a.ram.now a.rom.now (a.n - (c.loop-k.k + d)) c.apply_if-x.result))
          ∙ ap (λ (xs : List Float). xs ++ numbers f b a.ram.now a.rom.now (a.n - (c.loop-k.k + d)) c.apply_if-x.result) (sym on.0),
      on.1,
      subst (λ (y : Tally). (2 * y.applied + left f y.player ≤ 4294967296) × (y.refused ≤ y.applied)) (sym (state))
          (turn-counts f b a.ram.now a.rom.now most x (ltb m most) i.6 refl i.5),
      low-next,
    )

pub returns : goal.returns
unfolding performed numbers
returns c = let a = c.args in
    let f = a.file.now in
    let b = a.bank.now in
    let i = c.loop-k.invariant in
    let o = c.open-x.ensures in
    let all : c.loop-k.k ≡ a.n = omega (arith, i.0, c.loop-k-test) in
    let none : a.n - c.loop-k.k ≡ 0 = omega (arith, all) in
    let front = take (2 * c.loop-k.k) c.loop-k.out in
    let sung : numbers f b a.ram.now a.rom.now a.n (opened a.p) ≡ front =
    ap (numbers f b a.ram.now a.rom.now a.n) (sym o) ∙ i.3 ∙ ap (λ (j : ℕ). front ++ numbers f b a.ram.now a.rom.now j c.loop-k.x) none ∙ append-nil front in
    record { tally = sym (ap (performed f b a.ram.now a.rom.now a.n) (sym o) ∙ i.2 ∙ ap (λ (j : ℕ). performed f b a.ram.now a.rom.now j c.loop-k.x) none); output = i.4 ∙ ap₂ (λ (xs : List Float) (j : ℕ). xs ++ drop (2 * j) a.out.now) (sym sung) all }
