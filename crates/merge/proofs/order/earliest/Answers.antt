-- `earliest` meets its contract.
use mathlib.Core.Bool.{Bool, true, false, cond}
use mathlib.Core.List.{List}
use mathlib.Core.Path.{◌≡◌, refl, sym, subst}
use Prim.Native.Nat.{ℕ, ◌+◌, ◌-◌, ◌<◌, ◌≤◌}
use native.Mathlib.Omega.{arith}
use borrow.Author.Tests.{ltb-true, ltb-false}
use lib.Dec.{ltb}
use Rattle.merge.specs.declared.Best.{Best}
use Rattle.merge.specs.Internal.Lanes.{better_of, tick_at}
use Rattle.merge.proofs.order.earliest.Invariants.{Seen}
use Rattle.merge.proofs.order.earliest.Goals as goal

-- up to i it is so for i + 1
upto : (ts : List ℕ) (t i : ℕ) → ((k : ℕ) → k < i → t ≤ tick_at ts k) → t ≤ tick_at ts i → (k : ℕ) → k < i + 1 → t ≤ tick_at ts k
upto ts t i h e k l = go (ltb k i) refl
  where
    go : (f : Bool) → ltb k i ≡ f → t ≤ tick_at ts k
    go true f = h k (ltb-true k i f)
    go false f =
        let s : i ≡ k = omega (arith, ltb-false k i f) in
        subst (λ (m : ℕ). t ≤ tick_at ts m) s e

-- one track more
seen_more : (ts : List ℕ) (n i : ℕ) (best : Best) → i < n → Seen ts n i best → Seen ts n (i + 1) (better_of best (tick_at ts i) i)
unfolding better_of
seen_more ts n i best h s = go (ltb (tick_at ts i) best.tick) refl
  where
    go : (f : Bool) → ltb (tick_at ts i) best.tick ≡ f → Seen ts n (i + 1) (cond f (record { tick = tick_at ts i; lane = i }) best)
    go true f =
        let l = ltb-true (tick_at ts i) best.tick f in
        record {
          in-lanes = omega arith;
          some = omega (arith, s.some);
          least = upto ts (tick_at ts i) i (λ k m. let e = s.least k m in omega arith) (omega arith);
          first = λ g k m. let e = s.least k m in omega arith;
          found = λ g. (omega arith, refl, omega (arith, s.some));
          none = λ g. absurd (omega arith);
        }
    go false f =
        let l = ltb-false (tick_at ts i) best.tick f in
        record {
          in-lanes = s.in-lanes;
          some = s.some;
          least = upto ts best.tick i s.least l;
          first = s.first;
          found = λ g. let e = s.found g in (omega (arith, e), e.1, e.2);
          none = s.none;
        }

pub loop-i-init : goal.loop-i-init
loop-i-init c =
    record {
      in-lanes = omega arith;
      some = omega arith;
      least = λ k h. absurd (omega arith);
      first = λ g. absurd (omega arith);
      found = λ g. absurd (omega arith);
      none = λ g. refl;
    }

pub offset_bounds-ticks-i : goal.offset_bounds-ticks-i
offset_bounds-ticks-i c = omega arith

pub bounds-ticks-i : goal.bounds-ticks-i
bounds-ticks-i c = omega arith

pub loop-i-preserved : goal.loop-i-preserved
loop-i-preserved c = let a = c.args in
    rw c.better-best.ensures (seen_more a.ticks.now a.count c.loop-i.i c.loop-i.best (omega arith) c.loop-i.invariant)

pub returns : goal.returns
returns c = let l = c.loop-i in
    let s = l.invariant in
    let all : l.i ≡ c.args.count = omega arith in
    record {
      in-lanes = s.in-lanes;
      earlier = λ i h k g. rw (sym (s.found g).1) (s.first g i h);
      later = λ i h g. rw (sym (s.found g).1) (s.least i (omega arith));
      found = λ g. rw (sym (s.found g).1) (s.found g).2;
      over = λ g i h. let e = s.none g in let t = s.least i (omega arith) in omega (arith, e, t);
    }
