-- `tally` meets its contract.
use mathlib.Core.List.{List, [], ◌∷◌}
use mathlib.Core.Path.{◌≡◌, refl, sym, ap, ◌∙◌}
use Prim.Native.Nat.{ℕ, ◌+◌, ◌*◌, ◌<◌, ◌≤◌}
use native.Mathlib.Omega.{arith}
use lib.ListN.{length, get_or, set}
use Rattle.smf.specs.declared.Item.TheVariants.{Bad}
use Rattle.merge.specs.declared.Entry.{Entry}
use Rattle.merge.specs.declared.Tally.{Tally}
use Rattle.merge.specs.declared.Tracks.{Tracks}
use Rattle.merge.specs.Entries.{advanced_of}
use Rattle.merge.specs.Internal.Entries.{Settled}
use Rattle.merge.specs.Internal.Lanes.{lane_sequence, Earliest}
use Rattle.merge.specs.Internal.Order.{hour_after, told_of, tally_of}
use Rattle.merge.proofs.OrderLaws.{left_of, found-settled, found_first, found_none, way_on}
use Rattle.merge.proofs.order.tally.Invariants.{Underway}
use Rattle.merge.proofs.order.tally.Goals as goal

-- one event is told
told-one : (t : Tally) (e : Entry) (es : List Entry) (limit : ℕ) → tally_of t (e ∷ es) limit ≡ tally_of (told_of t e limit) es limit
unfolding tally_of
told-one t e es limit = refl

-- none is left
told_none : (t : Tally) (limit : ℕ) → tally_of t [] limit ≡ t
unfolding tally_of
told_none t limit = refl

-- U and the count are held
held_both : (t : Tally) (e : Entry) (limit : ℕ) → ((told_of t e limit).hour.sum ≤ limit + 1) × ((told_of t e limit).size ≤ 4294967318)
unfolding told_of hour_after
held_both t e limit = (omega arith, omega arith)

-- what an array holds where nothing is
abbrev blank : Entry
blank = record { tick = 0; place = 0; end = 0; item = Bad }

module _ (b : List ℕ) (l : Tracks) (limit : ℕ) (ticks : List ℕ) (entries : List Entry) (t : Tally) (j : ℕ) (u : Underway b l limit ticks entries t j) (h : j < l.count) where
  abbrev first : Entry
  first = get_or entries j blank

  -- less is left
  less : (next : Entry) → next ≡ advanced_of b first → length (left_of b l.count (set entries j next)) < length (left_of b l.count entries)
  less next e =
      let f = ap length (found_first b l.count entries ticks u.way j blank u.next h) in
      rw e (omega (arith, f))

  -- and the way goes on
  again : (next : Entry) (after : Tally) (k : ℕ) → next ≡ advanced_of b first → Settled b next → after ≡ told_of t first limit → Earliest (set ticks j next.tick) l.count k
      → Underway b l limit (set ticks j next.tick) (set entries j next) after k
  again next after k e s a f =
      let rest = left_of b l.count (set entries j (advanced_of b first)) in
      let told = u.told ∙ ap (λ (es : List Entry). tally_of t es limit) (found_first b l.count entries ticks u.way j blank u.next h) ∙ told-one t first rest limit in
      let held = held_both t first limit in
      record {
        way = way_on b l.count entries ticks u.way j next h s;
        next = f;
        told = rw (a, e) told;
        sum = rw a held.0;
        size = rw a held.1;
      }

pub earliest-j-requires : goal.earliest-j-requires
earliest-j-requires c = c.requires.room

pub loop-j-init : goal.loop-j-init
loop-j-init c = let p = c.requires in
    let t = c.tally_start-t.ensures in
    record {
      way = record { room = p.room; whole = p.whole; own = p.ticks; settled = p.settled };
      next = c.earliest-j.ensures;
      told = ap (λ (x : Tally). tally_of x (lane_sequence c.args.b.now c.args.l) (3600000000 * c.args.division)) (sym t);
      sum = rw t (omega arith);
      size = rw t (omega arith);
    }

pub offset_bounds-entries-j : goal.offset_bounds-entries-j
offset_bounds-entries-j c = omega arith

pub bounds-entries-j : goal.bounds-entries-j
bounds-entries-j c = omega arith

pub told-t-requires : goal.told-t-requires
told-t-requires c = let u = c.loop-j.invariant in (omega arith, u.sum, u.size)

pub advanced-next-requires : goal.advanced-next-requires
advanced-next-requires c = let a = c.args in
    found-settled a.b.now a.l.count c.loop-j.entries c.loop-j.ticks c.loop-j.invariant.way c.loop-j.j blank c.loop-j-test.true

pub offset_bounds-ticks-j : goal.offset_bounds-ticks-j
offset_bounds-ticks-j c = omega arith

pub bounds-ticks-j : goal.bounds-ticks-j
bounds-ticks-j c = omega arith

pub offset_bounds-entries-j-in-loop-j : goal.offset_bounds-entries-j-in-loop-j
offset_bounds-entries-j-in-loop-j c = omega arith

pub bounds-entries-j-in-loop-j : goal.bounds-entries-j-in-loop-j
bounds-entries-j-in-loop-j c = omega arith

pub earliest-j-requires-in-loop-j : goal.earliest-j-requires-in-loop-j
earliest-j-requires-in-loop-j c = c.requires.room

pub loop-j-smaller : goal.loop-j-smaller
loop-j-smaller c = let a = c.args in
    less a.b.now a.l (3600000000 * a.division) c.loop-j.ticks c.loop-j.entries c.loop-j.t c.loop-j.j c.loop-j.invariant c.loop-j-test.true _ c.advanced-next.ensures.value

pub loop-j-preserved : goal.loop-j-preserved
loop-j-preserved c = let a = c.args in
    again a.b.now a.l (3600000000 * a.division) c.loop-j.ticks c.loop-j.entries c.loop-j.t c.loop-j.j c.loop-j.invariant c.loop-j-test.true _ _ _ c.advanced-next.ensures.value c.advanced-next.ensures.settled c.told-t.ensures c.earliest-j-in-loop-j.ensures

pub returns : goal.returns
returns c = let a = c.args in
    let u = c.loop-j.invariant in
    let none = found_none a.b.now a.l.count c.loop-j.entries c.loop-j.ticks u.way c.loop-j.j u.next c.loop-j-test.false in
    sym (u.told ∙ ap (λ (es : List Entry). tally_of c.loop-j.t es (3600000000 * a.division)) none ∙ told_none c.loop-j.t (3600000000 * a.division))
