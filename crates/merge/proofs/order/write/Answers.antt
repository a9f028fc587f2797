-- `write` meets its contract.
use mathlib.Core.List.{List, [], ◌∷◌, ◌++◌, append_assoc}
use mathlib.Core.Path.{◌≡◌, refl, sym, ap, ◌∙◌}
use Prim.Native.Nat.{ℕ, ◌+◌, ◌<◌, ◌≤◌}
use native.Mathlib.Omega.{arith}
use borrow.Author.Rules.{rules}
use lib.ListN.{length, get_or, set, length-append}
use Rattle.smf.specs.declared.Item.TheVariants.{Bad}
use Rattle.smf.specs.Spelling.{two_bytes, four_bytes}
use Rattle.merge.specs.declared.Entry.{Entry}
use Rattle.merge.specs.declared.Line.{Line}
use Rattle.merge.specs.declared.Tracks.{Tracks}
use Rattle.merge.specs.Entries.{advanced_of}
use Rattle.merge.specs.Internal.Entries.{Settled}
use Rattle.merge.specs.Internal.Lanes.{lane_sequence, Earliest}
use Rattle.merge.specs.Internal.Lines.{laid_over, head_bytes, entry_bytes, line_after, closing_bytes, line_bytes, line_start}
use Rattle.merge.proofs.OrderLaws.{left_of, found-settled, found_first, found_none, way_on}
use Rattle.merge.proofs.PagesLaws.{laid_none, laid-length, room-then, laid_then}
use Rattle.merge.proofs.order.write.Invariants.{Underway}
use Rattle.merge.proofs.order.write.Goals as goal

-- the head has 22 bytes
head-length : (division size : ℕ) → length (head_bytes division size) ≡ 22
unfolding two_bytes four_bytes
head-length division size = refl

-- one event, and none
line-one : (line : Line) (e : Entry) (es : List Entry) → line_bytes line (e ∷ es) ≡ entry_bytes line e ++ line_bytes (line_after line e) es
unfolding line_bytes
line-one line e es = refl

line-none : (line : Line) → line_bytes line [] ≡ closing_bytes line
unfolding line_bytes
line-none line = refl

-- what an array holds where nothing is
abbrev blank : Entry
blank = record { tick = 0; place = 0; end = 0; item = Bad }

module _ (b : List ℕ) (l : Tracks) (file out₀ : List ℕ) (start : ℕ) (out : List ℕ) (at : ℕ) (line : Line) (ticks : List ℕ) (entries : List Entry) (j : ℕ) (u : Underway b l file out₀ start out at line ticks entries j) where
  -- the output keeps its length
  same : length out ≡ length out₀
  same =
      let e = ap length u.all ∙ length-append u.put (line_bytes line (left_of b l.count entries)) in
      ap length u.laid ∙ laid-length out₀ start u.put (omega (arith, e, u.room))

  module _ (h : j < l.count) where
    abbrev first : Entry
    first = get_or entries j blank

    abbrev rest : List ℕ
    rest = line_bytes (line_after line first) (left_of b l.count (set entries j (advanced_of b first)))

    -- the file, with the next event's bytes apart
    apart : file ≡ u.put ++ entry_bytes line first ++ rest
    apart =
        u.all ∙ ap (λ (es : List Entry). u.put ++ line_bytes line es) (found_first b l.count entries ticks u.way j blank u.next h)
        ∙ ap (λ (xs : List ℕ). u.put ++ xs) (line-one line first (left_of b l.count (set entries j (advanced_of b first))))
        ∙ sym (append_assoc u.put (entry_bytes line first) rest)

    -- there is room for it
    fits : start + length (u.put ++ entry_bytes line first) ≤ length out₀
    fits = let e = ap length apart ∙ length-append (u.put ++ entry_bytes line first) rest in omega (arith, e, u.room)

    fits-entry : at + length (entry_bytes line first) ≤ length out
    fits-entry = room-then out₀ start u.put (entry_bytes line first) fits at out u.there u.laid

    -- less is left
    less : (next : Entry) → next ≡ advanced_of b first → length (left_of b l.count (set entries j next)) < length (left_of b l.count entries)
    less next e =
        let f = ap length (found_first b l.count entries ticks u.way j blank u.next h) in
        rw e (omega (arith, f))

    -- and the way goes on
    again : (next : Entry) (after : Line) (k q : ℕ) (second : List ℕ) → next ≡ advanced_of b first → Settled b next → after ≡ line_after line first → Earliest (set ticks j next.tick) l.count k
        → q ≡ at + length (entry_bytes line first) → second ≡ laid_over out at (entry_bytes line first)
        → Underway b l file out₀ start second q after (set ticks j next.tick) (set entries j next) k
    again next after k q second e s a f p laid =
        let both = laid_then out₀ start u.put (entry_bytes line first) fits at out u.there u.laid q second p laid in
        record {
          way = way_on b l.count entries ticks u.way j next h s;
          next = f;
          put = u.put ++ entry_bytes line first;
          there = both.0;
          laid = both.1;
          all = rw (a, e) apart;
          room = u.room;
        }

  module _ (h : l.count ≤ j) where
    -- the file, with the end of track apart
    ends : file ≡ u.put ++ closing_bytes line
    ends =
        u.all ∙ ap (λ (es : List Entry). u.put ++ line_bytes line es) (found_none b l.count entries ticks u.way j u.next h)
        ∙ ap (λ (xs : List ℕ). u.put ++ xs) (line-none line)

    last_fits : start + length (u.put ++ closing_bytes line) ≤ length out₀
    last_fits = let e = ap length ends in omega (arith, e, u.room)

    fits-end : at + length (closing_bytes line) ≤ length out
    fits-end = room-then out₀ start u.put (closing_bytes line) last_fits at out u.there u.laid

    -- all is put down
    done : (q : ℕ) (second : List ℕ) → q ≡ at + length (closing_bytes line) → second ≡ laid_over out at (closing_bytes line) → second ≡ laid_over out₀ start file
    done q second p laid =
        (laid_then out₀ start u.put (closing_bytes line) last_fits at out u.there u.laid q second p laid).1 ∙ ap (laid_over out₀ start) (sym ends)

-- the head, and behind it the line
rejoined : (out head file : List ℕ) (p : ℕ) (first second : List ℕ) → length head ≡ 22 → 22 + length file ≤ length out → p ≡ 22 → first ≡ laid_over out 0 head → second ≡ laid_over first p file
    → second ≡ laid_over out 0 (head ++ file)
rejoined out head file p first second n r q f s =
    let l = length-append head file in
    (laid_then out 0 head file (omega (arith, l, n, r)) p first (omega (arith, n, q)) f (p + length file) second refl s).1

pub put_head-at-requires : goal.put_head-at-requires
put_head-at-requires c = omega (arith, c.requires.room)

pub line_start-line-requires : goal.line_start-line-requires
line_start-line-requires c = tt

pub earliest-j-requires : goal.earliest-j-requires
earliest-j-requires c = c.requires.lined.room

pub loop-j-init : goal.loop-j-init
loop-j-init c = let a = c.args in
    let p = c.requires.lined in
    let r = c.line_start-line.ensures in
    let n = head-length a.division a.size in
    let o = ap length c.put_head-at.ensures.output ∙ laid-length a.out.now 0 (head_bytes a.division a.size) (omega (arith, n, c.requires.room)) in
    record {
      way = record { room = p.room; whole = p.whole; own = p.ticks; settled = p.settled };
      next = c.earliest-j.ensures;
      put = [];
      there = omega arith;
      laid = sym (laid_none c.put_head-at.new.out c.put_head-at.result);
      all = rw r refl;
      room = omega (arith, o, c.put_head-at.ensures.value, c.requires.room);
    }

pub offset_bounds-entries-j : goal.offset_bounds-entries-j
offset_bounds-entries-j c = omega arith

pub bounds-entries-j : goal.bounds-entries-j
bounds-entries-j c = omega arith

pub put_entry-at-requires : goal.put_entry-at-requires
put_entry-at-requires c = let a = c.args in
    fits-entry a.b.now a.l _ _ _ c.loop-j.out c.loop-j.at c.loop-j.line c.loop-j.ticks c.loop-j.entries c.loop-j.j c.loop-j.invariant c.loop-j-test.true

pub line_after-line-requires : goal.line_after-line-requires
line_after-line-requires c = tt

pub advanced-next-requires : goal.advanced-next-requires
advanced-next-requires c = let a = c.args in
    found-settled a.b.now a.l.count c.loop-j.entries c.loop-j.ticks c.loop-j.invariant.way c.loop-j.j blank c.loop-j-test.true

pub offset_bounds-ticks-j : goal.offset_bounds-ticks-j
offset_bounds-ticks-j c = omega arith

pub bounds-ticks-j : goal.bounds-ticks-j
bounds-ticks-j c = omega arith

pub offset_bounds-entries-j-in-loop-j : goal.offset_bounds-entries-j-in-loop-j
offset_bounds-entries-j-in-loop-j c = omega arith

pub bounds-entries-j-in-loop-j : goal.bounds-entries-j-in-loop-j
bounds-entries-j-in-loop-j c = omega arith

pub earliest-j-requires-in-loop-j : goal.earliest-j-requires-in-loop-j
earliest-j-requires-in-loop-j c = c.requires.lined.room

pub loop-j-smaller : goal.loop-j-smaller
loop-j-smaller c = let a = c.args in
    less a.b.now a.l _ _ _ c.loop-j.out c.loop-j.at c.loop-j.line c.loop-j.ticks c.loop-j.entries c.loop-j.j c.loop-j.invariant c.loop-j-test.true _ c.advanced-next.ensures.value

pub loop-j-preserved : goal.loop-j-preserved
loop-j-preserved c = let a = c.args in
    again a.b.now a.l _ _ _ c.loop-j.out c.loop-j.at c.loop-j.line c.loop-j.ticks c.loop-j.entries c.loop-j.j c.loop-j.invariant c.loop-j-test.true _ _ _ _ _ c.advanced-next.ensures.value c.advanced-next.ensures.settled c.line_after-line.ensures c.earliest-j-in-loop-j.ensures c.put_entry-at.ensures.value c.put_entry-at.ensures.output

pub put_end-requires : goal.put_end-requires
put_end-requires c = let a = c.args in
    fits-end a.b.now a.l _ _ _ c.loop-j.out c.loop-j.at c.loop-j.line c.loop-j.ticks c.loop-j.entries c.loop-j.j c.loop-j.invariant c.loop-j-test.false

pub shape_of-out : goal.shape_of-out
shape_of-out c = let a = c.args in
    let e = same a.b.now a.l _ _ _ c.loop-j.out c.loop-j.at c.loop-j.line c.loop-j.ticks c.loop-j.entries c.loop-j.j c.loop-j.invariant in
    search rules

pub returns : goal.returns
returns c = let a = c.args in
    let n = head-length a.division a.size in
    let file = line_bytes line_start (lane_sequence a.b.now a.l) in
    let d = done a.b.now a.l file _ _ c.loop-j.out c.loop-j.at c.loop-j.line c.loop-j.ticks c.loop-j.entries c.loop-j.j c.loop-j.invariant c.loop-j-test.false _ _ c.put_end.ensures.value c.put_end.ensures.output in
    let answer = rejoined a.out.now (head_bytes a.division a.size) file _ _ _ n (omega (arith, c.requires.room)) c.put_head-at.ensures.value c.put_head-at.ensures.output d in
    record { output = answer }
