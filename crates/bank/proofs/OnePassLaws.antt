-- One pass over the zones finds what the tests 6 and 7 of Admission look for, and the first window past its memory.
use Rattle.std.specs.Prelude.{Option, None, Some, is_some}
use Prim.Native.Nat.{ℕ, zero, suc, ◌<◌, ◌+◌, ◌-◌}
use mathlib.Core.List.{List}
use mathlib.Core.Bool.{Bool, true, false, cond, ◌||◌, not, ◌&&◌, and-false, or-false, or-true}
use mathlib.Core.Path.{◌≡◌, refl, sym, ◌∙◌, ap}
use native.Mathlib.Nat.{zero-add, not-suc-le-zero, le_of_suc-le-suc, eq-or-lt_of_le}
use native.Mathlib.Omega.{arith}
use lib.Dec.{ltb, eqb, lit<}
use borrow.Author.Tests.{le-ltb, lt-ltb, ne_eqb, eqb-true, ltb-true, ltb-false, eq-eqb}
use mathlib.Core.Logic.{⊎_elim}
use native.Mathlib.Numerals.{add-one}
use lib.IntN.{ℤ, pos}
use lib.ListN.{replicate, length-replicate, get_or-replicate}
use Rattle.records.specs.Zones.{zone_count, zone_at, zone_below, first_zone, value, global_of}
use Rattle.records.specs.declared.Parts.{Parts}
use Rattle.records.specs.Sides.{bag_of}
use Rattle.bank.specs.Internal.Rates.{with_zones, lower, bad_rated, with_zone}
use Rattle.records.specs.Looking.{first, or_else, given}
use Rattle.records.proofs.LookingLaws.{first-is, first_absent}
use Rattle.records.specs.Internal.Amounts.{at, poured}
use Rattle.arith.specs.Holds.{between}
use Rattle.records.specs.Headers.{rate_of}
use Rattle.records.specs.declared.Zone.{Zone}
use Rattle.bank.specs.Rates.{names_sample, bad_rate}
use Rattle.records.proofs.AmountsLaws.{poured-value}
use Rattle.records.specs.Windows.{place_moved, start_of, end_of, loop_start_of, loop_end_of, mode_of, good_window, movers}
use Rattle.bank.specs.Internal.Bounds.{bad_over}
use Rattle.bank.specs.Bounds.{bad_window}
use Rattle.bank.specs.Past.{window_past, zone_past}
use Rattle.bank.specs.Internal.Past.{past_over}

-- the lowest sample at fault that an instrument below n names
unfoldable pub lowest_below : List ℕ → Parts → ℕ → Option ℕ
lowest_below b m zero = None
lowest_below b m (suc h) = with_zones b m (bag_of b m.instruments h) (zone_count b m.instruments h) (lowest_below b m h)

-- two tests that agree on n numbers find the same first
first-same : (p q : ℕ → Bool) (n : ℕ) → ((k : ℕ) → k < n → q k ≡ p k) → first q 0 n ≡ first p 0 n
unfolding first
first-same p q zero h = refl
first-same p q (suc n) h = rw (first-same p q n (λ k l. h k (omega arith)), zero-add, h n (omega arith)) refl

-- a number more in the set: what is found is the lower one
lower-stays : (f g : Option ℕ) (l : ℕ) → or_else (lower f l) g ≡ lower f l
lower-stays None g l = refl
lower-stays (Some x) g l = by (ltb x l)
  where
    by : (t : Bool) → or_else (cond t (Some x) (Some l)) g ≡ cond t (Some x) (Some l)
    by true = refl
    by false = refl

lower-behind : (f : Option ℕ) (t : Bool) (n l : ℕ) → l < n → lower (or_else f (given t n)) l ≡ lower f l
lower-behind (Some x) t n l h = refl
lower-behind None true n l h = rw (le-ltb n l (omega arith)) refl
lower-behind None false n l h = refl

lower-here : (f : Option ℕ) (t : Bool) (n : ℕ) → ((x : ℕ) → f ≡ Some x → x < n) → or_else f (given true n) ≡ lower (or_else f (given t n)) n
lower-here (Some x) t n h = rw (lt-ltb x n (h x refl)) refl
lower-here None true n h = rw (le-ltb n n (omega arith)) refl
lower-here None false n h = refl

pub first-add : (p q : ℕ → Bool) (n l : ℕ) → l < n → q l ≡ true → ((k : ℕ) → k < n → eqb l k ≡ false → q k ≡ p k) → first q 0 n ≡ lower (first p 0 n) l
unfolding first
first-add p q zero l h e same = absurd (not-suc-le-zero h)
first-add p q (suc n) l h e same = ⊎_elim (λ at. here at) (λ low. further low (first-add p q n l low e (λ k m f. same k (omega arith) f))) (eq-or-lt_of_le (le_of_suc-le-suc h))
  where
    here : l ≡ n → first q 0 (suc n) ≡ lower (first p 0 (suc n)) l
    here at =
        let was : first q 0 n ≡ first p 0 n = first-same p q n (λ k m. same k (omega arith) (ne_eqb l k (λ z. omega arith))) in
        let yes : q n ≡ true = rw at at e in
        rw (at, was, zero-add, yes) (lower-here (first p 0 n) (p n) n (λ x f. rw zero-add at (first-is p 0 n x f).high))

    further : l < n → first q 0 n ≡ lower (first p 0 n) l → first q 0 (suc n) ≡ lower (first p 0 (suc n)) l
    further low ih = rw ih (lower-stays (first p 0 n) (given (q (0 + n)) (0 + n)) l ∙ rw zero-add (sym (lower-behind (first p 0 n) (p n) n l low)))

-- one zone more names a number, or not
more : (a f : Option ℕ) (t : Bool) (x : ℕ) → is_some (or_else a (or_else f (given t x))) ≡ (is_some (or_else a f) || t)
more (Some y) f t x = refl
more None (Some y) t x = refl
more None None true x = refl
more None None false x = refl

or_nothing : (a : Option ℕ) → or_else a None ≡ a
or_nothing None = refl
or_nothing (Some x) = refl

-- test 6
module _ (b : List ℕ) (m : Parts) where
  abbrev wrong : ℕ → Bool
  wrong k = not (between 400 50000 (rate_of b m k))

  abbrev limit : ℕ
  limit = m.instruments.nlinks - 1

  -- sample k has a bad rate, and a zone of a head below h, or one of the first j zones of head h, names it
  abbrev named_by : ℕ → ℕ → ℕ → Option ℕ
  named_by h j k =
      or_else (zone_below b m.instruments (names_sample b m.instruments k) h)
      (first (names_sample b m.instruments k h) (bag_of b m.instruments h) j)

  faulty : ℕ → ℕ → ℕ → Bool
  faulty h j k = wrong k && is_some (named_by h j k)

  module _ (h j : ℕ) where
    abbrev zone : Zone
    zone = zone_at b m.instruments (bag_of b m.instruments h + j)

    each : (k : ℕ) → faulty h (suc j) k ≡ (wrong k && (is_some (named_by h j k) || (zone.sounding && eqb zone.link k)))
    unfolding faulty first names_sample
    each k =
        rw (more (zone_below b m.instruments (names_sample b m.instruments k) h) (first (names_sample b m.instruments k h) (bag_of b m.instruments h) j) (zone.sounding && eqb zone.link k) (bag_of b m.instruments h + j)) refl

    still : (k : ℕ) → (zone.sounding && eqb zone.link k) ≡ false → faulty h (suc j) k ≡ faulty h j k
    unfolding faulty
    still k e = each k ∙ rw (e, or-false (is_some (named_by h j k))) refl

    good-rate : (k : ℕ) → wrong zone.link ≡ false → (t : Bool) → eqb zone.link k ≡ t → faulty h (suc j) k ≡ faulty h j k
    unfolding faulty
    good-rate k w false e = still k (rw (e, and-false zone.sounding) refl)
    good-rate k w true e =
        let same : zone.link ≡ k = eqb-true zone.link k e in
        let fine : wrong k ≡ false = rw same at w in
        each k ∙ rw fine refl

    step : (s l w : Bool) → zone.sounding ≡ s → ltb zone.link limit ≡ l → wrong zone.link ≡ w → first (faulty h (suc j)) 0 limit ≡ with_zone b m (bag_of b m.instruments h + j) (first (faulty h j) 0 limit)
    unfolding with_zone bad_rated
    step false l w sounds low bad = rw sounds (first-same (faulty h j) (faulty h (suc j)) limit (λ k r. still k (rw sounds refl)))
    step true false w sounds low bad =
        rw (sounds, low) (first-same (faulty h j) (faulty h (suc j)) limit (λ k r. still k (rw (sounds, ne_eqb zone.link k (λ e. omega (arith, ltb-false zone.link limit low))) refl)))
    step true true false sounds low bad =
        rw (sounds, low, bad) (first-same (faulty h j) (faulty h (suc j)) limit (λ k r. good-rate k bad (eqb zone.link k) refl))
    step true true true sounds low bad =
        rw (sounds, low, bad) (first-add (faulty h j) (faulty h (suc j)) limit zone.link (ltb-true zone.link limit low) (each zone.link ∙ rw (bad, sounds, eq-eqb zone.link zone.link refl, or-true (is_some (named_by h j zone.link))) refl) (λ k r e. still k (rw (e, and-false zone.sounding) refl)))

    turn : first (faulty h (suc j)) 0 limit ≡ with_zone b m (bag_of b m.instruments h + j) (first (faulty h j) 0 limit)
    turn = step zone.sounding (ltb zone.link limit) (wrong zone.link) refl refl refl

  zones : (h j : ℕ) → with_zones b m (bag_of b m.instruments h) j (first (faulty h 0) 0 limit) ≡ first (faulty h j) 0 limit
  unfolding with_zones
  zones h zero = refl
  zones h (suc j) = rw (zones h j) (sym (turn h j))

  heads : (h : ℕ) → lowest_below b m h ≡ first (faulty h 0) 0 limit
  unfolding lowest_below faulty zone_below first
  heads zero = sym (first_absent (faulty 0 0) 0 limit (λ k r. and-false (wrong (0 + k))))
  heads (suc h) =
      rw (heads h) (zones h (zone_count b m.instruments h)
      ∙ first-same (faulty (suc h) 0) (faulty h (zone_count b m.instruments h)) limit (λ k r. rw (or_nothing (named_by h (zone_count b m.instruments h) k)) refl))

  -- the lowest sample at fault is the first at fault along shdr
  pub lowest-is : lowest_below b m (m.instruments.nheads - 1) ≡ first (bad_rate b m) 0 limit
  unfolding bad_rate first_zone faulty first
  lowest-is =
      heads (m.instruments.nheads - 1)
      ∙ first-same (bad_rate b m) (faulty (m.instruments.nheads - 1) 0) limit (λ k r. rw (or_nothing (zone_below b m.instruments (names_sample b m.instruments k) (m.instruments.nheads - 1))) refl)

  -- as loops want them
  pub zones-none : (from : ℕ) (low : Option ℕ) → with_zones b m from 0 low ≡ low
  unfolding with_zones
  zones-none from low = refl

  pub zones-next : (from n : ℕ) (low : Option ℕ) → with_zones b m from (n + 1) low ≡ with_zone b m (from + n) (with_zones b m from n low)
  unfolding with_zones
  zones-next from n low = rw add-one refl

  pub lowest-none : lowest_below b m 0 ≡ None
  unfolding lowest_below
  lowest-none = refl

  pub lowest-next : (h : ℕ) → lowest_below b m (h + 1) ≡ with_zones b m (bag_of b m.instruments h) (zone_count b m.instruments h) (lowest_below b m h)
  unfolding lowest_below
  lowest-next h = rw add-one refl

-- test 7: no amounts
abbrev pub blank : List ℤ
blank = replicate 61 (pos 0)

module _ (b : List ℕ) (m : Parts) (local global : Zone) where
  amounts : List ℤ
  amounts = poured b m.instruments local (poured b m.instruments global blank)

  poured-is : (o : ℕ) → o < 61 → at amounts o ≡ value b m.instruments local global (pos 0) o
  unfolding amounts
  poured-is o h =
      poured-value b m.instruments local global blank o (pos 0) (rw (length-replicate 61 (pos 0)) h)
      ∙ ap (λ (d : ℤ). value b m.instruments local global d o) (get_or-replicate 61 o (pos 0) (pos 0) h)

  by : (offset fine coarse : ℕ) → fine < 61 → coarse < 61 → place_moved b m local.link (at amounts) offset fine coarse ≡ place_moved b m local.link (movers b m local global) offset fine coarse
  unfolding place_moved
  by offset fine coarse f c = rw (poured-is fine f, poured-is coarse c) refl

  -- a window by the amounts that were poured is the window by values
  good-poured : good_window b m local.link (at (poured b m.instruments local (poured b m.instruments global blank))) ≡ good_window b m local.link (movers b m local global)
  unfolding good_window start_of end_of loop_start_of loop_end_of mode_of amounts
  good-poured =
      rw (by 20 0 4 (lit< tt) (lit< tt), by 24 1 12 (lit< tt) (lit< tt), by 28 2 45 (lit< tt) (lit< tt), by 32 3 50 (lit< tt) (lit< tt), poured-is 54 (lit< tt)) refl

  -- and so is its end
  end-poured : end_of b m local.link (at (poured b m.instruments local (poured b m.instruments global blank))) ≡ end_of b m local.link (movers b m local global)
  unfolding end_of amounts
  end-poured = by 24 1 12 (lit< tt) (lit< tt)

pub bad-over : (b : List ℕ) (m : Parts) (h z : ℕ) → bad_over b m (poured b m.instruments (global_of b m.instruments h) blank) z ≡ bad_window b m h z
unfolding bad_over bad_window
bad-over b m h z = rw (good-poured b m (zone_at b m.instruments z) (global_of b m.instruments h)) refl

-- the first window past its memory
pub past-over : (b : List ℕ) (m : Parts) (ram rom h z : ℕ) → past_over b m ram rom (poured b m.instruments (global_of b m.instruments h) blank) z ≡ zone_past b m ram rom h z
unfolding past_over zone_past window_past
past-over b m ram rom h z = rw (end-poured b m (zone_at b m.instruments z) (global_of b m.instruments h)) refl
