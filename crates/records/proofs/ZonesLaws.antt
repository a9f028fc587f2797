-- Laws of zones.
use Rattle.std.specs.Prelude.{Option, None, Some}
use mathlib.Core.List.{List}
use mathlib.Core.Path.{◌≡◌, refl, subst}
use Prim.Native.Nat.{ℕ, zero, suc, ◌+◌, ◌-◌, ◌<◌}
use mathlib.Core.Bool.{Bool, true}
use native.Mathlib.Nat.{add-zero, add-suc}
use native.Mathlib.Numerals.{add-one}
use native.Mathlib.Omega.{arith}
use Rattle.records.proofs.LookingLaws.{Hit, first-is, first-hit}
use Rattle.records.specs.Sides.{gen_of, bag_of}
use Rattle.records.specs.Zones.{has, gen_count, closing_of, zone_count, zone_below, first_zone}
use Rattle.records.specs.declared.Side.{Side}
use Rattle.records.specs.Looking.{first, placed}

-- the 41 (53) of a zone is one of its generators
pub closing-is : (b : List ℕ) (s : Side) (z g : ℕ) → closing_of b s z ≡ Some g → Hit (has b s s.closing) (gen_of b s z) (gen_count b s z) g
unfolding closing_of
closing-is b s z g e = first-is (has b s s.closing) (gen_of b s z) (gen_count b s z) g e

-- a search over heads and their zones
module _ (b : List ℕ) (s : Side) (p : ℕ → ℕ → Bool) where
  pub below_none : zone_below b s p 0 ≡ None
  unfolding zone_below
  below_none = refl

  -- one head more, in whose zones p holds nowhere
  pub below_next : (h : ℕ) → zone_below b s p h ≡ None → first (p h) (bag_of b s h) (zone_count b s h) ≡ None → zone_below b s p (h + 1) ≡ None
  unfolding zone_below
  below_next h e f = rw add-one (rw (e, f) refl)

  stays : (h d z : ℕ) → zone_below b s p h ≡ Some z → zone_below b s p (h + d) ≡ Some z
  unfolding zone_below
  stays h zero z e = rw add-zero e
  stays h (suc d) z e = rw (add-suc, stays h d z e) refl

  -- the first is found in head h, also where the search would go on
  pub zone-in : (h z : ℕ) → zone_below b s p h ≡ None → first (p h) (bag_of b s h) (zone_count b s h) ≡ Some z → h < s.nheads - 1 → first_zone b s p ≡ Some z
  unfolding zone_below first_zone
  zone-in h z e f m =
      let here : zone_below b s p (suc h) ≡ Some z = rw (e, f) refl in
      let eq : suc h + (s.nheads - 1 - suc h) ≡ s.nheads - 1 = omega arith in
      subst (λ (k : ℕ). zone_below b s p k ≡ Some z) eq (stays (suc h) (s.nheads - 1 - suc h) z here)

  pub zone-hit : (h j : ℕ) → zone_below b s p h ≡ None → first (p h) (bag_of b s h) j ≡ None → p h (bag_of b s h + j) ≡ true → j < zone_count b s h → h < s.nheads - 1 → first_zone b s p ≡ Some (bag_of b s h + j)
  zone-hit h j e f t l m = zone-in h (bag_of b s h + j) e (first-hit (p h) (bag_of b s h) j (zone_count b s h) f t l) m

  -- the same with the place of what is found
  pub zone-placed : (f : ℕ → ℕ) (h q : ℕ) → zone_below b s p h ≡ None → placed f (first (p h) (bag_of b s h) (zone_count b s h)) ≡ Some q → h < s.nheads - 1 → placed f (first_zone b s p) ≡ Some q
  zone-placed f h q e g m = by (first (p h) (bag_of b s h) (zone_count b s h)) refl g
    where
      by : (x : Option ℕ) → first (p h) (bag_of b s h) (zone_count b s h) ≡ x → placed f x ≡ Some q → placed f (first_zone b s p) ≡ Some q
      by None x k = let z : ◌≡◌ {A = ℕ} 0 1 = cc in absurd (omega arith)
      by (Some z) x k = rw (zone-in h z e x m) k

  -- the zones of one head more, where the loop holds its first zone and their number
  pub below_more : (h from count : ℕ) → from ≡ bag_of b s h → count ≡ zone_count b s h → zone_below b s p h ≡ None → first (p h) from count ≡ None → zone_below b s p (h + 1) ≡ None
  below_more h from count begins all e f = below_next h e (rw (begins, all) at f)

  pub none_found : (n : ℕ) → n ≡ s.nheads - 1 → zone_below b s p n ≡ None → first_zone b s p ≡ None
  unfolding first_zone
  none_found n e f = rw e at f
