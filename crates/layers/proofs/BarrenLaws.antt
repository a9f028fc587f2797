-- Laws of the instruments in which nothing matches, as the search's loops want them.
use mathlib.Core.Bool.{false, Bool, true, cond, not, ◌&&◌}
use mathlib.Core.List.{List, [], ◌∷◌, ◌++◌, append-nil}
use Prim.Native.Nat.{ℕ, ◌+◌, ◌<◌, zero, suc, ◌≤◌}
use mathlib.Core.Path.{◌≡◌, refl, ap, ◌∙◌, sym}
use native.Mathlib.Omega.{arith}
use lib.ListN.{replicate, get_or, set, length, length-set, length-append}
use mathlib.Core.Logic.{◌⊎◌, inl, inr, ⊎_elim}
use native.Mathlib.Nat.{eq-or-lt_of_le, le_of_suc-le-suc}
use lib.Dec.{eqb}
use borrow.Author.Tests.{eqb-true, not-false}
use Rattle.records.specs.declared.Side.{Side}
use Rattle.layers.specs.LayerSearch.{chosen, under, layers_below}
use Rattle.records.specs.Sides.{bag_of}
use Rattle.records.specs.Zones.{zone_count, zone_at, global_of}
use Rattle.layers.specs.Internal.Barren.{remembered, noted, entered}
use Rattle.layers.specs.declared.Pair.{Pair}
use Rattle.records.specs.declared.Zone.{Zone}
use Rattle.layers.proofs.LayerSearchLaws.{below-yes, below-no}

-- no zone of instrument k matches key and velocity
pub record Barren (b : List ℕ) (i : Side) (key velocity k : ℕ) : Type 0 where
  pub none : (n : ℕ) → n < zone_count b i k → chosen b i key velocity k (bag_of b i k + n) ≡ false

-- every instrument that is remembered is one of those
pub record Known (b : List ℕ) (i : Side) (key velocity : ℕ) (barren : List Bool) : Type 0 where
  pub known : (k : ℕ) → remembered barren k ≡ true → Barren b i key velocity k

-- an array of false holds no true
blank : {A : Type 0} (n k : ℕ) → get_or (replicate n false) k false ≡ true → A
blank zero k e = let z : ◌≡◌ {A = ℕ} 0 1 = cc in absurd (omega arith)
blank (suc n) zero e = let z : ◌≡◌ {A = ℕ} 0 1 = cc in absurd (omega arith)
blank (suc n) (suc k) e = blank n k e

-- an array holds true where k was put in, and where it did before
set_cases : (l : List Bool) (k j : ℕ) → get_or (set l k true) j false ≡ true → (j ≡ k) ⊎ (get_or l j false ≡ true)
set_cases [] k j e = inr e
set_cases (x ∷ xs) zero zero e = inl refl
set_cases (x ∷ xs) zero (suc j) e = inr e
set_cases (x ∷ xs) (suc k) zero e = inr e
set_cases (x ∷ xs) (suc k) (suc j) e = ⊎_elim (λ s. inl (ap suc s)) (λ s. inr s) (set_cases xs k j e)

-- the array keeps its length
pub noted-length : (barren new : List Bool) (k : ℕ) (t : Bool) (m : ℕ) → new ≡ noted barren k t → length barren ≡ m → length new ≡ m
unfolding noted
noted-length barren new k false m is has = ap length is ∙ has
noted-length barren new k true m is has = ap length is ∙ length-set barren k true ∙ has

-- a list of layers that may get one more is empty at last only if it was, and none came
last-no : (u : List Pair) (x : Pair) (t : Bool) → length (u ++ cond t (x ∷ []) []) ≡ 0 → (length u ≡ 0) × (t ≡ false)
last-no u x false e = (ap length (sym (append-nil u)) ∙ e, refl)
last-no u x true e = absurd (omega (arith, length-append u (x ∷ [])))

-- instruments of one bank, at one key and velocity
module _ (b : List ℕ) (i : Side) (key velocity : ℕ) where
  -- at first none is remembered
  pub none-known : (n : ℕ) → Known b i key velocity (replicate n false)
  unfolding remembered
  none-known n = record { known = λ k e. blank n k e }

  -- a barren instrument has no layer under any preset zone
  barren-under : (k : ℕ) → Barren b i key velocity k → (z n : ℕ) → n ≤ zone_count b i k → under b i key velocity z k n ≡ []
  unfolding under
  barren-under k h z zero le = refl
  barren-under k h z (suc n) le = rw (barren-under k h z n (omega arith), h.none n (omega arith)) refl

  -- where the first m zones of an instrument gave no layer, none of them matches
  under_none : (z k m : ℕ) → length (under b i key velocity z k m) ≡ 0 → (n : ℕ) → n < m → chosen b i key velocity k (bag_of b i k + n) ≡ false
  unfolding under
  under_none z k zero e n h = absurd (omega arith)
  under_none z k (suc m) e n h =
      let y = bag_of b i k + m in
      let l = last-no (under b i key velocity z k m) (record { outer = z; inner = y }) (chosen b i key velocity k y) e in
      ⊎_elim (λ (s : n ≡ m). rw s l.1) (λ (s : n < m). under_none z k m l.0 n s) (eq-or-lt_of_le (le_of_suc-le-suc h))

  -- a barren instrument may be remembered
  known-with : (barren : List Bool) (k : ℕ) (t : Bool) → Known b i key velocity barren → (t ≡ true → Barren b i key velocity k) → Known b i key velocity (noted barren k t)
  unfolding noted remembered
  known-with barren k false h new = h
  known-with barren k true h new = record { known = λ j e. ⊎_elim (λ (s : j ≡ k). rw s (new refl)) (λ s. h.known j s) (set_cases barren k j e) }

  -- the inner loop came to the end of instrument k, with `found` layers behind the `before` of l
  module _ (z k : ℕ) (barren new : List Bool) (l : List Pair) (before found j : ℕ) where
    pub known-again : Known b i key velocity barren → before ≡ length l → found ≡ length (l ++ under b i key velocity z k j) → j ≡ zone_count b i k → new ≡ noted barren k (eqb found before) → Known b i key velocity new
    known-again h had has end is =
        let u = under b i key velocity z k in
        rw is
        (known-with barren k (eqb found before) h
        (λ e.
        let none : length (u j) ≡ 0 = omega (arith, length-append l (u j), eqb-true found before e) in
        record { none = under_none z k (zone_count b i k) (rw end at none) }))

-- what the test before an instrument says of zone z of preset h
module _ (b : List ℕ) (p : Side) (key velocity h z : ℕ) (zone global : Zone) (barren : List Bool) (r : Bool) (asked : r ≡ entered b p zone global key velocity barren) (is : zone ≡ zone_at b p z) (above : global ≡ global_of b p h) where
  both : (chosen b p key velocity h z && not (remembered barren zone.link)) ≡ r
  unfolding chosen entered
  both = cc

  -- the search goes into the instrument of a chosen zone alone
  pub entered-chosen : r ≡ true → chosen b p key velocity h z ≡ true
  entered-chosen e = by (chosen b p key velocity h z) (remembered barren zone.link) (both ∙ e)
    where
      by : (t s : Bool) → (t && not s) ≡ true → t ≡ true
      by true s e = refl
      by false s e = e

  -- it passes by a chosen zone only if its instrument is remembered
  pub passed-by : r ≡ false → chosen b p key velocity h z ≡ true → remembered barren zone.link ≡ true
  passed-by e picks =
      let s = remembered barren zone.link in
      not-false s (ap (λ (t : Bool). t && not s) (sym picks) ∙ both ∙ e)

-- a preset zone that the search passes by adds no layer
module _ (b : List ℕ) (p i : Side) (key velocity h from : ℕ) (begins : from ≡ bag_of b p h) (n : ℕ) (zone : Zone) (is : zone ≡ zone_at b p (from + n)) (barren : List Bool) where
  pub below-skip : Known b i key velocity barren → (chosen b p key velocity h (from + n) ≡ true → remembered barren zone.link ≡ true) → layers_below b p i key velocity h (n + 1) ≡ layers_below b p i key velocity h n
  below-skip known passed = by (chosen b p key velocity h (from + n)) refl
    where
      by : (t : Bool) → chosen b p key velocity h (from + n) ≡ t → layers_below b p i key velocity h (n + 1) ≡ layers_below b p i key velocity h n
      by false asked = below-no b p i key velocity h from begins n asked
      by true asked =
          let k = zone.link in
          let none = barren-under b i key velocity k (known.known k (passed asked)) (from + n) (zone_count b i k) (omega arith) in
          below-yes b p i key velocity h from begins n (zone_count b i k) zone asked is refl ∙ rw none (append-nil (layers_below b p i key velocity h n))
