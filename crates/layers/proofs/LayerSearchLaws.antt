-- Laws of the layers, as the search's loops want them.
use mathlib.Core.List.{List, ◌++◌, [], ◌∷◌, append_assoc, append-nil}
use Prim.Native.Nat.{ℕ, ◌-◌, suc, ◌+◌, ◌<◌, min, zero}
use lib.ListN.{length, replicate, set, length-append, take}
use mathlib.Core.Path.{◌≡◌, refl, ◌∙◌, ap, sym, ap₂}
use native.Mathlib.Omega.{arith}
use lib.Seq.{set_at, take_all, take_at}
use mathlib.Core.Bool.{true, false, Bool}
use native.Mathlib.Numerals.{add-one}
use native.Mathlib.Nat.{add-zero, add-suc}
use lib.Dec.{eqb}
use borrow.Author.Tests.{eq-eqb, ne_eqb}
use Rattle.records.specs.declared.Parts.{Parts}
use Rattle.layers.specs.LayerSearch.{layers_of, chosen, under, layers_below, all_under, picked, is_preset}
use Rattle.layers.specs.Internal.LayerSearch.{no_pair, up_to33}
use Rattle.layers.specs.declared.Pair.{Pair}
use Rattle.layers.specs.declared.Layers.{Layers}
use Rattle.records.specs.Sides.{bag_of}
use Rattle.records.specs.declared.Side.{Side}
use Rattle.records.specs.Zones.{zone_at, zone_count, global_of}
use Rattle.records.specs.declared.Zone.{Zone}
use Rattle.records.specs.Headers.{bank_of, program_of}

-- their number in full
unfoldable pub layer_count : List ℕ → Parts → ℕ → ℕ → ℕ → ℕ
layer_count b m key velocity h = length (layers_of b m key velocity h)

-- a list of layers in an array of 33, the rest blank
unfoldable pub padded : List Pair → List Pair
padded l = l ++ replicate (33 - length l) no_pair

-- a count of layers and the array that holds them
abbrev pub made : ℕ → List Pair → Layers
made n ps = record { count = n; pairs = ps }

-- one layer more is stored behind the others
pub pad-set : (l : List Pair) (x : Pair) → length l < 33 → set (padded l) (length l) x ≡ padded (l ++ (x ∷ []))
unfolding padded
pad-set l x h =
    let n : 33 - length l ≡ suc (33 - (length l + 1)) = omega arith in
    let e : length (l ++ (x ∷ [])) ≡ length l + 1 = length-append l (x ∷ []) in
    rw (n, e) (set_at l no_pair (replicate (33 - (length l + 1)) no_pair) x (length l) refl ∙ rw append_assoc refl)

-- a search that came to the end has found them all
pub all_found : (l : List Pair) → length l < 33 → up_to33 l ≡ made (length l) (padded l)
unfolding up_to33 padded
all_found l h =
    let n : min 33 (length l) ≡ length l = omega arith in
    let e : take 33 l ≡ l = take_all 33 l (omega arith) in
    rw (n, e)

-- a search that stopped at the thirty-third has found the first
pub first_found : (l rest : List Pair) → length l ≡ 33 → up_to33 (l ++ rest) ≡ made 33 (padded l)
unfolding up_to33 padded
first_found l rest h =
    let n : length (l ++ rest) ≡ 33 + length rest = length-append l rest ∙ ap (λ (k : ℕ). k + length rest) h in
    let m : min 33 (33 + length rest) ≡ 33 = omega arith in
    let z : 33 - (33 + length rest) ≡ 0 = omega arith in
    rw (n, m, z, h, take_at l rest 33 h) refl

-- what stands behind a part of a list
pub record Behind (part full : List Pair) : Type 0 where
  pub rest : List Pair
  pub whole : full ≡ part ++ rest

more : {a b c : List Pair} → Behind a b → Behind b c → Behind a c
more {a} {b} {c} x y = record { rest = x.rest ++ y.rest; whole = y.whole ∙ ap (λ (l : List Pair). l ++ y.rest) x.whole ∙ append_assoc a x.rest y.rest }

same : (l : List Pair) → Behind l l
same l = record { rest = []; whole = sym (append-nil l) }

-- a turn of the inner loop stores a layer behind those of a and u, and counts it
pub stored : (a u v ps : List Pair) (x : Pair) (n : ℕ) → ps ≡ padded (a ++ u) → n ≡ length (a ++ u) → n < 33 → v ≡ u ++ (x ∷ []) → set ps n x ≡ padded (a ++ v)
stored a u v ps x n here count less next =
    let h : length (a ++ u) < 33 = omega arith in
    rw (here, count, next) (pad-set (a ++ u) x h ∙ ap padded (append_assoc a u (x ∷ [])))

pub counted : (a u v : List Pair) (x : Pair) (n : ℕ) → n ≡ length (a ++ u) → v ≡ u ++ (x ∷ []) → n + 1 ≡ length (a ++ v)
counted a u v x n count next =
    let e : length (a ++ (u ++ (x ∷ []))) ≡ length (a ++ u) + 1 = ap length (sym (append_assoc a u (x ∷ []))) ∙ length-append (a ++ u) (x ∷ []) in
    rw (next, count) (sym e)

-- it stops at the thirty-third
pub stopped : (a u v full ps : List Pair) (x : Pair) (n : ℕ) → ps ≡ padded (a ++ u) → n ≡ length (a ++ u) → n + 1 ≡ 33 → v ≡ u ++ (x ∷ []) → Behind (a ++ v) full → made (n + 1) (set ps n x) ≡ up_to33 full
stopped a u v full ps x n here count last next f =
    let len : length (a ++ v) ≡ 33 = sym (counted a u v x n count next) ∙ last in
    ap₂ made last (stored a u v ps x n here count (omega arith) next) ∙ sym (first_found (a ++ v) f.rest len) ∙ ap up_to33 (sym f.whole)

-- the inner loop: `low` is the first zone of instrument k
module _ (b : List ℕ) (i : Side) (key velocity z k low : ℕ) (begins : low ≡ bag_of b i k) where
  pub under-yes : (n : ℕ) → chosen b i key velocity k (low + n) ≡ true → under b i key velocity z k (n + 1) ≡ under b i key velocity z k n ++ (record { outer = z; inner = low + n } ∷ [])
  unfolding under
  under-yes n e = rw (add-one, begins) (rw (rw begins at e) refl)

  pub under-no : (n : ℕ) → chosen b i key velocity k (low + n) ≡ false → under b i key velocity z k (n + 1) ≡ under b i key velocity z k n
  unfolding under
  under-no n e = rw add-one (rw (rw begins at e) (append-nil (under b i key velocity z k n)))

under_more : (b : List ℕ) (i : Side) (key velocity z k n d : ℕ) → Behind (under b i key velocity z k n) (under b i key velocity z k (n + d))
unfolding under
under_more b i key velocity z k n zero = rw add-zero (same (under b i key velocity z k n))
under_more b i key velocity z k n (suc d) = rw add-suc (more (under_more b i key velocity z k n d) (record { rest = _; whole = refl }))

below_more : (b : List ℕ) (p i : Side) (key velocity h n d : ℕ) → Behind (layers_below b p i key velocity h n) (layers_below b p i key velocity h (n + d))
unfolding layers_below
below_more b p i key velocity h n zero = rw add-zero (same (layers_below b p i key velocity h n))
below_more b p i key velocity h n (suc d) = rw add-suc (more (below_more b p i key velocity h n d) (record { rest = _; whole = refl }))

-- the outer loop: `from` is the first zone of preset h
module _ (b : List ℕ) (p i : Side) (key velocity h from : ℕ) (begins : from ≡ bag_of b p h) where
  pub below-no : (n : ℕ) → chosen b p key velocity h (from + n) ≡ false → layers_below b p i key velocity h (n + 1) ≡ layers_below b p i key velocity h n
  unfolding layers_below
  below-no n e = rw add-one (rw (rw begins at e) (append-nil (layers_below b p i key velocity h n)))

  -- zone `from + n` is `zone`, and its instrument has `many` zones
  module _ (n many : ℕ) (zone : Zone) (e : chosen b p key velocity h (from + n) ≡ true) (is : zone ≡ zone_at b p (from + n)) (all : many ≡ zone_count b i zone.link) where
    pub below-yes : layers_below b p i key velocity h (n + 1) ≡ layers_below b p i key velocity h n ++ under b i key velocity (from + n) zone.link many
    unfolding layers_below all_under
    below-yes = rw (all, is, begins) (rw add-one (rw (rw begins at e) refl))

    -- the inner loop came to its end
    pub below-turn : (j : ℕ) → j ≡ many → layers_below b p i key velocity h n ++ under b i key velocity (from + n) zone.link j ≡ layers_below b p i key velocity h (n + 1)
    below-turn j e = rw e (sym below-yes)

    -- what the search found at zone j of the instrument stands in front of all layers of the first `count` zones
    pub in-front : (j count : ℕ) → j < many → n < count → Behind (layers_below b p i key velocity h n ++ under b i key velocity (from + n) zone.link (j + 1)) (layers_below b p i key velocity h count)
    in-front j count less fewer =
        let m : j + 1 + (many - (j + 1)) ≡ many = omega arith in
        let c : n + 1 + (count - (n + 1)) ≡ count = omega arith in
        let u = rw m at (under_more b i key velocity (from + n) zone.link (j + 1) (many - (j + 1))) in
        let w = rw c at (below_more b p i key velocity h (n + 1) (count - (n + 1))) in
        let l = layers_below b p i key velocity h n in
        more (record { rest = u.rest; whole = below-yes ∙ ap (λ (x : List Pair). l ++ x) u.whole ∙ sym (append_assoc l (under b i key velocity (from + n) zone.link (j + 1)) u.rest) }) w

-- a zone and its head's global zone, each found before it is asked for
pub chosen_by : (b : List ℕ) (s : Side) (key velocity h z : ℕ) (zone global : Zone) (r : Bool) → r ≡ picked b s zone global key velocity → zone ≡ zone_at b s z → global ≡ global_of b s h → chosen b s key velocity h z ≡ r
unfolding chosen
chosen_by b s key velocity h z zone global r asked is beside = cc

-- a record's bank is the one looked for, or another
module _ (b : List ℕ) (m : Parts) (bank program h x : ℕ) (is : x ≡ bank_of b m h) where
  pub preset-yes : (y : ℕ) → y ≡ program_of b m h → x ≡ bank → eqb y program ≡ is_preset b m bank program h
  unfolding is_preset
  preset-yes y has same = rw (eq-eqb (bank_of b m h) bank (sym is ∙ same), has) refl

  pub preset-no : (x ≡ bank → ⊥) → false ≡ is_preset b m bank program h
  unfolding is_preset
  preset-no other = rw (ne_eqb (bank_of b m h) bank (λ e. other (is ∙ e))) refl
