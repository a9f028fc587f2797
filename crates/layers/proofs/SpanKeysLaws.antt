-- The keys of a preset's sheet are the keys of its layers: none lies outside, and the lowest and the highest have one.
use mathlib.Core.Bool.{Bool, true, false, cond, ◌&&◌}
use mathlib.Core.List.{List, [], ◌∷◌}
use mathlib.Core.Logic.{◌⊎◌, inl, inr, ⊎_elim}
use mathlib.Core.Path.{◌≡◌, refl, sym, subst}
use Prim.Native.Nat.{ℕ, zero, suc, ◌+◌, ◌<◌, ◌≤◌, min, max}
use native.Mathlib.Omega.{arith}
use lib.Dec.{leb}
use lib.ListN.{length, length-append}
use borrow.Author.Tests.{leb-true, leb-false, le-leb}
use Rattle.arith.specs.Holds.{between}
use Rattle.records.specs.Sides.{bag_of}
use Rattle.records.specs.Zones.{zone_at, global_of, zone_count}
use Rattle.records.specs.declared.Parts.{Parts}
use Rattle.records.specs.declared.Side.{Side}
use Rattle.records.specs.declared.Zone.{Zone}
use Rattle.layers.specs.LayerSearch.{picked, chosen, under, all_under, layers_below, layers_of}
use Rattle.layers.specs.Ranges.{inside, matches, key_range, velocity_range, whole}
use Rattle.layers.specs.Spans.{common, joined, filled, no_keys, area_of, layer_keys, keys_under, span_under, zone_span, span_below, span_of}
use Rattle.layers.specs.declared.Area.{Area}
use Rattle.layers.specs.declared.Pair.{Pair}
use Rattle.layers.specs.declared.Range.{Range}

-- x lies in a range, and x lies outside
pub record In (r : Range) (x : ℕ) : Type 0 where
  pub low : r.low ≤ x
  pub high : x ≤ r.high

abbrev pub Out : Range → ℕ → Type 0
Out r x = (x < r.low) ⊎ (r.high < x)

in-not-out : (r : Range) (x : ℕ) → In r x → Out r x → ⊥
in-not-out r x i o = ⊎_elim (λ l. omega (arith, l, i.low)) (λ h. omega (arith, h, i.high)) o

and_both : (s t : Bool) → (s && t) ≡ true → (s ≡ true) × (t ≡ true)
and_both true t e = (refl, e)
and_both false t e = let z : ◌≡◌ {A = ℕ} 0 1 = cc in absurd (omega arith)

and-three : (s t u : Bool) → s ≡ true → t ≡ true → u ≡ true → (s && (t && u)) ≡ true
and-three s t u e f g = rw (e, f, g) refl

inside-in : (r : Range) (x : ℕ) → inside r x ≡ true → In r x
unfolding inside between
inside-in r x e =
    let s = and_both (leb r.low x) (leb x r.high) e in
    record { low = leb-true r.low x s.0; high = leb-true x r.high s.1 }

in-inside : (r : Range) (x : ℕ) → In r x → inside r x ≡ true
unfolding inside between
in-inside r x i = rw (le-leb r.low x i.low, le-leb x r.high i.high) refl

-- a range with something in it
filled-by : (r : Range) (x : ℕ) → In r x → filled r ≡ true
unfolding filled
filled-by r x i = le-leb r.low r.high (omega (arith, i.low, i.high))

-- what lies in both lies in what they have in common, and the other way round
in-common : (r s : Range) (x : ℕ) → In r x → In s x → In (common r s) x
unfolding common
in-common r s x i j = record { low = omega (arith, i.low, j.low); high = omega (arith, i.high, j.high) }

common-in : (r s : Range) (x : ℕ) → In (common r s) x → In r x × In s x
unfolding common
common-in r s x i =
    (record { low = omega (arith, i.low); high = omega (arith, i.high) }, record { low = omega (arith, i.low); high = omega (arith, i.high) })

-- what lies outside of two joined lies outside of each
out-joined : (r s : Range) (x : ℕ) → Out (joined r s) x → Out r x × Out s x
unfolding joined
out-joined r s x o =
    ⊎_elim
    (λ l. (inl (omega (arith, l)), inl (omega (arith, l))))
    (λ h. (inr (omega (arith, h)), inr (omega (arith, h))))
    o

-- a key and a velocity of a note-on
pub record Struck (key velocity : ℕ) : Type 0 where
  pub key-high : key ≤ 127
  pub velocity-low : 1 ≤ velocity
  pub velocity-high : velocity ≤ 127

-- key and velocity lie in an area
record Meets (a : Area) (key velocity : ℕ) : Type 0 where
  key_in : In a.keys key
  velocity-in : In a.velocities velocity

-- a zone is picked by the keys and velocities of its area
module _ (b : List ℕ) (s : Side) (zone global : Zone) (key velocity : ℕ) where
  picked-meets : Struck key velocity → picked b s zone global key velocity ≡ true → (zone.sounding ≡ true) × Meets (area_of b s zone global) key velocity
  unfolding picked matches area_of
  picked-meets k e =
      let t = and_both zone.sounding (matches b s zone global key velocity) e in
      let keys = key_range b s zone (key_range b s global whole) in
      let velocities = velocity_range b s zone (velocity_range b s global whole) in
      let u = and_both (inside keys key) (inside velocities velocity) t.1 in (
        t.0,
        record {
          key_in = in-common whole keys key (record { low = omega arith; high = k.key-high }) (inside-in keys key u.0);
          velocity-in = in-common _ velocities velocity (record { low = k.velocity-low; high = k.velocity-high }) (inside-in velocities velocity u.1);
        },
      )

  meets-picked : zone.sounding ≡ true → Meets (area_of b s zone global) key velocity → Struck key velocity × (picked b s zone global key velocity ≡ true)
  unfolding picked matches area_of
  meets-picked e m =
      let keys = key_range b s zone (key_range b s global whole) in
      let velocities = velocity_range b s zone (velocity_range b s global whole) in
      let k = common-in whole keys key m.key_in in
      let v = common-in _ velocities velocity m.velocity-in in (
        record { key-high = k.0.high; velocity-low = v.0.low; velocity-high = v.0.high },
        and-three zone.sounding (inside keys key) (inside velocities velocity) e (in-inside keys key k.1) (in-inside velocities velocity v.1),
      )

-- both areas of a layer are met: its keys have the key
met-keys : (a c : Area) (key velocity : ℕ) → Meets a key velocity → Meets c key velocity → In (layer_keys a c) key
unfolding layer_keys
met-keys a c key velocity m n =
    let keys = in-common a.keys c.keys key m.key_in n.key_in in
    let velocities = in-common a.velocities c.velocities velocity m.velocity-in n.velocity-in in
    let some = filled-by (common a.keys c.keys) key keys in
    let loud = filled-by (common a.velocities c.velocities) velocity velocities in
    rw (some, loud) keys

-- ---- none lies outside

first_of : {A : Type 0} (t : Bool) (x y : A) → t ≡ true → cond t x y ≡ x
first_of t x y e = rw e refl

-- of a zone that sounds the keys count
keys_of : (b : List ℕ) (i : Side) (a : Area) (zone beside : Zone) → zone.sounding ≡ true → keys_under b i a zone beside ≡ layer_keys a (area_of b i zone beside)
unfolding keys_under
keys_of b i a zone beside e = first_of zone.sounding (layer_keys a (area_of b i zone beside)) no_keys e

span-of : (b : List ℕ) (p i : Side) (zone above : Zone) → zone.sounding ≡ true → zone_span b p i zone above ≡ span_under b i (area_of b p zone above) zone.link (zone_count b i zone.link)
unfolding zone_span
span-of b p i zone above e = first_of zone.sounding (span_under b i (area_of b p zone above) zone.link (zone_count b i zone.link)) no_keys e

module _ (b : List ℕ) (p i : Side) (key velocity : ℕ) (k : Struck key velocity) where
  under_none : (a : Area) (z h n : ℕ) → Meets a key velocity → Out (span_under b i a h n) key → under b i key velocity z h n ≡ []
  unfolding under span_under chosen
  under_none a z h zero m o = refl
  under_none a z h (suc n) m o =
      let y = bag_of b i h + n in
      let zone = zone_at b i y in
      let beside = global_of b i h in
      let s = out-joined (span_under b i a h n) (keys_under b i a zone beside) key o in
      rw (under_none a z h n m s.0) (by (picked b i zone beside key velocity) refl s.1)
    where
      by : (t : Bool) → picked b i (zone_at b i (bag_of b i h + n)) (global_of b i h) key velocity ≡ t → Out (keys_under b i a (zone_at b i (bag_of b i h + n)) (global_of b i h)) key → cond {A = List Pair} t (record { outer = z; inner = bag_of b i h + n } ∷ []) [] ≡ []
      by false e o = refl
      by true e o =
          let zone = zone_at b i (bag_of b i h + n) in
          let found = picked-meets b i zone (global_of b i h) key velocity k e in
          let keys = layer_keys a (area_of b i zone (global_of b i h)) in
          absurd (in-not-out keys key (met-keys a (area_of b i zone (global_of b i h)) key velocity m found.1) (subst (λ (r : Range). Out r key) (keys_of b i a zone (global_of b i h) found.0) o))

  below_none : (h n : ℕ) → Out (span_below b p i h n) key → layers_below b p i key velocity h n ≡ []
  unfolding layers_below span_below chosen all_under
  below_none h zero o = refl
  below_none h (suc n) o =
      let z = bag_of b p h + n in
      let zone = zone_at b p z in
      let s = out-joined (span_below b p i h n) (zone_span b p i zone (global_of b p h)) key o in
      rw (below_none h n s.0) (by (picked b p zone (global_of b p h) key velocity) refl s.1)
    where
      by : (t : Bool) → picked b p (zone_at b p (bag_of b p h + n)) (global_of b p h) key velocity ≡ t → Out (zone_span b p i (zone_at b p (bag_of b p h + n)) (global_of b p h)) key → cond t (all_under b p i key velocity (bag_of b p h + n)) [] ≡ []
      by false e o = refl
      by true e o =
          let zone = zone_at b p (bag_of b p h + n) in
          let found = picked-meets b p zone (global_of b p h) key velocity k e in
          under_none (area_of b p zone (global_of b p h)) (bag_of b p h + n) zone.link (zone_count b i zone.link) found.1 (subst (λ (r : Range). Out r key) (span-of b p i zone (global_of b p h) found.0) o)

-- a key outside of a preset's keys has no layer
pub outside-none : (b : List ℕ) (m : Parts) (h key velocity : ℕ) → Struck key velocity → Out (span_of b m h) key → layers_of b m key velocity h ≡ []
unfolding span_of layers_of
outside-none b m h key velocity k o = below_none b m.presets m.instruments key velocity k h (zone_count b m.presets h) o

-- ---- the lowest and the highest have one

-- a range is that of no key, or P holds of its low and of its high
abbrev Ends : (ℕ → Type 0) → Range → Type 0
Ends P r = (r ≡ no_keys) ⊎ ((r.low ≤ 127) × P r.low × P r.high)

ends-map : (P Q : ℕ → Type 0) → ((x : ℕ) → P x → Q x) → (r : Range) → Ends P r → Ends Q r
ends-map P Q f r e = ⊎_elim (λ n. inl n) (λ t. inr (t.0, f r.low t.1, f r.high t.2)) e

no-joined : (r : Range) → r.low ≤ 127 → joined no_keys r ≡ r
unfolding joined
no-joined r l =
    let low : min 127 r.low ≡ r.low = omega (arith, l) in
    let high : max 0 r.high ≡ r.high = omega arith in
    rw (low, high) refl

joined-no : (r : Range) → r.low ≤ 127 → joined r no_keys ≡ r
unfolding joined
joined-no r l =
    let low : min r.low 127 ≡ r.low = omega (arith, l) in
    let high : max r.high 0 ≡ r.high = omega arith in
    rw (low, high) refl

module _ (P Q R : ℕ → Type 0) (f : (x : ℕ) → P x → R x) (g : (x : ℕ) → Q x → R x) where
  lower-end : (x y : ℕ) → P x → Q y → R (min x y)
  lower-end x y a c = by (leb x y) refl
    where
      by : (t : Bool) → leb x y ≡ t → R (min x y)
      by true e = let h = leb-true x y e in let is : x ≡ min x y = omega (arith, h) in subst R is (f x a)
      by false e = let h = leb-false x y e in let is : y ≡ min x y = omega (arith, h) in subst R is (g y c)

  higher-end : (x y : ℕ) → P x → Q y → R (max x y)
  higher-end x y a c = by (leb x y) refl
    where
      by : (t : Bool) → leb x y ≡ t → R (max x y)
      by true e = let h = leb-true x y e in let is : y ≡ max x y = omega (arith, h) in subst R is (g y c)
      by false e = let h = leb-false x y e in let is : x ≡ max x y = omega (arith, h) in subst R is (f x a)

  ends-joined : (r s : Range) → Ends P r → Ends Q s → Ends R (joined r s)
  unfolding joined
  ends-joined r s c d =
      ⊎_elim
      (λ (e : r ≡ no_keys). ⊎_elim (λ (o : s ≡ no_keys). inl (rw (e, o) refl)) (λ u. subst (Ends R) (sym (rw e (no-joined s u.0))) (ends-map Q R g s (inr u))) d)
      (λ t. ⊎_elim (λ (o : s ≡ no_keys). subst (Ends R) (sym (rw o (joined-no r t.0))) (ends-map P R f r (inr t))) (λ u. inr (omega (arith, t.0), lower-end r.low s.low t.1 u.1, higher-end r.high s.high t.2 u.2)) d)
      c

-- instrument k under a preset zone z of area a
module _ (b : List ℕ) (i : Side) (a : Area) (z k : ℕ) where
  -- one of its first n zones makes a layer with the key
  record Under (n key : ℕ) : Type 0 where
    velocity : ℕ
    met : Meets a key velocity
    some : 0 < length (under b i key velocity z k n)

  -- one zone does
  record Here (zone beside : Zone) (key : ℕ) : Type 0 where
    velocity : ℕ
    met : Meets a key velocity
    picks : picked b i zone beside key velocity ≡ true

  layer-ends : (zone beside : Zone) → zone.sounding ≡ true → Ends (Here zone beside) (layer_keys a (area_of b i zone beside))
  unfolding layer_keys filled
  layer-ends zone beside sounds = by (filled keys) (filled velocities) refl refl
    where
      c : Area
      c = area_of b i zone beside

      keys : Range
      keys = common a.keys c.keys

      velocities : Range
      velocities = common a.velocities c.velocities

      at : (x : ℕ) → In keys x → velocities.low ≤ velocities.high → Struck x velocities.low × Here zone beside x
      at x h v =
          let m = common-in a.keys c.keys x h in
          let w = common-in a.velocities c.velocities velocities.low (record { low = omega arith; high = v }) in
          let k = meets-picked b i zone beside x velocities.low sounds (record { key_in = m.1; velocity-in = w.1 }) in
          (k.0, record { velocity = velocities.low; met = record { key_in = m.0; velocity-in = w.0 }; picks = k.1 })

      by : (s t : Bool) → filled keys ≡ s → filled velocities ≡ t → Ends (Here zone beside) (cond (s && t) keys no_keys)
      by false t e f = inl refl
      by true false e f = inl refl
      by true true e f =
          let l = leb-true keys.low keys.high e in
          let v = leb-true velocities.low velocities.high f in
          let low = at keys.low (record { low = omega arith; high = l }) v in
          let high = at keys.high (record { low = l; high = omega arith }) v in
          inr (low.0.key-high, low.1, high.1)

  keys-ends : (zone beside : Zone) → Ends (Here zone beside) (keys_under b i a zone beside)
  unfolding keys_under
  keys-ends zone beside = by zone.sounding refl
    where
      by : (t : Bool) → zone.sounding ≡ t → Ends (Here zone beside) (cond t (layer_keys a (area_of b i zone beside)) no_keys)
      by false e = inl refl
      by true e = layer-ends zone beside e

  under-ends : (n : ℕ) → Ends (Under n) (span_under b i a k n)
  unfolding span_under under chosen
  under-ends zero = inl refl
  under-ends (suc n) =
      let y = bag_of b i k + n in
      ends-joined (Under n) (Here (zone_at b i y) (global_of b i k)) (Under (suc n)) more new (span_under b i a k n) (keys_under b i a (zone_at b i y) (global_of b i k)) (under-ends n) (keys-ends (zone_at b i y) (global_of b i k))
    where
      more : (x : ℕ) → Under n x → Under (suc n) x
      more x u = record { velocity = u.velocity; met = u.met; some = simp length-append (omega (arith, u.some)) }

      new : (x : ℕ) → Here (zone_at b i (bag_of b i k + n)) (global_of b i k) x → Under (suc n) x
      new x u = record { velocity = u.velocity; met = u.met; some = rw u.picks (simp length-append (omega arith)) }

-- the same of a preset
module _ (b : List ℕ) (p i : Side) (h : ℕ) where
  record Below (n key : ℕ) : Type 0 where
    velocity : ℕ
    struck : Struck key velocity
    some : 0 < length (layers_below b p i key velocity h n)

  record Zoned (z key : ℕ) : Type 0 where
    velocity : ℕ
    struck : Struck key velocity
    picks : picked b p (zone_at b p z) (global_of b p h) key velocity ≡ true
    some : 0 < length (all_under b p i key velocity z)

  zone-ends : (z : ℕ) → Ends (Zoned z) (zone_span b p i (zone_at b p z) (global_of b p h))
  unfolding zone_span all_under
  zone-ends z = by zone.sounding refl
    where
      zone : Zone
      zone = zone_at b p z

      a : Area
      a = area_of b p zone (global_of b p h)

      by : (t : Bool) → zone.sounding ≡ t → Ends (Zoned z) (cond t (span_under b i a zone.link (zone_count b i zone.link)) no_keys)
      by false e = inl refl
      by true e = ends-map (Under b i a z zone.link (zone_count b i zone.link)) (Zoned z) into (span_under b i a zone.link (zone_count b i zone.link)) (under-ends b i a z zone.link (zone_count b i zone.link))
        where
          into : (x : ℕ) → Under b i a z zone.link (zone_count b i zone.link) x → Zoned z x
          into x u =
              let k = meets-picked b p zone (global_of b p h) x u.velocity e u.met in
              record { velocity = u.velocity; struck = k.0; picks = k.1; some = u.some }

  below-ends : (n : ℕ) → Ends (Below n) (span_below b p i h n)
  unfolding span_below layers_below chosen
  below-ends zero = inl refl
  below-ends (suc n) =
      let z = bag_of b p h + n in
      ends-joined (Below n) (Zoned z) (Below (suc n)) more new (span_below b p i h n) (zone_span b p i (zone_at b p z) (global_of b p h)) (below-ends n) (zone-ends z)
    where
      more : (x : ℕ) → Below n x → Below (suc n) x
      more x u = record { velocity = u.velocity; struck = u.struck; some = simp length-append (omega (arith, u.some)) }

      new : (x : ℕ) → Zoned (bag_of b p h + n) x → Below (suc n) x
      new x u = record { velocity = u.velocity; struck = u.struck; some = rw u.picks (simp length-append (omega (arith, u.some))) }

-- a key of a preset has a layer at some velocity
pub record Layered (b : List ℕ) (m : Parts) (h key : ℕ) : Type 0 where
  pub velocity : ℕ
  pub struck : Struck key velocity
  pub some : 0 < length (layers_of b m key velocity h)

-- the lowest and the highest key of a preset, where there are keys
pub ends-sound : (b : List ℕ) (m : Parts) (h : ℕ) → (span_of b m h).low ≤ (span_of b m h).high → Layered b m h (span_of b m h).low × Layered b m h (span_of b m h).high
unfolding span_of layers_of
ends-sound b m h l =
    let n = zone_count b m.presets h in
    let span = span_below b m.presets m.instruments h n in
    ⊎_elim
    (λ e. let none : no_keys.low ≤ no_keys.high = rw e at l in absurd (omega (arith, none)))
    (λ t. (into span.low t.1, into span.high t.2))
    (below-ends b m.presets m.instruments h n)
  where
    into : (x : ℕ) → Below b m.presets m.instruments h (zone_count b m.presets h) x → Layered b m h x
    into x u = record { velocity = u.velocity; struck = u.struck; some = u.some }
