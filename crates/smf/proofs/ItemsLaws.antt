-- Laws of the events of a track: each lies between its place and the edge, and a channel event's bytes are in their ranges.
use Rattle.smf.specs.declared.Quantity.{Quantity}
use Rattle.std.proofs.Common.{Option, Some, None}
use mathlib.Core.Bool.{Bool, true, false, cond, ◌&&◌, ◌||◌}
use mathlib.Core.List.{List}
use mathlib.Core.Path.{◌≡◌, refl, subst}
use Prim.Native.Nat.{ℕ, ◌+◌, ◌<◌, ◌≤◌}
use native.Mathlib.Omega.{arith}
use borrow.Author.Tests.{ltb-true, ltb-false, leb-true, le-leb}
use lib.Dec.{ltb, leb, eqb}
use Rattle.arith.specs.Bytes.{u8_at}
use Rattle.arith.specs.Holds.{between}
use Rattle.smf.specs.declared.Item.{Item}
use Rattle.smf.specs.declared.Item.TheVariants.{Bad, End, Passed, Tempo, Channel}
use Rattle.smf.specs.Quantities.{three_at, quantity_at}
use Rattle.smf.specs.Items.{is_channel, is_short, short_at, long_at, spoken_at, exclusive_at, meta_of, meta_at, item_at}
use Rattle.smf.proofs.QuantitiesLaws.{quantity-behind}

-- what is so of both answers of a test is so of the answer
pub either : {A : Type 0} (P : A → Type 0) (t : Bool) (x y : A) → (t ≡ true → P x) → (t ≡ false → P y) → P (cond t x y)
either P true x y yes' no' = yes' refl
either P false x y yes' no' = no' refl

-- two tests of which neither holds
pub neither : (s t : Bool) → (s || t) ≡ false → (s ≡ false) × (t ≡ false)
neither false t e = (refl, e)
neither true t e = let z : ◌≡◌ {A = ℕ} 0 1 = cc in absurd (omega arith)

-- two tests that both hold
both : (s t : Bool) → (s && t) ≡ true → (s ≡ true) × (t ≡ true)
both true t e = (refl, e)
both false t e = let z : ◌≡◌ {A = ℕ} 0 1 = cc in absurd (omega arith)

-- a number between two
pub in_between : (low high x : ℕ) → between low high x ≡ true → (low ≤ x) × (x ≤ high)
unfolding between
in_between low high x e = let h = both (leb low x) (leb x high) e in (leb-true low x h.0, leb-true x high h.1)

-- a channel event: its bytes, and where it ends
pub record Sound (edge at status first second behind : ℕ) : Type 0 where
  pub after : at < behind
  pub before : behind ≤ edge
  pub low : 128 ≤ status
  pub high : status ≤ 239
  pub first-in : first < 128
  pub second-in : second < 128
  pub short : is_short status ≡ true → second ≡ 0

-- an event at a place ends behind it and in front of the edge
abbrev pub Placed : ℕ → ℕ → Item → Type 0
Placed edge at Bad = Unit {0}
Placed edge at End = at < edge
Placed edge at (Passed behind) = (at < behind) × (behind ≤ edge)
Placed edge at (Tempo tempo behind) = (at < behind) × (behind ≤ edge)
Placed edge at (Channel status first second behind) = Sound edge at status first second behind

module _ (b : List ℕ) (edge : ℕ) where
  -- one data byte
  short-placed : (status from at : ℕ) → 128 ≤ status → status ≤ 239 → from ≤ at → Placed edge from (short_at b edge status at)
  unfolding short_at
  short-placed status from at low high h =
      either (Placed edge from) (ltb edge (at + 1) || ltb 127 (u8_at b at)) Bad (Channel status (u8_at b at) 0 (at + 1)) (λ e. tt) good
    where
      good : (ltb edge (at + 1) || ltb 127 (u8_at b at)) ≡ false → Sound edge from status (u8_at b at) 0 (at + 1)
      good e =
          let t = neither (ltb edge (at + 1)) (ltb 127 (u8_at b at)) e in
          let x = ltb-false edge (at + 1) t.0 in
          let y = ltb-false 127 (u8_at b at) t.1 in
          record { after = omega arith; before = x; low = low; high = high; first-in = omega arith; second-in = omega arith; short = λ s. refl }

  -- two data bytes
  long-placed : (status from at : ℕ) → is_short status ≡ false → 128 ≤ status → status ≤ 239 → from ≤ at → Placed edge from (long_at b edge status at)
  unfolding long_at
  long-placed status from at long low high h =
      either (Placed edge from) (ltb edge (at + 2) || ltb 127 (u8_at b at) || ltb 127 (u8_at b (at + 1))) Bad (Channel status (u8_at b at) (u8_at b (at + 1)) (at + 2)) (λ e. tt) good
    where
      good : (ltb edge (at + 2) || ltb 127 (u8_at b at) || ltb 127 (u8_at b (at + 1))) ≡ false → Sound edge from status (u8_at b at) (u8_at b (at + 1)) (at + 2)
      good e =
          let t = neither (ltb edge (at + 2) || ltb 127 (u8_at b at)) (ltb 127 (u8_at b (at + 1))) e in
          let s = neither (ltb edge (at + 2)) (ltb 127 (u8_at b at)) t.0 in
          let x = ltb-false edge (at + 2) s.0 in
          let y = ltb-false 127 (u8_at b at) s.1 in
          let z = ltb-false 127 (u8_at b (at + 1)) t.1 in
          record { after = omega arith; before = x; low = low; high = high; first-in = omega arith; second-in = omega arith; short = λ q. not-both q }
        where
          not-both : is_short status ≡ true → u8_at b (at + 1) ≡ 0
          not-both q = let z : ◌≡◌ {A = ℕ} 0 1 = cc in absurd (omega arith)

  -- a channel event
  channel-placed : (status from at : ℕ) → 128 ≤ status → status ≤ 239 → from ≤ at → Placed edge from (spoken_at b edge status at)
  unfolding spoken_at
  channel-placed status from at low high h =
      either (Placed edge from) (is_short status) (short_at b edge status at) (long_at b edge status at)
      (λ e. short-placed status from at low high h) (λ e. long-placed status from at e low high h)

  -- a system exclusive event
  exclusive-placed : (from at : ℕ) → from ≤ at → Placed edge from (exclusive_at b edge at)
  unfolding exclusive_at
  exclusive-placed from at h = go (quantity_at b edge at) refl
    where
      go : (q : Option Quantity) → quantity_at b edge at ≡ q → Placed edge from (elim q [ None ↦ Bad | Some q ↦ cond (ltb edge (q.behind + q.value)) Bad (Passed (q.behind + q.value)) ])
      go None e = tt
      go (Some y) e =
          let q = quantity-behind b edge at y.value y.behind e in
          either (Placed edge from) (ltb edge (y.behind + y.value)) Bad (Passed (y.behind + y.value)) (λ t. tt) (λ t. (omega arith, ltb-false edge (y.behind + y.value) t))

  -- a meta event by its type
  meta-of-placed : (from kind n at : ℕ) → from < at → at + n ≤ edge → Placed edge from (meta_of b kind n at)
  unfolding meta_of
  meta-of-placed from kind n at h k =
      either (Placed edge from) (eqb kind 47) End (cond (eqb kind 81) (cond (ltb n 3) Bad (Tempo (three_at b at) (at + n))) (Passed (at + n))) (λ e. omega arith)
      (λ e. either (Placed edge from) (eqb kind 81) (cond (ltb n 3) Bad (Tempo (three_at b at) (at + n))) (Passed (at + n))
      (λ f. either (Placed edge from) (ltb n 3) Bad (Tempo (three_at b at) (at + n)) (λ g. tt) (λ g. (omega arith, k)))
      (λ f. (omega arith, k)))

  -- a meta event
  meta-placed : (from at : ℕ) → from ≤ at → Placed edge from (meta_at b edge at)
  unfolding meta_at
  meta-placed from at h = go (quantity_at b edge (at + 1)) refl
    where
      go : (q : Option Quantity) → quantity_at b edge (at + 1) ≡ q → Placed edge from (elim q [ None ↦ Bad | Some q ↦ cond (ltb 127 (u8_at b at) || ltb edge (q.behind + q.value)) Bad (meta_of b (u8_at b at) q.value q.behind) ])
      go None e = tt
      go (Some y) e =
          let q = quantity-behind b edge (at + 1) y.value y.behind e in
          either (Placed edge from) (ltb 127 (u8_at b at) || ltb edge (y.behind + y.value)) Bad (meta_of b (u8_at b at) y.value y.behind) (λ t. tt)
          (λ t. meta-of-placed from (u8_at b at) y.value y.behind (omega arith) (ltb-false edge (y.behind + y.value) (neither (ltb 127 (u8_at b at)) (ltb edge (y.behind + y.value)) t).1))

  -- every event ends behind its place and in front of the edge, and a channel event's bytes are in their ranges
  pub item-placed : (running at : ℕ) → Placed edge at (item_at b edge running at)
  unfolding item_at
  item-placed running at =
      let x = u8_at b at in
      let P = Placed edge at in
      either P (leb edge at) _ _ (λ e. tt)
      (λ inside. either P (ltb x 128) _ _
      (λ data'. either P (is_channel running) _ _ (λ e. let h = in_between 128 239 running e in channel-placed running at at h.0 h.1 (omega arith)) (λ e. tt))
      (λ status. either P (ltb x 240) _ _ (λ e. channel-placed x at (at + 1) (ltb-false x 128 status) (omega (arith, ltb-true x 240 e)) (omega arith))
      (λ e. either P (eqb x 255) _ _ (λ f. meta-placed at (at + 1) (omega arith))
      (λ f. either P (eqb x 240 || eqb x 247) _ _ (λ g. exclusive-placed at (at + 1) (omega arith)) (λ g. tt)))))

module _ (b : List ℕ) (edge running at : ℕ) where
  -- an event that is stepped over
  pub item-passed : (behind : ℕ) → item_at b edge running at ≡ Passed behind → (at < behind) × (behind ≤ edge)
  item-passed behind e = subst (λ (i : Item). Placed edge at i) e (item-placed b edge running at)

  -- a tempo
  pub item-tempo : (tempo behind : ℕ) → item_at b edge running at ≡ Tempo tempo behind → (at < behind) × (behind ≤ edge)
  item-tempo tempo behind e = subst (λ (i : Item). Placed edge at i) e (item-placed b edge running at)

  -- a channel event
  pub item-channel : (status first second behind : ℕ) → item_at b edge running at ≡ Channel status first second behind → Sound edge at status first second behind
  item-channel status first second behind e = subst (λ (i : Item). Placed edge at i) e (item-placed b edge running at)

  -- an end of track begins in front of the edge
  pub item-end : item_at b edge running at ≡ End → at < edge
  item-end e = subst (λ (i : Item). Placed edge at i) e (item-placed b edge running at)

  -- past the edge there is no event
  pub item-edge : edge ≤ at → item_at b edge running at ≡ Bad
  unfolding item_at
  item-edge h = rw (le-leb edge at h) refl
