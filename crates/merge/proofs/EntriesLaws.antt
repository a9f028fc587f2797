-- Laws of a track's entries: each leads further, so that the turns are enough, and its tick has a bound.
use Rattle.smf.specs.declared.Quantity.{Quantity}
use Rattle.std.proofs.Common.{Option, Some, None}
use mathlib.Core.Bool.{Bool, true, false, cond, true≢false}
use mathlib.Core.List.{List, [], ◌∷◌}
use mathlib.Core.Path.{◌≡◌, refl, sym, ap, subst, ◌∙◌}
use Prim.Native.Nat.{ℕ, zero, suc, ◌+◌, ◌*◌, ◌<◌, ◌≤◌}
use native.Mathlib.Omega.{arith}
use native.Mathlib.Numerals.{add-one}
use lib.ListN.{length}
use Rattle.smf.specs.declared.Item.{Item}
use Rattle.smf.specs.declared.Item.TheVariants.{Bad, End, Passed, Tempo, Channel}
use Rattle.smf.specs.Quantities.{quantity_at, quantity}
use Rattle.smf.specs.Items.{item_at}
use Rattle.smf.specs.Track.{is_bad}
use Rattle.smf.specs.Songs.{turns}
use Rattle.smf.proofs.QuantitiesLaws.{quantity-behind}
use Rattle.smf.proofs.ItemsLaws.{Placed, item-placed}
use Rattle.merge.specs.declared.Entry.{Entry}
use Rattle.merge.specs.Entries.{no_tick, noted, settled_at, gone, behind_item, advanced_of, entries_from, flaw_behind, flaw_from}
use Rattle.merge.specs.Internal.Entries.{EndsIn, Seated, Settled, goes_on, flaw_at}

-- ---- 1. A delta time and its event

module _ (b : List ℕ) (end running at tick : ℕ) where
  -- a delta time that is not well formed
  pub settled-bad : quantity_at b end at ≡ None → settled_at b end running at tick ≡ noted Bad tick at end
  unfolding settled_at
  settled-bad e = rw (e, settled_at) refl

  -- one that is
  pub settled-good : (ticks place : ℕ) → quantity_at b end at ≡ quantity ticks place → settled_at b end running at tick ≡ noted (item_at b end running place) (tick + ticks) place end
  unfolding settled_at
  settled-good ticks place e = rw (e, settled_at) refl

-- an event ends in its track
ends-in : (place end : ℕ) (i : Item) → Placed end place i → EndsIn place end i
ends-in place end Bad p = tt
ends-in place end End p = p
ends-in place end (Passed behind) p = p
ends-in place end (Tempo tempo behind) p = p
ends-in place end (Channel status first second behind) p = (p.after, p.before)

-- so that what is settled is seated, behind its place
pub seated-at : (b : List ℕ) (end running at tick : ℕ) → end ≤ length b → Seated b (settled_at b end running at tick) × (at ≤ (settled_at b end running at tick).place)
seated-at b end running at tick h = go (quantity_at b end at) refl
  where
    go : (q : Option Quantity) → quantity_at b end at ≡ q → Seated b (settled_at b end running at tick) × (at ≤ (settled_at b end running at tick).place)
    go None e = rw (settled-bad b end running at tick e) (record { held = h; item_in = tt }, omega arith)
    go (Some y) e =
        let q = quantity-behind b end at y.value y.behind e in
        rw (settled-good b end running at tick y.value y.behind e)
        (record { held = h; item_in = ends-in y.behind end (item_at b end running y.behind) (item-placed b end running y.behind) }, omega (arith, q))

-- its tick: none where it is not well formed
module _ (b : List ℕ) (end running at tick : ℕ) (short : length b ≤ 16777216) (held : end ≤ length b) where
  pub settled-none : quantity_at b end at ≡ None → Settled b (settled_at b end running at tick)
  settled-none e =
      let s = (seated-at b end running at tick held).0 in
      let n = settled-bad b end running at tick e in
      record { seated = s; short = short; good = rw n (λ f. let z : ◌≡◌ {A = ℕ} 0 1 = cc in absurd (omega arith)); bad = rw n (λ f. refl) }

  pub settled-some : (ticks place : ℕ) → tick ≤ at * 268435456 → ticks < 268435456 → quantity_at b end at ≡ quantity ticks place → Settled b (settled_at b end running at tick)
  settled-some ticks place t small e =
      let s = (seated-at b end running at tick held).0 in
      let q = quantity-behind b end at ticks place e in
      let n = settled-good b end running at tick ticks place e in
      record { seated = s; short = short; good = rw n (λ f. rw f (omega (arith, q))); bad = rw n (λ f. rw f refl) }

-- ---- 2. The next entry

module _ (b : List ℕ) where
  -- behind an event that goes on
  pub on-passed : (e : Entry) (behind : ℕ) → e.item ≡ Passed behind → advanced_of b e ≡ settled_at b e.end 0 behind e.tick
  unfolding advanced_of
  on-passed e behind i = rw i refl

  pub on-tempo : (e : Entry) (tempo behind : ℕ) → e.item ≡ Tempo tempo behind → advanced_of b e ≡ settled_at b e.end 0 behind e.tick
  unfolding advanced_of
  on-tempo e tempo behind i = rw i refl

  pub on-channel : (e : Entry) (status first second behind : ℕ) → e.item ≡ Channel status first second behind → advanced_of b e ≡ settled_at b e.end status behind e.tick
  unfolding advanced_of
  on-channel e status first second behind i = rw i refl

  -- behind one that does not
  pub on-bad : (e : Entry) → e.item ≡ Bad → advanced_of b e ≡ gone e
  unfolding advanced_of
  on-bad e i = rw i refl

  pub on-end : (e : Entry) → e.item ≡ End → advanced_of b e ≡ gone e
  unfolding advanced_of
  on-end e i = rw i refl

-- an entry that is gone is seated
gone-seated : (b : List ℕ) (e : Entry) → Seated b e → Seated b (gone e)
gone-seated b e s = record { held = s.held; item_in = tt }

-- .. and settled
pub gone-settled : (b : List ℕ) (e : Entry) → Settled b e → Settled b (gone e)
gone-settled b e s =
    record { seated = gone-seated b e s.seated; short = s.short; good = λ f. let z : ◌≡◌ {A = ℕ} 0 1 = cc in absurd (omega arith); bad = λ f. refl }

-- the next entry is seated, and lies further on where the track goes on
pub record Onward (b : List ℕ) (e : Entry) : Type 0 where
  pub seated : Seated b (advanced_of b e)
  pub further : goes_on e.item ≡ true → (e.place < length b) × (e.place < (advanced_of b e).place)

-- an entry behind a place at which its track goes on
onward-at : (b : List ℕ) (e : Entry) (running behind : ℕ) → Seated b e → (e.place < behind) × (behind ≤ e.end) → advanced_of b e ≡ settled_at b e.end running behind e.tick → Onward b e
onward-at b e running behind s in' a =
    let t = seated-at b e.end running behind e.tick s.held in
    record { seated = rw a t.0; further = λ g. rw a (omega (arith, in', s.held), omega (arith, in', t.1)) }

-- each entry leads onward
pub onward : (b : List ℕ) (e : Entry) → Seated b e → Onward b e
onward b e s = go e.item refl
  where
    inside : (i : Item) → e.item ≡ i → EndsIn e.place e.end i
    inside i p = subst (λ (x : Item). EndsIn e.place e.end x) p s.item_in

    never : (i : Item) → e.item ≡ i → goes_on i ≡ false → goes_on e.item ≡ true → ⊥
    never i p f g = let z : ◌≡◌ {A = Bool} true false = sym g ∙ ap goes_on p ∙ f in absurd (true≢false z)

    go : (i : Item) → e.item ≡ i → Onward b e
    go Bad p = record { seated = rw (on-bad b e p) (gone-seated b e s); further = λ g. absurd (never Bad p refl g) }
    go End p = record { seated = rw (on-end b e p) (gone-seated b e s); further = λ g. absurd (never End p refl g) }
    go (Passed behind) p = onward-at b e 0 behind s (inside (Passed behind) p) (on-passed b e behind p)
    go (Tempo tempo behind) p = onward-at b e 0 behind s (inside (Tempo tempo behind) p) (on-tempo b e tempo behind p)
    go (Channel status first second behind) p =
        onward-at b e status behind s (inside (Channel status first second behind) p) (on-channel b e status first second behind p)

-- what a settled entry that is not at fault gives to the next
pub going : (b : List ℕ) (e : Entry) (i : Item) (behind : ℕ) → Settled b e → e.item ≡ i → is_bad i ≡ false → e.place < behind → (length b ≤ 16777216) × (e.end ≤ length b) × (e.tick ≤ behind * 268435456)
going b e i behind s p f h =
    let g = s.good (ap is_bad p ∙ f) in
    (s.short, s.seated.held, omega (arith, g))

-- ---- 3. The turns are enough

-- a track that goes on
flaw-step : (n : ℕ) (b : List ℕ) (e : Entry) → goes_on e.item ≡ true → flaw_from (suc n) b e ≡ flaw_from n b (advanced_of b e)
unfolding flaw_from
flaw-step n b e g = go e.item g
  where
    go : (i : Item) → goes_on i ≡ true → flaw_behind i e.place (flaw_from n b (advanced_of b e)) ≡ flaw_from n b (advanced_of b e)
    go Bad f = absurd (true≢false (sym f))
    go End f = absurd (true≢false (sym f))
    go (Passed behind) f = refl
    go (Tempo tempo behind) f = refl
    go (Channel status first second behind) f = refl

-- the fault where it stops
pub flaw-stop : (n : ℕ) (b : List ℕ) (e : Entry) → goes_on e.item ≡ false → flaw_from (suc n) b e ≡ flaw_at e
unfolding flaw_at flaw_from
flaw-stop n b e g = go e.item g
  where
    go : (i : Item) → goes_on i ≡ false → flaw_behind i e.place (flaw_from n b (advanced_of b e)) ≡ cond (is_bad i) (Some e.place) None
    go Bad f = refl
    go End f = refl
    go (Passed behind) f = absurd (true≢false f)
    go (Tempo tempo behind) f = absurd (true≢false f)
    go (Channel status first second behind) f = absurd (true≢false f)

-- a turn is to spare wherever the track goes on
flaw-enough : (n m : ℕ) (b : List ℕ) (e : Entry) → Seated b e → length b ≤ e.place + n → length b ≤ e.place + m → flaw_from (suc n) b e ≡ flaw_from (suc m) b e
flaw-enough zero m b e s h k = go (goes_on e.item) refl
  where
    go : (g : Bool) → goes_on e.item ≡ g → flaw_from 1 b e ≡ flaw_from (suc m) b e
    go false g = flaw-stop 0 b e g ∙ sym (flaw-stop m b e g)
    go true g = let o = (onward b e s).further g in absurd (omega (arith, o))
flaw-enough (suc n) zero b e s h k = go (goes_on e.item) refl
  where
    go : (g : Bool) → goes_on e.item ≡ g → flaw_from (suc (suc n)) b e ≡ flaw_from 1 b e
    go false g = flaw-stop (suc n) b e g ∙ sym (flaw-stop 0 b e g)
    go true g = let o = (onward b e s).further g in absurd (omega (arith, o))
flaw-enough (suc n) (suc m) b e s h k =
    go (λ f. flaw-enough n m b (advanced_of b e) (onward b e s).seated (omega (arith, f)) (omega (arith, f))) (goes_on e.item) refl
  where
    go : (e.place < (advanced_of b e).place → flaw_from (suc n) b (advanced_of b e) ≡ flaw_from (suc m) b (advanced_of b e))
        → (g : Bool) → goes_on e.item ≡ g → flaw_from (suc (suc n)) b e ≡ flaw_from (suc (suc m)) b e
    go more false g = flaw-stop (suc n) b e g ∙ sym (flaw-stop (suc m) b e g)
    go more true g = flaw-step (suc n) b e g ∙ more ((onward b e s).further g).1 ∙ sym (flaw-step (suc m) b e g)

-- so a file's turns say the same of an entry and of the next
pub flaw-on : (b : List ℕ) (e : Entry) → Seated b e → goes_on e.item ≡ true → flaw_from (turns b) b e ≡ flaw_from (turns b) b (advanced_of b e)
flaw-on b e s g =
    let o = onward b e s in
    let f = o.further g in
    rw add-one (flaw-step (length b) b e g ∙ spare (length b) refl o f)
  where
    spare : (n : ℕ) → length b ≡ n → Onward b e → (e.place < length b) × (e.place < (advanced_of b e).place) → flaw_from n b (advanced_of b e) ≡ flaw_from (suc n) b (advanced_of b e)
    spare zero l o f = absurd (omega (arith, f))
    spare (suc n) l o f = flaw-enough n (suc n) b (advanced_of b e) o.seated (omega (arith, f)) (omega (arith, f))

-- the same of the events
entries-bad : (n : ℕ) (b : List ℕ) (e : Entry) → is_bad e.item ≡ true → entries_from n b e ≡ []
unfolding entries_from
entries-bad zero b e i = refl
entries-bad (suc n) b e i = rw i refl

entries-good : (n : ℕ) (b : List ℕ) (e : Entry) → is_bad e.item ≡ false → entries_from (suc n) b e ≡ e ∷ entries_from n b (advanced_of b e)
unfolding entries_from
entries-good n b e i = rw i refl

-- an event that goes on is not at fault
goes-good : (i : Item) → goes_on i ≡ true → is_bad i ≡ false
goes-good Bad f = absurd (true≢false (sym f))
goes-good End f = refl
goes-good (Passed behind) f = refl
goes-good (Tempo tempo behind) f = refl
goes-good (Channel status first second behind) f = refl

-- where the track does not go on, at most its end is left
entries-stop : (n : ℕ) (b : List ℕ) (e : Entry) → goes_on e.item ≡ false → entries_from (suc n) b e ≡ cond (is_bad e.item) [] (e ∷ [])
unfolding entries_from
entries-stop n b e g = ap (λ (es : List Entry). cond (is_bad e.item) [] (e ∷ es)) (entries-bad n b (advanced_of b e) (go e.item refl))
  where
    go : (i : Item) → e.item ≡ i → is_bad (advanced_of b e).item ≡ true
    go Bad p = rw (on-bad b e p) refl
    go End p = rw (on-end b e p) refl
    go (Passed behind) p = absurd (true≢false (sym (ap goes_on p) ∙ g))
    go (Tempo tempo behind) p = absurd (true≢false (sym (ap goes_on p) ∙ g))
    go (Channel status first second behind) p = absurd (true≢false (sym (ap goes_on p) ∙ g))

-- a turn is to spare wherever the track goes on
entries-enough : (n m : ℕ) (b : List ℕ) (e : Entry) → Seated b e → length b ≤ e.place + n → length b ≤ e.place + m → entries_from (suc n) b e ≡ entries_from (suc m) b e
entries-enough zero m b e s h k = go (goes_on e.item) refl
  where
    go : (g : Bool) → goes_on e.item ≡ g → entries_from 1 b e ≡ entries_from (suc m) b e
    go false g = entries-stop 0 b e g ∙ sym (entries-stop m b e g)
    go true g = let o = (onward b e s).further g in absurd (omega (arith, o))
entries-enough (suc n) zero b e s h k = go (goes_on e.item) refl
  where
    go : (g : Bool) → goes_on e.item ≡ g → entries_from (suc (suc n)) b e ≡ entries_from 1 b e
    go false g = entries-stop (suc n) b e g ∙ sym (entries-stop 0 b e g)
    go true g = let o = (onward b e s).further g in absurd (omega (arith, o))
entries-enough (suc n) (suc m) b e s h k =
    go (λ f. entries-enough n m b (advanced_of b e) (onward b e s).seated (omega (arith, f)) (omega (arith, f))) (goes_on e.item) refl
  where
    go : (e.place < (advanced_of b e).place → entries_from (suc n) b (advanced_of b e) ≡ entries_from (suc m) b (advanced_of b e))
        → (g : Bool) → goes_on e.item ≡ g → entries_from (suc (suc n)) b e ≡ entries_from (suc (suc m)) b e
    go more false g = entries-stop (suc n) b e g ∙ sym (entries-stop (suc m) b e g)
    go more true g =
        let i = goes-good e.item g in
        entries-good (suc n) b e i ∙ ap (λ (es : List Entry). e ∷ es) (more ((onward b e s).further g).1) ∙ sym (entries-good (suc m) b e i)

-- so a file's turns give an event and those behind it
pub entries-on : (b : List ℕ) (e : Entry) → Seated b e → is_bad e.item ≡ false → entries_from (turns b) b e ≡ e ∷ entries_from (turns b) b (advanced_of b e)
entries-on b e s i = rw add-one (entries-good (length b) b e i ∙ ap (λ (es : List Entry). e ∷ es) (spare (length b) refl (goes_on e.item) refl))
  where
    none : (n : ℕ) → goes_on e.item ≡ false → entries_from n b (advanced_of b e) ≡ []
    none n g = entries-bad n b (advanced_of b e) (go e.item refl)
      where
        go : (x : Item) → e.item ≡ x → is_bad (advanced_of b e).item ≡ true
        go Bad p = absurd (true≢false (sym (ap is_bad p) ∙ i))
        go End p = rw (on-end b e p) refl
        go (Passed behind) p = absurd (true≢false (sym (ap goes_on p) ∙ g))
        go (Tempo tempo behind) p = absurd (true≢false (sym (ap goes_on p) ∙ g))
        go (Channel status first second behind) p = absurd (true≢false (sym (ap goes_on p) ∙ g))

    spare : (n : ℕ) → length b ≡ n → (g : Bool) → goes_on e.item ≡ g → entries_from n b (advanced_of b e) ≡ entries_from (suc n) b (advanced_of b e)
    spare n l false g = none n g ∙ sym (none (suc n) g)
    spare zero l true g = let f = (onward b e s).further g in absurd (omega (arith, f))
    spare (suc n) l true g =
        let o = onward b e s in
        let f = o.further g in
        entries-enough n (suc n) b (advanced_of b e) o.seated (omega (arith, f)) (omega (arith, f))

-- .. and none behind a fault
pub entries_none : (b : List ℕ) (e : Entry) → is_bad e.item ≡ true → entries_from (turns b) b e ≡ []
entries_none b e i = entries-bad (turns b) b e i
