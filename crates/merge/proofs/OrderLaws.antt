-- Laws of the one sequence: what is earliest in its track and among the tracks comes first.
use Rattle.smf.specs.declared.Quantity.{Quantity}
use Rattle.std.proofs.Common.{Option, Some, None}
use mathlib.Core.Bool.{Bool, true, false, cond, true≢false}
use mathlib.Core.List.{List, [], ◌∷◌, ◌++◌, map}
use mathlib.Core.Path.{◌≡◌, refl, sym, ap, subst, ◌∙◌}
use Prim.Native.Nat.{ℕ, zero, suc, ◌+◌, ◌*◌, ◌<◌, ◌≤◌}
use native.Mathlib.Nat.{not-suc-le-zero, le_of_suc-le-suc}
use native.Mathlib.Omega.{arith}
use borrow.Author.Tests.{le-leb, lt-leb}
use lib.Dec.{leb}
use lib.ListN.{length, set, take, get_or, length-set}
use lib.Seq.{length-take-le, take-set-lt, get_or-take}
use Rattle.smf.specs.declared.Item.{Item}
use Rattle.smf.specs.declared.Item.TheVariants.{Bad, End, Passed, Tempo, Channel}
use Rattle.smf.specs.Quantities.{quantity_at}
use Rattle.smf.specs.Items.{item_at}
use Rattle.smf.specs.Track.{is_bad}
use Rattle.smf.specs.Songs.{turns}
use Rattle.merge.specs.declared.Entry.{Entry}
use Rattle.merge.specs.Entries.{no_tick, noted, settled_at, advanced_of, entries_from}
use Rattle.merge.specs.Lanes.{entries_of}
use Rattle.merge.specs.Order.{inserted, in_order}
use Rattle.merge.specs.Internal.Entries.{EndsIn, Seated, Settled}
use Rattle.merge.specs.Internal.Lanes.{AllSettled, tick_of, tick_at, Earliest}
use Rattle.merge.proofs.EntriesLaws.{settled-bad, settled-good, onward, entries-on, entries_none, on-bad, on-end, on-passed, on-tempo, on-channel}

-- ---- 1. Ticks never fall in a track

-- each of some entries is at a tick or behind it
abbrev pub AtLeast : ℕ → List Entry → Type 0
AtLeast t [] = Unit {0}
AtLeast t (e ∷ es) = (t ≤ e.tick) × AtLeast t es

-- .. of two lists
pub least-append : (t : ℕ) (xs ys : List Entry) → AtLeast t xs → AtLeast t ys → AtLeast t (xs ++ ys)
least-append t [] ys p q = q
least-append t (x ∷ xs) ys p q = (p.0, least-append t xs ys p.1 q)

-- a delta time is not negative
settled-rises : (b : List ℕ) (end running at tick : ℕ) → is_bad (settled_at b end running at tick).item ≡ false → tick ≤ (settled_at b end running at tick).tick
settled-rises b end running at tick = go (quantity_at b end at) refl
  where
    go : (q : Option Quantity) → quantity_at b end at ≡ q → is_bad (settled_at b end running at tick).item ≡ false → tick ≤ (settled_at b end running at tick).tick
    go None e = rw (settled-bad b end running at tick e) (λ f. absurd (true≢false f))
    go (Some q) e = rw (settled-good b end running at tick q.value q.behind e) (λ f. rw f (omega arith))

-- so the next event of a track is not earlier
rises : (b : List ℕ) (e : Entry) → is_bad (advanced_of b e).item ≡ false → e.tick ≤ (advanced_of b e).tick
rises b e = go e.item refl
  where
    go : (i : Item) → e.item ≡ i → is_bad (advanced_of b e).item ≡ false → e.tick ≤ (advanced_of b e).tick
    go Bad p = rw (on-bad b e p) (λ f. absurd (true≢false f))
    go End p = rw (on-end b e p) (λ f. absurd (true≢false f))
    go (Passed behind) p = rw (on-passed b e behind p) (settled-rises b e.end 0 behind e.tick)
    go (Tempo tempo behind) p = rw (on-tempo b e tempo behind p) (settled-rises b e.end 0 behind e.tick)
    go (Channel status first second behind) p = rw (on-channel b e status first second behind p) (settled-rises b e.end status behind e.tick)

-- nor is any behind it
pub track-rises : (n : ℕ) (b : List ℕ) (e : Entry) (t : ℕ) → (is_bad e.item ≡ false → t ≤ e.tick) → AtLeast t (entries_from n b e)
unfolding entries_from
track-rises zero b e t h = tt
track-rises (suc n) b e t h = go (λ k. track-rises n b (advanced_of b e) t k) (is_bad e.item) refl
  where
    go : ((is_bad (advanced_of b e).item ≡ false → t ≤ (advanced_of b e).tick) → AtLeast t (entries_from n b (advanced_of b e))) → (f : Bool) → is_bad e.item ≡ f → AtLeast t (cond f [] (e ∷ entries_from n b (advanced_of b e)))
    go more true f = tt
    go more false f = let k = h f in (k, more (λ g. let r = rises b e g in omega arith))

-- the same of all tracks
pub tracks-rise : (b : List ℕ) (es : List Entry) (t : ℕ) → ((i : ℕ) → i < length es → t ≤ tick_at (map tick_of es) i) → AtLeast t (entries_of b es)
unfolding entries_of
tracks-rise b [] t h = tt
tracks-rise b (e ∷ es) t h =
    least-append t (entries_from (turns b) b e) (entries_of b es) (track-rises (turns b) b e t (λ f. h 0 (omega arith)))
    (tracks-rise b es t (λ i k. h (suc i) (omega arith)))

-- ---- 2. What comes first

-- an event is put in front of those that are not earlier
front-inserted : (e : Entry) (es : List Entry) → AtLeast e.tick es → inserted e es ≡ e ∷ es
unfolding inserted
front-inserted e [] h = refl
front-inserted e (x ∷ xs) h = rw (le-leb _ _ h.0) refl

-- nothing gets earlier by being put in order
least-inserted : (t : ℕ) (e : Entry) (es : List Entry) → t ≤ e.tick → AtLeast t es → AtLeast t (inserted e es)
unfolding inserted
least-inserted t e [] h k = (h, tt)
least-inserted t e (x ∷ xs) h k = go (least-inserted t e xs h k.1) (leb e.tick x.tick)
  where
    go : AtLeast t (inserted e xs) → (f : Bool) → AtLeast t (cond f (e ∷ x ∷ xs) (x ∷ inserted e xs))
    go more true = (h, k)
    go more false = (k.0, more)

least-order : (t : ℕ) (es : List Entry) → AtLeast t es → AtLeast t (in_order es)
unfolding in_order
least-order t [] h = tt
least-order t (e ∷ es) h = least-inserted t e (in_order es) h.0 (least-order t es h.1)

-- some events put into a sequence
insert_all : List Entry → List Entry → List Entry
insert_all [] zs = zs
insert_all (x ∷ xs) zs = inserted x (insert_all xs zs)

order-append : (xs ys : List Entry) → in_order (xs ++ ys) ≡ insert_all xs (in_order ys)
unfolding in_order insert_all
order-append [] ys = refl
order-append (x ∷ xs) ys = ap (inserted x) (order-append xs ys)

-- a later event is put behind an earlier one
behind-inserted : (x e : Entry) (zs : List Entry) → e.tick < x.tick → inserted x (e ∷ zs) ≡ e ∷ inserted x zs
unfolding inserted
behind-inserted x e zs h = rw (lt-leb _ _ h) refl

behind-all : (xs : List Entry) (e : Entry) (zs : List Entry) → AtLeast (suc e.tick) xs → insert_all xs (e ∷ zs) ≡ e ∷ insert_all xs zs
unfolding insert_all
behind-all [] e zs h = refl
behind-all (x ∷ xs) e zs h = ap (inserted x) (behind-all xs e zs h.1) ∙ behind-inserted x e (insert_all xs zs) h.0

-- a settled entry that has a tick is not at fault
pub has_tick : (b : List ℕ) (e : Entry) → Settled b e → e.tick < no_tick → is_bad e.item ≡ false
has_tick b e s h = go (is_bad e.item) refl
  where
    go : (f : Bool) → is_bad e.item ≡ f → f ≡ false
    go true f = let t = s.bad f in absurd (omega (arith, h, t))
    go false f = refl

-- the first of the tracks whose next event is earliest: that event comes first, and the others follow with the track's next in its place
pub merge_step : (b : List ℕ) (es : List Entry) (j : ℕ) (d : Entry) → AllSettled b es → j < length es → (get_or es j d).tick < no_tick
    → ((i : ℕ) → i < j → (get_or es j d).tick < tick_at (map tick_of es) i) → ((i : ℕ) → i < length es → (get_or es j d).tick ≤ tick_at (map tick_of es) i)
    → in_order (entries_of b es) ≡ get_or es j d ∷ in_order (entries_of b (set es j (advanced_of b (get_or es j d))))
unfolding entries_of in_order
merge_step b [] j d s h t earlier later = absurd (not-suc-le-zero h)
merge_step b (x ∷ es) zero d s h t earlier later =
    let next = entries_from (turns b) b (advanced_of b x) in
    let own = track-rises (turns b) b (advanced_of b x) x.tick (rises b x) in
    let others = tracks-rise b es x.tick (λ i k. later (suc i) (omega arith)) in
    ap (λ (ys : List Entry). in_order (ys ++ entries_of b es)) (entries-on b x s.0.seated (has_tick b x s.0 t))
    ∙ front-inserted x (in_order (next ++ entries_of b es)) (least-order x.tick (next ++ entries_of b es) (least-append x.tick next (entries_of b es) own others))
merge_step b (x ∷ es) (suc j) d s h t earlier later =
    let front = entries_from (turns b) b x in
    let e = get_or es j d in
    let rest = entries_of b (set es j (advanced_of b e)) in
    let more = merge_step b es j d s.1 (le_of_suc-le-suc h) t (λ i k. earlier (suc i) (omega arith)) (λ i k. later (suc i) (omega arith)) in
    order-append front (entries_of b es) ∙ ap (insert_all front) more
    ∙ behind-all front e (in_order rest) (track-rises (turns b) b x (suc e.tick) (λ f. earlier 0 (omega arith)))
    ∙ ap (λ (zs : List Entry). e ∷ zs) (sym (order-append front rest))

-- a settled entry without a tick is at fault
no-tick : (b : List ℕ) (e : Entry) → Settled b e → no_tick ≤ e.tick → is_bad e.item ≡ true
no-tick b e s h = go e.item refl
  where
    never : (i : Item) → e.item ≡ i → is_bad i ≡ false → e.place < e.end → ⊥
    never i p f k = let t = s.good (ap is_bad p ∙ f) in omega (arith, t, s.short, s.seated.held)

    inside : (i : Item) → e.item ≡ i → EndsIn e.place e.end i
    inside i p = subst (λ (x : Item). EndsIn e.place e.end x) p s.seated.item_in

    go : (i : Item) → e.item ≡ i → is_bad e.item ≡ true
    go Bad p = rw p refl
    go End p = absurd (never End p refl (inside End p))
    go (Passed behind) p = let k = inside (Passed behind) p in absurd (never (Passed behind) p refl (omega (arith, k)))
    go (Tempo tempo behind) p = let k = inside (Tempo tempo behind) p in absurd (never (Tempo tempo behind) p refl (omega (arith, k)))
    go (Channel status first second behind) p =
        let k = inside (Channel status first second behind) p in
        absurd (never (Channel status first second behind) p refl (omega (arith, k)))

-- where no track has a tick, nothing is left
pub merge-over : (b : List ℕ) (es : List Entry) → AllSettled b es → ((i : ℕ) → i < length es → no_tick ≤ tick_at (map tick_of es) i) → entries_of b es ≡ []
unfolding entries_of
merge-over b [] s h = refl
merge-over b (e ∷ es) s h =
    let none = entries_none b e (no-tick b e s.0 (h 0 (omega arith))) in
    ap (λ (xs : List Entry). xs ++ entries_of b es) none ∙ merge-over b es s.1 (λ i k. h (suc i) (omega arith))

-- ---- 3. The tracks as the code holds them

-- the tick of an entry
pub tick-at : (es : List Entry) (j : ℕ) (d : Entry) → j < length es → (get_or es j d).tick ≡ tick_at (map tick_of es) j
tick-at [] j d h = absurd (not-suc-le-zero h)
tick-at (x ∷ es) zero d h = refl
tick-at (x ∷ es) (suc j) d h = tick-at es j d (le_of_suc-le-suc h)

-- of the first n
pub tick-take : (n : ℕ) (es : List Entry) (i : ℕ) → i < n → tick_at (map tick_of (take n es)) i ≡ tick_at (map tick_of es) i
tick-take zero es i h = absurd (not-suc-le-zero h)
tick-take (suc n) [] i h = refl
tick-take (suc n) (x ∷ es) zero h = refl
tick-take (suc n) (x ∷ es) (suc i) h = tick-take n es i (le_of_suc-le-suc h)

-- a store beside a store
pub ticks-set : (es : List Entry) (j : ℕ) (e : Entry) → set (map tick_of es) j e.tick ≡ map tick_of (set es j e)
ticks-set [] j e = refl
ticks-set (x ∷ es) zero e = refl
ticks-set (x ∷ es) (suc j) e = ap (λ (ts : List ℕ). x.tick ∷ ts) (ticks-set es j e)

-- all stay settled
pub settled-set : (b : List ℕ) (es : List Entry) (j : ℕ) (e : Entry) → AllSettled b es → Settled b e → AllSettled b (set es j e)
settled-set b [] j e s t = tt
settled-set b (x ∷ es) zero e s t = (t, s.1)
settled-set b (x ∷ es) (suc j) e s t = (s.0, settled-set b es j e s.1 t)

-- each of them is
pub settled_at_lem : (b : List ℕ) (es : List Entry) (j : ℕ) (d : Entry) → AllSettled b es → j < length es → Settled b (get_or es j d)
settled_at_lem b [] j d s h = absurd (not-suc-le-zero h)
settled_at_lem b (x ∷ es) zero d s h = s.0
settled_at_lem b (x ∷ es) (suc j) d s h = settled_at_lem b es j d s.1 (le_of_suc-le-suc h)

-- one more
pub settled-more : (b : List ℕ) (es : List Entry) (e : Entry) → AllSettled b es → Settled b e → AllSettled b (es ++ (e ∷ []))
settled-more b [] e s t = (t, tt)
settled-more b (x ∷ es) e s t = (s.0, settled-more b es e s.1 t)

-- the tracks on the way: as many as there were, with their own ticks
pub record Way (b : List ℕ) (n : ℕ) (entries : List Entry) (ticks : List ℕ) : Type 0 where
  pub room : n ≤ 256
  pub whole : length entries ≡ 256
  pub own : ticks ≡ map tick_of entries
  pub settled : AllSettled b (take n entries)

-- the sequence that is left
abbrev pub left_of : List ℕ → ℕ → List Entry → List Entry
left_of b n entries = in_order (entries_of b (take n entries))

module _ (b : List ℕ) (n : ℕ) (entries : List Entry) (ticks : List ℕ) (w : Way b n entries ticks) where
  first-length : length (take n entries) ≡ n
  first-length = length-take-le n entries (omega (arith, w.room, w.whole))

  ticks-are : (i : ℕ) → i < n → tick_at (map tick_of (take n entries)) i ≡ tick_at ticks i
  ticks-are i h = tick-take n entries i h ∙ ap (λ (ts : List ℕ). tick_at ts i) (sym w.own)

  -- where one is found, it is settled
  pub found-settled : (j : ℕ) (d : Entry) → j < n → Settled b (get_or entries j d)
  found-settled j d h = subst (λ (e : Entry). Settled b e) (get_or-take n entries j d h) (settled_at_lem b (take n entries) j d w.settled (omega (arith, first-length)))

  -- .. and comes first
  pub found_first : (j : ℕ) (d : Entry) → Earliest ticks n j → j < n → left_of b n entries ≡ get_or entries j d ∷ left_of b n (set entries j (advanced_of b (get_or entries j d)))
  found_first j d f h =
      let es = take n entries in
      let e = get_or-take n entries j d h in
      let t = tick-at es j d (omega (arith, first-length)) ∙ ticks-are j h in
      let step =
      merge_step b es j d w.settled (omega (arith, first-length)) (rw t (f.found h))
      (λ i k. rw (t, ticks-are i (omega arith)) (f.earlier i k (omega arith) h))
      (λ i k. let l : i < n = omega (arith, first-length) in rw (t, ticks-are i l) (f.later i l h)) in
      rw e at step ∙ ap (λ (xs : List Entry). get_or entries j d ∷ in_order (entries_of b xs)) (sym (take-set-lt n entries j (advanced_of b (get_or entries j d)) h))

  -- where none is found, nothing is left
  pub found_none : (j : ℕ) → Earliest ticks n j → n ≤ j → left_of b n entries ≡ []
  unfolding in_order
  found_none j f h =
      let j-is : j ≡ n = omega (arith, f.in-lanes) in
      ap in_order (merge-over b (take n entries) w.settled (λ i k. let l : i < n = omega (arith, first-length) in rw (ticks-are i l) (f.over j-is i l)))

  -- a track that goes on
  pub way_on : (j : ℕ) (e : Entry) → j < n → Settled b e → Way b n (set entries j e) (set ticks j e.tick)
  way_on j e h s =
      record {
        room = w.room;
        whole = length-set entries j e ∙ w.whole;
        own = ap (λ (ts : List ℕ). set ts j e.tick) w.own ∙ ticks-set entries j e;
        settled = subst (λ (es : List Entry). AllSettled b es) (sym (take-set-lt n entries j e h)) (settled-set b (take n entries) j e w.settled s);
      }
