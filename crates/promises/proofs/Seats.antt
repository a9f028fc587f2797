-- Demand 2: the slots that layers take are those of the rule.
use Prim.Native.Nat.{ℕ, ◌<◌, ◌≤◌, suc, zero, ◌+◌, ◌%◌, ◌^◌}
use mathlib.Core.Path.{◌≡◌, refl, sym, ap, ◌∙◌, subst}
use mathlib.Core.Bool.{true, Bool, false, cond, ◌||◌}
use mathlib.Core.List.{List, ◌∷◌, [], map}
use mathlib.Core.Logic.{◌⊎◌, inl, inr, ⊎_elim}
use lib.Dec.{eqb, ltb}
use native.Mathlib.Omega.{arith}
use borrow.Author.Tests.{ltb-true, ltb-false, eqb-false, eq-eqb, ne_eqb, eqb-true}
use native.Mathlib.Nat.{zero-add, le_of_suc-le-suc, not-suc-le-zero, zero-div}
use lib.ListN.{length, get_or, set}
use lib.Seq.{get_or-set_same}
use lib.IntN.{ℤ}
use Rattle.promises.specs.Age.{older, Slots, Ordered}
use Rattle.arith.specs.Lists.{count_if}
use Rattle.state.specs.Seats.{least_by, lowest_free, claim, order_of, taken, seat, start_in, renewed}
use Rattle.voice.specs.declared.Slot.{Slot}
use Rattle.voice.specs.Changes.{blank, free, sounds}
use Rattle.promises.proofs.EachSlot.{never, start-there, layered, cut-picked, cut_left, Among}
use Rattle.state.specs.Quiet.{up_from, fresh}
use Rattle.arith.specs.Words.{bit}
use Rattle.state.specs.Slots.{slot_at, slots_of, with_slots, cut}
use Rattle.events.specs.Starting.{Started, start, start_all, cleared, rival, struck}
use Rattle.promises.specs.Calls.{voice_in, seats, among, does, begun, Call, run, next}
use Rattle.promises.proofs.Kept.{Sized, slots-32, sized-lasts, Lasting, run-keeps, fresh-sized}
use Rattle.state.specs.declared.Engine.{Engine}
use Rattle.voice.specs.Stages.{released}
use Rattle.promises.specs.Demand2.{Sooner, let-go, softer, aged, RightSeat, RightSeats, distinct, LayersByTheRule}
use Rattle.promises.proofs.AgeLaws.{order-slots, renewed-ordered}
use Rattle.voice.specs.declared.Voice.{Voice}
use Rattle.state.proofs.SlotsLaws.{slots-back, slot_map}
use Rattle.arith.proofs.WordsLaws.{insert}
use Rattle.events.proofs.StartingLaws.{rival-free}
use Rattle.promises.proofs.Voices.{Everyone, from-fresh}
use Rattle.events.specs.Striking.{layer_voices, note_on_number, note_on, bank_from}
use Rattle.state.specs.Answers.{Answered}
use Rattle.state.specs.Answers.{done, refused, answer, past_two}
use Rattle.events.specs.Keys.{off_key}
use Rattle.promises.proofs.Banks.{came}
use Rattle.promises.proofs.Demand1.{note-on-numbers}
use Rattle.promises.specs.Calls as Calls

-- ---- the least of a list, the first where several are

-- r comes before x: f is less there, or as much and r stands first
abbrev Before : (ℕ → ℕ) → ℕ → List ℕ → ℕ → ℕ → Type 0
Before f b xs r x = (f r < f x) ⊎ ((f r ≡ f x) × ((r ≡ b) ⊎ (older xs r x ≡ true)))

-- r is the least of b and the list, and the first of those
pub record Least (f : ℕ → ℕ) (b : ℕ) (xs : List ℕ) (r : ℕ) : Type 0 where
  pub below : f r ≤ f b
  pub first : (r ≡ b → ⊥) → f r < f b
  pub all : (x : ℕ) → 1 ≤ count_if (eqb x) xs → (x ≡ r → ⊥) → Before f b xs r x
  pub each : (x : ℕ) → 1 ≤ count_if (eqb x) xs → f r ≤ f x
  pub slot : b < 32 → Slots xs → r < 32

-- less or as much
pub split : (m n : ℕ) → m ≤ n → (m < n) ⊎ (m ≡ n)
split m n h = by (ltb m n) refl
  where
    by : (b : Bool) → ltb m n ≡ b → (m < n) ⊎ (m ≡ n)
    by true e = inl (ltb-true m n e)
    by false e = inr (omega (arith, ltb-false m n e))

-- one of the later ones
later : (x y : ℕ) (ys : List ℕ) → eqb x y ≡ false → 1 ≤ count_if (eqb x) (y ∷ ys) → 1 ≤ count_if (eqb x) ys
later x y ys e h = rw (e, zero-add) at h

-- r stands before x also with y in front, if r is y or stood before
ahead : (r x y : ℕ) (ys : List ℕ) → eqb x y ≡ false → (r ≡ y) ⊎ (older ys r x ≡ true) → older (y ∷ ys) r x ≡ true
unfolding older
ahead r x y ys e (inl q) = ap (λ (t : Bool). cond t true (cond (eqb y x) false (older ys r x))) (eq-eqb y r (sym q))
ahead r x y ys e (inr q) = rw (ne_eqb y x (λ p. eqb-false x y e (sym p)), q) (by (eqb y r))
  where
    by : (t : Bool) → cond t true true ≡ true
    by true = refl
    by false = refl

least : (f : ℕ → ℕ) (b : ℕ) (xs : List ℕ) → Least f b xs (least_by f b xs)
unfolding least_by
least f b [] =
    record {
      below = omega arith;
      first = λ n. absurd (n refl);
      all = λ x h n. absurd (no h);
      each = λ x h. absurd (no h);
      slot = λ h s. h;
    }
  where
    no : 1 ≤ 0 → ⊥
    no h = omega arith
least f b (y ∷ ys) = by (ltb (f y) (f b)) refl (least f y ys) (least f b ys)
  where
    -- the newcomer is less
    less : f y < f b → Least f y ys (least_by f y ys) → Least f b (y ∷ ys) (least_by f y ys)
    less h l =
        record {
          below = omega (arith, l.below);
          first = λ n. omega (arith, l.below);
          all = λ x k n. one x k n (eqb x y) refl;
          each = λ x k. every x k (eqb x y) refl;
          slot = λ p s. l.slot s.0 s.1;
        }
      where
        r : ℕ
        r = least_by f y ys

        every : (x : ℕ) → 1 ≤ count_if (eqb x) (y ∷ ys) → (e : Bool) → eqb x y ≡ e → f r ≤ f x
        every x k true e = subst (λ (z : ℕ). f r ≤ f z) (sym (eqb-true x y e)) l.below
        every x k false e = l.each x (later x y ys e k)

        one : (x : ℕ) → 1 ≤ count_if (eqb x) (y ∷ ys) → (x ≡ r → ⊥) → (e : Bool) → eqb x y ≡ e → Before f b (y ∷ ys) r x
        one x k n true e = inl (subst (λ (z : ℕ). f r < f z) (sym (eqb-true x y e)) (l.first (λ q. n (eqb-true x y e ∙ sym q))))
        one x k n false e = ⊎_elim (λ q. inl q) (λ q. inr (q.0, inr (ahead r x y ys e q.1))) (l.all x (later x y ys e k) n)

    -- it is not
    more : f b ≤ f y → Least f b ys (least_by f b ys) → Least f b (y ∷ ys) (least_by f b ys)
    more h l =
        record {
          below = l.below;
          first = l.first;
          all = λ x k n. one x k n (eqb x y) refl;
          each = λ x k. every x k (eqb x y) refl;
          slot = λ p s. l.slot p s.1;
        }
      where
        r : ℕ
        r = least_by f b ys

        every : (x : ℕ) → 1 ≤ count_if (eqb x) (y ∷ ys) → (e : Bool) → eqb x y ≡ e → f r ≤ f x
        every x k true e = subst (λ (z : ℕ). f r ≤ f z) (sym (eqb-true x y e)) (omega (arith, l.below))
        every x k false e = l.each x (later x y ys e k)

        -- the newcomer itself
        newcomer : (t : Bool) → eqb r b ≡ t → (f r < f y) ⊎ (f r ≡ f y) → Before f b (y ∷ ys) r y
        newcomer true e (inl q) = inl q
        newcomer true e (inr q) = inr (q, inl (eqb-true r b e))
        newcomer false e q = inl (omega (arith, l.first (eqb-false r b e)))

        one : (x : ℕ) → 1 ≤ count_if (eqb x) (y ∷ ys) → (x ≡ r → ⊥) → (e : Bool) → eqb x y ≡ e → Before f b (y ∷ ys) r x
        one x k n true e =
            subst (λ (z : ℕ). Before f b (y ∷ ys) r z) (sym (eqb-true x y e)) (newcomer (eqb r b) refl (split (f r) (f y) (omega (arith, l.below))))
        one x k n false e =
            ⊎_elim (λ q. inl q) (λ q. inr (q.0, ⊎_elim (λ u. inl u) (λ u. inr (ahead r x y ys e (inr u))) q.1)) (l.all x (later x y ys e k) n)

    by : (t : Bool) → ltb (f y) (f b) ≡ t → Least f y ys (least_by f y ys) → Least f b ys (least_by f b ys) → Least f b (y ∷ ys) (least_by f (cond t y b) ys)
    by true e l m = less (ltb-true (f y) (f b) e) l
    by false e l m = more (ltb-false (f y) (f b) e) m

-- ---- the lowest free slot

lowest-free : (ss : List Slot) → lowest_free ss < length ss → (get_or ss (lowest_free ss) (free blank)).sounding ≡ false
unfolding lowest_free
lowest-free [] h = refl
lowest-free (s ∷ ss) h = by s.sounding refl h (lowest-free ss)
  where
    by : (b : Bool) → s.sounding ≡ b → cond b (suc (lowest_free ss)) 0 < suc (length ss)
        → (lowest_free ss < length ss → (get_or ss (lowest_free ss) (free blank)).sounding ≡ false) → (get_or (s ∷ ss) (cond b (suc (lowest_free ss)) 0) (free blank)).sounding ≡ false
    by true q l r = r (le_of_suc-le-suc l)
    by false q l r = q

lowest-le : (ss : List Slot) (j : ℕ) → j < length ss → (get_or ss j (free blank)).sounding ≡ false → lowest_free ss ≤ j
unfolding lowest_free
lowest-le [] j h q = absurd (not-suc-le-zero h)
lowest-le (s ∷ ss) zero h q = ap-le s.sounding q
  where
    ap-le : (b : Bool) → b ≡ false → cond b (suc (lowest_free ss)) 0 ≤ 0
    ap-le true e = absurd (never (sym e))
    ap-le false e = omega arith
lowest-le (s ∷ ss) (suc j) h q = by s.sounding (lowest-le ss j (le_of_suc-le-suc h) q)
  where
    by : (b : Bool) → lowest_free ss ≤ j → cond b (suc (lowest_free ss)) 0 ≤ suc j
    by true r = omega arith
    by false r = omega arith

-- ---- slots in all

-- the 32 slots
abbrev all : List ℕ
all = up_from 0 32

bit-two : (n j : ℕ) → (bit n j ≡ 1 → ⊥) → bit n j ≡ 0
bit-two n j h = by (bit n j) h (omega arith)
  where
    by : (b : ℕ) → (b ≡ 1 → ⊥) → b < 2 → b ≡ 0
    by zero h l = refl
    by (suc zero) h l = absurd (h refl)
    by (suc (suc b)) h l = absurd (no b l)
      where
        no : (b : ℕ) → suc (suc b) < 2 → ⊥
        no b l = omega arith

-- numbers counted up stand once each
up_none : (i a n : ℕ) → i < a → count_if (eqb i) (up_from a n) ≡ 0
up_none i a zero h = refl
up_none i a (suc n) h = rw (ne_eqb i a (λ q. no q), zero-add) (up_none i (a + 1) n (omega arith))
  where
    no : i ≡ a → ⊥
    no q = omega arith

up-once : (i a n : ℕ) → a ≤ i → i < a + n → count_if (eqb i) (up_from a n) ≡ 1
up-once i a zero h k = absurd (no h k)
  where
    no : a ≤ i → i < a + 0 → ⊥
    no h k = omega arith
up-once i a (suc n) h k = by (eqb i a) refl (up-once i (a + 1) n)
  where
    by : (b : Bool) → eqb i a ≡ b → (a + 1 ≤ i → i < a + 1 + n → count_if (eqb i) (up_from (a + 1) n) ≡ 1) → cond b 1 0 + count_if (eqb i) (up_from (a + 1) n) ≡ 1
    by true e r = let q : i < a + 1 = omega (arith, eqb-true i a e) in omega (arith, up_none i (a + 1) n q)
    by false e r = let q : a + 1 ≤ i = other (eqb-false i a e) in omega (arith, r q (omega arith))
      where
        other : (i ≡ a → ⊥) → a + 1 ≤ i
        other n = ⊎_elim (λ l. omega arith) (λ l. absurd (n (sym l))) (split a i h)

up-slots : (a n : ℕ) → a + n ≤ 32 → Slots (up_from a n)
up-slots a zero h = tt
up-slots a (suc n) h = (omega arith, up-slots (a + 1) n (omega arith))

-- the fresh order is an order
pub fresh-ordered : Ordered fresh.order
unfolding fresh
fresh-ordered = record { length = refl; slots = up-slots 0 32 (omega arith); once = λ i h. up-once i 0 32 (omega arith) (omega arith) }

-- one more slot passes a test
one_more : (p q : ℕ → Bool) (i : ℕ) → p i ≡ false → q i ≡ true → ((j : ℕ) → j < 32 → (j ≡ i → ⊥) → q j ≡ p j)
    → (xs : List ℕ) → Slots xs → count_if q xs ≡ count_if p xs + count_if (eqb i) xs
one_more p q i f t h [] s = refl
one_more p q i f t h (x ∷ xs) s = by (eqb i x) refl (one_more p q i f t h xs s.1)
  where
    by : (b : Bool) → eqb i x ≡ b → count_if q xs ≡ count_if p xs + count_if (eqb i) xs
        → cond (q x) 1 0 + count_if q xs ≡ cond (p x) 1 0 + count_if p xs + (cond b 1 0 + count_if (eqb i) xs)
    by true e r =
        let z = eqb-true i x e in
        let f' : p x ≡ false = subst (λ (y : ℕ). p y ≡ false) z f in
        let t' : q x ≡ true = subst (λ (y : ℕ). q y ≡ true) z t in
        rw (f', t') (omega arith)
    by false e r = rw (h x s.0 (λ z. eqb-false i x e (sym z))) (omega arith)

-- fewer than all pass: one that does not
record Spare (p : ℕ → Bool) (xs : List ℕ) : Type 0 where
  slot : ℕ
  small : slot < 32
  fails : p slot ≡ false

spare : (p : ℕ → Bool) (xs : List ℕ) → Slots xs → count_if p xs < length xs → Spare p xs
spare p [] s h = absurd (not-suc-le-zero h)
spare p (x ∷ xs) s h = by (p x) refl (spare p xs s.1)
  where
    by : (b : Bool) → p x ≡ b → (count_if p xs < length xs → Spare p xs) → Spare p (x ∷ xs)
    by false e r = record { slot = x; small = s.0; fails = e }
    by true e r =
        let k : 1 + count_if p xs < suc (length xs) = rw e at h in
        let y = r (omega arith) in
        record { slot = y.slot; small = y.small; fails = y.fails }

-- ---- one layer

-- how far a note-on has come: m layers are started
record Mid (x : Started) (m : ℕ) : Type 0 where
  sized : Sized x.engine
  ordered : Ordered x.engine.order
  loud : (j : ℕ) → j < 32 → bit x.mine j ≡ 1 → (slot_at x.engine j).sounding ≡ true
  soft : (j : ℕ) → (slot_at x.engine j).sounding ≡ true → (voice_in j x.engine).velocity ≤ 127
  count : count_if (λ (j : ℕ). eqb (bit x.mine j) 1) all ≡ m

-- the first of an order stands before all others
head-older : (o : List ℕ) (i j : ℕ) → 1 ≤ length o → i ≡ get_or o 0 0 → older o i j ≡ true
unfolding older
head-older [] i j h q = absurd (not-suc-le-zero h)
head-older (y ∷ o) i j h q = ap (λ (t : Bool). cond t true (cond (eqb y j) false (older o i j))) (eq-eqb y i (sym q))

head-slot : (o : List ℕ) → Slots o → get_or o 0 0 < 32
head-slot [] s = omega arith
head-slot (y ∷ o) s = s.0

-- a claim, by its parts
claim-mine : (e : Engine) (mine i : ℕ) → bit mine i ≡ 1 → claim e mine i ≡ 512
unfolding claim
claim-mine e mine i h = rw (eq-eqb (bit mine i) 1 h) refl

claim-other : (e : Engine) (mine i : ℕ) → bit mine i ≡ 0 → claim e mine i ≡ cond (released (voice_in i e).stage) (voice_in i e).velocity (256 + (voice_in i e).velocity)
unfolding claim
claim-other e mine i h = rw (ne_eqb (bit mine i) 1 (λ q. no q)) refl
  where
    no : bit mine i ≡ 1 → ⊥
    no q = omega (arith, h, q)

-- what claims say of two slots
sooner : (e : Engine) (i j : ℕ) → (voice_in i e).velocity ≤ 127 → (voice_in j e).velocity ≤ 127
    → (cond (released (voice_in i e).stage) (voice_in i e).velocity (256 + (voice_in i e).velocity) < cond (released (voice_in j e).stage) (voice_in j e).velocity (256 + (voice_in j e).velocity))
    ⊎ ((cond (released (voice_in i e).stage) (voice_in i e).velocity (256 + (voice_in i e).velocity) ≡ cond (released (voice_in j e).stage) (voice_in j e).velocity (256 + (voice_in j e).velocity)) × (older e.order i j ≡ true))
    → Sooner e i j
sooner e i j vi vj h = by (released (voice_in i e).stage) refl (released (voice_in j e).stage) refl h
  where
    a : ℕ
    a = (voice_in i e).velocity

    b : ℕ
    b = (voice_in j e).velocity

    by : (p : Bool) → released (voice_in i e).stage ≡ p → (q : Bool) → released (voice_in j e).stage ≡ q
        → (cond p a (256 + a) < cond q b (256 + b)) ⊎ ((cond p a (256 + a) ≡ cond q b (256 + b)) × (older e.order i j ≡ true)) → Sooner e i j
    by true f true g (inl l) = softer (f ∙ sym g) l
    by true f true g (inr l) = aged (f ∙ sym g) l.0 l.1
    by true f false g l = let-go f g
    by false f true g (inl l) = absurd (no l)
      where
        no : 256 + a < b → ⊥
        no l = omega arith
    by false f true g (inr l) = absurd (no l.0)
      where
        no : 256 + a ≡ b → ⊥
        no l = omega arith
    by false f false g (inl l) = softer (f ∙ sym g) (omega arith)
    by false f false g (inr l) = aged (f ∙ sym g) (omega (arith, l.0)) l.1

module _ (x : Started) (m : ℕ) (mid : Mid x m) (few : m < 32) where
  -- the state between two layers
  abbrev eng : Engine
  eng = x.engine

  -- the slot that the next layer takes
  abbrev here : ℕ
  here = seat x.engine x.mine

  -- its order, read as slots, is the order itself
  abbrev orders : order_of eng ≡ eng.order
  orders = order-slots eng.order mid.ordered.slots

  -- a slot is free
  by-free : lowest_free (slots_of eng) < 32 → RightSeat eng x.mine (lowest_free (slots_of eng))
  by-free h =
      let i = lowest_free (slots_of eng) in
      let n = slots-32 eng mid.sized in
      let q : (slot_at eng i).sounding ≡ false = lowest-free (slots_of eng) (omega arith) in
      record {
        slot = h;
        other = bit-two x.mine i (λ b. never (sym q ∙ mid.loud i h b));
        lowest = λ j l f. (q, lowest-le (slots_of eng) j (omega arith) f);
        soonest = λ s j l b k. absurd (never (sym q ∙ s));
      }

  -- none is
  by-taking : 32 ≤ lowest_free (slots_of eng) → RightSeat eng x.mine (taken eng x.mine)
  unfolding taken
  by-taking h =
      let f = claim eng x.mine in
      let o = eng.order in
      let l : Least f (get_or o 0 0) o (least_by f (get_or o 0 0) o) = least f (get_or o 0 0) o in
      rw orders (record {
        slot = small l;
        other = other l;
        lowest = λ j k q. absurd (no j k q);
        soonest = λ s j k b a. sooner eng (least_by f (get_or o 0 0) o) j (mid.soft (least_by f (get_or o 0 0) o) s) (mid.soft j (loud j k)) (claims l j b (l.all j (one j k) a));
      })
    where
      f : ℕ → ℕ
      f = claim eng x.mine

      o : List ℕ
      o = eng.order

      r : ℕ
      r = least_by f (get_or o 0 0) o

      small : Least f (get_or o 0 0) o r → r < 32
      small l = l.slot (head-slot o mid.ordered.slots) mid.ordered.slots

      -- every slot sounds
      no : (j : ℕ) → j < 32 → (slot_at eng j).sounding ≡ false → ⊥
      no j k q = let z = slots-32 eng mid.sized in omega (arith, lowest-le (slots_of eng) j (omega arith) q)

      loud : (j : ℕ) → j < 32 → (slot_at eng j).sounding ≡ true
      loud j k = by (slot_at eng j).sounding refl
        where
          by : (b : Bool) → (slot_at eng j).sounding ≡ b → b ≡ true
          by true q = refl
          by false q = absurd (no j k q)

      one : (j : ℕ) → j < 32 → 1 ≤ count_if (eqb j) o
      one j k = omega (arith, mid.ordered.once j k)

      -- one of the same note-on claims 512, which is more than some other claims
      other : Least f (get_or o 0 0) o r → bit x.mine r ≡ 0
      other l =
          let z = spare (λ (j : ℕ). eqb (bit x.mine j) 1) all (up-slots 0 32 (omega arith)) (omega (arith, mid.count)) in
          let b = bit-two x.mine z.slot (eqb-false (bit x.mine z.slot) 1 z.fails) in
          bit-two x.mine r (λ q. high (voice_in z.slot eng).velocity (released (voice_in z.slot eng).stage) (f z.slot) (mid.soft z.slot (loud z.slot z.small))
          (subst (λ (n : ℕ). n ≤ f z.slot) (claim-mine eng x.mine r q) (l.each z.slot (one z.slot z.small))) (claim-other eng x.mine z.slot b))
        where
          high : (v : ℕ) (b : Bool) (c : ℕ) → v ≤ 127 → 512 ≤ c → c ≡ cond b v (256 + v) → ⊥
          high v true c h k e = omega arith
          high v false c h k e = omega arith

      claims : Least f (get_or o 0 0) o r → (j : ℕ) → bit x.mine j ≡ 0 → Before f (get_or o 0 0) o r j
          → (cond (released (voice_in r eng).stage) (voice_in r eng).velocity (256 + (voice_in r eng).velocity) < cond (released (voice_in j eng).stage) (voice_in j eng).velocity (256 + (voice_in j eng).velocity))
          ⊎ ((cond (released (voice_in r eng).stage) (voice_in r eng).velocity (256 + (voice_in r eng).velocity) ≡ cond (released (voice_in j eng).stage) (voice_in j eng).velocity (256 + (voice_in j eng).velocity)) × (older eng.order r j ≡ true))
      claims l j b w =
          let cr = claim-other eng x.mine r (other l) in
          let cj = claim-other eng x.mine j b in
          ⊎_elim (λ q. inl (rw (cr, cj) at q))
          (λ q. inr (sym cr ∙ q.0 ∙ cj, ⊎_elim (λ u. head-older o r j (omega (arith, mid.ordered.length)) u) (λ u. u) q.1)) w

  seat-right : RightSeat eng x.mine here
  unfolding seat
  seat-right = by (ltb (lowest_free (slots_of eng)) 32) refl
    where
      by : (b : Bool) → ltb (lowest_free (slots_of eng)) 32 ≡ b → RightSeat eng x.mine (cond b (lowest_free (slots_of eng)) (taken eng x.mine))
      by true e = by-free (ltb-true (lowest_free (slots_of eng)) 32 e)
      by false e = by-taking (ltb-false (lowest_free (slots_of eng)) 32 e)

-- ---- all layers

-- slot j after a layer is started: its own, or as it was
start-slot : (v : Voice) (x : Started) → Sized x.engine → seat x.engine x.mine < 32 → slot_at (start v x).engine (seat x.engine x.mine) ≡ sounds v
unfolding start start_in
start-slot v x h l =
    let i = seat x.engine x.mine in
    let n = slots-32 x.engine h in
    ap (λ (ss : List Slot). get_or ss i (free blank)) (slots-back (set (slots_of x.engine) i (sounds v)))
    ∙ get_or-set_same (slots_of x.engine) i (sounds v) (free blank) (omega arith)

pub start-order : (v : Voice) (x : Started) → Ordered x.engine.order → (start v x).engine.order ≡ renewed (seat x.engine x.mine) x.engine.order
unfolding start start_in
start-order v x h = ap (renewed (seat x.engine x.mine)) (order-slots x.engine.order h.slots)

start-sized : (v : Voice) (x : Started) → Sized x.engine → Sized (start v x).engine
unfolding start
start-sized v x h = sized-lasts.start x.engine x.mine v h

-- a slot's bit after a layer is started
mine-here : (v : Voice) (x : Started) → bit (start v x).mine (seat x.engine x.mine) ≡ 1
unfolding start
mine-here v x = (insert x.mine (seat x.engine x.mine)).here

mine-there : (v : Voice) (x : Started) (j : ℕ) → j < 32 → (j ≡ seat x.engine x.mine → ⊥) → bit (start v x).mine j ≡ bit x.mine j
unfolding start
mine-there v x j l n = (insert x.mine (seat x.engine x.mine)).kept j l n

start-mid : (v : Voice) (x : Started) (m : ℕ) → Mid x m → RightSeat x.engine x.mine (seat x.engine x.mine) → v.velocity ≤ 127 → Mid (start v x) (m + 1)
start-mid v x m mid r soft =
    record {
      sized = start-sized v x mid.sized;
      ordered = rw (start-order v x mid.ordered) (renewed-ordered i x.engine.order r.slot mid.ordered);
      loud = λ j l b. loud j l b (eqb j i) refl;
      soft = λ j on. quiet j on (eqb j i) refl;
      count =
          one_more (λ (j : ℕ). eqb (bit x.mine j) 1) (λ (j : ℕ). eqb (bit (start v x).mine j) 1) i
          (ne_eqb (bit x.mine i) 1 (λ q. no q)) (eq-eqb (bit (start v x).mine i) 1 (mine-here v x))
          (λ j l n. ap (λ (b : ℕ). eqb b 1) (mine-there v x j l n)) all (up-slots 0 32 (omega arith))
          ∙ ap (λ (n : ℕ). n + count_if (eqb i) all) mid.count ∙ ap (λ (n : ℕ). m + n) (up-once i 0 32 (omega arith) (omega (arith, r.slot)));
    }
  where
    i : ℕ
    i = seat x.engine x.mine

    no : bit x.mine i ≡ 1 → ⊥
    no q = omega (arith, q, r.other)

    own : slot_at (start v x).engine i ≡ sounds v
    own = start-slot v x mid.sized r.slot

    loud : (j : ℕ) → j < 32 → bit (start v x).mine j ≡ 1 → (b : Bool) → eqb j i ≡ b → (slot_at (start v x).engine j).sounding ≡ true
    loud j l q true e = ap (λ (y : ℕ). (slot_at (start v x).engine y).sounding) (eqb-true j i e) ∙ ap (λ (s : Slot). s.sounding) own
    loud j l q false e =
        let n = eqb-false j i e in
        ap (λ (s : Slot). s.sounding) (start-there v x j n) ∙ mid.loud j l (sym (mine-there v x j l n) ∙ q)

    quiet : (j : ℕ) → (slot_at (start v x).engine j).sounding ≡ true → (b : Bool) → eqb j i ≡ b → (voice_in j (start v x).engine).velocity ≤ 127
    quiet j on true e = subst (λ (s : Slot). s.voice.velocity ≤ 127) (sym (ap (λ (y : ℕ). slot_at (start v x).engine y) (eqb-true j i e) ∙ own)) soft
    quiet j on false e =
        let t = start-there v x j (eqb-false j i e) in
        subst (λ (s : Slot). s.voice.velocity ≤ 127) (sym t) (mid.soft j (sym (ap (λ (s : Slot). s.sounding) t) ∙ on))

-- all of a list are soft enough
abbrev Soft : List Voice → Type 0
Soft [] = Unit {0}
Soft (v ∷ vs) = (v.velocity ≤ 127) × Soft vs

all_right : (vs : List Voice) (x : Started) (m : ℕ) → Mid x m → m + length vs ≤ 32 → Soft vs → RightSeats vs x
all_right [] x m mid h s = tt
all_right (v ∷ vs) x m mid h s =
    let r = seat-right x m mid (omega arith) in
    (r, all_right vs (start v x) (m + 1) (start-mid v x m mid r s.0) (omega arith) s.1)

-- a slot that is taken was not this note-on's
taken-new : (vs : List Voice) (x : Started) (i : ℕ) → RightSeats vs x → among i (seats vs x) ≡ true → (i < 32) × (bit x.mine i ≡ 0)
unfolding seats among
taken-new [] x i r h = absurd (never h)
taken-new (v ∷ vs) x i r h = by (eqb (seat x.engine x.mine) i) refl h (taken-new vs (start v x) i r.1)
  where
    j : ℕ
    j = seat x.engine x.mine

    by : (b : Bool) → eqb j i ≡ b → (b || among i (seats vs (start v x))) ≡ true
        → (among i (seats vs (start v x)) ≡ true → (i < 32) × (bit (start v x).mine i ≡ 0)) → (i < 32) × (bit x.mine i ≡ 0)
    by true e k f = subst (λ (y : ℕ). (y < 32) × (bit x.mine y ≡ 0)) (eqb-true j i e) (r.0.slot, r.0.other)
    by false e k f =
        let g = f k in
        (g.0, sym (mine-there v x i g.0 (λ q. eqb-false j i e (sym q))) ∙ g.1)

-- the slot of a layer is none of the later ones
not-again : (v : Voice) (vs : List Voice) (x : Started) → RightSeats vs (start v x) → among (seat x.engine x.mine) (seats vs (start v x)) ≡ false
not-again v vs x r = by (among (seat x.engine x.mine) (seats vs (start v x))) refl
  where
    by : (b : Bool) → among (seat x.engine x.mine) (seats vs (start v x)) ≡ b → b ≡ false
    by false e = refl
    by true e = absurd (no (taken-new vs (start v x) (seat x.engine x.mine) r e).1)
      where
        no : bit (start v x).mine (seat x.engine x.mine) ≡ 0 → ⊥
        no q = omega (arith, q, mine-here v x)

seats-apart : (vs : List Voice) (x : Started) → RightSeats vs x → distinct (seats vs x) ≡ true
unfolding seats distinct
seats-apart [] x r = refl
seats-apart (v ∷ vs) x r = rw (not-again v vs x r.1) (seats-apart vs (start v x) r.1)

-- a slot for each layer
pub seats-count : (vs : List Voice) (x : Started) → length (seats vs x) ≡ length vs
unfolding seats
seats-count [] x = refl
seats-count (v ∷ vs) x = ap suc (seats-count vs (start v x))

-- a slot that no layer takes
pub layers-there : (vs : List Voice) (x : Started) (i : ℕ) → among i (seats vs x) ≡ false → slot_at (start_all vs x).engine i ≡ slot_at x.engine i
layers-there vs x i h = ⊎_elim (λ q. q) (λ p. absurd (never (sym h ∙ p.into))) (layered vs x i)

layers-each : (vs : List Voice) (x : Started) (m : ℕ) → Mid x m → Soft vs → RightSeats vs x → (j : ℕ) → j < length vs
    → slot_at (start_all vs x).engine (get_or (seats vs x) j 0) ≡ sounds (get_or vs j blank)
unfolding start_all seats
layers-each [] x m mid s r j h = absurd (not-suc-le-zero h)
layers-each (v ∷ vs) x m mid s r zero h =
    layers-there vs (start v x) (seat x.engine x.mine) (not-again v vs x r.1) ∙ start-slot v x mid.sized r.0.slot
layers-each (v ∷ vs) x m mid s r (suc j) h = layers-each vs (start v x) (m + 1) (start-mid v x m mid r.0 s.0) s.1 r.1 j (le_of_suc-le-suc h)

-- ---- a note-on

-- before the first layer
begin : (e : Engine) (c : ℕ) (vs : List Voice) → Sized e → Ordered e.order → Everyone (λ (v : Voice). v.velocity ≤ 127) e → Mid (record { engine = cleared c vs e; mine = 0 }) 0
unfolding cleared
begin e c vs z o soft =
    record {
      sized = sized-lasts.slots e (cut (rival c vs)) z;
      ordered = o;
      loud = λ j l b. absurd (no j b);
      soft = quiet;
      count = none 0 32;
    }
  where
    zero_bit : (j : ℕ) → bit 0 j ≡ 0
    zero_bit j = ap (λ (n : ℕ). n % 2) (zero-div (2 ^ j))

    no : (j : ℕ) → bit 0 j ≡ 1 → ⊥
    no j b = omega (arith, b, zero_bit j)

    none : (a n : ℕ) → count_if (λ (j : ℕ). eqb (bit 0 j) 1) (up_from a n) ≡ 0
    none a zero = refl
    none a (suc n) = rw (ne_eqb (bit 0 a) 1 (no a), zero-add) (none (a + 1) n)

    quiet : (j : ℕ) → (slot_at (with_slots e (map (cut (rival c vs)) (slots_of e))) j).sounding ≡ true → (voice_in j (with_slots e (map (cut (rival c vs)) (slots_of e)))).velocity ≤ 127
    quiet j on =
        let at = slot_map e e (cut (rival c vs)) j (rival-free c vs blank) in
        subst (λ (s : Slot). s.voice.velocity ≤ 127) (sym at) (by (rival c vs (slot_at e j)) refl (sym (ap (λ (s : Slot). s.sounding) at) ∙ on))
      where
        by : (b : Bool) → rival c vs (slot_at e j) ≡ b → (cut (rival c vs) (slot_at e j)).sounding ≡ true → (cut (rival c vs) (slot_at e j)).voice.velocity ≤ 127
        by true q o = absurd (never (sym (ap (λ (s : Slot). s.sounding) (cut-picked (rival c vs) (slot_at e j) q)) ∙ o))
        by false q o =
            let s = cut_left (rival c vs) (slot_at e j) q in
            subst (λ (t : Slot). t.voice.velocity ≤ 127) (sym s) (soft j (sym (ap (λ (t : Slot). t.sounding) s) ∙ o))

-- the state after a done note-on of velocity above 0
struck-is : (b : List ℕ) (ram rom : List ℤ) (c k v : ℕ) (e : Engine) → (v ≡ 0 → ⊥) → (does (Calls.NoteOn b ram rom c k v) e).status ≡ 0
    → does (Calls.NoteOn b ram rom c k v) e ≡ done (length (layer_voices (bank_from b) c k v e)) (struck c (layer_voices (bank_from b) c k v e) e).engine
unfolding note_on
struck-is b ram rom c k v e n = by (past_two c k v) (eqb v 0) refl (eqb number 0) number refl
  where
    number : ℕ
    number = note_on_number (bank_from b) ram rom c k v e

    well : Answered
    well = done (length (layer_voices (bank_from b) c k v e)) (struck c (layer_voices (bank_from b) c k v e) e).engine

    by : (t z : Bool) → eqb v 0 ≡ z → (q : Bool) (m : ℕ) → eqb m 0 ≡ q
        → (answer (cond t 2 0) e (cond z (off_key c k e) (cond q well (refused m e)))).status ≡ 0
        → answer (cond t 2 0) e (cond z (off_key c k e) (cond q well (refused m e))) ≡ well
    by true z p q m r h = absurd (eqb-false 2 0 refl h)
    by false true p q m r h = absurd (n (eqb-true v 0 p))
    by false false p true m r h = refl
    by false false p false m r h = absurd (eqb-false m 0 r h)

-- the voices that it starts
pub begun-is : (b : List ℕ) (ram rom : List ℤ) (c k v : ℕ) (e : Engine) → (v ≡ 0 → ⊥) → (does (Calls.NoteOn b ram rom c k v) e).status ≡ 0
    → begun (Calls.NoteOn b ram rom c k v) e ≡ layer_voices (bank_from b) c k v e
begun-is b ram rom c k v e n h = rw (eq-eqb (does (Calls.NoteOn b ram rom c k v) e).status 0 h, ne_eqb v 0 n) refl

-- its velocities
soft-all : (vs : List Voice) → ((u : Voice) → Among u vs → u.velocity ≤ 127) → Soft vs
soft-all [] h = tt
soft-all (v ∷ vs) h = (h v (inl refl), soft-all vs (λ u a. h u (inr a)))

-- a seat is a slot, whatever was started before
pub seat-slot : (e : Engine) (m : ℕ) → Ordered e.order → seat e m < 32
unfolding seat taken
seat-slot e m h = by (ltb (lowest_free (slots_of e)) 32) refl
  where
    by : (b : Bool) → ltb (lowest_free (slots_of e)) 32 ≡ b → cond b (lowest_free (slots_of e)) (least_by (claim e m) (get_or (order_of e) 0 0) (order_of e)) < 32
    by true q = ltb-true (lowest_free (slots_of e)) 32 q
    by false q =
        rw (order-slots e.order h.slots) ((least (claim e m) (get_or e.order 0 0) e.order).slot (head-slot e.order h.slots) h.slots)

-- no part of a call changes that the order is one
pub ordered-lasts : Lasting (λ (e : Engine). Ordered e.order)
unfolding start_in
ordered-lasts =
    record {
      channel = λ e c x h. h;
      slots = λ e f h. h;
      start = λ e m v h. rw (order-slots e.order h.slots) (renewed-ordered (seat e m) e.order (seat-slot e m h) h);
      clock = λ e t h. h;
    }

-- the order stays an order through any run
pub ordered-run : (xs : List Call) → Ordered (run xs fresh).order
ordered-run xs = run-keeps (λ (e : Engine). Ordered e.order) ordered-lasts xs fresh fresh-ordered

-- 32 slots through any run
pub sized-run : (xs : List Call) → Sized (run xs fresh)
sized-run xs = run-keeps Sized sized-lasts xs fresh fresh-sized

-- layer by layer, from the state that the run has left
pub by-the-rule : LayersByTheRule
unfolding struck cleared cut
by-the-rule xs b ram rom c k v p h =
    let e = run xs fresh in
    let x = Calls.NoteOn b ram rom c k v in
    let n : v ≡ 0 → ⊥ = λ q. some q in
    let vs = begun x e in
    let is = begun-is b ram rom c k v e n h in
    let first : Started = record { engine = cleared c vs e; mine = 0 } in
    let few : length vs ≤ 32 = ⊎_elim (λ y. absurd (n y.2)) (λ y. rw is y.3) ((note-on-numbers b ram rom c k v e).done.0 h) in
    let mid = begin e c vs (sized-run xs) (ordered-run xs) (from-fresh (λ (u : Voice). u.velocity ≤ 127) (λ u g q m w. w) (λ y z u f. (came y z u f).velocity) xs) in
    let soft = soft-all vs (λ u a. (came x e u a).velocity) in
    let right = all_right vs first 0 mid (omega arith) soft in
    let after : next x e ≡ (start_all vs first).engine =
    ap (λ (a : Answered). a.engine) (struck-is b ram rom c k v e n h) ∙ ap (λ (us : List Voice). (start_all us (record { engine = cleared c us e; mine = 0 })).engine) (sym is) in (
      ap (λ (a : Answered). a.count) (struck-is b ram rom c k v e n h) ∙ ap length (sym is),
      record {
        counted = seats-count vs first;
        seated = right;
        apart = seats-apart vs first right;
        each = λ j l. ap (λ (y : Engine). slot_at y (get_or (seats vs first) j 0)) after ∙ layers-each vs first 0 mid soft right j l;
        others = λ i a.
            ap (λ (y : Engine). slot_at y i) after ∙ layers-there vs first i a
            ∙ slot_map e e (cut (rival c vs)) i (rival-free c vs blank);
      },
    )
  where
    some : v ≡ 0 → ⊥
    some q = omega arith
