-- The one sequence says what it should: ticks never fall, and events on one tick keep their order.
use mathlib.Core.Bool.{Bool, true, false, cond}
use mathlib.Core.List.{List, [], ◌∷◌, ◌++◌}
use mathlib.Core.Path.{◌≡◌, refl, ap, ◌∙◌}
use Prim.Native.Nat.{ℕ, suc, ◌≤◌}
use native.Mathlib.Omega.{arith}
use borrow.Author.Tests.{leb-true, leb-false, eqb-true, le-leb}
use lib.Dec.{leb, eqb}
use lib.ListN.{length}
use Rattle.merge.specs.declared.Entry.{Entry}
use Rattle.merge.specs.Order.{inserted, in_order}
use Rattle.merge.specs.Kept.{NoneBefore, TicksRise, on_tick, InSequence}

-- what is not earlier than a tick is not earlier than one in front of it
pub none_before : (s t : ℕ) (es : List Entry) → s ≤ t → NoneBefore t es → NoneBefore s es
none_before s t [] h k = tt
none_before s t (e ∷ es) h k = (omega (arith, k.0), none_before s t es h k.1)

-- an event put among others that are not earlier
none-inserted : (t : ℕ) (e : Entry) (es : List Entry) → t ≤ e.tick → NoneBefore t es → NoneBefore t (inserted e es)
unfolding inserted
none-inserted t e [] h k = (h, tt)
none-inserted t e (x ∷ xs) h k = go (none-inserted t e xs h k.1) (leb e.tick x.tick)
  where
    go : NoneBefore t (inserted e xs) → (f : Bool) → NoneBefore t (cond f (e ∷ x ∷ xs) (x ∷ inserted e xs))
    go more true = (h, k)
    go more false = (k.0, more)

-- ticks that never fall still do not with one event more
rise-inserted : (e : Entry) (es : List Entry) → TicksRise es → TicksRise (inserted e es)
unfolding inserted
rise-inserted e [] r = (tt, tt)
rise-inserted e (x ∷ xs) r = go (rise-inserted e xs r.1) (leb e.tick x.tick) refl
  where
    go : TicksRise (inserted e xs) → (f : Bool) → leb e.tick x.tick ≡ f → TicksRise (cond f (e ∷ x ∷ xs) (x ∷ inserted e xs))
    go more true f = let h = leb-true e.tick x.tick f in ((h, none_before e.tick x.tick xs h r.0), r)
    go more false f = let h = leb-false e.tick x.tick f in (none-inserted x.tick e xs (omega (arith, h)) r.0, more)

-- ticks never fall in the sequence
pub order-rises : (es : List Entry) → TicksRise (in_order es)
unfolding in_order
order-rises [] = tt
order-rises (e ∷ es) = rise-inserted e (in_order es) (order-rises es)

-- an event put in order comes first of those on its tick, and changes nothing on others
on-inserted : (t : ℕ) (e : Entry) (es : List Entry) → on_tick t (inserted e es) ≡ on_tick t (e ∷ es)
unfolding inserted on_tick
on-inserted t e [] = refl
on-inserted t e (x ∷ xs) = go (on-inserted t e xs) (leb e.tick x.tick) refl (eqb e.tick t) refl (eqb x.tick t) refl
  where
    go : on_tick t (inserted e xs) ≡ on_tick t (e ∷ xs)
        → (f : Bool) → leb e.tick x.tick ≡ f → (g : Bool) → eqb e.tick t ≡ g → (h : Bool) → eqb x.tick t ≡ h
        → on_tick t (cond f (e ∷ x ∷ xs) (x ∷ inserted e xs)) ≡ on_tick t (e ∷ x ∷ xs)
    go more true f g u h v = refl
    go more false f true u true v =
        let k = leb-false e.tick x.tick f in
        let p = eqb-true e.tick t u in
        let q = eqb-true x.tick t v in
        absurd (omega (arith, k, p, q))
    go more false f true u false v = rw (v, u) (rw u at more)
    go more false f false u true v = rw (v, u) (ap (λ (ys : List Entry). x ∷ ys) (rw u at more))
    go more false f false u false v = rw (v, u) (rw u at more)

-- on each tick the events are those that were on it, in their order
on-order : (t : ℕ) (es : List Entry) → on_tick t (in_order es) ≡ on_tick t es
unfolding in_order on_tick
on-order t [] = refl
on-order t (e ∷ es) =
    on-inserted t e (in_order es) ∙ ap (λ (ys : List Entry). cond (eqb e.tick t) (e ∷ ys) ys) (on-order t es)

-- the one sequence
pub in-sequence : InSequence
in-sequence es = (order-rises es, λ t. on-order t es)

-- an event that none is in front of comes first
first-stays : (e : Entry) (es : List Entry) → NoneBefore e.tick es → inserted e es ≡ e ∷ es
unfolding inserted
first-stays e [] h = refl
first-stays e (x ∷ xs) h = rw (le-leb _ _ h.0) refl

-- events whose ticks never fall are in order already
pub order-stays : (es : List Entry) → TicksRise es → in_order es ≡ es
unfolding in_order
order-stays [] r = refl
order-stays (e ∷ es) r = ap (inserted e) (order-stays es r.1) ∙ first-stays e es r.0

-- something is so of each of some events
abbrev pub Each : (Entry → Type 0) → List Entry → Type 0
Each P [] = Unit {0}
Each P (e ∷ es) = P e × Each P es

-- .. of two lists
pub each_append : (P : Entry → Type 0) (xs ys : List Entry) → Each P xs → Each P ys → Each P (xs ++ ys)
each_append P [] ys p q = q
each_append P (x ∷ xs) ys p q = (p.0, each_append P xs ys p.1 q)

-- what follows from it
pub each-so : (P Q : Entry → Type 0) (es : List Entry) → ((e : Entry) → P e → Q e) → Each P es → Each Q es
each-so P Q [] f p = tt
each-so P Q (e ∷ es) f p = (f e p.0, each-so P Q es f p.1)

-- .. of one more, put in order
each-inserted : (P : Entry → Type 0) (e : Entry) (es : List Entry) → P e → Each P es → Each P (inserted e es)
unfolding inserted
each-inserted P e [] f k = (f, tt)
each-inserted P e (x ∷ xs) f k = go (each-inserted P e xs f k.1) (leb e.tick x.tick)
  where
    go : Each P (inserted e xs) → (t : Bool) → Each P (cond t (e ∷ x ∷ xs) (x ∷ inserted e xs))
    go more true = (f, k)
    go more false = (k.0, more)

-- .. of all, put in order
pub each-order : (P : Entry → Type 0) (es : List Entry) → Each P es → Each P (in_order es)
unfolding in_order
each-order P [] k = tt
each-order P (e ∷ es) k = each-inserted P e (in_order es) k.0 (each-order P es k.1)

-- one more is put in order
length_inserted : (e : Entry) (es : List Entry) → length (inserted e es) ≡ suc (length es)
unfolding inserted
length_inserted e [] = refl
length_inserted e (x ∷ xs) = go (length_inserted e xs) (leb e.tick x.tick)
  where
    go : length (inserted e xs) ≡ suc (length xs) → (t : Bool) → length (cond t (e ∷ x ∷ xs) (x ∷ inserted e xs)) ≡ suc (suc (length xs))
    go more true = refl
    go more false = ap suc more

-- none is lost or added
pub length-order : (es : List Entry) → length (in_order es) ≡ length es
unfolding in_order
length-order [] = refl
length-order (e ∷ es) = length_inserted e (in_order es) ∙ ap suc (length-order es)
