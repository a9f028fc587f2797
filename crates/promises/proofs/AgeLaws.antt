-- Moving a slot behind all others keeps the order an order, and makes it the newest.
use Prim.Native.Nat.{ℕ, ◌<◌, ◌+◌, ◌≤◌, suc, zero, ◌%◌}
use mathlib.Core.Bool.{Bool, true, false, cond}
use mathlib.Core.List.{List, [], ◌∷◌, ◌++◌, map}
use lib.Dec.{eqb}
use mathlib.Core.Path.{◌≡◌, refl, sym, ap, ◌∙◌}
use native.Mathlib.Omega.{arith}
use native.Mathlib.Nat.{zero-add, suc_inj, suc-ne-zero, mod-eq_of_lt}
use borrow.Author.Tests.{eqb-true, eqb-false, ne_eqb, eq-eqb}
use lib.ListN.{length, take, length-append}
use Rattle.state.specs.Seats.{without, renewed}
use Rattle.promises.specs.Age.{Slots, Ordered, older}
use Rattle.arith.specs.Lists.{count_if}

-- ---- without its first x, and with x at its end

without-slots : (x : ℕ) (o : List ℕ) → Slots o → Slots (without x o)
unfolding without
without-slots x [] h = tt
without-slots x (y ∷ o) h = by (eqb y x) (without-slots x o h.1)
  where
    by : (b : Bool) → Slots (without x o) → Slots (cond b o (y ∷ without x o))
    by true r = h.1
    by false r = (h.0, r)

snoc-slots : (x : ℕ) (o : List ℕ) → x < 32 → Slots o → Slots (o ++ (x ∷ []))
snoc-slots x [] l h = (l, tt)
snoc-slots x (y ∷ o) l h = (h.0, snoc-slots x o l h.1)

snoc-count : (i x : ℕ) (o : List ℕ) → count_if (eqb i) (o ++ (x ∷ [])) ≡ count_if (eqb i) o + cond (eqb i x) 1 0
snoc-count i x [] = omega arith
snoc-count i x (y ∷ o) = omega (arith, snoc-count i x o)

-- x stands in it: one less
without-count : (i x : ℕ) (o : List ℕ) → 1 ≤ count_if (eqb x) o → count_if (eqb i) (without x o) + cond (eqb i x) 1 0 ≡ count_if (eqb i) o
unfolding without
without-count i x [] h = absurd (no h)
  where
    no : 1 ≤ 0 → ⊥
    no h = omega arith
without-count i x (y ∷ o) h = by (eqb y x) refl (without-count i x o)
  where
    by : (b : Bool) → eqb y x ≡ b → (1 ≤ count_if (eqb x) o → count_if (eqb i) (without x o) + cond (eqb i x) 1 0 ≡ count_if (eqb i) o)
        → count_if (eqb i) (cond b o (y ∷ without x o)) + cond (eqb i x) 1 0 ≡ cond (eqb i y) 1 0 + count_if (eqb i) o
    by true e r = ap (λ (z : ℕ). count_if (eqb i) o + cond (eqb i z) 1 0) (sym (eqb-true y x e)) ∙ omega arith
    by false e r =
        let n : eqb x y ≡ false = ne_eqb x y (λ q. eqb-false y x e (sym q)) in
        let k : 1 ≤ count_if (eqb x) o = rw (n, zero-add) at h in
        omega (arith, r k)

without-length : (x : ℕ) (o : List ℕ) → 1 ≤ count_if (eqb x) o → length (without x o) + 1 ≡ length o
unfolding without
without-length x [] h = absurd (no h)
  where
    no : 1 ≤ 0 → ⊥
    no h = omega arith
without-length x (y ∷ o) h = by (eqb y x) refl (without-length x o)
  where
    by : (b : Bool) → eqb y x ≡ b → (1 ≤ count_if (eqb x) o → length (without x o) + 1 ≡ length o) → length (cond b o (y ∷ without x o)) + 1 ≡ suc (length o)
    by true e r = omega arith
    by false e r =
        let n : eqb x y ≡ false = ne_eqb x y (λ q. eqb-false y x e (sym q)) in
        let k : 1 ≤ count_if (eqb x) o = rw (n, zero-add) at h in
        omega (arith, r k)

whole : (n : ℕ) (o : List ℕ) → length o ≡ n → take n o ≡ o
whole zero [] e = refl
whole (suc n) [] e = refl
whole zero (y ∷ o) e = absurd (suc-ne-zero (length o) e)
whole (suc n) (y ∷ o) e = ap (◌∷◌ y) (whole n o (suc_inj e))

-- an order whose slot x is renewed is the list without x, and x behind it
pub renewed-is : (x : ℕ) (o : List ℕ) → x < 32 → Ordered o → renewed x o ≡ without x o ++ (x ∷ [])
unfolding renewed
renewed-is x o l h =
    let q = without-length x o (omega (arith, h.once x l)) in
    whole 32 (without x o ++ (x ∷ [])) (simp length-append (omega (arith, h.length)))

-- an order stays an order
pub renewed-ordered : (x : ℕ) (o : List ℕ) → x < 32 → Ordered o → Ordered (renewed x o)
renewed-ordered x o l h =
    let q = h.once x l in
    rw (renewed-is x o l h) (record {
      length = simp length-append (omega (arith, h.length, without-length x o (omega arith)));
      slots = snoc-slots x (without x o) l (without-slots x o h.slots);
      once = λ i k. snoc-count i x (without x o) ∙ without-count i x o (omega arith) ∙ h.once i k;
    })

-- ---- entries are slots

-- so reading them as slots changes nothing
pub order-slots : (o : List ℕ) → Slots o → map (λ (i : ℕ). i % 32) o ≡ o
order-slots [] h = refl
order-slots (x ∷ o) h = rw (mod-eq_of_lt h.0) (ap (◌∷◌ x) (order-slots o h.1))

-- ---- who is older

module _ (i j : ℕ) (apart : i ≡ j → ⊥) where
  -- i and j stand in it: so does one of them before the other
  snoc-older : (x : ℕ) (o : List ℕ) → 1 ≤ count_if (eqb i) o + count_if (eqb j) o → older (o ++ (x ∷ [])) i j ≡ older o i j
  unfolding older
  snoc-older x [] h = absurd (no h)
    where
      no : 1 ≤ 0 + 0 → ⊥
      no h = omega arith
  snoc-older x (y ∷ o) h = by (eqb y i) refl (eqb y j) refl (snoc-older x o)
    where
      by : (a : Bool) → eqb y i ≡ a → (b : Bool) → eqb y j ≡ b → (1 ≤ count_if (eqb i) o + count_if (eqb j) o → older (o ++ (x ∷ [])) i j ≡ older o i j)
          → cond a true (cond b false (older (o ++ (x ∷ [])) i j)) ≡ cond a true (cond b false (older o i j))
      by true e b f r = refl
      by false e true f r = refl
      by false e false f r =
          let m : eqb i y ≡ false = ne_eqb i y (λ q. eqb-false y i e (sym q)) in
          let n : eqb j y ≡ false = ne_eqb j y (λ q. eqb-false y j f (sym q)) in
          r (omega (arith, rw (m, n) at h))

  -- another slot taken out
  without-older : (x : ℕ) (o : List ℕ) → eqb x i ≡ false → eqb x j ≡ false → older (without x o) i j ≡ older o i j
  unfolding older without
  without-older x [] e f = refl
  without-older x (y ∷ o) e f = by (eqb y x) refl (without-older x o e f)
    where
      by : (b : Bool) → eqb y x ≡ b → older (without x o) i j ≡ older o i j
          → older (cond b o (y ∷ without x o)) i j ≡ cond (eqb y i) true (cond (eqb y j) false (older o i j))
      by true q r =
          let m : eqb y i ≡ false = ap (λ (z : ℕ). eqb z i) (eqb-true y x q) ∙ e in
          let n : eqb y j ≡ false = ap (λ (z : ℕ). eqb z j) (eqb-true y x q) ∙ f in
          rw (m, n)
      by false q r = ap (λ (b : Bool). cond (eqb y i) true (cond (eqb y j) false b)) r

  -- i taken out and put behind: it is the younger, wherever j stands
  i-last : (o : List ℕ) → count_if (eqb i) o ≡ 0 → 1 ≤ count_if (eqb j) o → older (o ++ (i ∷ [])) i j ≡ false
  unfolding older
  i-last [] z h = absurd (no h)
    where
      no : 1 ≤ 0 → ⊥
      no h = omega arith
  i-last (y ∷ o) z h = by (eqb y i) refl (eqb y j) refl (i-last o)
    where
      one : eqb y i ≡ true → ⊥
      one e = let q : eqb i y ≡ true = eq-eqb i y (sym (eqb-true y i e)) in let w : 1 + count_if (eqb i) o ≡ 0 = rw q at z in omega arith

      by : (a : Bool) → eqb y i ≡ a → (b : Bool) → eqb y j ≡ b → (count_if (eqb i) o ≡ 0 → 1 ≤ count_if (eqb j) o → older (o ++ (i ∷ [])) i j ≡ false)
          → cond a true (cond b false (older (o ++ (i ∷ [])) i j)) ≡ false
      by true e b f r = absurd (one e)
      by false e true f r = refl
      by false e false f r =
          let m : eqb i y ≡ false = ne_eqb i y (λ q. eqb-false y i e (sym q)) in
          let n : eqb j y ≡ false = ne_eqb j y (λ q. eqb-false y j f (sym q)) in
          r (rw (m, zero-add) at z) (rw (n, zero-add) at h)

  -- j taken out: i stands before it
  j-last : (o : List ℕ) → count_if (eqb j) o ≡ 0 → 1 ≤ count_if (eqb i) o → older (o ++ (j ∷ [])) i j ≡ true
  unfolding older
  j-last [] z h = absurd (no h)
    where
      no : 1 ≤ 0 → ⊥
      no h = omega arith
  j-last (y ∷ o) z h = by (eqb y i) refl (eqb y j) refl (j-last o)
    where
      one : eqb y j ≡ true → ⊥
      one e = let q : eqb j y ≡ true = eq-eqb j y (sym (eqb-true y j e)) in let w : 1 + count_if (eqb j) o ≡ 0 = rw q at z in omega arith

      by : (a : Bool) → eqb y i ≡ a → (b : Bool) → eqb y j ≡ b → (count_if (eqb j) o ≡ 0 → 1 ≤ count_if (eqb i) o → older (o ++ (j ∷ [])) i j ≡ true)
          → cond a true (cond b false (older (o ++ (j ∷ [])) i j)) ≡ true
      by true e b f r = refl
      by false e true f r = absurd (one f)
      by false e false f r =
          let m : eqb i y ≡ false = ne_eqb i y (λ q. eqb-false y i e (sym q)) in
          let n : eqb j y ≡ false = ne_eqb j y (λ q. eqb-false y j f (sym q)) in
          r (rw (n, zero-add) at z) (rw (m, zero-add) at h)

  -- slot x renewed
  pub renewed-older : (x : ℕ) (o : List ℕ) → x < 32 → i < 32 → j < 32 → Ordered o
      → older (renewed x o) i j ≡ cond (eqb x j) true (cond (eqb x i) false (older o i j))
  renewed-older x o lx li lj h = ap (λ (l : List ℕ). older l i j) (renewed-is x o lx h) ∙ by (eqb x j) refl (eqb x i) refl
    where
      -- how often each stands in the rest
      rest : (k : ℕ) → k < 32 → count_if (eqb k) (without x o) + cond (eqb k x) 1 0 ≡ 1
      rest k l = without-count k x o (omega (arith, h.once x lx)) ∙ h.once k l

      yes-rest : (k : ℕ) → k < 32 → eqb x k ≡ true → count_if (eqb k) (without x o) ≡ 0
      yes-rest k l e =
          let q : eqb k x ≡ true = eq-eqb k x (sym (eqb-true x k e)) in
          let w : count_if (eqb k) (without x o) + 1 ≡ 1 = rw q at (rest k l) in
          omega arith

      no-rest : (k : ℕ) → k < 32 → eqb x k ≡ false → count_if (eqb k) (without x o) ≡ 1
      no-rest k l e =
          let q : eqb k x ≡ false = ne_eqb k x (λ p. eqb-false x k e (sym p)) in
          let w : count_if (eqb k) (without x o) + 0 ≡ 1 = rw q at (rest k l) in
          omega arith

      by : (a : Bool) → eqb x j ≡ a → (b : Bool) → eqb x i ≡ b → older (without x o ++ (x ∷ [])) i j ≡ cond a true (cond b false (older o i j))
      by true e true f = absurd (apart (sym (eqb-true x i f) ∙ eqb-true x j e))
      by true e false f =
          ap (λ (y : ℕ). older (without x o ++ (y ∷ [])) i j) (eqb-true x j e) ∙ j-last (without x o) (yes-rest j lj e) (omega (arith, no-rest i li f))
      by false e true f =
          ap (λ (y : ℕ). older (without x o ++ (y ∷ [])) i j) (eqb-true x i f) ∙ i-last (without x o) (yes-rest i li f) (omega (arith, no-rest j lj e))
      by false e false f = snoc-older x (without x o) (omega (arith, no-rest i li f)) ∙ without-older x o f e
