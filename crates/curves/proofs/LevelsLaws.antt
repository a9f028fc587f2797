-- Tenths, a gain as the code reads it, and the least attenuation: what the search among the kept gains says of it, and that it is the least.
use Prim.Native.Nat.{ℕ, zero, suc, ◌+◌, ◌-◌, ◌*◌, ◌^◌, ◌/◌, ◌%◌, ◌≤◌, ◌<◌}
use mathlib.Core.Path.{◌≡◌, refl, ap, sym, ◌∙◌}
use mathlib.Core.List.{List}
use lib.ListN.{get_or}
use borrow.Author.Tests.{le-leb, lt-leb, ltb-true, ltb-false, le-ltb}
use mathlib.Core.Bool.{Bool, true, false}
use native.Mathlib.Omega.{arith}
use lib.Dec.{ltb, lit<}
use native.Mathlib.Nat.{le_of_suc-le-suc, zero-add, add-zero, add-suc, suc-add, pow-suc, pow-succ', div-one, div-div-eq-div-mul, lt_of_lt_of_le, mul-le-mul_left, pow-le-pow_right}
use Rattle.curves.specs.Levels.{gains, tenths, gain_of, above, least_cb}
use Rattle.curves.specs.Internal.Levels.{kept, louder}

-- n tenths are one division
tenths-div : (n g : ℕ) → tenths n g ≡ g / 10 ^ n
tenths-div zero g = sym (div-one g)
tenths-div (suc n) g = tenths-div n (g / 10) ∙ div-div-eq-div-mul g 10 (10 ^ n) ∙ ap (λ (d : ℕ). g / d) (sym (pow-succ' 10 n))

-- the largest number that comes to m in n tenths
unfoldable pub reach : ℕ → ℕ → ℕ
reach zero m = m
reach (suc n) m = reach n m * 10 + 9

reach-tenths : (n g m : ℕ) → g ≤ reach n m → tenths n g ≤ m
unfolding reach
reach-tenths zero g m h = h
reach-tenths (suc n) g m h = reach-tenths n (g / 10) m (omega arith)

past-reach : (n g m : ℕ) → reach n m < g → m < tenths n g
unfolding reach
past-reach zero g m h = h
past-reach (suc n) g m h = past-reach n (g / 10) m (omega arith)

-- 200 cB more are one tenth more
pub reach-turn : (l a : ℕ) → reach (a / 200) l * 10 + 9 ≡ reach ((a + 200) / 200) l
unfolding reach
reach-turn l a = let e : (a + 200) / 200 ≡ suc (a / 200) = omega arith in rw e refl

reach-lt : (n l : ℕ) → l < 4294967296 → reach n l < 4294967296 * 10 ^ n
unfolding reach
reach-lt zero l h = h
reach-lt (suc n) l h = omega (arith, reach-lt n l h, pow-suc 10 n)

-- below 1,000 cB ten times that has room in 64 bits
pub reach-small : (l a m : ℕ) → l < 4294967296 → a < 1000 → m ≡ reach (a / 200) l → m < 42949672960000
reach-small l a m h k e =
    let four : a / 200 ≤ 4 = omega arith in
    rw e (lt_of_lt_of_le (reach-lt (a / 200) l h) (mul-le-mul_left 4294967296 (pow-le-pow_right {n = 10} (lit< tt) four)))

-- one more of them is above the level
pub one_more : (f : ℕ → ℕ) (l i : ℕ) → ((b : ℕ) → b < i → l < f b) → l < f i → (b : ℕ) → b < i + 1 → l < f b
one_more f l i p q b h = by (ltb b i) refl
  where
    by : (t : Bool) → ltb b i ≡ t → l < f b
    by true e = p b (ltb-true b i e)
    by false e = let s : b ≡ i = omega (arith, ltb-false b i e) in rw s q

above_low : (f : ℕ → ℕ) (l a n : ℕ) → f a ≤ l → above f l a (suc n) ≡ 0
unfolding above
above_low f l a n h = simp (le-leb (f a) l h)

above-high : (f : ℕ → ℕ) (l a n : ℕ) → l < f a → above f l a (suc n) ≡ suc (above f l (suc a) n)
unfolding above
above-high f l a n h = simp (lt-leb (f a) l h)

none_above : (f : ℕ → ℕ) (l a : ℕ) → above f l a 0 ≡ 0
unfolding above
none_above f l a = refl

-- the first r from a on are above the level, and the next, if it counts, is not
counted :
    (f : ℕ → ℕ) (l a n r : ℕ) → r ≤ n → ((b : ℕ) → b < r → l < f (a + b)) → (r < n → f (a + r) ≤ l) → above f l a n ≡ r
counted f l a zero r h p q = omega (arith, none_above f l a)
counted f l a (suc n) zero h p q = above_low f l a n (rw add-zero at (q (omega arith)))
counted f l a (suc n) (suc r) h p q =
    above-high f l a n (rw add-zero at (p 0 (omega arith)))
    ∙ ap suc (counted f l (suc a) n r (le_of_suc-le-suc h) (λ b k. rw (suc-add, ← add-suc) (p (suc b) (omega arith))) (λ k. rw (suc-add, ← add-suc) (q (omega arith))))

pub count-is : (f : ℕ → ℕ) (l n r : ℕ) → r ≤ n → ((b : ℕ) → b < r → l < f b) → (r < n → f r ≤ l) → r ≡ above f l 0 n
count-is f l n r h p q = sym (counted f l 0 n r h (λ b k. rw zero-add (p b k)) (λ k. rw zero-add (q k)))

-- all that are counted are above the level, and the next is not
record Counts (f : ℕ → ℕ) (l a n c : ℕ) : Type 0 where
  few : c ≤ n
  before : (b : ℕ) → b < c → l < f (a + b)
  next : c < n → f (a + c) ≤ l

counts : (f : ℕ → ℕ) (l a n : ℕ) → Counts f l a n (above f l a n)
counts f l a zero = record { few = omega (arith, none_above f l a); before = λ b h. omega (arith, none_above f l a); next = λ h. omega arith }
counts f l a (suc n) = by (ltb l (f a)) refl (counts f l (suc a) n)
  where
    by : (t : Bool) → ltb l (f a) ≡ t → Counts f l (suc a) n (above f l (suc a) n) → Counts f l a (suc n) (above f l a (suc n))
    by true e ih = rw (above-high f l a n (ltb-true l (f a) e)) (record { few = omega (arith, ih.few); before = first; next = λ h. rw (add-suc, ← suc-add) (ih.next (omega arith)) })
      where
        first : (b : ℕ) → b < suc (above f l (suc a) n) → l < f (a + b)
        first zero h = rw add-zero (ltb-true l (f a) e)
        first (suc b) h = rw (add-suc, ← suc-add) (ih.before b (omega arith))
    by false e ih =
        let k = ltb-false l (f a) e in
        rw (above_low f l a n k) (record { few = omega arith; before = λ b h. omega arith; next = λ h. rw add-zero k })

-- least_cb is the least: every gain before it is above the level, and below 1,000 its own is not
pub least-before : (l b : ℕ) → b < least_cb l → l < gain_of b
unfolding least_cb
least-before l b h = rw zero-add at ((counts gain_of l 0 1000).before b h)

pub least-reached : (l : ℕ) → least_cb l < 1000 → gain_of (least_cb l) ≤ l
unfolding least_cb
least-reached l h = rw zero-add at ((counts gain_of l 0 1000).next h)

-- a level of 0 is reached by no gain below 1,000 cB
pub least-silent : least_cb 0 ≡ 1000
unfolding least_cb above gain_of
least-silent = refl

-- 1,000 gains are above the level
pub least-none : (l : ℕ) → ((b : ℕ) → b < 1000 → l < gain_of b) → 1000 ≡ least_cb l
unfolding least_cb
least-none l p = count-is gain_of l 1000 1000 (omega arith) p (λ h. omega arith)

-- the gain i cB behind n times 200
gain-behind : (n i a : ℕ) → a ≡ n * 200 + i → i < 200 → a ≤ 1440 → gain_of a ≡ tenths n (kept i)
unfolding gain_of
gain-behind n i a e few h =
    let q : a / 200 ≡ n = omega arith in
    let r : a % 200 ≡ i = omega arith in
    rw (le-ltb 1440 a h, q, r)

-- as the code reads it: one division
pub gain-read : (t : List ℕ) (n i a : ℕ) → t ≡ gains → a ≡ n * 200 + i → i < 200 → a ≤ 1440 → get_or t i 0 / 10 ^ n ≡ gain_of a
gain-read t n i a e s few h = rw e (sym (gain-behind n i a s few h ∙ tenths-div n (kept i)))

-- the gains from a on, where a is a multiple of 200
module _ (l a i : ℕ) (whole : a % 200 ≡ 0) (low : a < 1000) (few : i < 200) where
  is-divided : gain_of (a + i) ≡ tenths (a / 200) (kept i)
  is-divided = gain-behind (a / 200) i (a + i) (omega arith) few (omega arith)

  gain-within : kept i ≤ reach (a / 200) l → gain_of (a + i) ≤ l
  gain-within h = rw is-divided (reach-tenths (a / 200) (kept i) l h)

  gain-past : reach (a / 200) l < kept i → l < gain_of (a + i)
  gain-past h = rw is-divided (past-reach (a / 200) (kept i) l h)

-- a turn of the search: i of the kept gains are above m, which comes to the level in as many tenths as a has
module _ (l a m i : ℕ) (whole : a % 200 ≡ 0) (low : a < 1000) (far : m ≡ reach (a / 200) l) (count : i ≡ louder m) (before : (b : ℕ) → b < a → l < gain_of b) where
  known : Counts kept m 0 200 i
  unfolding louder
  known = rw count (counts kept m 0 200)

  pub passed : (b : ℕ) → b < a + i → l < gain_of b
  passed b h = by (ltb b a) refl
    where
      by : (t : Bool) → ltb b a ≡ t → l < gain_of b
      by true e = before b (ltb-true b a e)
      by false e =
          let k = ltb-false b a e in
          let back : a + (b - a) ≡ b = omega arith in
          let past = gain-past l a (b - a) whole low (omega (arith, known.few)) (rw (zero-add, far) at (known.before (b - a) (omega arith))) in
          rw back at past

  pub found : i < 200 → a + i ≡ least_cb l
  unfolding least_cb
  found h = count-is gain_of l 1000 (a + i) (omega arith) passed (λ k. gain-within l a i whole low h (rw (zero-add, far) at (known.next h)))
