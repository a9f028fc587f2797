-- Laws of the sums of a render: what all slots add to zeros, and that they tell what a render writes.
use Rattle.std.proofs.Common.{◌≡◌, ℕ, zero, suc, ◌+◌, ◌*◌, ◌<◌, ◌≤◌, List, [], ◌∷◌, ◌++◌, map, length, get_or, take, drop, set, replicate, ℤ, pos, sym, refl, ap, ◌∙◌, ap₂, append_assoc, le_refl, add-one, arith, length-append, take-suc}
use lib.Ieee.{Float}
use lib.ListN.{length-replicate}
use lib.Seq.{take-length}
use Rattle.arith.proofs.Put.{put}
use Rattle.state.specs.declared.Engine.{Engine}
use Rattle.state.specs.Slots.{slots_of}
use Rattle.engine.specs.Internal.Sums.{add_all, slot_heard}
use Rattle.engine.specs.Mixer.{mixed}
use Rattle.engine.specs.Rendering.{left_sum, right_sum, output}
use Rattle.engine.specs.Summing.{sums_of, MixedIsOutput}
use Rattle.engine.proofs.RenderingLaws.{all_added, left-added, right-added, zeros-at}
use Rattle.voice.specs.declared.Slot.{Slot}
use Rattle.voice.specs.Internal.Sums.{add_to}
use Rattle.voice.proofs.SumsLaws.{add_to-length}

-- a zero behind zeros
zeros-snoc : (i : ℕ) → replicate i (pos 0) ++ (pos 0 ∷ []) ≡ replicate (suc i) (pos 0)
zeros-snoc zero = refl
zeros-snoc (suc i) = ap (λ (l : List ℤ). pos 0 ∷ l) (zeros-snoc i)

-- a turn that clears one number more
pub clear-turn : (d : List ℤ) (i : ℕ) → i < length d
    → set (replicate i (pos 0) ++ drop i d) i (pos 0) ≡ replicate (i + 1) (pos 0) ++ drop (i + 1) d
clear-turn d i h =
    put (replicate i (pos 0)) d i (pos 0) (pos 0) (length-replicate i (pos 0)) h
    ∙ ap (λ (l : List ℤ). l ++ drop (i + 1) d) (zeros-snoc i ∙ ap (λ (j : ℕ). replicate j (pos 0)) (sym (add-one i)))

-- all slots leave as many sums
all-length : (f : Slot → List ℤ) (ss : List Slot) (ys : List ℤ) → length (add_all f ss ys) ≡ length ys
unfolding add_all
all-length f [] ys = refl
all-length f (s ∷ ss) ys = all-length f ss (add_to (f s) ys) ∙ add_to-length (f s) ys

-- the first numbers, two more
take-two : (xs : List ℤ) (n : ℕ) → 2 * n + 1 < length xs
    → take (2 * suc n) xs ≡ take (2 * n) xs ++ (get_or xs (2 * n) (pos 0) ∷ get_or xs (2 * n + 1) (pos 0) ∷ [])
take-two xs n h =
    let two : 2 * suc n ≡ suc (2 * n + 1) = omega arith in
    ap (λ (k : ℕ). take k xs) two
    ∙ take-suc xs (2 * n + 1) (pos 0) h
    ∙ ap (λ (l : List ℤ). l ++ (get_or xs (2 * n + 1) (pos 0) ∷ []))
    (ap (λ (k : ℕ). take k xs) (add-one (2 * n)) ∙ take-suc xs (2 * n) (pos 0) (omega arith))
    ∙ append_assoc (take (2 * n) xs) (get_or xs (2 * n) (pos 0) ∷ []) (get_or xs (2 * n + 1) (pos 0) ∷ [])

module _ (ram rom : List ℤ) (e : Engine) (m : ℕ) (ys : List ℤ) (g : 2 * m ≤ length ys) (z : (j : ℕ) → get_or ys j (pos 0) ≡ pos 0) where
  added-first : (n : ℕ) → n ≤ m → take (2 * n) (all_added ram rom e m ys g z) ≡ sums_of ram rom e n
  unfolding sums_of
  added-first zero h = refl
  added-first (suc n) h =
      take-two (all_added ram rom e m ys g z) n (omega (arith, all-length (slot_heard ram rom e m) (slots_of e) ys))
      ∙ ap₂ (λ (p q : List ℤ). p ++ q) (added-first n (omega arith))
      (ap₂ (λ (a b : ℤ). a ∷ b ∷ []) (left-added ram rom e m ys g z n (omega arith)) (right-added ram rom e m ys g z n (omega arith)))

-- zeros, with all slots added, are the sums
pub all-summed : (ram rom : List ℤ) (e : Engine) (n : ℕ) → add_all (slot_heard ram rom e n) (slots_of e) (replicate (2 * n) (pos 0)) ≡ sums_of ram rom e n
all-summed ram rom e n =
    let ys = replicate (2 * n) (pos 0) in
    let f = slot_heard ram rom e n in
    let long : 2 * n ≡ length ys = sym (length-replicate (2 * n) (pos 0)) in
    let all : 2 * n ≡ length (add_all f (slots_of e) ys) = long ∙ sym (all-length f (slots_of e) ys) in
    sym (ap (λ (k : ℕ). take k (add_all f (slots_of e) ys)) all ∙ take-length (add_all f (slots_of e) ys))
    ∙ added-first ram rom e n ys (omega (arith, long)) (zeros-at (2 * n)) n (le_refl n)

-- two numbers a frame
pub sums-length : (ram rom : List ℤ) (e : Engine) (n : ℕ) → length (sums_of ram rom e n) ≡ 2 * n
unfolding sums_of
sums-length ram rom e zero = refl
sums-length ram rom e (suc n) = simp length-append (omega (arith, sums-length ram rom e n))

map-two : (xs : List ℤ) (a b : ℤ) → map mixed (xs ++ (a ∷ b ∷ [])) ≡ map mixed xs ++ (mixed a ∷ mixed b ∷ [])
map-two [] a b = refl
map-two (x ∷ xs) a b = ap (λ (l : List Float). mixed x ∷ l) (map-two xs a b)

pub mixed-is-output : MixedIsOutput
unfolding sums_of output
mixed-is-output ram rom e zero = refl
mixed-is-output ram rom e (suc n) =
    map-two (sums_of ram rom e n) (left_sum ram rom e n) (right_sum ram rom e n)
    ∙ ap (λ (l : List Float). l ++ (mixed (left_sum ram rom e n) ∷ mixed (right_sum ram rom e n) ∷ [])) (mixed-is-output ram rom e n)
