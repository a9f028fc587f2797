-- Laws of bytes that are put down one behind the other.
use mathlib.Core.List.{List, [], ◌++◌, append_assoc, append-nil}
use mathlib.Core.Path.{◌≡◌, refl, sym, ap, ap₂, ◌∙◌}
use Prim.Native.Nat.{ℕ, ◌+◌, ◌≤◌}
use native.Mathlib.Omega.{arith}
use lib.ListN.{length, take, drop, length-append, take-append-drop}
use lib.Seq.{paste, take-length, length-paste, take-paste, drop-paste, drop-drop}
use Rattle.merge.specs.Internal.Lines.{laid_over}

-- all of a copy
pub laid-is : (out : List ℕ) (at : ℕ) (xs : List ℕ) → paste out at xs (length xs) ≡ laid_over out at xs
laid-is out at xs = ap (λ (ys : List ℕ). take at out ++ ys ++ drop (at + length xs) out) (take-length xs)

-- the output keeps its length
pub laid-length : (out : List ℕ) (at : ℕ) (xs : List ℕ) → at + length xs ≤ length out → length (laid_over out at xs) ≡ length out
laid-length out at xs h = ap length (sym (laid-is out at xs)) ∙ length-paste out at xs (length xs) h (omega arith)

-- nothing put down changes nothing
pub laid_none : (out : List ℕ) (at : ℕ) → laid_over out at [] ≡ out
laid_none out at =
    let z : at + 0 ≡ at = omega arith in
    ap₂ (λ (xs ys : List ℕ). xs ++ ys) (append-nil (take at out)) (ap (λ (k : ℕ). drop k out) z) ∙ take-append-drop at out

-- two parts, the second right behind the first
pub laid_both : (out : List ℕ) (at : ℕ) (xs ys : List ℕ) → at + length (xs ++ ys) ≤ length out → laid_over (laid_over out at xs) (at + length xs) ys ≡ laid_over out at (xs ++ ys)
laid_both out at xs ys h =
    let l = length-append xs ys in
    let is = laid-is out at xs in
    let few : at ≤ length out = omega (arith, l) in
    let all : length xs ≤ length xs = omega arith in
    let front = ap (take (at + length xs)) (sym is) ∙ take-paste out at xs (length xs) few all ∙ ap (λ (zs : List ℕ). take at out ++ zs) (take-length xs) in
    let back =
    sym (drop-drop (length ys) (at + length xs) (laid_over out at xs))
    ∙ ap (drop (length ys)) (ap (drop (at + length xs)) (sym is) ∙ drop-paste out at xs (length xs) few all)
    ∙ drop-drop (length ys) (at + length xs) out in
    let place : at + length xs + length ys ≡ at + length (xs ++ ys) = omega (arith, l) in
    ap₂ (λ (us vs : List ℕ). us ++ ys ++ vs) front back
    ∙ ap₂ (λ (us : List ℕ) (k : ℕ). us ++ drop k out) (append_assoc (take at out) xs ys) place

module _ (out : List ℕ) (at : ℕ) (xs ys : List ℕ) (room : at + length (xs ++ ys) ≤ length out) (p : ℕ) (first : List ℕ) (there : p ≡ at + length xs) (laid : first ≡ laid_over out at xs) where
  -- behind a first part there is room for the second
  pub room-then : p + length ys ≤ length first
  room-then = let l = length-append xs ys in rw (there, laid) (omega (arith, l, laid-length out at xs (omega (arith, l))))

  -- and where that is put down, both are
  pub laid_then : (q : ℕ) (second : List ℕ) → q ≡ p + length ys → second ≡ laid_over first p ys → (q ≡ at + length (xs ++ ys)) × (second ≡ laid_over out at (xs ++ ys))
  laid_then q second e f =
      let l = length-append xs ys in
      (omega (arith, l, e, there), f ∙ ap₂ (λ (o : List ℕ) (k : ℕ). laid_over o k ys) laid there ∙ laid_both out at xs ys room)
