-- Linear equations of whole numbers, by computing: two sums of the same variables are equal if their factors are.
use mathlib.Core.Path.{◌≡◌, refl, ap, ap₂, sym, ◌∙◌}
use mathlib.Core.List.{List, [], ◌∷◌}
use Prim.Native.Nat.{ℕ, zero, suc}
use lib.IntN.{ℤ, pos, neg_ℤ, ◌+ℤ◌, ◌-ℤ◌, ◌*ℤ◌, +ℤ_idr, +ℤ_idl, zero-*ℤ, suc_ℤ-*ℤ, neg_ℤ-+ℤ, one, *ℤ-one, *ℤ_comm}
use lib.ListN.{get_or}
use Rattle.arith.proofs.RingLaws.{swap, add-mul-Z, neg-mul-Z}

-- a sum: variables, sums, differences, and natural numbers times a sum
pub data S : Type 0 where
  var : ℕ → S
  add sub : S → S → S
  times : ℕ → S → S

-- the number that a sum says
abbrev pub says : S → List ℤ → ℤ
says (var i) ρ = get_or ρ i (pos 0)
says (add a b) ρ = says a ρ +ℤ says b ρ
says (sub a b) ρ = says a ρ -ℤ says b ρ
says (times k a) ρ = pos k *ℤ says a ρ

-- factors times variables
abbrev dot : List ℤ → List ℤ → ℤ
dot [] ρ = pos 0
dot (c ∷ cs) [] = pos 0
dot (c ∷ cs) (x ∷ ρ) = c *ℤ x +ℤ dot cs ρ

-- factors added
abbrev plus : List ℤ → List ℤ → List ℤ
plus [] ds = ds
plus (c ∷ cs) [] = c ∷ cs
plus (c ∷ cs) (d ∷ ds) = (c +ℤ d) ∷ plus cs ds

-- factors turned
abbrev turned : List ℤ → List ℤ
turned [] = []
turned (c ∷ cs) = neg_ℤ c ∷ turned cs

-- factors so many times
abbrev often : ℕ → List ℤ → List ℤ
often zero cs = []
often (suc k) cs = plus (often k cs) cs

-- the factor 1 of one variable
abbrev unit : ℕ → List ℤ
unit zero = pos 1 ∷ []
unit (suc i) = pos 0 ∷ unit i

-- the factors of a sum
abbrev pub factors : S → List ℤ
factors (var i) = unit i
factors (add a b) = plus (factors a) (factors b)
factors (sub a b) = plus (factors a) (turned (factors b))
factors (times k a) = often k (factors a)

plus-dot : (cs ds ρ : List ℤ) → dot (plus cs ds) ρ ≡ dot cs ρ +ℤ dot ds ρ
plus-dot [] ds ρ = sym (+ℤ_idl (dot ds ρ))
plus-dot (c ∷ cs) [] ρ = sym (+ℤ_idr (dot (c ∷ cs) ρ))
plus-dot (c ∷ cs) (d ∷ ds) [] = refl
plus-dot (c ∷ cs) (d ∷ ds) (x ∷ ρ) =
    ap₂ (λ (y z : ℤ). y +ℤ z) (add-mul-Z c d x) (plus-dot cs ds ρ) ∙ swap (c *ℤ x) (d *ℤ x) (dot cs ρ) (dot ds ρ)

turned-dot : (cs ρ : List ℤ) → dot (turned cs) ρ ≡ neg_ℤ (dot cs ρ)
turned-dot [] ρ = refl
turned-dot (c ∷ cs) [] = refl
turned-dot (c ∷ cs) (x ∷ ρ) = ap₂ (λ (y z : ℤ). y +ℤ z) (neg-mul-Z c x) (turned-dot cs ρ) ∙ sym (neg_ℤ-+ℤ (c *ℤ x) (dot cs ρ))

often-dot : (k : ℕ) (cs ρ : List ℤ) → dot (often k cs) ρ ≡ pos k *ℤ dot cs ρ
often-dot zero cs ρ = sym (zero-*ℤ (dot cs ρ))
often-dot (suc k) cs ρ =
    plus-dot (often k cs) cs ρ ∙ ap (λ (x : ℤ). x +ℤ dot cs ρ) (often-dot k cs ρ) ∙ sym (suc_ℤ-*ℤ (pos k) (dot cs ρ))

unit-dot : (i : ℕ) (ρ : List ℤ) → dot (unit i) ρ ≡ get_or ρ i (pos 0)
unfolding one
unit-dot zero [] = refl
unit-dot zero (x ∷ ρ) = +ℤ_idr (pos 1 *ℤ x) ∙ *ℤ_comm (pos 1) x ∙ *ℤ-one x
unit-dot (suc i) [] = refl
unit-dot (suc i) (x ∷ ρ) = ap (λ (y : ℤ). y +ℤ dot (unit i) ρ) (zero-*ℤ x) ∙ +ℤ_idl (dot (unit i) ρ) ∙ unit-dot i ρ

-- a sum is its factors times the variables
counted : (a : S) (ρ : List ℤ) → says a ρ ≡ dot (factors a) ρ
counted (var i) ρ = sym (unit-dot i ρ)
counted (add a b) ρ = ap₂ (λ (x y : ℤ). x +ℤ y) (counted a ρ) (counted b ρ) ∙ sym (plus-dot (factors a) (factors b) ρ)
counted (sub a b) ρ =
    ap₂ (λ (x y : ℤ). x -ℤ y) (counted a ρ) (counted b ρ)
    ∙ ap (λ (y : ℤ). dot (factors a) ρ +ℤ y) (sym (turned-dot (factors b) ρ))
    ∙ sym (plus-dot (factors a) (turned (factors b)) ρ)
counted (times k a) ρ = ap (λ (x : ℤ). pos k *ℤ x) (counted a ρ) ∙ sym (often-dot k (factors a) ρ)

-- the same factors, the same number
pub linear : (a b : S) (ρ : List ℤ) → factors a ≡ factors b → says a ρ ≡ says b ρ
linear a b ρ e = counted a ρ ∙ ap (λ (cs : List ℤ). dot cs ρ) e ∙ sym (counted b ρ)
