-- The order renewed, place by place.
use mathlib.Core.Path.{◌≡◌, refl, sym, ap, ◌∙◌}
use native.Mathlib.Omega.{arith}
use Prim.Native.Nat.{ℕ, ◌+◌}
use mathlib.Core.Bool.{Bool, true, false, cond}
use mathlib.Core.List.{[], ◌∷◌, ◌++◌, map}
use borrow.Author.Tests.{lt-ltb, le-ltb}
use lib.Dec.{ltb}
use lib.ListN.{length, get_or, length-map, get_or-append}
use lib.Seq.{get_or_at}
use Rattle.state.specs.Seats.{renewed}
use Rattle.state.proofs.SlotsLaws.{map_at}
use Rattle.state.specs.Internal.Seats.{as_slot, first_at}
use Rattle.state.proofs.SeatsLaws.{renewed-at}
use Rattle.state.proofs.seats.shifted.Goals as goal

pub returns-then-k-p : goal.returns-then-k-p
returns-then-k-p c = let long : length (map as_slot c.args.order) ≡ 32 = simp length-map c.well_formed.0.1.0.1 in
    let at : (b : Bool) → ltb c.args.k (first_at c.args.i (map as_slot c.args.order)) ≡ b
    → get_or (renewed c.args.i (map as_slot c.args.order)) c.args.k 0
    ≡ cond b (get_or (map as_slot c.args.order) c.args.k 0) (get_or (map as_slot c.args.order ++ (c.args.i ∷ [])) (c.args.k + 1) 0) = λ b t. let a = c.args in
    let xs = map as_slot a.order in
    renewed-at a.i xs a.k (long) c.requires.0
    ∙ ap (λ (q : Bool). cond q (get_or xs a.k 0) (get_or (xs ++ (a.i ∷ [])) (a.k + 1) 0)) t in
    let a = c.args in
    let xs = map as_slot a.order in
    let t = lt-ltb a.k (first_at a.i xs) (omega (arith, c.requires.1)) in
    sym (at true t ∙ map_at as_slot a.order a.k 0 refl)

pub returns-then-k-eq31 : goal.returns-then-k-eq31
returns-then-k-eq31 c = let long : length (map as_slot c.args.order) ≡ 32 = simp length-map c.well_formed.0.1.0.1 in
    let at : (b : Bool) → ltb c.args.k (first_at c.args.i (map as_slot c.args.order)) ≡ b
    → get_or (renewed c.args.i (map as_slot c.args.order)) c.args.k 0
    ≡ cond b (get_or (map as_slot c.args.order) c.args.k 0) (get_or (map as_slot c.args.order ++ (c.args.i ∷ [])) (c.args.k + 1) 0) = λ b t. let a = c.args in
    let xs = map as_slot a.order in
    renewed-at a.i xs a.k (long) c.requires.0
    ∙ ap (λ (q : Bool). cond q (get_or xs a.k 0) (get_or (xs ++ (a.i ∷ [])) (a.k + 1) 0)) t in
    let a = c.args in
    let xs = map as_slot a.order in
    let t = le-ltb a.k (first_at a.i xs) (omega (arith, c.requires.1)) in
    let k : a.k + 1 ≡ 32 = omega arith in
    sym (at false t ∙ ap (λ (j : ℕ). get_or (xs ++ (a.i ∷ [])) j 0) k ∙ get_or_at xs a.i [] 0 32 (long))

pub returns : goal.returns
returns c = let long : length (map as_slot c.args.order) ≡ 32 = simp length-map c.well_formed.0.1.0.1 in
    let at : (b : Bool) → ltb c.args.k (first_at c.args.i (map as_slot c.args.order)) ≡ b
    → get_or (renewed c.args.i (map as_slot c.args.order)) c.args.k 0
    ≡ cond b (get_or (map as_slot c.args.order) c.args.k 0) (get_or (map as_slot c.args.order ++ (c.args.i ∷ [])) (c.args.k + 1) 0) = λ b t. let a = c.args in
    let xs = map as_slot a.order in
    renewed-at a.i xs a.k (long) c.requires.0
    ∙ ap (λ (q : Bool). cond q (get_or xs a.k 0) (get_or (xs ++ (a.i ∷ [])) (a.k + 1) 0)) t in
    let a = c.args in
    let xs = map as_slot a.order in
    let t = le-ltb a.k (first_at a.i xs) (omega (arith, c.requires.1)) in
    sym (at false t ∙ get_or-append xs (a.i ∷ []) 0 (a.k + 1) (omega (arith, long)) ∙ map_at as_slot a.order (a.k + 1) 0 refl)
