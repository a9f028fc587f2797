-- An answer and the state after are told apart by the record that they give.
use mathlib.Core.Path.{◌≡◌, refl, sym, ap, ◌∙◌}
use mathlib.Core.Bool.{cond, Bool, true, false}
use lib.Dec.{eqb}
use Prim.Native.Nat.{ℕ}
use Rattle.std.specs.Prelude.{Result, Ok, Err}
use Rattle.state.specs.declared.Engine.{Engine}
use Rattle.state.specs.declared.Refusal.{Refusal}
use Rattle.state.specs.declared.Refusal.TheVariants.{NotAdmitted, OutOfRange, NoPreset, TooManyLayers, ClockBehind, TooManyFrames, OutputTooShort, PastMemory}
use Rattle.state.specs.Answers.{Answered, told_call, number, status_of}
use Rattle.state.proofs.AnswersLaws.{refusal-numbered}

-- the refusal of a number
refusal_of : ℕ → Refusal
refusal_of n =
    cond (eqb n 1) NotAdmitted (cond (eqb n 2) OutOfRange (cond (eqb n 3) NoPreset (cond (eqb n 4) TooManyLayers
    (cond (eqb n 5) ClockBehind (cond (eqb n 6) TooManyFrames (cond (eqb n 7) OutputTooShort PastMemory))))))

numbered : (r : Refusal) → refusal_of (number r) ≡ r
unfolding refusal_of
numbered NotAdmitted = refl
numbered OutOfRange = refl
numbered NoPreset = refl
numbered TooManyLayers = refl
numbered ClockBehind = refl
numbered TooManyFrames = refl
numbered OutputTooShort = refl
numbered PastMemory = refl

-- answers, by their number and their count
pub call-told-apart : (r s : Result ℕ Refusal) (e f : Engine) → told_call r e ≡ told_call s f → r ≡ s
call-told-apart (Ok n) (Ok m) e f h =
    let ok : Answered → Result ℕ Refusal = λ x. Ok x.count in ap ok h
call-told-apart (Ok n) (Err s) e f h =
    let t = ap (λ (x : Answered). eqb x.status 0) h ∙ refusal-numbered s in cc
call-told-apart (Err r) (Ok m) e f h =
    let t = sym (refusal-numbered r) ∙ ap (λ (x : Answered). eqb x.status 0) h in cc
call-told-apart (Err r) (Err s) e f h =
    let err : Refusal → Result ℕ Refusal = λ x. Err x in
    ap err (sym (numbered r) ∙ ap (λ (x : Answered). refusal_of x.status) h ∙ numbered s)

-- an answer with no count is told by its number
pub status-told-apart : (r s : Result (Unit {0}) Refusal) → status_of r ≡ status_of s → r ≡ s
status-told-apart (Ok a) (Ok b) h = refl
status-told-apart (Ok a) (Err s) h =
    let t = ap (λ (n : ℕ). eqb n 0) h ∙ refusal-numbered s in cc
status-told-apart (Err r) (Ok b) h =
    let t = sym (refusal-numbered r) ∙ ap (λ (n : ℕ). eqb n 0) h in cc
status-told-apart (Err r) (Err s) h =
    let err : Refusal → Result (Unit {0}) Refusal = λ x. Err x in
    ap err (sym (numbered r) ∙ ap refusal_of h ∙ numbered s)
