-- The call, the counts, and the next event.
use mir.Val.{bool_byte}
use Rattle.std.proofs.Common.{◌≡◌, ℕ, Bool, cond, Result, Ok, Err, is_err, refl, sym, ap, ◌∙◌, arith}
use Rattle.state.specs.declared.Refusal.{Refusal}
use Rattle.state.specs.Answers.{Answered, status_of}
use Rattle.state.proofs.AnswersLaws.{refusal-numbered}
use Rattle.player.specs.Playing.{refusal, applying}
use Rattle.player.proofs.playing.apply.Goals as goal

-- a refusal is counted, since its number is not 0
counted : (r : Result ℕ Refusal) → bool_byte (is_err r) ≡ refusal (status_of r)
counted (Ok n) = refl
counted (Err r) = sym (ap (λ (b : Bool). cond b 0 1) (refusal-numbered r))

pub overflow_add-result : goal.overflow_add-result
overflow_add-result c = record { fits = omega (arith, c.requires.1) }

pub returns : goal.returns
unfolding applying
returns c =
    let state = ap (λ (x : Answered). x.engine) c.heed-a.ensures in
    let refused : c.from.result ≡ _ =
    c.from.ensures ∙ ap bool_byte c.is_err.ensures.value ∙ counted c.heed-a.result ∙ ap (λ (x : Answered). refusal x.status) c.heed-a.ensures in
    simp (c.cue.ensures, c.next.ensures, c.with_engine.ensures, refused, state) (rw c.requires.0 refl)
