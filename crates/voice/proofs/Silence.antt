-- A slot that is free stays as it is, and its frames add nothing: a run may end where its voice is freed.
use Prim.Native.Nat.{ℕ, zero, suc, ◌+◌}
use mathlib.Core.Path.{◌≡◌, ap, sym, ◌∙◌, subst}
use mathlib.Core.Bool.{false}
use mathlib.Core.List.{List, [], ◌∷◌, ◌++◌}
use native.Mathlib.Nat.{add-zero, add-suc}
use lib.Dec.{lit≤}
use lib.IntN.{ℤ, pos}
use Rattle.arith.proofs.WithinLaws.{w-nat}
use Rattle.voice.specs.declared.Slot.{Slot}
use Rattle.voice.specs.declared.Framed.{Framed}
use Rattle.voice.specs.Frames.{frame_at}
use Rattle.voice.proofs.FramesLaws.{frame-free}
use Rattle.voice.specs.Internal.Frames.{after_at, heard_at}
use Rattle.voice.specs.Internal.Sums.{add_to, Small}
use Rattle.voice.proofs.SumsLaws.{add_nothing, small-two}

module _ (st : ℕ) (l : ℤ) (w : List ℤ) (k : ℕ) (s : Slot) (free : (after_at st l w k s).sounding ≡ false) where
  -- it stays as it is
  pub stays : (m : ℕ) → after_at st l w (k + m) s ≡ after_at st l w k s
  unfolding after_at
  stays zero = rw add-zero
  stays (suc m) =
      rw add-suc
      (ap (λ (x : Slot). (frame_at st l w x).slot) (stays m) ∙ ap (λ (f : Framed). f.slot) (frame-free st l w (after_at st l w k s) free))

  -- one frame more is two zeros more
  zeros : (m : ℕ) → heard_at st l w (k + suc m) s ≡ heard_at st l w (k + m) s ++ (pos 0 ∷ pos 0 ∷ [])
  unfolding heard_at
  zeros m =
      rw add-suc
      (ap (λ (f : Framed). heard_at st l w (k + m) s ++ (f.left ∷ f.right ∷ []))
      (ap (frame_at st l w) (stays m) ∙ frame-free st l w (after_at st l w k s) free))

  -- they change no sum
  pub adds-nothing : (ys : List ℤ) (m : ℕ) → add_to (heard_at st l w (k + m) s) ys ≡ add_to (heard_at st l w k s) ys
  adds-nothing ys zero = rw add-zero
  adds-nothing ys (suc m) =
      ap (λ (xs : List ℤ). add_to xs ys) (zeros m) ∙ add_nothing (heard_at st l w (k + m) s) ys ∙ adds-nothing ys m

  -- and stay within one voice's bound
  pub stays-small : (m : ℕ) → Small 1 (heard_at st l w k s) → Small 1 (heard_at st l w (k + m) s)
  stays-small zero h = rw add-zero h
  stays-small (suc m) h =
      subst (Small 1) (sym (zeros m)) (small-two (heard_at st l w (k + m) s) (pos 0) (pos 0) (stays-small m h) (w-nat (lit≤ tt)) (w-nat (lit≤ tt)))
