-- The ones of the word are the slots that sound.
use mathlib.Core.Path.{◌≡◌, ap, ◌∙◌}
use native.Mathlib.Omega.{arith}
use Prim.Native.Nat.{ℕ, ◌^◌}
use lib.ListN.{length, length-map}
use Rattle.state.proofs.SeatsLaws.{ones-voices}
use Rattle.state.proofs.board.voice_count.Goals as goal

pub returns : goal.returns
returns c = let e = c.args.e in
    let n : length e.voices ≡ 32 = c.well_formed.0.1.1.0.1.0.1 in
    let p : 2 ^ length e.voices ≡ 4294967296 = ap (λ (k : ℕ). 2 ^ k) n in
    c.count.ensures.0 ∙ ones-voices e (omega arith)
