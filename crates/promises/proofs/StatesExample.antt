-- A run of which the statements on reached states speak: the struck bell of Demand3Example.
use Prim.Native.Nat.{ℕ, ◌<◌}
use mathlib.Core.Bool.{true}
use mathlib.Core.List.{◌++◌}
use mathlib.Core.Path.{◌≡◌, ap, ◌∙◌, sym, subst}
use native.Mathlib.Omega.{arith}
use native.Mathlib.Nat.{zero-add}
use Rattle.state.specs.Quiet.{fresh}
use Rattle.state.specs.Slots.{paired, slot_at}
use Rattle.state.specs.declared.Engine.{Engine}
use Rattle.promises.specs.Calls.{run, voice_in, frames_run}
use Rattle.promises.specs.Moments.{moment, in_front}
use Rattle.promises.specs.States.{InBounds, ReadsOwn}
use Rattle.promises.proofs.Demand3Example.{before, meanwhile, computed}
use Rattle.promises.proofs.States.{states-hold, only-its-samples}

-- it sounds
bell-sounds : (slot_at (run before fresh) 0).sounding ≡ true
unfolding paired
bell-sounds = ap (λ (e : Engine). (slot_at e 0).sounding) computed.struck

-- so it is in its bounds
pub bell-in-bounds : InBounds (voice_in 0 (run before fresh))
bell-in-bounds = states-hold before 0 bell-sounds

-- in frame 1, inside a render, it sounds and reads its samples
pub bell-reads :
    ReadsOwn (moment 1 (before ++ meanwhile) fresh).ram (moment 1 (before ++ meanwhile) fresh).rom (voice_in 0 (in_front 1 (before ++ meanwhile) fresh))
unfolding moment frames_run run
bell-reads =
    only-its-samples (before ++ meanwhile) 0 1
    (subst (λ (n : ℕ). 1 < n) (sym (zero-add (frames_run meanwhile (run before fresh)) ∙ ap (frames_run meanwhile) computed.struck ∙ computed.five)) (omega arith))
    (ap (λ (e : Engine). (slot_at (in_front 1 meanwhile e) 0).sounding) computed.struck ∙ computed.there)
