-- There and back: a state that C is handed is the state that the next call takes up. And an array that a loop fills with f of each element of another.
use Prim.Native.Nat.{ℕ, ◌+◌, ◌≤◌, ◌<◌}
use mathlib.Core.Bool.{Bool, true, false}
use mathlib.Core.Path.{◌≡◌, refl, ap, sym, ◌∙◌}
use mathlib.Core.List.{List, [], ◌∷◌, map, map-append}
use lib.ListN.{length, get_or, set, take}
use lib.Seq.{take-suc, take-suc-set, take_all}
use native.Mathlib.Omega.{arith}
use native.Mathlib.Numerals.{add-one}
use Rattle.std.proofs.Common.{cond, Option, None, Some, is_none, unwrap_or}
use Rattle.voice.specs.declared.Stage.{Stage}
use Rattle.voice.specs.declared.Stage.TheVariants as at
use Rattle.voice.specs.declared.Voice.{Voice}
use Rattle.state.specs.declared.Engine.{Engine}
use Rattle.smf.specs.declared.Event.{Event}
use Rattle.player.specs.declared.Player.{Player}
use Rattle.player.specs.Cues.{no_event}
use Rattle.cabinet.specs.Twins.{flag_of, flag_to, stage_of, stage_to, voice_of_twin, voice_to, engine_of, engine_to, player_of, player_to}

module _ {A B : Type 0} where
  -- a turn of such a loop
  pub fill : (f : A → B) (xs : List A) (ys : List B) (i : ℕ) (d : A) (v : B) → i < length xs → length ys ≡ length xs
      → take i ys ≡ map f (take i xs) → v ≡ f (get_or xs i d) → take (i + 1) (set ys i v) ≡ map f (take (i + 1) xs)
  fill f xs ys i d v h n e q = rw (add-one, take-suc-set ys i v (omega arith), take-suc xs i d h, map-append, e, q)

  -- and its end
  pub filled : (f : A → B) (xs : List A) (ys : List B) (i : ℕ) → length xs ≤ i → length ys ≡ length xs → take i ys ≡ map f (take i xs) → ys ≡ map f xs
  filled f xs ys i h n e = sym (take_all i ys (omega arith)) ∙ e ∙ ap (map f) (take_all i xs h)

flag-back : (b : Bool) → flag_of (flag_to b) ≡ b
flag-back true = refl
flag-back false = refl

stage-back : (s : Stage) → stage_of (stage_to s) ≡ s
stage-back (at.Delay l) = refl
stage-back (at.Attack t) = refl
stage-back (at.Hold t) = refl
stage-back (at.Decay t) = refl
stage-back at.Sustain = refl
stage-back (at.Release f t) = refl

event-back : (o : Option Event) → cond (flag_of (flag_to (is_none o))) None (Some (unwrap_or o no_event)) ≡ o
event-back None = refl
event-back (Some v) = refl

voice-back : (v : Voice) → voice_of_twin (voice_to v) ≡ v
voice-back v = rw (stage-back v.stage, flag-back v.marked, flag-back v.rom)

voices-back : (vs : List Voice) → map voice_of_twin (map voice_to vs) ≡ vs
voices-back [] = refl
voices-back (v ∷ vs) = rw (voice-back v, voices-back vs)

-- an engine there and back
pub engine-back : (e : Engine) → engine_of (engine_to e) ≡ e
unfolding engine_of engine_to
engine-back e = rw (voices-back e.voices)

-- a player there and back
pub player-back : (p : Player) → player_of (player_to p) ≡ p
unfolding player_of player_to
player-back p = rw (engine-back p.engine, event-back p.event)
