-- Examples: what a small voice gives in some frames, or where it stands after them, in numbers of the second program; each is checked by computing.
-- Made by: (cd second && cargo build --release --offline) && second/target/release/second make crates
use mathlib.Core.List.{List, [], ◌∷◌}
use lib.IntN.{ℤ, pos, neg_ℤ}
use Prim.Native.Nat.{ℕ}
use mathlib.Core.Bool.{false}
use mathlib.Core.Path.{◌≡◌, refl}
use Rattle.voice.specs.declared.Channel.{Channel}
use Rattle.voice.specs.declared.Stage.TheVariants.{Delay}
use Rattle.voice.specs.declared.Voice.{Voice}
use Rattle.voice.specs.Release.{release}
use Rattle.voice.specs.declared.Slot.{Slot}
use Rattle.voice.specs.Sound.{loss, gained, left_of, right_of}
use Rattle.voice.specs.Motion.{step, pitch_total, folds, fold, settled, ended}
use Rattle.voice.specs.Internal.Frames.{heard_at, after_at}
use Rattle.curves.specs.Pitch.{step_of, bend_cents}
use Rattle.curves.specs.Levels.{gain_of, cb_of, least_cb, above}
use Rattle.voice.specs.Changes.{sounds}
use Rattle.voice.specs.Stages.{level_at, decay_at, release_at, from_delay, from_attack, from_hold, from_decay}
use Rattle.voice.specs.Reading.{before, behind, interpolated, reading}
use Rattle.voice.specs.Frames.{go_on, loud, read_and_moved, living, frame_at, frame, after}

-- the samples that it reads
abbrev window : List ℤ
window = pos 1000 ∷ neg_ℤ (pos 2000) ∷ pos 30000 ∷ neg_ℤ (pos 32768) ∷ pos 12345 ∷ []

-- its channel: no bend, control 7 at 100, control 11 full
abbrev channel : Channel
channel = record { program = 0; stored = 0; bank = 0; bend = 8192; volume = 100; expression = 127; pedal = 0 }

-- a voice of 5 samples, 700 cents up, pan 100, sustain 300, attenuation -76 (with volume 100 it is below 0, and counts as 0)
abbrev bell : (mode loopto left attack hold decay release : ℕ) → ℤ → Voice
bell mode loopto left attack hold decay release pitch =
    record {
      stage = Delay left;
      place = 0;
      channel = 0;
      key = 60;
      velocity = 100;
      marked = false;
      class = 0;
      rom = false;
      start = 0;
      end = 5;
      mode = mode;
      loopfrom = 1;
      loopto = loopto;
      rate = 44100;
      pitch = pitch;
      pan = pos 100;
      attenuation = neg_ℤ (pos 76);
      attack = attack;
      hold = hold;
      decay = decay;
      sustain = 300;
      release = release;
    }

-- lefts and rights of n frames
abbrev heard : ℕ → Slot → List ℤ
heard n s = heard_at (step channel s.voice) (loss channel s.voice) window n s

-- delay, attack, hold, decay, sustain in a loop
looping :
    heard 9 (sounds (bell 1 4 1 3 1 4 2 (pos 700)))
    ≡ pos 0 ∷ pos 0 ∷ pos 0 ∷ pos 0 ∷ pos 602555 ∷ pos 903833 ∷ neg_ℤ (pos 2233140) ∷ neg_ℤ (pos 3349709) ∷ pos 1790668 ∷ pos 2686003 ∷ neg_ℤ (pos 3343668) ∷ neg_ℤ (pos 5015501) ∷ pos 149244 ∷ pos 223866 ∷ neg_ℤ (pos 157901) ∷ neg_ℤ (pos 236852) ∷ pos 83121 ∷ pos 124682 ∷ []
unfolding heard_at after_at after frame frame_at living read_and_moved go_on loud reading behind before interpolated gained left_of right_of gain_of cb_of loss step pitch_total bend_cents step_of folds fold settled ended level_at decay_at release_at from_delay from_attack from_hold from_decay release least_cb above
looping = refl

-- released in attack, free at the third frame of its release
letting :
    heard 4 (sounds (release (after channel window 2 (sounds (bell 1 4 1 3 1 4 2 (pos 700)))).voice))
    ≡ pos 895608 ∷ pos 1343413 ∷ neg_ℤ (pos 5249) ∷ neg_ℤ (pos 7873) ∷ pos 0 ∷ pos 0 ∷ pos 0 ∷ pos 0 ∷ []
unfolding heard_at after_at after frame frame_at living read_and_moved go_on loud reading behind before interpolated gained left_of right_of gain_of cb_of loss step pitch_total bend_cents step_of folds fold settled ended level_at decay_at release_at from_delay from_attack from_hold from_decay release least_cb above
letting = refl

-- no loop: freed at its end, and silent from there
ending :
    heard 6 (sounds (bell 0 4 0 0 0 0 2 (pos 700)))
    ≡ pos 4844 ∷ pos 7267 ∷ pos 85529 ∷ pos 128294 ∷ neg_ℤ (pos 158614) ∷ neg_ℤ (pos 237920) ∷ pos 44085 ∷ pos 66127 ∷ pos 0 ∷ pos 0 ∷ pos 0 ∷ pos 0 ∷ []
unfolding heard_at after_at after frame frame_at living read_and_moved go_on loud reading behind before interpolated gained left_of right_of gain_of cb_of loss step pitch_total bend_cents step_of folds fold settled ended level_at decay_at release_at from_delay from_attack from_hold from_decay release least_cb above
ending = refl

-- no loop, less than a sample a frame: zeros about the window, and held at the lowest number
slow :
    heard 7 (sounds (bell 0 4 0 0 0 0 2 (neg_ℤ (pos 481))))
    ≡ pos 4844 ∷ pos 7267 ∷ neg_ℤ (pos 17535) ∷ neg_ℤ (pos 26302) ∷ pos 89333 ∷ pos 133999 ∷ pos 81571 ∷ pos 122356 ∷ neg_ℤ (pos 158764) ∷ neg_ℤ (pos 238145) ∷ pos 22248 ∷ pos 33372 ∷ pos 38934 ∷ pos 58402 ∷ []
unfolding heard_at after_at after frame frame_at living read_and_moved go_on loud reading behind before interpolated gained left_of right_of gain_of cb_of loss step pitch_total bend_cents step_of folds fold settled ended level_at decay_at release_at from_delay from_attack from_hold from_decay release least_cb above
slow = refl

-- a loop of two samples and a step of sixteen
folding : (after channel window 3 (sounds (bell 1 3 0 0 0 0 2 (pos 4800)))).voice.place ≡ 33554432
unfolding heard_at after_at after frame frame_at living read_and_moved go_on loud reading behind before interpolated gained left_of right_of gain_of cb_of loss step pitch_total bend_cents step_of folds fold settled ended level_at decay_at release_at from_delay from_attack from_hold from_decay release least_cb above
folding = refl

-- mode 3 folds until it is released, and then runs to its end
mode3 :
    heard 3 (sounds (release (after channel window 3 (sounds (bell 3 4 0 0 0 4 5 (pos 700)))).voice))
    ≡ pos 84725 ∷ pos 127088 ∷ neg_ℤ (pos 15844) ∷ neg_ℤ (pos 23766) ∷ pos 444 ∷ pos 666 ∷ []
unfolding heard_at after_at after frame frame_at living read_and_moved go_on loud reading behind before interpolated gained left_of right_of gain_of cb_of loss step pitch_total bend_cents step_of folds fold settled ended level_at decay_at release_at from_delay from_attack from_hold from_decay release least_cb above
mode3 = refl
