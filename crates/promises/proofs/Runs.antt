-- Voices and runs of calls drawn by chance, with what the second program says of them; each is computed here by the definitions.
-- Made by: (cd second && cargo build --release --offline) && second/target/release/second make crates
use Prim.Native.Nat.{ℕ, ◌+◌, ◌*◌}
use mathlib.Core.List.{List, [], ◌∷◌}
use lib.IntN.{ℤ, pos, neg_ℤ}
use mathlib.Core.Bool.{Bool, false, true, cond}
use lib.ListN.{replicate}
use mathlib.Core.Path.{◌≡◌, refl}
use Rattle.state.specs.declared.Engine.{Engine}
use Rattle.events.specs.Striking.{Bank, channel_bank, note_on_number}
use Rattle.events.specs.Controls.{control_change, pedal, silence, controlled}
use Rattle.events.specs.Starting.{start, any_past, class_in, rival, start_all, cleared, struck}
use Rattle.voice.specs.declared.Stage.{Stage}
use Rattle.voice.specs.declared.Voice.{Voice}
use Rattle.voice.specs.Release.{release}
use Rattle.voice.specs.declared.Channel.{Channel}
use Rattle.voice.specs.declared.Slot.{Slot}
use Rattle.voice.specs.Sound.{loss, gained, left_of, right_of}
use Rattle.voice.specs.Motion.{step, pitch_total, folds, fold, settled, ended}
use Rattle.voice.specs.Internal.Frames.{heard_at, after_at}
use Rattle.voice.specs.Stages.{released, level_at, decay_at, release_at, from_delay, from_attack, from_hold, from_decay}
use Rattle.state.specs.Slots.{slots_of, cut, paired, word_of, of_channel}
use Rattle.curves.specs.Pitch.{step_of, bend_cents}
use Rattle.curves.specs.Levels.{gain_of, cb_of, least_cb, above}
use Rattle.voice.specs.declared.Stage.TheVariants.{Delay}
use Rattle.voice.specs.Changes.{sounds}
use Rattle.voice.specs.Reading.{before, behind, interpolated, reading}
use Rattle.voice.specs.Frames.{go_on, loud, read_and_moved, living, frame_at, frame, after}
use Rattle.events.specs.Keys.{pedal_held, held, held_key, let_off, off, off_key}
use Rattle.state.specs.Quiet.{fresh}
use Rattle.state.specs.Seats.{lowest_free, claim, least_by, taken, seat, without, renewed, start_in}
use Rattle.events.specs.Striking as EventsStriking
use Rattle.events.specs.Keys as EventsKeys

-- calls over a bank that is given as a record, and a run of them
abbrev note_on : Bank → List ℤ → List ℤ → ℕ → ℕ → ℕ → Engine → Engine
note_on b ram rom c k v e = (EventsStriking.note_on b ram rom c k v e).engine

abbrev note_off : ℕ → ℕ → Engine → Engine
note_off c k e = (EventsKeys.note_off c k e).engine

abbrev control : ℕ → ℕ → ℕ → Engine → Engine
control c n v e = (control_change c n v e).engine

run : List (Engine → Engine) → Engine → Engine
run [] e = e
run (f ∷ fs) e = run fs (f e)

abbrev mk : Stage → (place channel key velocity : ℕ) → Bool → (class end mode loopfrom loopto rate : ℕ) → (pitch pan attenuation : ℤ) → (attack hold decay sustain release : ℕ) → Voice
mk s place channel key velocity marked class end mode loopfrom loopto rate pitch pan attenuation attack hold decay sustain release =
    record { stage = s; place = place; channel = channel; key = key; velocity = velocity; marked = marked; class = class; rom = false; start = 0; end = end; mode = mode; loopfrom = loopfrom; loopto = loopto; rate = rate; pitch = pitch; pan = pan; attenuation = attenuation; attack = attack; hold = hold; decay = decay; sustain = sustain; release = release }

abbrev heard : ℕ → Channel → List ℤ → Slot → List ℤ
heard n c w s = heard_at (step c s.voice) (loss c s.voice) w n s

abbrev bank : List Voice → Bank
bank vs = record { admitted = true; has_preset = λ b p. true; voices = λ b p c k v. vs }

abbrev ram : List ℤ
ram = replicate 8 (pos 0)

-- the word, and for each sounding slot key * 1,000 + velocity, and 1 if released, 2 if marked
keys_of : List Slot → List ℕ
keys_of [] = []
keys_of (s ∷ ss) = cond s.sounding ((s.voice.key * 1000 + s.voice.velocity) ∷ keys_of ss) (keys_of ss)

marks_of : List Slot → List ℕ
marks_of [] = []
marks_of (s ∷ ss) = cond s.sounding ((cond (released s.voice.stage) 1 0 + cond s.voice.marked 2 0) ∷ marks_of ss) (marks_of ss)

abbrev shape : Engine → ℕ × List ℕ × List ℕ
shape e = (e.sounding, keys_of (slots_of e), marks_of (slots_of e))

voice0 :
    let c : Channel = record { program = 0; stored = 0; bank = 0; bend = 8192; volume = 113; expression = 32; pedal = 0 } in
    let w : List ℤ = pos 713 ∷ pos 14225 ∷ [] in
    heard 8 c w (sounds (release (after c w 0 (sounds (mk (Delay 0) 0 0 63 70 false 0 2 0 1 2 400 (neg_ℤ (pos 2830)) (pos 248) (neg_ℤ (pos 187)) 5 1 0 1000 1))).voice)) ≡ pos 0 ∷ pos 0 ∷ pos 0 ∷ pos 0 ∷ pos 0 ∷ pos 0 ∷ pos 0 ∷ pos 0 ∷ pos 0 ∷ pos 0 ∷ pos 0 ∷ pos 0 ∷ pos 0 ∷ pos 0 ∷ pos 0 ∷ pos 0 ∷ []
unfolding heard_at after_at after frame frame_at living read_and_moved go_on loud reading behind before interpolated gained left_of right_of gain_of cb_of loss step pitch_total bend_cents step_of folds fold settled ended level_at decay_at release_at from_delay from_attack from_hold from_decay release least_cb above
voice0 = refl

voice1 :
    let c : Channel = record { program = 0; stored = 0; bank = 0; bend = 16383; volume = 16; expression = 84; pedal = 0 } in
    let w : List ℤ = neg_ℤ (pos 32072) ∷ [] in
    heard 8 c w (sounds (release (after c w 2 (sounds (mk (Delay 2) 0 1 61 70 false 0 1 1 0 1 8000 (neg_ℤ (pos 5048)) (pos 489) (pos 1) 3 0 2 1000 1))).voice)) ≡ pos 0 ∷ pos 0 ∷ pos 0 ∷ pos 0 ∷ pos 0 ∷ pos 0 ∷ pos 0 ∷ pos 0 ∷ pos 0 ∷ pos 0 ∷ pos 0 ∷ pos 0 ∷ pos 0 ∷ pos 0 ∷ pos 0 ∷ pos 0 ∷ []
unfolding heard_at after_at after frame frame_at living read_and_moved go_on loud reading behind before interpolated gained left_of right_of gain_of cb_of loss step pitch_total bend_cents step_of folds fold settled ended level_at decay_at release_at from_delay from_attack from_hold from_decay release least_cb above
voice1 = refl

voice2 :
    let c : Channel = record { program = 0; stored = 0; bank = 0; bend = 297; volume = 11; expression = 46; pedal = 0 } in
    let w : List ℤ = neg_ℤ (pos 32325) ∷ pos 11520 ∷ neg_ℤ (pos 24115) ∷ pos 7858 ∷ [] in
    heard 8 c w (sounds (release (after c w 0 (sounds (mk (Delay 2) 0 1 61 8 false 0 4 1 1 3 44100 (neg_ℤ (pos 10251)) (pos 365) (pos 166) 0 2 2 999 9))).voice)) ≡ pos 0 ∷ pos 0 ∷ pos 0 ∷ pos 0 ∷ pos 0 ∷ pos 0 ∷ pos 0 ∷ pos 0 ∷ pos 0 ∷ pos 0 ∷ pos 0 ∷ pos 0 ∷ pos 0 ∷ pos 0 ∷ pos 0 ∷ pos 0 ∷ []
unfolding heard_at after_at after frame frame_at living read_and_moved go_on loud reading behind before interpolated gained left_of right_of gain_of cb_of loss step pitch_total bend_cents step_of folds fold settled ended level_at decay_at release_at from_delay from_attack from_hold from_decay release least_cb above
voice2 = refl

voice3 :
    let c : Channel = record { program = 0; stored = 0; bank = 0; bend = 16383; volume = 23; expression = 79; pedal = 0 } in
    let w : List ℤ = neg_ℤ (pos 513) ∷ pos 27814 ∷ [] in
    heard 8 c w (sounds (release (after c w 2 (sounds (mk (Delay 0) 0 1 60 76 false 0 2 3 1 2 44100 (neg_ℤ (pos 1306)) (neg_ℤ (pos 57)) (neg_ℤ (pos 163)) 1 1 7 999 1))).voice)) ≡ pos 331386 ∷ pos 263561 ∷ pos 0 ∷ pos 0 ∷ pos 0 ∷ pos 0 ∷ pos 0 ∷ pos 0 ∷ pos 0 ∷ pos 0 ∷ pos 0 ∷ pos 0 ∷ pos 0 ∷ pos 0 ∷ pos 0 ∷ pos 0 ∷ []
unfolding heard_at after_at after frame frame_at living read_and_moved go_on loud reading behind before interpolated gained left_of right_of gain_of cb_of loss step pitch_total bend_cents step_of folds fold settled ended level_at decay_at release_at from_delay from_attack from_hold from_decay release least_cb above
voice3 = refl

voice4 :
    let c : Channel = record { program = 0; stored = 0; bank = 0; bend = 8192; volume = 33; expression = 33; pedal = 0 } in
    let w : List ℤ = neg_ℤ (pos 9506) ∷ neg_ℤ (pos 22519) ∷ neg_ℤ (pos 13256) ∷ pos 7773 ∷ [] in
    heard 8 c w (sounds (release (after c w 4 (sounds (mk (Delay 2) 0 1 60 31 false 0 4 1 0 1 44100 (neg_ℤ (pos 2802)) (pos 166) (pos 266) 1 0 7 0 9))).voice)) ≡ neg_ℤ (pos 187) ∷ neg_ℤ (pos 372) ∷ neg_ℤ (pos 51) ∷ neg_ℤ (pos 102) ∷ neg_ℤ (pos 15) ∷ neg_ℤ (pos 28) ∷ neg_ℤ (pos 5) ∷ neg_ℤ (pos 8) ∷ neg_ℤ (pos 2) ∷ neg_ℤ (pos 3) ∷ neg_ℤ (pos 1) ∷ neg_ℤ (pos 1) ∷ neg_ℤ (pos 1) ∷ neg_ℤ (pos 1) ∷ pos 0 ∷ pos 0 ∷ []
unfolding heard_at after_at after frame frame_at living read_and_moved go_on loud reading behind before interpolated gained left_of right_of gain_of cb_of loss step pitch_total bend_cents step_of folds fold settled ended level_at decay_at release_at from_delay from_attack from_hold from_decay release least_cb above
voice4 = refl

voice5 :
    let c : Channel = record { program = 0; stored = 0; bank = 0; bend = 0; volume = 96; expression = 45; pedal = 0 } in
    let w : List ℤ = neg_ℤ (pos 10641) ∷ pos 24190 ∷ [] in
    heard 8 c w (sounds (release (after c w 4 (sounds (mk (Delay 1) 0 1 61 59 false 0 2 1 0 2 8000 (pos 3861) (pos 205) (pos 299) 5 1 2 1000 9))).voice)) ≡ pos 913 ∷ pos 2183 ∷ neg_ℤ (pos 305) ∷ neg_ℤ (pos 727) ∷ pos 47 ∷ pos 114 ∷ pos 54 ∷ pos 129 ∷ pos 5 ∷ pos 13 ∷ neg_ℤ (pos 2) ∷ neg_ℤ (pos 5) ∷ pos 0 ∷ pos 0 ∷ pos 0 ∷ pos 0 ∷ []
unfolding heard_at after_at after frame frame_at living read_and_moved go_on loud reading behind before interpolated gained left_of right_of gain_of cb_of loss step pitch_total bend_cents step_of folds fold settled ended level_at decay_at release_at from_delay from_attack from_hold from_decay release least_cb above
voice5 = refl

voice6 :
    let c : Channel = record { program = 0; stored = 0; bank = 0; bend = 16383; volume = 70; expression = 118; pedal = 0 } in
    let w : List ℤ = neg_ℤ (pos 9160) ∷ neg_ℤ (pos 21085) ∷ pos 31701 ∷ [] in
    heard 8 c w (after c w 2 (sounds (mk (Delay 1) 0 1 62 72 false 0 3 0 1 2 44100 (pos 4914) (pos 288) (pos 71) 3 2 0 0 9))) ≡ pos 0 ∷ pos 0 ∷ pos 0 ∷ pos 0 ∷ pos 0 ∷ pos 0 ∷ pos 0 ∷ pos 0 ∷ pos 0 ∷ pos 0 ∷ pos 0 ∷ pos 0 ∷ pos 0 ∷ pos 0 ∷ pos 0 ∷ pos 0 ∷ []
unfolding heard_at after_at after frame frame_at living read_and_moved go_on loud reading behind before interpolated gained left_of right_of gain_of cb_of loss step pitch_total bend_cents step_of folds fold settled ended level_at decay_at release_at from_delay from_attack from_hold from_decay release least_cb above
voice6 = refl

voice7 :
    let c : Channel = record { program = 0; stored = 0; bank = 0; bend = 0; volume = 50; expression = 40; pedal = 0 } in
    let w : List ℤ = pos 13968 ∷ pos 12829 ∷ [] in
    heard 8 c w (sounds (release (after c w 4 (sounds (mk (Delay 0) 0 0 61 26 false 0 2 3 1 2 44100 (pos 4638) (pos 208) (pos 89) 5 0 7 1000 4))).voice)) ≡ pos 196 ∷ pos 476 ∷ pos 0 ∷ pos 0 ∷ pos 0 ∷ pos 0 ∷ pos 0 ∷ pos 0 ∷ pos 0 ∷ pos 0 ∷ pos 0 ∷ pos 0 ∷ pos 0 ∷ pos 0 ∷ pos 0 ∷ pos 0 ∷ []
unfolding heard_at after_at after frame frame_at living read_and_moved go_on loud reading behind before interpolated gained left_of right_of gain_of cb_of loss step pitch_total bend_cents step_of folds fold settled ended level_at decay_at release_at from_delay from_attack from_hold from_decay release least_cb above
voice7 = refl

voice8 :
    let c : Channel = record { program = 0; stored = 0; bank = 0; bend = 16383; volume = 0; expression = 89; pedal = 0 } in
    let w : List ℤ = neg_ℤ (pos 9078) ∷ neg_ℤ (pos 4059) ∷ [] in
    heard 8 c w (sounds (release (after c w 4 (sounds (mk (Delay 1) 0 1 61 62 false 0 2 0 0 1 8000 (neg_ℤ (pos 9832)) (neg_ℤ (pos 24)) (pos 225) 5 2 7 0 1))).voice)) ≡ neg_ℤ (pos 1) ∷ neg_ℤ (pos 1) ∷ pos 0 ∷ pos 0 ∷ pos 0 ∷ pos 0 ∷ pos 0 ∷ pos 0 ∷ pos 0 ∷ pos 0 ∷ pos 0 ∷ pos 0 ∷ pos 0 ∷ pos 0 ∷ pos 0 ∷ pos 0 ∷ []
unfolding heard_at after_at after frame frame_at living read_and_moved go_on loud reading behind before interpolated gained left_of right_of gain_of cb_of loss step pitch_total bend_cents step_of folds fold settled ended level_at decay_at release_at from_delay from_attack from_hold from_decay release least_cb above
voice8 = refl

voice9 :
    let c : Channel = record { program = 0; stored = 0; bank = 0; bend = 8192; volume = 23; expression = 89; pedal = 0 } in
    let w : List ℤ = pos 20977 ∷ neg_ℤ (pos 17685) ∷ pos 16237 ∷ [] in
    heard 8 c w (after c w 0 (sounds (mk (Delay 1) 0 1 62 105 false 0 3 0 1 3 8000 (pos 2733) (pos 332) (pos 219) 5 0 0 1000 9))) ≡ pos 0 ∷ pos 0 ∷ pos 0 ∷ pos 0 ∷ neg_ℤ (pos 182) ∷ neg_ℤ (pos 901) ∷ pos 225 ∷ pos 1116 ∷ pos 229 ∷ pos 1139 ∷ pos 0 ∷ pos 0 ∷ pos 0 ∷ pos 0 ∷ pos 0 ∷ pos 0 ∷ []
unfolding heard_at after_at after frame frame_at living read_and_moved go_on loud reading behind before interpolated gained left_of right_of gain_of cb_of loss step pitch_total bend_cents step_of folds fold settled ended level_at decay_at release_at from_delay from_attack from_hold from_decay release least_cb above
voice9 = refl

voice10 :
    let c : Channel = record { program = 0; stored = 0; bank = 0; bend = 16383; volume = 125; expression = 73; pedal = 0 } in
    let w : List ℤ = neg_ℤ (pos 18623) ∷ pos 9966 ∷ neg_ℤ (pos 14327) ∷ pos 9888 ∷ [] in
    heard 8 c w (sounds (release (after c w 0 (sounds (mk (Delay 1) 0 1 63 125 false 0 4 3 1 3 50000 (pos 1579) (pos 110) (neg_ℤ (pos 38)) 3 1 2 1000 0))).voice)) ≡ pos 0 ∷ pos 0 ∷ pos 0 ∷ pos 0 ∷ pos 0 ∷ pos 0 ∷ pos 0 ∷ pos 0 ∷ pos 0 ∷ pos 0 ∷ pos 0 ∷ pos 0 ∷ pos 0 ∷ pos 0 ∷ pos 0 ∷ pos 0 ∷ []
unfolding heard_at after_at after frame frame_at living read_and_moved go_on loud reading behind before interpolated gained left_of right_of gain_of cb_of loss step pitch_total bend_cents step_of folds fold settled ended level_at decay_at release_at from_delay from_attack from_hold from_decay release least_cb above
voice10 = refl

voice11 :
    let c : Channel = record { program = 0; stored = 0; bank = 0; bend = 0; volume = 4; expression = 32; pedal = 0 } in
    let w : List ℤ = neg_ℤ (pos 29652) ∷ [] in
    heard 8 c w (sounds (release (after c w 2 (sounds (mk (Delay 1) 0 1 62 32 false 0 1 1 0 1 50000 (neg_ℤ (pos 9796)) (pos 1) (pos 51) 1 2 2 999 9))).voice)) ≡ neg_ℤ (pos 135) ∷ neg_ℤ (pos 136) ∷ neg_ℤ (pos 38) ∷ neg_ℤ (pos 38) ∷ neg_ℤ (pos 11) ∷ neg_ℤ (pos 11) ∷ neg_ℤ (pos 3) ∷ neg_ℤ (pos 4) ∷ neg_ℤ (pos 1) ∷ neg_ℤ (pos 2) ∷ pos 0 ∷ pos 0 ∷ pos 0 ∷ pos 0 ∷ pos 0 ∷ pos 0 ∷ []
unfolding heard_at after_at after frame frame_at living read_and_moved go_on loud reading behind before interpolated gained left_of right_of gain_of cb_of loss step pitch_total bend_cents step_of folds fold settled ended level_at decay_at release_at from_delay from_attack from_hold from_decay release least_cb above
voice11 = refl

run0 :
    shape (run (note_on (bank (mk (Delay 2) 0 1 65 100 false 2 1 3 0 1 8000 (neg_ℤ (pos 9807)) (neg_ℤ (pos 242)) (neg_ℤ (pos 198)) 0 2 7 100 0 ∷ [])) ram ram 1 65 100
    ∷ note_on (bank (mk (Delay 0) 0 1 65 100 false 1 4 3 3 4 44100 (pos 4239) (neg_ℤ (pos 190)) (neg_ℤ (pos 133)) 5 2 2 1000 4 ∷ mk (Delay 0) 0 1 65 100 false 0 4 3 3 4 8000 (pos 2944) (pos 54) (pos 399) 0 2 0 999 0 ∷ mk (Delay 0) 0 1 65 100 false 0 1 1 0 1 50000 (pos 4947) (neg_ℤ (pos 374)) (neg_ℤ (pos 150)) 1 2 7 0 1 ∷ [])) ram ram 1 65 100
    ∷ control 2 120 0
    ∷ control 0 64 0
    ∷ note_on (bank (mk (Delay 0) 0 0 61 1 false 0 1 3 0 1 400 (neg_ℤ (pos 7122)) (pos 399) (pos 208) 0 1 0 999 9 ∷ mk (Delay 1) 0 0 61 1 false 0 3 0 0 3 44100 (neg_ℤ (pos 6049)) (pos 146) (pos 382) 1 1 0 100 4 ∷ mk (Delay 0) 0 0 61 1 false 0 2 1 1 2 50000 (neg_ℤ (pos 5125)) (pos 230) (neg_ℤ (pos 66)) 3 0 7 0 0 ∷ [])) ram ram 0 61 1
    ∷ control 2 7 127
    ∷ note_on (bank (mk (Delay 0) 0 1 60 64 false 2 1 3 0 1 8000 (pos 3068) (pos 267) (pos 28) 0 2 2 100 1 ∷ [])) ram ram 1 60 64
    ∷ note_on (bank (mk (Delay 1) 0 1 62 20 false 0 3 3 1 2 44100 (neg_ℤ (pos 1304)) (pos 484) (pos 243) 0 2 7 100 1 ∷ [])) ram ram 1 62 20
    ∷ note_on (bank (mk (Delay 1) 0 0 61 1 false 0 2 0 1 2 44100 (neg_ℤ (pos 10986)) (neg_ℤ (pos 19)) (pos 237) 5 1 2 1000 0 ∷ [])) ram ram 0 61 1
    ∷ note_on (bank (mk (Delay 0) 0 2 62 20 false 0 4 1 2 3 44100 (neg_ℤ (pos 5707)) (pos 188) (pos 93) 0 1 0 999 4 ∷ [])) ram ram 2 62 20
    ∷ note_on (bank (mk (Delay 0) 0 0 65 127 false 1 4 1 0 3 44100 (pos 3872) (pos 246) (pos 45) 0 0 7 0 1 ∷ [])) ram ram 0 65 127
    ∷ note_on (bank (mk (Delay 0) 0 2 65 64 false 0 2 3 1 2 400 (pos 4336) (pos 294) (neg_ℤ (pos 33)) 1 2 0 0 9 ∷ [])) ram ram 2 65 64
    ∷ note_off 1 60
    ∷ note_on (bank (mk (Delay 2) 0 1 61 127 false 0 1 3 0 1 400 (neg_ℤ (pos 3235)) (neg_ℤ (pos 406)) (pos 302) 0 2 0 0 9 ∷ mk (Delay 0) 0 1 61 127 false 0 1 1 0 1 44100 (neg_ℤ (pos 9318)) (pos 472) (neg_ℤ (pos 162)) 1 2 7 1000 1 ∷ [])) ram ram 1 61 127
    ∷ note_on (bank (mk (Delay 2) 0 0 60 20 false 2 2 3 0 1 400 (pos 3457) (neg_ℤ (pos 134)) (pos 352) 5 2 2 100 0 ∷ [])) ram ram 0 60 20
    ∷ control 1 0 127
    ∷ control 0 7 0
    ∷ note_on (bank (mk (Delay 0) 0 1 66 1 false 0 3 1 0 3 400 (pos 4453) (pos 213) (pos 50) 5 2 7 100 4 ∷ [])) ram ram 1 66 1
    ∷ note_on (bank (mk (Delay 0) 0 2 65 20 false 0 3 1 0 1 50000 (neg_ℤ (pos 714)) (pos 270) (pos 188) 3 2 0 0 9 ∷ [])) ram ram 2 65 20
    ∷ note_on (bank (mk (Delay 0) 0 2 65 127 false 0 4 1 0 4 8000 (neg_ℤ (pos 473)) (neg_ℤ (pos 187)) (neg_ℤ (pos 133)) 1 1 2 999 4 ∷ [])) ram ram 2 65 127
    ∷ note_on (bank (mk (Delay 2) 0 2 60 127 false 0 1 0 0 1 50000 (neg_ℤ (pos 2541)) (neg_ℤ (pos 264)) (neg_ℤ (pos 183)) 1 1 0 999 4 ∷ mk (Delay 2) 0 2 60 127 false 0 2 0 1 2 8000 (pos 3621) (pos 313) (pos 244) 0 1 2 1000 1 ∷ mk (Delay 0) 0 2 60 127 false 0 2 3 0 1 50000 (pos 5102) (neg_ℤ (pos 394)) (neg_ℤ (pos 199)) 5 2 0 100 0 ∷ [])) ram ram 2 60 127
    ∷ note_on (bank (mk (Delay 1) 0 2 65 20 false 0 4 3 1 2 44100 (neg_ℤ (pos 4409)) (pos 75) (pos 110) 1 1 2 100 0 ∷ mk (Delay 0) 0 2 65 20 false 1 4 1 1 2 8000 (pos 5060) (neg_ℤ (pos 462)) (pos 190) 1 1 0 999 1 ∷ [])) ram ram 2 65 20
    ∷ note_off 1 63
    ∷ note_on (bank (mk (Delay 0) 0 2 66 100 false 0 4 0 0 2 50000 (neg_ℤ (pos 10272)) (pos 194) (pos 124) 3 2 2 1000 9 ∷ [])) ram ram 2 66 100
    ∷ note_on (bank (mk (Delay 0) 0 2 65 127 false 0 2 3 1 2 8000 (neg_ℤ (pos 1689)) (neg_ℤ (pos 421)) (pos 93) 0 1 7 1000 4 ∷ mk (Delay 2) 0 2 65 127 false 0 2 0 0 1 44100 (pos 514) (neg_ℤ (pos 287)) (pos 375) 0 0 0 999 9 ∷ mk (Delay 0) 0 2 65 127 false 0 4 3 1 4 8000 (neg_ℤ (pos 469)) (neg_ℤ (pos 169)) (pos 195) 3 0 0 100 4 ∷ [])) ram ram 2 65 127
    ∷ note_on (bank (mk (Delay 2) 0 1 61 100 false 0 4 1 1 4 400 (pos 2337) (neg_ℤ (pos 264)) (pos 226) 5 2 7 100 4 ∷ [])) ram ram 1 61 100
    ∷ note_on (bank (mk (Delay 0) 0 0 61 100 false 0 1 1 0 1 8000 (pos 3215) (neg_ℤ (pos 167)) (neg_ℤ (pos 6)) 3 2 0 0 9 ∷ [])) ram ram 0 61 100
    ∷ note_on (bank (mk (Delay 0) 0 2 61 1 false 1 4 1 3 4 400 (neg_ℤ (pos 4659)) (neg_ℤ (pos 386)) (neg_ℤ (pos 40)) 3 0 2 0 9 ∷ [])) ram ram 2 61 1
    ∷ note_off 0 65
    ∷ control 2 7 0
    ∷ note_on (bank (mk (Delay 0) 0 0 62 20 false 0 2 3 0 1 50000 (pos 4269) (neg_ℤ (pos 495)) (pos 184) 3 0 7 0 9 ∷ [])) ram ram 0 62 20
    ∷ note_on (bank (mk (Delay 1) 0 1 63 127 false 0 1 0 0 1 8000 (pos 260) (neg_ℤ (pos 355)) (pos 191) 5 2 7 0 0 ∷ [])) ram ram 1 63 127
    ∷ note_on (bank (mk (Delay 0) 0 1 63 1 false 0 2 3 0 2 400 (neg_ℤ (pos 6222)) (pos 490) (pos 77) 5 1 0 1000 1 ∷ mk (Delay 1) 0 1 63 1 false 1 3 1 0 1 8000 (pos 830) (neg_ℤ (pos 479)) (neg_ℤ (pos 184)) 5 1 7 0 0 ∷ mk (Delay 0) 0 1 63 1 false 0 4 0 3 4 44100 (pos 4412) (neg_ℤ (pos 477)) (pos 320) 1 1 7 1000 0 ∷ [])) ram ram 1 63 1
    ∷ note_on (bank (mk (Delay 0) 0 1 66 127 false 0 4 0 1 3 8000 (neg_ℤ (pos 1073)) (neg_ℤ (pos 68)) (neg_ℤ (pos 5)) 3 0 2 1000 1 ∷ mk (Delay 0) 0 1 66 127 false 0 4 1 2 3 400 (neg_ℤ (pos 5455)) (neg_ℤ (pos 422)) (pos 268) 5 0 2 100 1 ∷ [])) ram ram 1 66 127
    ∷ note_on (bank (mk (Delay 2) 0 2 64 64 false 1 2 3 0 1 44100 (neg_ℤ (pos 9981)) (neg_ℤ (pos 311)) (neg_ℤ (pos 186)) 0 1 0 999 4 ∷ [])) ram ram 2 64 64
    ∷ note_off 0 62
    ∷ note_on (bank (mk (Delay 2) 0 2 62 100 false 0 1 3 0 1 44100 (pos 4652) (pos 95) (pos 360) 1 2 0 999 0 ∷ [])) ram ram 2 62 100
    ∷ note_on (bank (mk (Delay 0) 0 2 61 64 false 1 1 0 0 1 50000 (neg_ℤ (pos 3384)) (pos 233) (pos 316) 3 0 7 100 0 ∷ [])) ram ram 2 61 64
    ∷ note_on (bank (mk (Delay 0) 0 1 62 1 false 1 4 0 0 3 44100 (pos 1796) (neg_ℤ (pos 191)) (pos 186) 0 2 2 0 1 ∷ mk (Delay 0) 0 1 62 1 false 0 1 3 0 1 50000 (neg_ℤ (pos 6478)) (neg_ℤ (pos 141)) (pos 267) 5 0 7 100 9 ∷ mk (Delay 1) 0 1 62 1 false 0 1 0 0 1 44100 (pos 166) (pos 334) (pos 69) 5 0 7 0 4 ∷ [])) ram ram 1 62 1
    ∷ note_on (bank (mk (Delay 0) 0 0 63 127 false 0 2 1 1 2 8000 (neg_ℤ (pos 9298)) (pos 74) (pos 163) 0 1 0 1000 0 ∷ [])) ram ram 0 63 127
    ∷ []) fresh) ≡ ((4294967295), (63001 ∷ 63001 ∷ 65100 ∷ 65100 ∷ 66127 ∷ 62001 ∷ 62001 ∷ 62020 ∷ 63127 ∷ 62020 ∷ 66127 ∷ 65064 ∷ 61127 ∷ 61127 ∷ 60020 ∷ 66001 ∷ 65020 ∷ 65127 ∷ 60127 ∷ 60127 ∷ 60127 ∷ 65020 ∷ 61064 ∷ 66100 ∷ 65127 ∷ 65127 ∷ 65127 ∷ 61100 ∷ 61100 ∷ 62100 ∷ 63127 ∷ 62001 ∷ []), (0 ∷ 0 ∷ 0 ∷ 0 ∷ 0 ∷ 0 ∷ 0 ∷ 0 ∷ 0 ∷ 0 ∷ 0 ∷ 0 ∷ 0 ∷ 0 ∷ 0 ∷ 0 ∷ 0 ∷ 0 ∷ 0 ∷ 0 ∷ 0 ∷ 0 ∷ 0 ∷ 0 ∷ 0 ∷ 0 ∷ 0 ∷ 0 ∷ 0 ∷ 0 ∷ 0 ∷ 0 ∷ []))
unfolding run fresh paired word_of of_channel held held_key let_off off off_key EventsKeys.note_off pedal_held cut pedal silence controlled control_change lowest_free claim least_by taken seat without renewed start_in EventsStriking.note_on channel_bank any_past class_in rival start start_all cleared struck note_on_number release least_cb above level_at decay_at release_at keys_of marks_of
run0 = refl

run1 :
    shape (run (note_on (bank (mk (Delay 2) 0 0 64 64 false 1 2 3 0 1 400 (neg_ℤ (pos 9607)) (pos 232) (neg_ℤ (pos 132)) 3 2 7 0 4 ∷ mk (Delay 2) 0 0 64 64 false 0 3 1 1 3 44100 (neg_ℤ (pos 10951)) (pos 28) (pos 130) 5 1 0 100 4 ∷ mk (Delay 2) 0 0 64 64 false 0 4 0 1 3 400 (pos 2933) (pos 136) (pos 248) 1 0 0 1000 1 ∷ [])) ram ram 0 64 64
    ∷ note_on (bank (mk (Delay 1) 0 1 60 100 false 0 4 1 3 4 8000 (neg_ℤ (pos 5492)) (pos 65) (pos 229) 3 1 7 0 1 ∷ [])) ram ram 1 60 100
    ∷ note_on (bank (mk (Delay 0) 0 1 63 100 false 0 1 0 0 1 400 (neg_ℤ (pos 1676)) (neg_ℤ (pos 317)) (pos 396) 5 0 7 999 4 ∷ [])) ram ram 1 63 100
    ∷ note_on (bank (mk (Delay 0) 0 1 60 1 false 0 3 3 1 2 400 (neg_ℤ (pos 1123)) (neg_ℤ (pos 316)) (neg_ℤ (pos 130)) 0 2 7 1000 0 ∷ [])) ram ram 1 60 1
    ∷ note_on (bank (mk (Delay 0) 0 0 60 20 false 2 3 0 2 3 44100 (neg_ℤ (pos 8517)) (neg_ℤ (pos 111)) (pos 277) 1 0 0 0 0 ∷ mk (Delay 0) 0 0 60 20 false 2 4 3 0 3 44100 (pos 3873) (neg_ℤ (pos 460)) (pos 238) 1 1 7 100 1 ∷ [])) ram ram 0 60 20
    ∷ note_on (bank (mk (Delay 1) 0 2 61 100 false 0 1 3 0 1 44100 (neg_ℤ (pos 1690)) (pos 262) (neg_ℤ (pos 30)) 5 1 2 0 1 ∷ [])) ram ram 2 61 100
    ∷ note_on (bank (mk (Delay 0) 0 1 63 127 false 0 2 1 0 1 50000 (neg_ℤ (pos 2578)) (pos 377) (pos 275) 5 0 2 999 4 ∷ [])) ram ram 1 63 127
    ∷ note_on (bank (mk (Delay 1) 0 2 60 127 false 0 1 1 0 1 44100 (neg_ℤ (pos 63)) (pos 397) (neg_ℤ (pos 141)) 1 2 2 999 9 ∷ mk (Delay 2) 0 2 60 127 false 0 3 1 2 3 400 (pos 4973) (neg_ℤ (pos 181)) (neg_ℤ (pos 37)) 3 1 7 1000 4 ∷ mk (Delay 2) 0 2 60 127 false 2 3 3 0 1 50000 (neg_ℤ (pos 10961)) (pos 309) (pos 351) 5 1 0 100 0 ∷ [])) ram ram 2 60 127
    ∷ note_on (bank (mk (Delay 0) 0 0 61 127 false 0 2 3 0 2 50000 (neg_ℤ (pos 3496)) (pos 442) (pos 80) 1 2 0 0 4 ∷ [])) ram ram 0 61 127
    ∷ note_on (bank (mk (Delay 0) 0 1 62 20 false 2 4 0 2 3 8000 (pos 2950) (neg_ℤ (pos 26)) (neg_ℤ (pos 142)) 1 0 0 100 9 ∷ [])) ram ram 1 62 20
    ∷ control 1 123 127
    ∷ note_on (bank (mk (Delay 1) 0 0 64 127 false 1 2 0 1 2 400 (pos 139) (neg_ℤ (pos 398)) (pos 5) 0 0 0 1000 0 ∷ mk (Delay 2) 0 0 64 127 false 0 1 1 0 1 50000 (neg_ℤ (pos 5560)) (pos 415) (neg_ℤ (pos 83)) 1 0 0 1000 9 ∷ mk (Delay 2) 0 0 64 127 false 0 1 1 0 1 44100 (neg_ℤ (pos 7983)) (pos 439) (pos 38) 5 2 7 1000 1 ∷ [])) ram ram 0 64 127
    ∷ note_on (bank (mk (Delay 0) 0 2 61 20 false 2 2 1 0 2 44100 (neg_ℤ (pos 6286)) (neg_ℤ (pos 314)) (pos 94) 1 2 2 0 0 ∷ [])) ram ram 2 61 20
    ∷ note_on (bank (mk (Delay 2) 0 1 63 20 false 0 3 0 0 3 44100 (pos 4652) (pos 322) (pos 71) 3 2 7 1000 1 ∷ [])) ram ram 1 63 20
    ∷ note_on (bank (mk (Delay 1) 0 2 61 64 false 1 3 0 2 3 50000 (neg_ℤ (pos 3804)) (pos 181) (neg_ℤ (pos 115)) 0 0 7 999 9 ∷ [])) ram ram 2 61 64
    ∷ note_on (bank (mk (Delay 0) 0 1 65 1 false 0 1 0 0 1 50000 (neg_ℤ (pos 3908)) (neg_ℤ (pos 189)) (pos 253) 5 1 7 1000 0 ∷ [])) ram ram 1 65 1
    ∷ control 2 64 127
    ∷ note_off 2 62
    ∷ note_on (bank (mk (Delay 1) 0 1 60 20 false 0 3 3 0 2 8000 (pos 671) (neg_ℤ (pos 28)) (neg_ℤ (pos 94)) 0 1 2 0 9 ∷ mk (Delay 0) 0 1 60 20 false 0 2 1 1 2 50000 (pos 5463) (neg_ℤ (pos 145)) (pos 338) 5 1 7 100 9 ∷ [])) ram ram 1 60 20
    ∷ control 0 64 0
    ∷ []) fresh) ≡ ((4194303), (64127 ∷ 64064 ∷ 64064 ∷ 60100 ∷ 63100 ∷ 60001 ∷ 60020 ∷ 60020 ∷ 61100 ∷ 63127 ∷ 60127 ∷ 60127 ∷ 61020 ∷ 61127 ∷ 62020 ∷ 64127 ∷ 64127 ∷ 63020 ∷ 61064 ∷ 65001 ∷ 60020 ∷ 60020 ∷ []), (0 ∷ 0 ∷ 0 ∷ 1 ∷ 1 ∷ 1 ∷ 0 ∷ 0 ∷ 0 ∷ 1 ∷ 0 ∷ 0 ∷ 0 ∷ 0 ∷ 1 ∷ 0 ∷ 0 ∷ 0 ∷ 0 ∷ 0 ∷ 0 ∷ 0 ∷ []))
unfolding run fresh paired word_of of_channel held held_key let_off off off_key EventsKeys.note_off pedal_held cut pedal silence controlled control_change lowest_free claim least_by taken seat without renewed start_in EventsStriking.note_on channel_bank any_past class_in rival start start_all cleared struck note_on_number release least_cb above level_at decay_at release_at keys_of marks_of
run1 = refl

run2 :
    shape (run (note_on (bank (mk (Delay 0) 0 0 63 20 false 0 2 0 1 2 44100 (neg_ℤ (pos 9643)) (neg_ℤ (pos 389)) (pos 381) 0 0 2 999 4 ∷ [])) ram ram 0 63 20
    ∷ note_on (bank (mk (Delay 2) 0 0 63 1 false 0 2 1 1 2 50000 (neg_ℤ (pos 9733)) (neg_ℤ (pos 126)) (neg_ℤ (pos 19)) 3 2 0 0 9 ∷ mk (Delay 2) 0 0 63 1 false 0 3 0 1 3 50000 (neg_ℤ (pos 2329)) (neg_ℤ (pos 352)) (neg_ℤ (pos 67)) 3 1 0 100 9 ∷ [])) ram ram 0 63 1
    ∷ note_on (bank (mk (Delay 0) 0 2 62 64 false 0 2 3 1 2 44100 (pos 1391) (neg_ℤ (pos 302)) (neg_ℤ (pos 164)) 5 0 7 1000 0 ∷ [])) ram ram 2 62 64
    ∷ control 2 64 0
    ∷ note_on (bank (mk (Delay 0) 0 2 66 20 false 0 1 1 0 1 44100 (pos 4578) (neg_ℤ (pos 291)) (pos 338) 1 1 2 100 4 ∷ [])) ram ram 2 66 20
    ∷ note_on (bank (mk (Delay 1) 0 0 66 127 false 0 1 1 0 1 400 (neg_ℤ (pos 7400)) (pos 442) (pos 398) 3 1 2 100 4 ∷ [])) ram ram 0 66 127
    ∷ note_on (bank (mk (Delay 0) 0 1 65 20 false 1 1 1 0 1 400 (neg_ℤ (pos 3847)) (pos 181) (pos 192) 3 1 0 999 0 ∷ [])) ram ram 1 65 20
    ∷ note_on (bank (mk (Delay 2) 0 0 61 127 false 0 3 1 2 3 400 (neg_ℤ (pos 10937)) (pos 34) (pos 129) 3 1 2 100 4 ∷ [])) ram ram 0 61 127
    ∷ note_on (bank (mk (Delay 0) 0 2 64 1 false 0 2 0 1 2 8000 (neg_ℤ (pos 3236)) (neg_ℤ (pos 108)) (pos 10) 3 2 0 100 1 ∷ mk (Delay 0) 0 2 64 1 false 1 2 3 1 2 400 (neg_ℤ (pos 4882)) (pos 319) (pos 276) 3 2 2 0 4 ∷ mk (Delay 1) 0 2 64 1 false 2 2 3 0 2 50000 (neg_ℤ (pos 1855)) (pos 372) (pos 281) 1 0 2 100 0 ∷ [])) ram ram 2 64 1
    ∷ note_on (bank (mk (Delay 1) 0 0 62 64 false 2 1 1 0 1 44100 (pos 2113) (neg_ℤ (pos 419)) (pos 77) 3 2 0 100 0 ∷ [])) ram ram 0 62 64
    ∷ note_on (bank (mk (Delay 0) 0 1 66 64 false 0 1 3 0 1 8000 (pos 2305) (pos 461) (pos 288) 5 2 7 0 1 ∷ mk (Delay 2) 0 1 66 64 false 0 3 3 2 3 44100 (pos 3135) (pos 447) (neg_ℤ (pos 34)) 1 2 7 0 4 ∷ [])) ram ram 1 66 64
    ∷ note_off 0 63
    ∷ note_on (bank (mk (Delay 0) 0 2 66 127 false 1 4 3 3 4 8000 (neg_ℤ (pos 391)) (pos 479) (pos 25) 0 0 2 1000 0 ∷ [])) ram ram 2 66 127
    ∷ note_off 0 60
    ∷ note_on (bank (mk (Delay 2) 0 2 60 127 false 0 1 3 0 1 400 (neg_ℤ (pos 10327)) (pos 307) (pos 141) 3 2 0 100 9 ∷ [])) ram ram 2 60 127
    ∷ note_on (bank (mk (Delay 1) 0 2 60 100 false 0 1 3 0 1 8000 (neg_ℤ (pos 2698)) (pos 495) (pos 84) 1 2 0 1000 0 ∷ [])) ram ram 2 60 100
    ∷ note_on (bank (mk (Delay 1) 0 1 63 20 false 0 2 1 1 2 44100 (neg_ℤ (pos 7085)) (neg_ℤ (pos 257)) (neg_ℤ (pos 48)) 3 0 2 100 4 ∷ [])) ram ram 1 63 20
    ∷ note_on (bank (mk (Delay 0) 0 2 60 64 false 2 3 0 0 3 400 (neg_ℤ (pos 7687)) (neg_ℤ (pos 193)) (pos 249) 1 1 2 100 0 ∷ [])) ram ram 2 60 64
    ∷ note_on (bank (mk (Delay 1) 0 2 60 64 false 0 3 3 2 3 400 (neg_ℤ (pos 7847)) (neg_ℤ (pos 179)) (neg_ℤ (pos 194)) 5 0 7 100 4 ∷ mk (Delay 2) 0 2 60 64 false 0 3 0 1 3 400 (pos 3858) (neg_ℤ (pos 183)) (pos 291) 0 1 7 0 1 ∷ [])) ram ram 2 60 64
    ∷ control 0 120 0
    ∷ note_on (bank (mk (Delay 2) 0 0 64 127 false 0 2 3 1 2 8000 (neg_ℤ (pos 10036)) (neg_ℤ (pos 377)) (neg_ℤ (pos 176)) 5 0 7 1000 4 ∷ mk (Delay 0) 0 0 64 127 false 0 3 3 1 2 8000 (pos 4990) (neg_ℤ (pos 241)) (pos 294) 3 0 7 999 9 ∷ mk (Delay 1) 0 0 64 127 false 1 1 1 0 1 50000 (pos 5956) (neg_ℤ (pos 287)) (neg_ℤ (pos 47)) 1 2 0 1000 1 ∷ [])) ram ram 0 64 127
    ∷ note_on (bank (mk (Delay 2) 0 2 66 64 false 0 4 1 2 4 400 (pos 4352) (neg_ℤ (pos 427)) (pos 104) 3 2 2 100 0 ∷ mk (Delay 0) 0 2 66 64 false 0 3 1 2 3 44100 (pos 1173) (pos 304) (pos 153) 1 1 7 1000 4 ∷ mk (Delay 0) 0 2 66 64 false 0 4 3 1 4 8000 (neg_ℤ (pos 9986)) (pos 401) (pos 150) 0 0 7 1000 9 ∷ [])) ram ram 2 66 64
    ∷ note_on (bank (mk (Delay 2) 0 0 62 64 false 0 4 0 0 4 44100 (neg_ℤ (pos 3553)) (neg_ℤ (pos 340)) (pos 156) 3 1 2 1000 4 ∷ [])) ram ram 0 62 64
    ∷ note_on (bank (mk (Delay 2) 0 0 61 64 false 0 4 1 2 3 44100 (neg_ℤ (pos 6153)) (pos 15) (pos 136) 1 1 0 1000 9 ∷ [])) ram ram 0 61 64
    ∷ control 1 120 0
    ∷ control 2 7 0
    ∷ note_off 2 64
    ∷ note_on (bank (mk (Delay 0) 0 1 60 20 false 0 3 0 0 3 44100 (pos 3288) (pos 217) (neg_ℤ (pos 83)) 1 2 7 999 4 ∷ mk (Delay 2) 0 1 60 20 false 0 4 1 1 4 50000 (neg_ℤ (pos 1587)) (pos 254) (pos 207) 3 2 2 999 4 ∷ mk (Delay 0) 0 1 60 20 false 0 4 3 1 3 400 (neg_ℤ (pos 7424)) (pos 96) (neg_ℤ (pos 115)) 5 2 7 0 4 ∷ [])) ram ram 1 60 20
    ∷ control 1 120 0
    ∷ control 0 123 127
    ∷ note_on (bank (mk (Delay 0) 0 2 60 100 false 2 2 3 0 2 8000 (neg_ℤ (pos 8812)) (neg_ℤ (pos 212)) (pos 157) 1 0 2 0 1 ∷ [])) ram ram 2 60 100
    ∷ note_on (bank (mk (Delay 2) 0 0 65 20 false 0 3 0 0 3 8000 (neg_ℤ (pos 3514)) (pos 248) (pos 395) 5 1 0 100 1 ∷ mk (Delay 0) 0 0 65 20 false 1 3 3 1 2 8000 (pos 2366) (neg_ℤ (pos 363)) (pos 73) 5 0 2 100 4 ∷ [])) ram ram 0 65 20
    ∷ note_on (bank (mk (Delay 0) 0 1 63 127 false 0 2 1 1 2 50000 (neg_ℤ (pos 7065)) (pos 465) (neg_ℤ (pos 174)) 1 2 7 1000 1 ∷ mk (Delay 0) 0 1 63 127 false 0 4 0 2 4 50000 (neg_ℤ (pos 8560)) (neg_ℤ (pos 422)) (neg_ℤ (pos 73)) 0 2 7 100 0 ∷ [])) ram ram 1 63 127
    ∷ note_on (bank (mk (Delay 2) 0 1 63 64 false 0 3 1 0 1 44100 (neg_ℤ (pos 2293)) (pos 248) (neg_ℤ (pos 165)) 5 0 7 999 1 ∷ [])) ram ram 1 63 64
    ∷ note_on (bank (mk (Delay 2) 0 0 63 1 false 0 1 0 0 1 50000 (pos 5172) (neg_ℤ (pos 425)) (pos 304) 0 2 2 100 0 ∷ [])) ram ram 0 63 1
    ∷ note_off 2 60
    ∷ note_on (bank (mk (Delay 1) 0 2 66 20 false 0 4 0 1 4 50000 (neg_ℤ (pos 10158)) (neg_ℤ (pos 115)) (pos 42) 0 0 0 100 9 ∷ [])) ram ram 2 66 20
    ∷ note_on (bank (mk (Delay 1) 0 0 63 20 false 0 2 1 0 1 400 (pos 1676) (neg_ℤ (pos 484)) (pos 285) 5 0 0 100 0 ∷ mk (Delay 1) 0 0 63 20 false 0 2 1 1 2 8000 (pos 235) (neg_ℤ (pos 392)) (pos 349) 3 0 2 999 1 ∷ mk (Delay 1) 0 0 63 20 false 0 2 3 0 2 400 (neg_ℤ (pos 5566)) (pos 62) (pos 335) 3 0 0 1000 0 ∷ [])) ram ram 0 63 20
    ∷ note_on (bank (mk (Delay 1) 0 0 62 20 false 0 4 1 3 4 50000 (neg_ℤ (pos 5243)) (neg_ℤ (pos 335)) (pos 353) 3 2 0 1000 0 ∷ [])) ram ram 0 62 20
    ∷ note_on (bank (mk (Delay 0) 0 1 62 64 false 0 1 3 0 1 44100 (pos 4080) (neg_ℤ (pos 103)) (pos 307) 3 2 7 1000 1 ∷ [])) ram ram 1 62 64
    ∷ []) fresh) ≡ ((268435455), (64127 ∷ 64127 ∷ 65020 ∷ 62064 ∷ 66020 ∷ 66064 ∷ 60100 ∷ 66064 ∷ 64001 ∷ 66127 ∷ 65020 ∷ 66064 ∷ 63127 ∷ 63127 ∷ 60127 ∷ 60100 ∷ 63064 ∷ 60064 ∷ 60064 ∷ 62064 ∷ 61064 ∷ 63001 ∷ 66020 ∷ 63020 ∷ 63020 ∷ 63020 ∷ 62020 ∷ 62064 ∷ []), (1 ∷ 1 ∷ 0 ∷ 0 ∷ 0 ∷ 0 ∷ 1 ∷ 0 ∷ 1 ∷ 0 ∷ 0 ∷ 0 ∷ 0 ∷ 0 ∷ 1 ∷ 1 ∷ 0 ∷ 1 ∷ 1 ∷ 1 ∷ 1 ∷ 0 ∷ 0 ∷ 0 ∷ 0 ∷ 0 ∷ 0 ∷ 0 ∷ []))
unfolding run fresh paired word_of of_channel held held_key let_off off off_key EventsKeys.note_off pedal_held cut pedal silence controlled control_change lowest_free claim least_by taken seat without renewed start_in EventsStriking.note_on channel_bank any_past class_in rival start start_all cleared struck note_on_number release least_cb above level_at decay_at release_at keys_of marks_of
run2 = refl

run3 :
    shape (run (control 0 120 0
    ∷ control 1 64 127
    ∷ note_off 2 62
    ∷ note_on (bank (mk (Delay 1) 0 1 61 20 false 0 2 0 0 2 400 (neg_ℤ (pos 6724)) (pos 165) (pos 370) 3 2 2 0 9 ∷ [])) ram ram 1 61 20
    ∷ note_on (bank (mk (Delay 2) 0 1 66 64 false 0 2 1 1 2 8000 (neg_ℤ (pos 2287)) (neg_ℤ (pos 334)) (pos 186) 3 1 2 100 4 ∷ [])) ram ram 1 66 64
    ∷ note_on (bank (mk (Delay 2) 0 0 61 100 false 0 1 3 0 1 44100 (neg_ℤ (pos 5217)) (pos 53) (neg_ℤ (pos 172)) 1 0 2 1000 0 ∷ [])) ram ram 0 61 100
    ∷ note_on (bank (mk (Delay 1) 0 1 65 20 false 1 1 1 0 1 400 (pos 2328) (pos 399) (pos 156) 1 2 7 999 1 ∷ [])) ram ram 1 65 20
    ∷ note_on (bank (mk (Delay 1) 0 0 62 20 false 0 4 3 1 2 50000 (neg_ℤ (pos 9736)) (neg_ℤ (pos 322)) (neg_ℤ (pos 54)) 1 0 2 100 9 ∷ [])) ram ram 0 62 20
    ∷ note_on (bank (mk (Delay 0) 0 2 61 100 false 1 3 1 0 3 50000 (neg_ℤ (pos 75)) (neg_ℤ (pos 435)) (neg_ℤ (pos 38)) 5 0 7 999 9 ∷ [])) ram ram 2 61 100
    ∷ note_on (bank (mk (Delay 0) 0 2 65 20 false 0 2 0 0 1 44100 (pos 3033) (neg_ℤ (pos 269)) (pos 274) 5 1 2 0 9 ∷ [])) ram ram 2 65 20
    ∷ note_off 1 62
    ∷ note_on (bank (mk (Delay 0) 0 0 65 20 false 0 3 3 2 3 50000 (pos 1473) (neg_ℤ (pos 23)) (pos 29) 5 0 2 1000 9 ∷ [])) ram ram 0 65 20
    ∷ note_on (bank (mk (Delay 1) 0 1 66 20 false 0 2 3 0 2 50000 (neg_ℤ (pos 1650)) (pos 46) (neg_ℤ (pos 56)) 3 1 2 999 1 ∷ mk (Delay 0) 0 1 66 20 false 0 4 1 3 4 8000 (neg_ℤ (pos 10589)) (neg_ℤ (pos 180)) (pos 137) 1 1 2 100 4 ∷ mk (Delay 0) 0 1 66 20 false 0 2 3 1 2 8000 (neg_ℤ (pos 4093)) (pos 191) (pos 206) 1 2 7 999 9 ∷ [])) ram ram 1 66 20
    ∷ control 0 0 0
    ∷ note_on (bank (mk (Delay 0) 0 2 66 20 false 0 2 0 1 2 8000 (pos 5948) (neg_ℤ (pos 100)) (pos 177) 1 1 2 1000 0 ∷ [])) ram ram 2 66 20
    ∷ control 0 7 0
    ∷ note_on (bank (mk (Delay 1) 0 0 65 20 false 0 4 3 2 4 50000 (pos 2353) (pos 329) (neg_ℤ (pos 159)) 0 0 0 1000 4 ∷ mk (Delay 2) 0 0 65 20 false 0 2 1 0 1 44100 (neg_ℤ (pos 6470)) (neg_ℤ (pos 190)) (pos 368) 3 0 2 100 1 ∷ mk (Delay 2) 0 0 65 20 false 0 3 1 2 3 50000 (neg_ℤ (pos 5396)) (pos 446) (pos 47) 5 2 7 100 1 ∷ [])) ram ram 0 65 20
    ∷ note_on (bank (mk (Delay 2) 0 2 66 20 false 0 2 1 1 2 400 (neg_ℤ (pos 5032)) (pos 3) (pos 109) 0 2 2 999 9 ∷ mk (Delay 0) 0 2 66 20 false 0 1 0 0 1 8000 (pos 5074) (pos 378) (pos 73) 1 0 0 999 1 ∷ mk (Delay 2) 0 2 66 20 false 1 1 1 0 1 8000 (pos 627) (neg_ℤ (pos 334)) (pos 204) 1 2 7 0 9 ∷ [])) ram ram 2 66 20
    ∷ note_on (bank (mk (Delay 2) 0 1 66 127 false 0 2 3 0 1 50000 (neg_ℤ (pos 4118)) (neg_ℤ (pos 56)) (pos 201) 1 0 2 999 0 ∷ [])) ram ram 1 66 127
    ∷ note_on (bank (mk (Delay 1) 0 1 64 127 false 0 1 0 0 1 44100 (neg_ℤ (pos 7943)) (neg_ℤ (pos 351)) (neg_ℤ (pos 81)) 5 1 0 0 0 ∷ [])) ram ram 1 64 127
    ∷ note_on (bank (mk (Delay 0) 0 0 62 100 false 0 1 0 0 1 44100 (neg_ℤ (pos 2542)) (neg_ℤ (pos 195)) (pos 229) 0 1 7 999 0 ∷ [])) ram ram 0 62 100
    ∷ note_on (bank (mk (Delay 1) 0 2 62 1 false 0 2 3 1 2 44100 (neg_ℤ (pos 7135)) (neg_ℤ (pos 248)) (pos 361) 1 2 2 100 1 ∷ [])) ram ram 2 62 1
    ∷ note_on (bank (mk (Delay 1) 0 1 63 20 false 0 3 1 2 3 44100 (pos 5616) (pos 280) (neg_ℤ (pos 3)) 1 1 0 1000 0 ∷ mk (Delay 1) 0 1 63 20 false 0 4 1 3 4 44100 (pos 5625) (pos 69) (pos 234) 3 2 0 1000 9 ∷ [])) ram ram 1 63 20
    ∷ note_on (bank (mk (Delay 0) 0 0 63 20 false 0 1 3 0 1 400 (neg_ℤ (pos 6051)) (neg_ℤ (pos 56)) (neg_ℤ (pos 59)) 3 1 7 100 9 ∷ [])) ram ram 0 63 20
    ∷ control 0 0 0
    ∷ note_on (bank (mk (Delay 2) 0 2 64 127 false 0 4 3 2 3 50000 (neg_ℤ (pos 10130)) (pos 151) (pos 0) 0 2 7 999 4 ∷ [])) ram ram 2 64 127
    ∷ note_off 2 66
    ∷ note_on (bank (mk (Delay 0) 0 2 64 64 false 0 4 0 3 4 44100 (neg_ℤ (pos 7362)) (neg_ℤ (pos 300)) (neg_ℤ (pos 165)) 1 1 0 1000 9 ∷ [])) ram ram 2 64 64
    ∷ note_on (bank (mk (Delay 0) 0 2 64 20 false 0 2 1 0 2 50000 (neg_ℤ (pos 4905)) (neg_ℤ (pos 106)) (pos 269) 0 2 2 0 9 ∷ [])) ram ram 2 64 20
    ∷ note_on (bank (mk (Delay 1) 0 0 62 64 false 0 3 3 1 3 50000 (neg_ℤ (pos 8885)) (neg_ℤ (pos 387)) (neg_ℤ (pos 59)) 0 0 7 0 0 ∷ mk (Delay 1) 0 0 62 64 false 0 4 0 2 3 44100 (neg_ℤ (pos 2354)) (pos 386) (neg_ℤ (pos 171)) 3 2 2 999 9 ∷ mk (Delay 2) 0 0 62 64 false 0 3 1 2 3 44100 (neg_ℤ (pos 10082)) (pos 83) (neg_ℤ (pos 59)) 0 1 0 999 4 ∷ [])) ram ram 0 62 64
    ∷ note_on (bank (mk (Delay 0) 0 1 63 1 false 0 4 0 3 4 400 (pos 2660) (pos 412) (pos 194) 3 1 0 0 0 ∷ mk (Delay 1) 0 1 63 1 false 0 3 3 2 3 400 (neg_ℤ (pos 6736)) (neg_ℤ (pos 205)) (neg_ℤ (pos 1)) 1 0 7 1000 1 ∷ mk (Delay 1) 0 1 63 1 false 0 3 0 0 2 400 (neg_ℤ (pos 7355)) (pos 416) (neg_ℤ (pos 169)) 1 0 0 100 4 ∷ [])) ram ram 1 63 1
    ∷ note_on (bank (mk (Delay 0) 0 0 66 1 false 1 3 0 2 3 8000 (neg_ℤ (pos 9713)) (neg_ℤ (pos 327)) (pos 346) 0 2 0 999 4 ∷ [])) ram ram 0 66 1
    ∷ control 0 123 0
    ∷ note_on (bank (mk (Delay 0) 0 1 66 20 false 2 4 3 3 4 8000 (neg_ℤ (pos 5508)) (neg_ℤ (pos 460)) (pos 334) 1 2 2 0 0 ∷ [])) ram ram 1 66 20
    ∷ note_on (bank (mk (Delay 0) 0 2 64 100 false 0 4 0 2 3 8000 (neg_ℤ (pos 10445)) (pos 477) (pos 208) 5 2 2 0 0 ∷ [])) ram ram 2 64 100
    ∷ control 1 0 0
    ∷ note_off 1 64
    ∷ note_on (bank (mk (Delay 1) 0 0 65 127 false 0 2 3 1 2 50000 (pos 674) (neg_ℤ (pos 177)) (pos 280) 1 1 7 100 9 ∷ mk (Delay 1) 0 0 65 127 false 0 3 0 0 3 44100 (neg_ℤ (pos 9333)) (pos 368) (neg_ℤ (pos 194)) 5 1 0 999 1 ∷ mk (Delay 0) 0 0 65 127 false 0 3 3 0 3 400 (neg_ℤ (pos 1521)) (pos 403) (pos 379) 5 0 0 999 9 ∷ [])) ram ram 0 65 127
    ∷ note_on (bank (mk (Delay 2) 0 1 64 64 false 0 4 1 1 2 8000 (neg_ℤ (pos 3541)) (pos 294) (pos 359) 3 0 2 0 9 ∷ mk (Delay 0) 0 1 64 64 false 0 1 1 0 1 44100 (neg_ℤ (pos 10036)) (neg_ℤ (pos 141)) (neg_ℤ (pos 67)) 1 2 2 999 0 ∷ [])) ram ram 1 64 64
    ∷ note_on (bank (mk (Delay 1) 0 0 62 100 false 0 1 1 0 1 8000 (neg_ℤ (pos 132)) (pos 436) (neg_ℤ (pos 152)) 3 2 0 1000 4 ∷ [])) ram ram 0 62 100
    ∷ []) fresh) ≡ ((4294967295), (61020 ∷ 66064 ∷ 61100 ∷ 65020 ∷ 64100 ∷ 66020 ∷ 65020 ∷ 65127 ∷ 66020 ∷ 66020 ∷ 66020 ∷ 63001 ∷ 65127 ∷ 65127 ∷ 64064 ∷ 64064 ∷ 62100 ∷ 66127 ∷ 64127 ∷ 62100 ∷ 62001 ∷ 63020 ∷ 63020 ∷ 63020 ∷ 64127 ∷ 64064 ∷ 64020 ∷ 62064 ∷ 62064 ∷ 62064 ∷ 63001 ∷ 63001 ∷ []), (0 ∷ 0 ∷ 1 ∷ 0 ∷ 0 ∷ 0 ∷ 0 ∷ 0 ∷ 0 ∷ 0 ∷ 0 ∷ 0 ∷ 0 ∷ 0 ∷ 0 ∷ 0 ∷ 0 ∷ 0 ∷ 2 ∷ 1 ∷ 0 ∷ 0 ∷ 0 ∷ 1 ∷ 0 ∷ 0 ∷ 0 ∷ 1 ∷ 1 ∷ 1 ∷ 0 ∷ 0 ∷ []))
unfolding run fresh paired word_of of_channel held held_key let_off off off_key EventsKeys.note_off pedal_held cut pedal silence controlled control_change lowest_free claim least_by taken seat without renewed start_in EventsStriking.note_on channel_bank any_past class_in rival start start_all cleared struck note_on_number release least_cb above level_at decay_at release_at keys_of marks_of
run3 = refl
