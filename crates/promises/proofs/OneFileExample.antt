-- The file of the struck bell of Demand3Example, computed: three frames in one render, and in two with a question between them.
use Prim.Native.Nat.{ℕ}
use mathlib.Core.List.{List, [], ◌∷◌}
use mathlib.Core.Path.{◌≡◌, refl, ap, sym, ◌∙◌}
use lib.Dec.{lit<, lit≤}
use lib.Ieee.{nan}
use lib.ListN.{replicate}
use Rattle.promises.specs.Calls.{Call, Render, Ask, run, frames_run}
use Rattle.promises.specs.Cuts.{Pieces, none, asks, piece, numbers_of}
use Rattle.promises.specs.OneFile.{Recut, at-end, cut-anew}
use Rattle.promises.proofs.Demand3Example.{ram, struck_bell}
use Rattle.promises.proofs.OneFile.{any-lengths}
use Rattle.curves.specs.Levels as CurvesLevels
use Rattle.curves.specs.Times as CurvesTimes
use Rattle.curves.specs.Pitch as CurvesPitch
use Rattle.arith.specs.Floors as ArithFloors
use Rattle.voice.specs.Frames as VoiceFrames
use Rattle.voice.specs.Motion as VoiceMotion
use Rattle.voice.specs.Stages as VoiceStages
use Rattle.voice.specs.Sound as VoiceSound
use Rattle.voice.specs.Reading as VoiceReading
use Rattle.state.specs.Slots as StateSlots
use Rattle.engine.specs.Rendering as EngineRendering
use Rattle.engine.specs.Mixer as EngineMixer
use Rattle.wave.specs.Pcm as WavePcm
use Rattle.wave.specs.Headings as WaveHeadings
use Rattle.wave.specs.Pours as WavePours
use Rattle.wave.specs.Recording as WaveRecording
use lib.Ieee as Ieee
use lib.Count as Count

-- in one render
abbrev whole : List Call
whole = Render 3 ram [] (replicate 6 nan) ∷ []

-- in two
abbrev halves : List Call
halves = Render 1 ram [] (replicate 2 nan) ∷ Ask 0 ∷ Render 3 ram [] (replicate 4 nan) ∷ []

one_piece : Pieces ram [] whole (3 ∷ []) struck_bell
one_piece = piece 3 (replicate 6 nan) (lit≤ tt) none

two-pieces : Pieces ram [] halves (1 ∷ 2 ∷ []) struck_bell
unfolding EngineRendering.distance EngineRendering.render_number EngineRendering.render EngineRendering.lacking EngineRendering.played StateSlots.paired
two-pieces = piece 1 (replicate 2 nan) (lit≤ tt) (asks 0 (piece 2 (replicate 4 nan) (lit≤ tt) none))

pub bell-recut : Recut whole halves struck_bell
unfolding one_piece two-pieces CurvesLevels.gain_of CurvesLevels.cb_of CurvesLevels.above CurvesLevels.least_cb CurvesTimes.frames_up CurvesTimes.frames CurvesPitch.bend_cents CurvesPitch.step_of ArithFloors.mod_z VoiceFrames.go_on VoiceFrames.loud VoiceFrames.read_and_moved VoiceFrames.living VoiceFrames.frame_at VoiceFrames.frame VoiceMotion.pitch_total VoiceMotion.step VoiceMotion.folds VoiceMotion.fold VoiceMotion.settled VoiceMotion.ended VoiceFrames.after VoiceStages.level_at VoiceStages.decay_at VoiceStages.release_at VoiceStages.from_decay VoiceStages.from_hold VoiceStages.from_attack VoiceStages.from_delay StateSlots.paired EngineRendering.distance EngineRendering.window EngineRendering.lacking EngineRendering.render_number EngineRendering.played EngineRendering.render StateSlots.word_of run frames_run
bell-recut = cut-anew one_piece two-pieces (refl, refl, tt) (refl, refl, (refl, refl, tt)) (lit< tt) refl at-end

-- the file: sums of 0, 1,042 and 2,316, which are 0, 4 and 9 on both sides
abbrev bytes : List ℕ
bytes =
    82 ∷ 73 ∷ 70 ∷ 70 ∷ 48 ∷ 0 ∷ 0 ∷ 0 ∷ 87 ∷ 65 ∷ 86 ∷ 69 ∷ 102 ∷ 109 ∷ 116 ∷ 32 ∷ 16 ∷ 0 ∷ 0 ∷ 0 ∷ 1 ∷ 0 ∷ 2 ∷ 0
    ∷ 68 ∷ 172 ∷ 0 ∷ 0 ∷ 16 ∷ 177 ∷ 2 ∷ 0 ∷ 4 ∷ 0 ∷ 16 ∷ 0 ∷ 100 ∷ 97 ∷ 116 ∷ 97 ∷ 12 ∷ 0 ∷ 0 ∷ 0
    ∷ 0 ∷ 0 ∷ 0 ∷ 0 ∷ 4 ∷ 0 ∷ 4 ∷ 0 ∷ 9 ∷ 0 ∷ 9 ∷ 0 ∷ []

pub bell-file : WaveRecording.recording_of (numbers_of whole struck_bell) ≡ bytes
unfolding CurvesLevels.gain_of CurvesLevels.cb_of CurvesLevels.above CurvesLevels.least_cb CurvesTimes.frames_up CurvesTimes.frames CurvesPitch.bend_cents CurvesPitch.step_of ArithFloors.mod_z VoiceFrames.go_on VoiceFrames.loud VoiceFrames.read_and_moved VoiceFrames.living VoiceFrames.frame_at VoiceFrames.frame VoiceMotion.pitch_total VoiceMotion.step VoiceMotion.folds VoiceMotion.fold VoiceMotion.settled VoiceMotion.ended VoiceFrames.after VoiceStages.level_at VoiceStages.decay_at VoiceStages.release_at VoiceStages.from_decay VoiceStages.from_hold VoiceStages.from_attack VoiceStages.from_delay VoiceSound.left_of VoiceSound.right_of VoiceSound.gained VoiceSound.loss VoiceReading.reading VoiceReading.before VoiceReading.behind VoiceReading.interpolated StateSlots.paired EngineRendering.distance EngineRendering.window EngineRendering.lacking EngineRendering.render_number EngineRendering.played EngineRendering.render EngineRendering.rendered EngineRendering.output EngineMixer.unit_of numbers_of run frames_run WavePcm.k_of WavePcm.pcm_of WavePcm.pcm_of_k WavePours.poured_of WaveHeadings.heading_of WaveRecording.recording_of Ieee.round Ieee.size Ieee.units Ieee.odd Ieee.span Ieee.climb Count.count_trailing_zeros
bell-file = refl

-- so it is in two, with no more computing
pub bell-file-cut : WaveRecording.recording_of (numbers_of halves struck_bell) ≡ bytes
bell-file-cut = ap WaveRecording.recording_of (sym (any-lengths whole halves struck_bell bell-recut).numbers) ∙ bell-file
