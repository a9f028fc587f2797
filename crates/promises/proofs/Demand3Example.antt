-- A run that meets the conditions of demand 3, computed: a bell of 8 samples that loops over 4, struck and rendered in two cuts.
use Prim.Native.Nat.{ℕ, ◌<◌}
use mathlib.Core.List.{List, [], ◌∷◌, ◌++◌}
use lib.IntN.{ℤ, pos}
use mathlib.Core.Bool.{true, false}
use lib.ListN.{replicate}
use lib.Ieee.{nan}
use mathlib.Core.Path.{◌≡◌, refl, sym, ap, ◌∙◌, subst}
use native.Mathlib.Omega.{arith}
use borrow.Author.Tests.{eqb-false}
use Rattle.voice.specs.declared.Stage.TheVariants.{Delay}
use Rattle.voice.specs.declared.Voice.{Voice}
use Rattle.promises.specs.Calls.{Call, NoteOn, NoteOff, Bend, Render, run, frames_run, voice_in, seats, among}
use Rattle.voice.specs.Changes.{blank}
use Rattle.state.specs.declared.Engine.{Engine}
use Rattle.state.specs.Quiet.{fresh_channel, up_from, fresh}
use Rattle.promises.specs.Demand3.{KeepsAll, Moved}
use Rattle.voice.specs.Stages.{past}
use Rattle.state.specs.Slots.{slot_at}
use Rattle.promises.proofs.Demand3.{place-always, place-between, keeps-own, keeps-tuned}
use Rattle.promises.specs.Moments.{moment, in_front}
use Rattle.curves.specs.Levels as CurvesLevels
use Rattle.curves.specs.Times as CurvesTimes
use Rattle.curves.specs.Pitch as CurvesPitch
use Rattle.curves.specs.Internal.Pitch as CurvesInternalPitch
use Rattle.curves.proofs.Tables as CurvesTables
use Rattle.records.specs.Internal.Amounts as RecordsInternalAmounts
use Rattle.arith.specs.Bytes as ArithBytes
use Rattle.records.specs.Chunks as RecordsChunks
use Rattle.records.specs.Looking as RecordsLooking
use Rattle.records.specs.Sides as RecordsSides
use Rattle.records.specs.Headers as RecordsHeaders
use Rattle.arith.specs.Holds as ArithHolds
use Rattle.arith.specs.Floors as ArithFloors
use Rattle.records.specs.Windows as RecordsWindows
use Rattle.records.specs.Zones as RecordsZones
use Rattle.bank.specs.Admission as BankAdmission
use Rattle.bank.specs.Framing as BankFraming
use Rattle.bank.specs.Indexes as BankIndexes
use Rattle.bank.specs.Links as BankLinks
use Rattle.bank.specs.Rates as BankRates
use Rattle.bank.specs.Bounds as BankBounds
use Rattle.layers.specs.LayerSearch as LayersLayerSearch
use Rattle.layers.proofs.LayerSearchLaws as LayersLayerSearchLaws
use Rattle.layers.specs.Internal.LayerSearch as LayersInternalLayerSearch
use Rattle.layers.specs.Ranges as LayersRanges
use Rattle.totals.specs.Values as TotalsValues
use Rattle.totals.specs.Settings as TotalsSettings
use Rattle.layers.specs.Voicing as LayersVoicing
use Rattle.layers.specs.Internal.Voicing as LayersInternalVoicing
use Rattle.voice.specs.Frames as VoiceFrames
use Rattle.voice.specs.Motion as VoiceMotion
use Rattle.voice.specs.Release as VoiceRelease
use Rattle.voice.specs.Internal.Frames as VoiceInternalFrames
use Rattle.voice.specs.Stages as VoiceStages
use Rattle.events.specs.Bends as EventsBends
use Rattle.events.specs.Keys as EventsKeys
use Rattle.state.specs.Slots as StateSlots
use Rattle.events.specs.Controls as EventsControls
use Rattle.events.specs.Striking as EventsStriking
use Rattle.events.specs.Starting as EventsStarting
use Rattle.engine.specs.Rendering as EngineRendering
use Rattle.state.specs.Seats as StateSeats
use Rattle.state.specs.Quiet as StateQuiet

-- a bank: one preset, one instrument, one sample of rate 44,100 at key 60, mode 1, loop 0..4, no delay
abbrev pub bell : List ℕ
bell =
    112 ∷ 104 ∷ 100 ∷ 114 ∷ 76 ∷ 0 ∷ 0 ∷ 0 ∷ 98 ∷ 101 ∷ 108 ∷ 108 ∷ 0 ∷ 0 ∷ 0 ∷ 0 ∷ 0 ∷ 0 ∷ 0 ∷ 0 ∷ 0 ∷ 0 ∷ 0 ∷ 0 ∷ 0 ∷ 0 ∷ 0 ∷ 0 ∷
    0 ∷ 0 ∷ 0 ∷ 0 ∷ 0 ∷ 0 ∷ 0 ∷ 0 ∷ 0 ∷ 0 ∷ 0 ∷ 0 ∷ 0 ∷ 0 ∷ 0 ∷ 0 ∷ 0 ∷ 0 ∷ 69 ∷ 79 ∷ 80 ∷ 0 ∷ 0 ∷ 0 ∷ 0 ∷ 0 ∷ 0 ∷ 0 ∷
    0 ∷ 0 ∷ 0 ∷ 0 ∷ 0 ∷ 0 ∷ 0 ∷ 0 ∷ 0 ∷ 0 ∷ 0 ∷ 0 ∷ 0 ∷ 0 ∷ 1 ∷ 0 ∷ 0 ∷ 0 ∷ 0 ∷ 0 ∷ 0 ∷ 0 ∷ 0 ∷ 0 ∷ 0 ∷ 0 ∷ 0 ∷ 0 ∷
    112 ∷ 98 ∷ 97 ∷ 103 ∷ 8 ∷ 0 ∷ 0 ∷ 0 ∷ 0 ∷ 0 ∷ 0 ∷ 0 ∷ 1 ∷ 0 ∷ 0 ∷ 0 ∷ 112 ∷ 109 ∷ 111 ∷ 100 ∷ 10 ∷ 0 ∷ 0 ∷ 0 ∷ 0 ∷ 0 ∷ 0 ∷ 0 ∷
    0 ∷ 0 ∷ 0 ∷ 0 ∷ 0 ∷ 0 ∷ 112 ∷ 103 ∷ 101 ∷ 110 ∷ 8 ∷ 0 ∷ 0 ∷ 0 ∷ 41 ∷ 0 ∷ 0 ∷ 0 ∷ 0 ∷ 0 ∷ 0 ∷ 0 ∷ 105 ∷ 110 ∷ 115 ∷ 116 ∷ 44 ∷ 0 ∷
    0 ∷ 0 ∷ 98 ∷ 101 ∷ 108 ∷ 108 ∷ 0 ∷ 0 ∷ 0 ∷ 0 ∷ 0 ∷ 0 ∷ 0 ∷ 0 ∷ 0 ∷ 0 ∷ 0 ∷ 0 ∷ 0 ∷ 0 ∷ 0 ∷ 0 ∷ 0 ∷ 0 ∷ 69 ∷ 79 ∷ 73 ∷ 0 ∷
    0 ∷ 0 ∷ 0 ∷ 0 ∷ 0 ∷ 0 ∷ 0 ∷ 0 ∷ 0 ∷ 0 ∷ 0 ∷ 0 ∷ 0 ∷ 0 ∷ 0 ∷ 0 ∷ 1 ∷ 0 ∷ 105 ∷ 98 ∷ 97 ∷ 103 ∷ 8 ∷ 0 ∷ 0 ∷ 0 ∷ 0 ∷ 0 ∷
    0 ∷ 0 ∷ 3 ∷ 0 ∷ 0 ∷ 0 ∷ 105 ∷ 109 ∷ 111 ∷ 100 ∷ 10 ∷ 0 ∷ 0 ∷ 0 ∷ 0 ∷ 0 ∷ 0 ∷ 0 ∷ 0 ∷ 0 ∷ 0 ∷ 0 ∷ 0 ∷ 0 ∷ 105 ∷ 103 ∷ 101 ∷ 110 ∷
    16 ∷ 0 ∷ 0 ∷ 0 ∷ 33 ∷ 0 ∷ 0 ∷ 128 ∷ 54 ∷ 0 ∷ 1 ∷ 0 ∷ 53 ∷ 0 ∷ 0 ∷ 0 ∷ 0 ∷ 0 ∷ 0 ∷ 0 ∷ 115 ∷ 104 ∷ 100 ∷ 114 ∷ 92 ∷ 0 ∷ 0 ∷ 0 ∷
    98 ∷ 101 ∷ 108 ∷ 108 ∷ 0 ∷ 0 ∷ 0 ∷ 0 ∷ 0 ∷ 0 ∷ 0 ∷ 0 ∷ 0 ∷ 0 ∷ 0 ∷ 0 ∷ 0 ∷ 0 ∷ 0 ∷ 0 ∷ 0 ∷ 0 ∷ 0 ∷ 0 ∷ 8 ∷ 0 ∷ 0 ∷ 0 ∷
    0 ∷ 0 ∷ 0 ∷ 0 ∷ 4 ∷ 0 ∷ 0 ∷ 0 ∷ 68 ∷ 172 ∷ 0 ∷ 0 ∷ 60 ∷ 0 ∷ 0 ∷ 0 ∷ 1 ∷ 0 ∷ 69 ∷ 79 ∷ 83 ∷ 0 ∷ 0 ∷ 0 ∷ 0 ∷ 0 ∷ 0 ∷ 0 ∷
    0 ∷ 0 ∷ 0 ∷ 0 ∷ 0 ∷ 0 ∷ 0 ∷ 0 ∷ 0 ∷ 0 ∷ 0 ∷ 0 ∷ 0 ∷ 0 ∷ 0 ∷ 0 ∷ 0 ∷ 0 ∷ 0 ∷ 0 ∷ 0 ∷ 0 ∷ 0 ∷ 0 ∷ 0 ∷ 0 ∷ 0 ∷ 0 ∷
    0 ∷ 0 ∷ 0 ∷ 0 ∷ 0 ∷ 0 ∷ 0 ∷ 0 ∷ []

-- its samples
abbrev pub ram : List ℤ
ram = pos 0 ∷ pos 900 ∷ pos 1000 ∷ pos 900 ∷ pos 0 ∷ pos 100 ∷ pos 50 ∷ pos 0 ∷ []

-- the voice that it starts
abbrev voice : Voice
voice =
    record {
      stage = Delay 0;
      place = 0;
      channel = 0;
      key = 60;
      velocity = 100;
      marked = false;
      class = 0;
      rom = false;
      start = 0;
      end = 8;
      mode = 1;
      loopfrom = 0;
      loopto = 4;
      rate = 44100;
      pitch = pos 0;
      pan = pos 0;
      attenuation = pos 41;
      attack = 43;
      hold = 43;
      decay = 43;
      sustain = 0;
      release = 43;
    }

-- it is struck
abbrev pub before : List Call
before = NoteOn bell ram [] 0 60 100 ∷ []

-- the state then
abbrev pub struck_bell : Engine
struck_bell =
    record { voices = voice ∷ replicate 31 blank; channels = replicate 16 fresh_channel; sounding = 1; order = up_from 1 31 ++ (0 ∷ []); clock = 0 }

-- five frames in two cuts; between them a key is left, another channel is bent, a note-on is refused and another key is struck
abbrev pub meanwhile : List Call
meanwhile =
    Render 3 ram [] (replicate 6 nan)
    ∷ NoteOff 0 61
    ∷ Bend 1 9000
    ∷ NoteOn [] ram [] 0 60 100
    ∷ NoteOn bell ram [] 0 64 90
    ∷ Render 5 ram [] (replicate 4 nan)
    ∷ []

-- what is computed: the state once it is struck; that each call meets the conditions, at a pitch total of 0 cents; the frames;
-- and the place after them, five steps of one sample folded into the loop of four
pub record Computed : Type 0 where
  pub struck : run before fresh ≡ struck_bell
  pub conditions : KeepsAll 0 (pos 0) meanwhile struck_bell
  pub five : frames_run meanwhile struck_bell ≡ 5
  pub at-sample-one : (voice_in 0 (run meanwhile struck_bell)).place ≡ 16777216
  -- in front of frame 1, inside the first render, and of frame 4, inside the second
  pub there : (slot_at (in_front 1 meanwhile struck_bell) 0).sounding ≡ true
  pub there-past : past (voice_in 0 (in_front 1 meanwhile struck_bell)).stage ≡ true
  pub there-rate : (voice_in 0 (in_front 1 meanwhile struck_bell)).rate ≡ 44100
  pub there-mode : (voice_in 0 (in_front 1 meanwhile struck_bell)).mode ≡ 1
  pub there-place : (voice_in 0 (in_front 1 meanwhile struck_bell)).place ≡ 16777216
  pub later : (slot_at (in_front 4 meanwhile struck_bell) 0).sounding ≡ true
  pub later-place : (voice_in 0 (in_front 4 meanwhile struck_bell)).place ≡ 0

-- each by running the definitions
pub computed : Computed
unfolding CurvesLevels.gain_of CurvesLevels.cb_of CurvesLevels.above CurvesLevels.least_cb CurvesTimes.frames_up CurvesTimes.frames CurvesPitch.bend_cents CurvesPitch.step_of CurvesInternalPitch.step_at CurvesTables.all_le RecordsInternalAmounts.poured_from RecordsInternalAmounts.poured ArithBytes.u8_at ArithBytes.u16_at ArithBytes.u32_at ArithBytes.i8_at ArithBytes.i16_at RecordsChunks.chunk_at RecordsChunks.name_at RecordsChunks.bytes_in RecordsChunks.body RecordsChunks.records RecordsLooking.first RecordsLooking.last RecordsSides.presets RecordsSides.instruments RecordsSides.parts_of RecordsSides.bag_of RecordsSides.gen_of RecordsSides.mod_of RecordsSides.operator RecordsSides.amount RecordsSides.signed RecordsHeaders.program_of RecordsHeaders.bank_of ArithHolds.between ArithHolds.between_z ArithFloors.mod_z ArithHolds.word32 RecordsWindows.shifted RecordsWindows.place_moved RecordsWindows.start_of RecordsWindows.end_of RecordsWindows.loop_start_of RecordsWindows.loop_end_of RecordsWindows.mode_of RecordsWindows.loops RecordsWindows.good_places RecordsWindows.good_window RecordsHeaders.rate_of RecordsHeaders.rom_of RecordsZones.zone_count RecordsZones.gen_count RecordsZones.has RecordsZones.closing_of RecordsZones.zone_at RecordsZones.global_of RecordsZones.last_of RecordsZones.amount_in RecordsZones.value RecordsZones.zone_below RecordsZones.first_zone BankAdmission.long_fault BankFraming.bad_chunk BankFraming.chunk_fault BankFraming.bad_records BankFraming.records_fault BankIndexes.falls_at BankIndexes.ends_wrong BankIndexes.bad_at BankIndexes.bad_head BankIndexes.bad_bag BankIndexes.head_fault BankIndexes.bag_fault BankIndexes.index_fault BankLinks.bad_number BankLinks.zone_link_at BankLinks.link_fault BankLinks.number_fault BankRates.names_sample BankRates.bad_rate BankRates.rate_fault BankBounds.bad_window BankBounds.window_fault BankAdmission.fault_of BankAdmission.admitted LayersLayerSearch.is_preset LayersLayerSearch.preset_for LayersLayerSearch.picked LayersLayerSearch.chosen LayersLayerSearch.under LayersLayerSearch.all_under LayersLayerSearch.layers_below LayersLayerSearch.layers_of LayersLayerSearchLaws.layer_count LayersInternalLayerSearch.up_to33 LayersInternalLayerSearch.searched LayersLayerSearch.layer_of LayersRanges.range_at LayersRanges.inside LayersRanges.has_as LayersRanges.key_range LayersRanges.velocity_range LayersRanges.matches TotalsValues.instrument_only TotalsValues.default_of TotalsValues.held_total TotalsValues.total_of TotalsValues.total TotalsSettings.if_midi TotalsSettings.key_of TotalsSettings.root_of TotalsSettings.pitch_of TotalsSettings.keyed_time TotalsSettings.softness TotalsSettings.attenuation_of TotalsSettings.play_mode LayersVoicing.voice_by LayersVoicing.voice_of LayersVoicing.voices_of LayersVoicing.has_preset LayersVoicing.struck_voices LayersInternalVoicing.struck_of VoiceFrames.go_on VoiceFrames.loud VoiceFrames.read_and_moved VoiceFrames.living VoiceFrames.frame_at VoiceFrames.frame VoiceMotion.pitch_total VoiceMotion.step VoiceMotion.folds VoiceMotion.fold VoiceMotion.settled VoiceMotion.ended VoiceRelease.release VoiceFrames.after VoiceInternalFrames.heard VoiceInternalFrames.after_at VoiceInternalFrames.heard_at VoiceStages.level_at VoiceStages.decay_at VoiceStages.release_at VoiceStages.from_decay VoiceStages.from_hold VoiceStages.from_attack VoiceStages.from_delay EventsBends.pitch_bend EventsKeys.pedal_held StateSlots.cut EventsControls.pedal EventsControls.silence EventsControls.controlled EventsControls.control_change EventsStriking.bank_from StateSlots.of_channel EventsKeys.held EventsKeys.held_key EventsKeys.let_off EventsKeys.off EventsKeys.off_key EventsKeys.note_off EventsStriking.channel_bank EventsStarting.any_past EventsStarting.class_in EventsStarting.rival EventsStarting.start EventsStarting.start_all EventsStarting.cleared EventsStarting.struck EventsStriking.note_on_number EventsStriking.note_on EngineRendering.distance EngineRendering.window EngineRendering.lacking EngineRendering.render_number EngineRendering.played EngineRendering.render StateSeats.lowest_free StateSeats.claim StateSeats.least_by StateSeats.taken StateSeats.seat StateSeats.without StateSeats.renewed StateSeats.start_in StateSlots.paired StateSlots.word_of StateQuiet.fresh run frames_run seats among moment
computed =
    record {
      struck = refl;
      conditions = (
        record { lives = refl; own = refl; tuned = λ h. refl },
        (
          record { lives = refl; own = refl; tuned = λ h. refl },
          (
            record { lives = refl; own = refl; tuned = λ h. refl },
            (
              record { lives = refl; own = refl; tuned = λ h. refl },
              (
                record { lives = refl; own = refl; tuned = λ h. refl },
                (
                  record { lives = refl; own = refl; tuned = λ h. refl },
                  tt,
                ),
              ),
            ),
          ),
        ),
      );
      five = refl;
      at-sample-one = refl;
      there = refl;
      there-past = refl;
      there-rate = refl;
      there-mode = refl;
      there-place = refl;
      later = refl;
      later-place = refl;
    }

-- so demand 3 speaks of it
pub bell-moved : Moved 0 (pos 0) (frames_run meanwhile (run before fresh)) (run before fresh) (run meanwhile (run before fresh))
unfolding StateSlots.paired
bell-moved =
    place-always before 0 (pos 0) meanwhile
    (ap (λ (e : Engine). (slot_at e 0).sounding) computed.struck)
    (ap (λ (e : Engine). past (voice_in 0 e).stage) computed.struck)
    (subst (λ (n : ℕ). 0 < n) (sym (ap (frames_run meanwhile) computed.struck ∙ computed.five)) (omega arith))
    (subst (λ (e : Engine). KeepsAll 0 (pos 0) meanwhile e) (sym computed.struck) computed.conditions)
    (λ h. absurd (eqb-false 1 3 refl (sym (ap (λ (e : Engine). (voice_in 0 e).mode) computed.struck) ∙ h)))

-- and of its frames 1 and 4, each inside a render
pub bell-between : Moved 0 (pos 0) 3 (in_front 1 meanwhile struck_bell) (in_front 4 meanwhile struck_bell)
bell-between =
    place-between meanwhile struck_bell 0 1 4 (pos 0) (omega arith) (rw computed.five (omega arith)) computed.there computed.there-past
    (rw computed.there-rate (omega arith, omega arith))
    (record {
      lives = computed.later;
      own = λ k h j. keeps-own meanwhile 0 (pos 0) struck_bell computed.conditions k;
      tuned = λ k h j. keeps-tuned meanwhile 0 (pos 0) struck_bell computed.conditions k (rw computed.five (omega arith));
    })
    (λ h. absurd (eqb-false 1 3 refl (sym computed.there-mode ∙ h)))
