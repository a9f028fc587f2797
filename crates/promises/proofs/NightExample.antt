-- Nights that meet the conditions of `Night.antt`, computed: a piece run twice over itself, a night in which voices are taken; and a render that is cut.
use Prim.Native.Nat.{ℕ, ◌≤◌, zero, suc, ◌+◌}
use mathlib.Core.List.{List, [], ◌∷◌, ◌++◌}
use mathlib.Core.Bool.{Bool, true, false, cond}
use mathlib.Core.Path.{◌≡◌, refl, sym, ap, ◌∙◌, subst}
use lib.ListN.{replicate, get_or}
use lib.Dec.{eqb, leb}
use lib.Ieee.{nan}
use lib.IntN.{pos}
use Rattle.voice.specs.declared.Stage.TheVariants.{Delay, Release}
use native.Mathlib.Omega.{arith}
use Rattle.arith.specs.Lists.{count_if}
use Rattle.voice.specs.declared.Voice.{Voice}
use Rattle.state.specs.declared.Engine.{Engine}
use Rattle.state.specs.Slots.{slot_at, slots_of}
use Rattle.state.specs.Channels.{channel_at, no_channel}
use Rattle.voice.specs.declared.Channel.{Channel}
use Rattle.state.specs.Answers.{done}
use Rattle.state.specs.Answers.{Answered}
use Rattle.voice.specs.Changes.{blank, with_stage}
use Rattle.promises.proofs.Seats.{begun-is}
use Rattle.promises.proofs.EachSlot.{never}
use Rattle.promises.proofs.Cuts.{any-cut}
use Rattle.promises.specs.Cuts.{ahead, together, Pieces, none, asks, refuses, piece, SameAsWhole}
use Rattle.promises.proofs.Night.{key_left, october, free-in-time, night-ends}
use Rattle.state.specs.Quiet.{fresh_channel, up_from, fresh}
use Rattle.events.specs.Keys.{held_key}
use Rattle.promises.specs.Calls.{Call, NoteOn, NoteOff, Render, Ask, does, run, begun, starts_in, next, history, frames_run, voice_in, seats, among}
use Rattle.promises.specs.Night.{Piece, ends, left, right, Overlap, quiet, more, struck_after, NotHeld, NoPedal, AllReleased, longest, longest_release}
use Rattle.promises.proofs.Demand3Example.{bell, ram, struck_bell}
use Rattle.curves.specs.Levels as CurvesLevels
use Rattle.curves.specs.Times as CurvesTimes
use Rattle.curves.specs.Pitch as CurvesPitch
use Rattle.arith.specs.Bytes as ArithBytes
use Rattle.records.specs.Chunks as RecordsChunks
use Rattle.records.specs.Looking as RecordsLooking
use Rattle.records.specs.Sides as RecordsSides
use Rattle.records.specs.Headers as RecordsHeaders
use Rattle.arith.specs.Holds as ArithHolds
use Rattle.arith.specs.Floors as ArithFloors
use Rattle.records.specs.Windows as RecordsWindows
use Rattle.records.specs.Zones as RecordsZones
use Rattle.bank.specs.Admission as BankAdmission
use Rattle.bank.specs.Framing as BankFraming
use Rattle.bank.specs.Indexes as BankIndexes
use Rattle.bank.specs.Links as BankLinks
use Rattle.bank.specs.Rates as BankRates
use Rattle.bank.specs.Bounds as BankBounds
use Rattle.layers.specs.LayerSearch as LayersLayerSearch
use Rattle.layers.specs.Ranges as LayersRanges
use Rattle.totals.specs.Values as TotalsValues
use Rattle.totals.specs.Settings as TotalsSettings
use Rattle.layers.specs.Voicing as LayersVoicing
use Rattle.voice.specs.Frames as VoiceFrames
use Rattle.voice.specs.Motion as VoiceMotion
use Rattle.voice.specs.Release as VoiceRelease
use Rattle.voice.specs.Stages as VoiceStages
use Rattle.events.specs.Keys as EventsKeys
use Rattle.state.specs.Slots as StateSlots
use Rattle.events.specs.Striking as EventsStriking
use Rattle.events.specs.Starting as EventsStarting
use Rattle.engine.specs.Rendering as EngineRendering
use Rattle.state.specs.Seats as StateSeats
use Rattle.state.specs.Quiet as StateQuiet

-- ---- what all nights here have

-- a bell is struck and left
piece-left : (b : List ℕ) → Piece (NoteOn b ram [] 0 60 100 ∷ NoteOff 0 60 ∷ [])
unfolding struck_after
piece-left b c k = by (cond (eqb 0 c) (eqb 60 k) false)
  where
    by : (x : Bool) → cond x false (cond x true false) ≡ false
    by true = refl
    by false = refl

-- channels as at first: no pedal is down
pedals-up : (e : Engine) → e.channels ≡ replicate 16 fresh_channel → NoPedal e
pedals-up e h c = ap (λ (cs : List Channel). leb 64 (get_or cs c no_channel).pedal) h ∙ up 16 c
  where
    up : (n d : ℕ) → leb 64 (get_or (replicate n fresh_channel) d no_channel).pedal ≡ false
    up zero d = refl
    up (suc n) zero = refl
    up (suc n) (suc d) = up n d

-- ---- a piece run twice over itself

-- the bell is struck, and struck again before it is left
abbrev twice : List Call
twice = NoteOn bell ram [] 0 60 100 ∷ Render 3 ram [] (replicate 6 nan) ∷ NoteOn bell ram [] 0 60 100 ∷ Render 5 ram [] (replicate 4 nan) ∷ []

-- it is left twice
abbrev night : List Call
night = twice ++ (NoteOff 0 60 ∷ NoteOff 0 60 ∷ [])

-- the piece (strike and leave) runs into itself, and into the renders
night-overlaps : Overlap night
unfolding struck_after
night-overlaps =
    more {xs = NoteOn bell ram [] 0 60 100 ∷ NoteOff 0 60 ∷ []} (piece-left bell)
    (more {xs = NoteOn bell ram [] 0 60 100 ∷ NoteOff 0 60 ∷ []} (piece-left bell)
    (more {xs = Render 3 ram [] (replicate 6 nan) ∷ Render 5 ram [] (replicate 4 nan) ∷ []} (λ c k. refl) quiet (left (left ends)))
    (right (left (right (left ends)))))
    (left (right (right (right (left (right ends))))))

-- 44 frames more
abbrev morning : List Call
morning = Render 49 ram [] (replicate 88 nan) ∷ []

-- two voices of one key are held; the first note-off reaches both, and both still sound at the end; their releases have 43 frames
pub record Overlapping : Type 0 where
  pub two-held : count_if (held_key 0 60) (slots_of (run twice fresh)) ≡ 2
  pub both-reached : (does (NoteOff 0 60) (run twice fresh)).count ≡ 2
  pub both-sound : (run night fresh).sounding ≡ 3
  pub first-sounds : (slot_at (run night fresh) 0).sounding ≡ true
  pub channels : (run night fresh).channels ≡ replicate 16 fresh_channel
  pub longest : longest_release (run night fresh) ≡ 43
  pub release : (voice_in 0 (run night fresh)).release ≡ 43
  pub frames : frames_run morning (run night fresh) ≡ 44

pub bell-overlaps : Overlapping
unfolding CurvesLevels.gain_of CurvesLevels.cb_of CurvesLevels.above CurvesLevels.least_cb CurvesTimes.frames_up CurvesTimes.frames CurvesPitch.bend_cents CurvesPitch.step_of ArithBytes.u8_at ArithBytes.u16_at ArithBytes.u32_at ArithBytes.i8_at ArithBytes.i16_at RecordsChunks.chunk_at RecordsChunks.name_at RecordsChunks.bytes_in RecordsChunks.body RecordsChunks.records RecordsLooking.first RecordsLooking.last RecordsSides.presets RecordsSides.instruments RecordsSides.parts_of RecordsSides.bag_of RecordsSides.gen_of RecordsSides.mod_of RecordsSides.operator RecordsSides.amount RecordsSides.signed RecordsHeaders.program_of RecordsHeaders.bank_of ArithHolds.between ArithHolds.between_z ArithFloors.mod_z ArithHolds.word32 RecordsWindows.shifted RecordsWindows.place_moved RecordsWindows.start_of RecordsWindows.end_of RecordsWindows.loop_start_of RecordsWindows.loop_end_of RecordsWindows.mode_of RecordsWindows.loops RecordsWindows.good_places RecordsWindows.good_window RecordsHeaders.rate_of RecordsHeaders.rom_of RecordsZones.zone_count RecordsZones.gen_count RecordsZones.has RecordsZones.closing_of RecordsZones.zone_at RecordsZones.global_of RecordsZones.last_of RecordsZones.amount_in RecordsZones.value RecordsZones.zone_below RecordsZones.first_zone BankAdmission.long_fault BankFraming.bad_chunk BankFraming.chunk_fault BankFraming.bad_records BankFraming.records_fault BankIndexes.falls_at BankIndexes.ends_wrong BankIndexes.bad_at BankIndexes.bad_head BankIndexes.bad_bag BankIndexes.head_fault BankIndexes.bag_fault BankIndexes.index_fault BankLinks.bad_number BankLinks.zone_link_at BankLinks.link_fault BankLinks.number_fault BankRates.names_sample BankRates.bad_rate BankRates.rate_fault BankBounds.bad_window BankBounds.window_fault BankAdmission.fault_of BankAdmission.admitted LayersLayerSearch.is_preset LayersLayerSearch.preset_for LayersLayerSearch.picked LayersLayerSearch.chosen LayersLayerSearch.under LayersLayerSearch.all_under LayersLayerSearch.layers_below LayersLayerSearch.layers_of LayersLayerSearch.layer_of LayersRanges.range_at LayersRanges.inside LayersRanges.has_as LayersRanges.key_range LayersRanges.velocity_range LayersRanges.matches TotalsValues.instrument_only TotalsValues.default_of TotalsValues.held_total TotalsValues.total_of TotalsValues.total TotalsSettings.if_midi TotalsSettings.key_of TotalsSettings.root_of TotalsSettings.pitch_of TotalsSettings.keyed_time TotalsSettings.softness TotalsSettings.attenuation_of TotalsSettings.play_mode LayersVoicing.voice_by LayersVoicing.voice_of LayersVoicing.voices_of LayersVoicing.has_preset LayersVoicing.struck_voices VoiceFrames.go_on VoiceFrames.loud VoiceFrames.read_and_moved VoiceFrames.living VoiceFrames.frame_at VoiceFrames.frame VoiceMotion.pitch_total VoiceMotion.step VoiceMotion.folds VoiceMotion.fold VoiceMotion.settled VoiceMotion.ended VoiceRelease.release VoiceFrames.after VoiceStages.level_at VoiceStages.decay_at VoiceStages.release_at VoiceStages.from_decay VoiceStages.from_hold VoiceStages.from_attack VoiceStages.from_delay StateSlots.cut EventsStriking.bank_from StateSlots.of_channel EventsKeys.held EventsKeys.held_key EventsKeys.let_off EventsKeys.off EventsKeys.off_key EventsKeys.note_off EventsStriking.channel_bank EventsStarting.any_past EventsStarting.class_in EventsStarting.rival EventsStarting.start EventsStarting.start_all EventsStarting.cleared EventsStarting.struck EventsStriking.note_on_number EventsStriking.note_on EngineRendering.distance EngineRendering.window EngineRendering.lacking EngineRendering.render_number EngineRendering.played EngineRendering.render StateSeats.lowest_free StateSeats.claim StateSeats.least_by StateSeats.taken StateSeats.seat StateSeats.without StateSeats.renewed StateSeats.start_in StateSlots.paired StateSlots.word_of StateQuiet.fresh run frames_run seats among longest
bell-overlaps =
    record {
      two-held = refl;
      both-reached = refl;
      both-sound = refl;
      first-sounds = refl;
      channels = refl;
      longest = refl;
      release = refl;
      frames = refl;
    }

-- the frames of the longest release are 8,000 timecents
pub longest-frames : CurvesTimes.frames (pos 8000) (pos 8000) ≡ 4480280
unfolding CurvesTimes.frames CurvesTimes.frames_up
longest-frames = refl

-- from a state that holds two voices of a key: its note-off leaves none held
pub bell-left : NotHeld 0 60 (run (NoteOff 0 60 ∷ []) (run twice fresh))
unfolding struck_after
bell-left = key_left 0 60 true (NoteOff 0 60 ∷ []) (run twice fresh) (omega arith) (omega arith) (λ z. absurd (never (sym z))) refl

-- so the night is one of those that the theorems speak of: both voices are released,
pub bell-released : AllReleased (run night fresh)
bell-released = october night night-overlaps (pedals-up (run night fresh) bell-overlaps.channels)

-- slot 0 is free 44 frames later,
pub bell-free : (slot_at (run morning (run night fresh)) 0).sounding ≡ false
unfolding history seats among
bell-free =
    free-in-time 0 morning (run night fresh) (bell-released 0 bell-overlaps.first-sounds) refl
    (subst (λ (n : ℕ). n + 1 ≤ frames_run morning (run night fresh)) (sym bell-overlaps.release) (subst (λ (n : ℕ). 44 ≤ n) (sym bell-overlaps.frames) (omega arith)))

-- and no slot sounds
pub bell-silent : (run morning (run night fresh)).sounding ≡ 0
bell-silent =
    night-ends night morning night-overlaps (pedals-up (run night fresh) bell-overlaps.channels) (λ c k. refl, tt)
    (subst (λ (n : ℕ). n + 1 ≤ frames_run morning (run night fresh)) (sym bell-overlaps.longest) (subst (λ (n : ℕ). 44 ≤ n) (sym bell-overlaps.frames) (omega arith)))

-- ---- a night in which voices are taken

-- a bank: one preset, one instrument of 11 zones, so 11 layers for each key
abbrev peal : List ℕ
peal =
    112 ∷ 104 ∷ 100 ∷ 114 ∷ 76 ∷ 0 ∷ 0 ∷ 0 ∷ 112 ∷ 101 ∷ 97 ∷ 108 ∷ 0 ∷ 0 ∷ 0 ∷ 0 ∷ 0 ∷ 0 ∷ 0 ∷ 0 ∷ 0 ∷ 0 ∷ 0 ∷ 0 ∷ 0 ∷ 0 ∷ 0 ∷ 0 ∷
    0 ∷ 0 ∷ 0 ∷ 0 ∷ 0 ∷ 0 ∷ 0 ∷ 0 ∷ 0 ∷ 0 ∷ 0 ∷ 0 ∷ 0 ∷ 0 ∷ 0 ∷ 0 ∷ 0 ∷ 0 ∷ 69 ∷ 79 ∷ 80 ∷ 0 ∷ 0 ∷ 0 ∷ 0 ∷ 0 ∷ 0 ∷ 0 ∷
    0 ∷ 0 ∷ 0 ∷ 0 ∷ 0 ∷ 0 ∷ 0 ∷ 0 ∷ 0 ∷ 0 ∷ 0 ∷ 0 ∷ 0 ∷ 0 ∷ 1 ∷ 0 ∷ 0 ∷ 0 ∷ 0 ∷ 0 ∷ 0 ∷ 0 ∷ 0 ∷ 0 ∷ 0 ∷ 0 ∷ 0 ∷ 0 ∷
    112 ∷ 98 ∷ 97 ∷ 103 ∷ 8 ∷ 0 ∷ 0 ∷ 0 ∷ 0 ∷ 0 ∷ 0 ∷ 0 ∷ 1 ∷ 0 ∷ 0 ∷ 0 ∷ 112 ∷ 109 ∷ 111 ∷ 100 ∷ 10 ∷ 0 ∷ 0 ∷ 0 ∷ 0 ∷ 0 ∷ 0 ∷ 0 ∷
    0 ∷ 0 ∷ 0 ∷ 0 ∷ 0 ∷ 0 ∷ 112 ∷ 103 ∷ 101 ∷ 110 ∷ 8 ∷ 0 ∷ 0 ∷ 0 ∷ 41 ∷ 0 ∷ 0 ∷ 0 ∷ 0 ∷ 0 ∷ 0 ∷ 0 ∷ 105 ∷ 110 ∷ 115 ∷ 116 ∷ 44 ∷ 0 ∷
    0 ∷ 0 ∷ 112 ∷ 101 ∷ 97 ∷ 108 ∷ 0 ∷ 0 ∷ 0 ∷ 0 ∷ 0 ∷ 0 ∷ 0 ∷ 0 ∷ 0 ∷ 0 ∷ 0 ∷ 0 ∷ 0 ∷ 0 ∷ 0 ∷ 0 ∷ 0 ∷ 0 ∷ 69 ∷ 79 ∷ 73 ∷ 0 ∷
    0 ∷ 0 ∷ 0 ∷ 0 ∷ 0 ∷ 0 ∷ 0 ∷ 0 ∷ 0 ∷ 0 ∷ 0 ∷ 0 ∷ 0 ∷ 0 ∷ 0 ∷ 0 ∷ 11 ∷ 0 ∷ 105 ∷ 98 ∷ 97 ∷ 103 ∷ 48 ∷ 0 ∷ 0 ∷ 0 ∷ 0 ∷ 0 ∷
    0 ∷ 0 ∷ 1 ∷ 0 ∷ 0 ∷ 0 ∷ 2 ∷ 0 ∷ 0 ∷ 0 ∷ 3 ∷ 0 ∷ 0 ∷ 0 ∷ 4 ∷ 0 ∷ 0 ∷ 0 ∷ 5 ∷ 0 ∷ 0 ∷ 0 ∷ 6 ∷ 0 ∷ 0 ∷ 0 ∷ 7 ∷ 0 ∷
    0 ∷ 0 ∷ 8 ∷ 0 ∷ 0 ∷ 0 ∷ 9 ∷ 0 ∷ 0 ∷ 0 ∷ 10 ∷ 0 ∷ 0 ∷ 0 ∷ 11 ∷ 0 ∷ 0 ∷ 0 ∷ 105 ∷ 109 ∷ 111 ∷ 100 ∷ 10 ∷ 0 ∷ 0 ∷ 0 ∷ 0 ∷ 0 ∷
    0 ∷ 0 ∷ 0 ∷ 0 ∷ 0 ∷ 0 ∷ 0 ∷ 0 ∷ 105 ∷ 103 ∷ 101 ∷ 110 ∷ 48 ∷ 0 ∷ 0 ∷ 0 ∷ 53 ∷ 0 ∷ 0 ∷ 0 ∷ 53 ∷ 0 ∷ 0 ∷ 0 ∷ 53 ∷ 0 ∷ 0 ∷ 0 ∷
    53 ∷ 0 ∷ 0 ∷ 0 ∷ 53 ∷ 0 ∷ 0 ∷ 0 ∷ 53 ∷ 0 ∷ 0 ∷ 0 ∷ 53 ∷ 0 ∷ 0 ∷ 0 ∷ 53 ∷ 0 ∷ 0 ∷ 0 ∷ 53 ∷ 0 ∷ 0 ∷ 0 ∷ 53 ∷ 0 ∷ 0 ∷ 0 ∷
    53 ∷ 0 ∷ 0 ∷ 0 ∷ 0 ∷ 0 ∷ 0 ∷ 0 ∷ 115 ∷ 104 ∷ 100 ∷ 114 ∷ 92 ∷ 0 ∷ 0 ∷ 0 ∷ 98 ∷ 101 ∷ 108 ∷ 108 ∷ 0 ∷ 0 ∷ 0 ∷ 0 ∷ 0 ∷ 0 ∷ 0 ∷ 0 ∷
    0 ∷ 0 ∷ 0 ∷ 0 ∷ 0 ∷ 0 ∷ 0 ∷ 0 ∷ 0 ∷ 0 ∷ 0 ∷ 0 ∷ 8 ∷ 0 ∷ 0 ∷ 0 ∷ 0 ∷ 0 ∷ 0 ∷ 0 ∷ 4 ∷ 0 ∷ 0 ∷ 0 ∷ 68 ∷ 172 ∷ 0 ∷ 0 ∷
    60 ∷ 0 ∷ 0 ∷ 0 ∷ 1 ∷ 0 ∷ 69 ∷ 79 ∷ 83 ∷ 0 ∷ 0 ∷ 0 ∷ 0 ∷ 0 ∷ 0 ∷ 0 ∷ 0 ∷ 0 ∷ 0 ∷ 0 ∷ 0 ∷ 0 ∷ 0 ∷ 0 ∷ 0 ∷ 0 ∷ 0 ∷ 0 ∷
    0 ∷ 0 ∷ 0 ∷ 0 ∷ 0 ∷ 0 ∷ 0 ∷ 0 ∷ 0 ∷ 0 ∷ 0 ∷ 0 ∷ 0 ∷ 0 ∷ 0 ∷ 0 ∷ 0 ∷ 0 ∷ 0 ∷ 0 ∷ 0 ∷ 0 ∷ 0 ∷ 0 ∷ []

-- the voice of each layer
abbrev layer : Voice
layer =
    record {
      stage = Delay 43;
      place = 0;
      channel = 0;
      key = 60;
      velocity = 100;
      marked = false;
      class = 0;
      rom = false;
      start = 0;
      end = 8;
      mode = 0;
      loopfrom = 0;
      loopto = 4;
      rate = 44100;
      pitch = pos 0;
      pan = pos 0;
      attenuation = pos 41;
      attack = 43;
      hold = 43;
      decay = 43;
      sustain = 0;
      release = 43;
    }

-- what the bank says
record Cast : Type 0 where
  admitted : BankAdmission.admitted peal ≡ true
  preset : LayersVoicing.has_preset peal 0 0 ≡ true
  layers : LayersVoicing.struck_voices peal 0 0 0 60 100 ≡ replicate 11 layer

cast : Cast
unfolding CurvesLevels.gain_of CurvesLevels.cb_of CurvesLevels.above CurvesLevels.least_cb CurvesTimes.frames_up CurvesTimes.frames CurvesPitch.bend_cents CurvesPitch.step_of ArithBytes.u8_at ArithBytes.u16_at ArithBytes.u32_at ArithBytes.i8_at ArithBytes.i16_at RecordsChunks.chunk_at RecordsChunks.name_at RecordsChunks.bytes_in RecordsChunks.body RecordsChunks.records RecordsLooking.first RecordsLooking.last RecordsSides.presets RecordsSides.instruments RecordsSides.parts_of RecordsSides.bag_of RecordsSides.gen_of RecordsSides.mod_of RecordsSides.operator RecordsSides.amount RecordsSides.signed RecordsHeaders.program_of RecordsHeaders.bank_of ArithHolds.between ArithHolds.between_z ArithFloors.mod_z ArithHolds.word32 RecordsWindows.shifted RecordsWindows.place_moved RecordsWindows.start_of RecordsWindows.end_of RecordsWindows.loop_start_of RecordsWindows.loop_end_of RecordsWindows.mode_of RecordsWindows.loops RecordsWindows.good_places RecordsWindows.good_window RecordsHeaders.rate_of RecordsHeaders.rom_of RecordsZones.zone_count RecordsZones.gen_count RecordsZones.has RecordsZones.closing_of RecordsZones.zone_at RecordsZones.global_of RecordsZones.last_of RecordsZones.amount_in RecordsZones.value RecordsZones.zone_below RecordsZones.first_zone BankAdmission.long_fault BankFraming.bad_chunk BankFraming.chunk_fault BankFraming.bad_records BankFraming.records_fault BankIndexes.falls_at BankIndexes.ends_wrong BankIndexes.bad_at BankIndexes.bad_head BankIndexes.bad_bag BankIndexes.head_fault BankIndexes.bag_fault BankIndexes.index_fault BankLinks.bad_number BankLinks.zone_link_at BankLinks.link_fault BankLinks.number_fault BankRates.names_sample BankRates.bad_rate BankRates.rate_fault BankBounds.bad_window BankBounds.window_fault BankAdmission.fault_of BankAdmission.admitted LayersLayerSearch.is_preset LayersLayerSearch.preset_for LayersLayerSearch.picked LayersLayerSearch.chosen LayersLayerSearch.under LayersLayerSearch.all_under LayersLayerSearch.layers_below LayersLayerSearch.layers_of LayersLayerSearch.layer_of LayersRanges.range_at LayersRanges.inside LayersRanges.has_as LayersRanges.key_range LayersRanges.velocity_range LayersRanges.matches TotalsValues.instrument_only TotalsValues.default_of TotalsValues.held_total TotalsValues.total_of TotalsValues.total TotalsSettings.if_midi TotalsSettings.key_of TotalsSettings.root_of TotalsSettings.pitch_of TotalsSettings.keyed_time TotalsSettings.softness TotalsSettings.attenuation_of TotalsSettings.play_mode LayersVoicing.voice_by LayersVoicing.voice_of LayersVoicing.voices_of LayersVoicing.has_preset LayersVoicing.struck_voices
cast = record { admitted = refl; preset = refl; layers = refl }

-- it rings 11 layers in any state whose channel 0 is as at first
rings : (e : Engine) → channel_at e 0 ≡ fresh_channel → does (NoteOn peal ram [] 0 60 100) e ≡ done 11 (EventsStarting.struck 0 (replicate 11 layer) e).engine
unfolding EventsStriking.note_on EventsStriking.note_on_number EventsStriking.bank_from EventsStriking.channel_bank EventsStarting.any_past
rings e h = rw (h, cast.admitted, cast.preset, cast.layers) refl

starts : (e : Engine) → channel_at e 0 ≡ fresh_channel → begun (NoteOn peal ram [] 0 60 100) e ≡ replicate 11 layer
unfolding EventsStriking.bank_from EventsStriking.channel_bank
starts e h =
    begun-is peal ram [] 0 60 100 e (λ z. no z) (ap (λ (a : Answered). a.status) (rings e h)) ∙ rw (h, cast.layers) refl
  where
    no : ◌≡◌ {A = ℕ} 100 0 → ⊥
    no z = omega arith

-- a state with these voices, this word and this order of age
abbrev state : List Voice → ℕ → List ℕ → Engine
state vs word order = record { voices = vs; channels = replicate 16 fresh_channel; sounding = word; order = order; clock = 0 }

-- after one strike, after two, and after the third, whose last layer takes slot 0
abbrev one : Engine
one = state (replicate 11 layer ++ replicate 21 blank) 2047 (up_from 11 21 ++ up_from 0 11)

abbrev two : Engine
two = state (replicate 22 layer ++ replicate 10 blank) 4194303 (up_from 22 10 ++ up_from 0 22)

abbrev three : Engine
three = state (replicate 32 layer) 4294967295 (up_from 1 31 ++ (0 ∷ []))

-- what a strike does to a state, and the slots that it takes
record Rung (e : Engine) (slots : List ℕ) (y : Engine) : Type 0 where
  after : (EventsStarting.struck 0 (replicate 11 layer) e).engine ≡ y
  takes : seats (replicate 11 layer) (record { engine = EventsStarting.cleared 0 (replicate 11 layer) e; mine = 0 }) ≡ slots

rung1 : Rung fresh (up_from 0 11) one
unfolding StateSlots.cut StateSlots.of_channel EventsStarting.class_in EventsStarting.rival EventsStarting.start EventsStarting.start_all EventsStarting.cleared EventsStarting.struck StateSeats.lowest_free StateSeats.claim StateSeats.least_by StateSeats.taken StateSeats.seat StateSeats.without StateSeats.renewed StateSeats.start_in StateSlots.paired StateSlots.word_of StateQuiet.fresh seats
rung1 = record { after = refl; takes = refl }

rung2 : Rung one (up_from 11 11) two
unfolding StateSlots.cut StateSlots.of_channel EventsStarting.class_in EventsStarting.rival EventsStarting.start EventsStarting.start_all EventsStarting.cleared EventsStarting.struck StateSeats.lowest_free StateSeats.claim StateSeats.least_by StateSeats.taken StateSeats.seat StateSeats.without StateSeats.renewed StateSeats.start_in StateSlots.paired StateSlots.word_of StateQuiet.fresh seats
rung2 = record { after = refl; takes = refl }

rung3 : Rung two (up_from 22 10 ++ (0 ∷ [])) three
unfolding StateSlots.cut StateSlots.of_channel EventsStarting.class_in EventsStarting.rival EventsStarting.start EventsStarting.start_all EventsStarting.cleared EventsStarting.struck StateSeats.lowest_free StateSeats.claim StateSeats.least_by StateSeats.taken StateSeats.seat StateSeats.without StateSeats.renewed StateSeats.start_in StateSlots.paired StateSlots.word_of StateQuiet.fresh seats
rung3 = record { after = refl; takes = refl }

-- a strike
abbrev ring : Call
ring = NoteOn peal ram [] 0 60 100

-- its state and its slots
next-is : (e : Engine) (slots : List ℕ) (y : Engine) → channel_at e 0 ≡ fresh_channel → Rung e slots y → next ring e ≡ y
next-is e slots y h r = ap (λ (a : Answered). a.engine) (rings e h) ∙ r.after

starts_is : (e : Engine) (slots : List ℕ) (y : Engine) → channel_at e 0 ≡ fresh_channel → Rung e slots y → starts_in ring e ≡ slots
starts_is e slots y h r =
    ap (λ (vs : List Voice). seats vs (record { engine = EventsStarting.cleared 0 vs e; mine = 0 })) (starts e h) ∙ r.takes

-- the piece run three times over itself
abbrev crowd : List Call
crowd = ring ∷ ring ∷ ring ∷ NoteOff 0 60 ∷ NoteOff 0 60 ∷ NoteOff 0 60 ∷ []

crowd-overlaps : Overlap crowd
crowd-overlaps =
    more {xs = ring ∷ NoteOff 0 60 ∷ []} (piece-left peal)
    (more {xs = ring ∷ NoteOff 0 60 ∷ []} (piece-left peal)
    (more {xs = ring ∷ NoteOff 0 60 ∷ []} (piece-left peal) quiet (left (left ends)))
    (left (right (left (right ends)))))
    (left (right (right (left (right (right ends))))))

-- all 32 voices released, in delay: from 1,000 cB
abbrev rest : Engine
rest = state (replicate 32 (with_stage layer (Release 1000 0))) 4294967295 (up_from 1 31 ++ (0 ∷ []))

off1 : next (NoteOff 0 60) three ≡ rest
unfolding EventsKeys.note_off EventsKeys.off_key EventsKeys.off EventsKeys.let_off EventsKeys.held_key EventsKeys.held StateSlots.of_channel VoiceRelease.release StateSlots.paired StateSlots.word_of
off1 = refl

off2 : next (NoteOff 0 60) rest ≡ rest
unfolding EventsKeys.note_off EventsKeys.off_key EventsKeys.off EventsKeys.let_off EventsKeys.held_key EventsKeys.held StateSlots.of_channel StateSlots.paired StateSlots.word_of
off2 = refl

-- the night's end
crowd-is : run crowd fresh ≡ rest
unfolding run fresh
crowd-is =
    ap (run (ring ∷ ring ∷ NoteOff 0 60 ∷ NoteOff 0 60 ∷ NoteOff 0 60 ∷ [])) (next-is fresh (up_from 0 11) one refl rung1)
    ∙ ap (run (ring ∷ NoteOff 0 60 ∷ NoteOff 0 60 ∷ NoteOff 0 60 ∷ [])) (next-is one (up_from 11 11) two refl rung2)
    ∙ ap (run (NoteOff 0 60 ∷ NoteOff 0 60 ∷ NoteOff 0 60 ∷ [])) (next-is two (up_from 22 10 ++ (0 ∷ [])) three refl rung3)
    ∙ ap (run (NoteOff 0 60 ∷ NoteOff 0 60 ∷ [])) off1
    ∙ ap (run (NoteOff 0 60 ∷ [])) off2
    ∙ off2

-- slot 0 sounds before the third strike, whose last layer takes it; at the end of the night all 32 slots sound
pub record Taking : Type 0 where
  pub sounded : (slot_at (run (ring ∷ ring ∷ []) fresh) 0).sounding ≡ true
  pub taken : among 0 (starts_in ring (run (ring ∷ ring ∷ []) fresh)) ≡ true
  pub all_sound : (run crowd fresh).sounding ≡ 4294967295

pub crowd-takes : Taking
unfolding run fresh among StateSlots.paired
crowd-takes =
    let at : run (ring ∷ ring ∷ []) fresh ≡ two =
    ap (next ring) (next-is fresh (up_from 0 11) one refl rung1) ∙ next-is one (up_from 11 11) two refl rung2 in
    record {
      sounded = ap (λ (e : Engine). (slot_at e 0).sounding) at;
      taken = ap (λ (e : Engine). among 0 (starts_in ring e)) at ∙ ap (among 0) (starts_is two (up_from 22 10 ++ (0 ∷ [])) three refl rung3);
      all_sound = ap (λ (e : Engine). e.sounding) crowd-is;
    }

-- and every one of them is released
pub crowd-released : AllReleased (run crowd fresh)
crowd-released = october crowd crowd-overlaps (pedals-up (run crowd fresh) (ap (λ (e : Engine). e.channels) crowd-is))

-- ---- a render that is cut

-- the struck bell is rendered for five frames at once
abbrev whole : Call
whole = Render 5 ram [] (replicate 10 nan)

-- or for three and then two; between these the panel asks, and a note-off of channel 16 is refused
abbrev first : Call
first = Render (ahead struck_bell 3) ram [] (replicate 6 nan)

abbrev then : Call
then = Render (ahead (next first struck_bell) 2) ram [] (replicate 4 nan)

not_done : (e : Engine) → (does (NoteOff 16 60) e).status ≡ 0 → ⊥
unfolding EventsKeys.note_off
not_done e h = two h
  where
    two : ◌≡◌ {A = ℕ} 2 0 → ⊥
    two z = omega arith

pub pieces : Pieces ram [] (first ∷ Ask 0 ∷ NoteOff 16 60 ∷ then ∷ []) (3 ∷ 2 ∷ []) struck_bell
pieces =
    piece 3 (replicate 6 nan) (omega arith)
    (asks 0 (refuses (NoteOff 16 60) (not_done (next first struck_bell)) (piece 2 (replicate 4 nan) (omega arith) none)))

-- it is done, and has five frames
record Rendered : Type 0 where
  done : (does whole struck_bell).status ≡ 0
  five : EngineRendering.distance struck_bell 5 ≡ 5

rendered : Rendered
unfolding EngineRendering.distance EngineRendering.window EngineRendering.lacking EngineRendering.render_number EngineRendering.played EngineRendering.render StateSlots.paired StateSlots.word_of VoiceFrames.after VoiceFrames.frame VoiceFrames.frame_at VoiceFrames.living VoiceStages.from_delay VoiceStages.from_attack VoiceFrames.read_and_moved VoiceFrames.go_on VoiceMotion.ended VoiceMotion.folds
rendered = record { done = refl; five = refl }

-- so it comes to the same
pub bell-cut : SameAsWhole 5 ram [] (replicate 10 nan) struck_bell (first ∷ Ask 0 ∷ NoteOff 16 60 ∷ then ∷ []) (3 ∷ 2 ∷ []) pieces
unfolding together
bell-cut =
    any-cut 5 ram [] (replicate 10 nan) struck_bell 3 (2 ∷ []) (first ∷ Ask 0 ∷ NoteOff 16 60 ∷ then ∷ []) (omega arith) (omega arith)
    rendered.done (sym rendered.five) pieces
