-- A song of the bell of `Demand3Example`, computed: struck at frame 0 and left at frame 3. It is started by a fresh player, played in two cuts, and ends in silence.
use Rattle.std.proofs.Common.{Some}
use Prim.Native.Nat.{ℕ, ◌<◌, ◌≤◌, ◌+◌}
use mathlib.Core.Bool.{Bool, true, false, cond}
use mathlib.Core.List.{List, [], ◌∷◌, ◌++◌}
use mathlib.Core.Path.{◌≡◌, refl, sym, ap, ◌∙◌, subst}
use native.Mathlib.Omega.{arith}
use lib.Dec.{eqb, lit<, lit≤}
use lib.Ieee.{nan}
use lib.ListN.{replicate}
use Rattle.smf.specs.declared.Cursor.{Cursor}
use Rattle.smf.specs.declared.Event.{Event}
use Rattle.smf.specs.declared.Handed.{Handed}
use Rattle.smf.specs.Track.{Events}
use Rattle.smf.specs.Songs.{events_of, opening_of, handed_of}
use Rattle.state.specs.declared.Engine.{Engine}
use Rattle.state.specs.Quiet.{fresh}
use Rattle.player.specs.declared.Player.{Player}
use Rattle.player.specs.Cues.{song_over, coming_event, idle, with_engine, coming, cued, since, is_due, gap_of}
use Rattle.player.specs.Playing.{answered}
use Rattle.player.specs.Pauses.{hushed_to, freshened_to, readied}
use Rattle.player.proofs.CuesLaws.{reached-due, gap-near}
use Rattle.engine.specs.Rendering.{distance, render_number}
use Rattle.recitals.proofs.Acts.{joined, hushes, freshens, run-append}
use Rattle.recitals.proofs.Turns.{play-number, step-clock}
use Rattle.recitals.proofs.Borders.{start-is-tested, step-is-tested}
use Rattle.recitals.proofs.Parts.{any-cut-of-play}
use Rattle.recitals.proofs.Recital.{start_is, start-calls, song-is-played}
use Rattle.recitals.proofs.Endings.{song-ends-in-silence}
use Rattle.promises.specs.Calls.{Call, NoteOff, Render, run}
use Rattle.promises.specs.Night.{longest, longest_release, struck_after}
use Rattle.promises.proofs.Demand3Example.{bell, ram, struck_bell, before, computed}
use Rattle.recitals.specs.Turns.{Turn, Start, Play, Step, Direct, next_turn, hush_calls, fresh_calls, call_of, one_frame, run_turns}
use Rattle.recitals.specs.Recital.{events_at, events_before, calls_for, recital, Plays, rests, plays, Recited}
use Rattle.promises.specs.Cuts.{ahead, together}
use Rattle.recitals.specs.Parts.{no_part, part, alone, stepped, SameAsOne}
use Rattle.recitals.specs.Endings.{pedal_after, Closed, PlayedOut}
use Rattle.smf.specs.Head as SmfHead
use Rattle.smf.specs.Items as SmfItems
use Rattle.smf.specs.Quantities as SmfQuantities
use Rattle.smf.specs.Songs as SmfSongs
use Rattle.smf.specs.Ticks as SmfTicks
use Rattle.smf.specs.Track as SmfTrack
use Rattle.curves.specs.Levels as CurvesLevels
use Rattle.curves.specs.Times as CurvesTimes
use Rattle.curves.specs.Pitch as CurvesPitch
use Rattle.arith.specs.Bytes as ArithBytes
use Rattle.arith.specs.Floors as ArithFloors
use Rattle.arith.specs.Holds as ArithHolds
use Rattle.voice.specs.Frames as VoiceFrames
use Rattle.voice.specs.Motion as VoiceMotion
use Rattle.voice.specs.Release as VoiceRelease
use Rattle.voice.specs.Stages as VoiceStages
use Rattle.state.specs.Slots as StateSlots
use Rattle.state.specs.Quiet as StateQuiet
use Rattle.events.specs.Bends as EventsBends
use Rattle.events.specs.Controls as EventsControls
use Rattle.events.specs.Keys as EventsKeys
use Rattle.events.specs.Programs as EventsPrograms
use Rattle.engine.specs.Rendering as EngineRendering
use Rattle.player.specs.Pauses as PlayerPauses

-- a file of 22,050 ticks to a quarter note, so that a tick is a frame
abbrev song : List ℕ
song =
    77 ∷ 84 ∷ 104 ∷ 100 ∷ 0 ∷ 0 ∷ 0 ∷ 6 ∷ 0 ∷ 0 ∷ 0 ∷ 1 ∷ 86 ∷ 34
    ∷ 77 ∷ 84 ∷ 114 ∷ 107 ∷ 0 ∷ 0 ∷ 0 ∷ 12 ∷ 0 ∷ 144 ∷ 60 ∷ 100 ∷ 3 ∷ 128 ∷ 60 ∷ 64 ∷ 0 ∷ 255 ∷ 47 ∷ 0 ∷ []

-- its events
abbrev events : List Event
events = record { frame = 0; status = 144; first = 60; second = 100 } ∷ record { frame = 3; status = 128; first = 60; second = 64 } ∷ []

pub song-events : events_of song ≡ Events events
unfolding ArithBytes.u8_at ArithHolds.between SmfHead.chunk_end SmfHead.track_from SmfHead.head_of SmfItems.short_at SmfItems.long_at SmfItems.spoken_at SmfItems.exclusive_at SmfItems.meta_of SmfItems.meta_at SmfItems.item_at SmfQuantities.two_at SmfQuantities.three_at SmfQuantities.four_at SmfQuantities.quantity_from SmfQuantities.quantity_at SmfSongs.events_of SmfTicks.frame_of SmfTrack.acted SmfTrack.obeyed SmfTrack.meet_at SmfTrack.song_from
song-events = refl

-- a fresh engine is as it was once its channels are let go and set
pub start-fresh : freshened_to 16 (hushed_to 16 fresh) ≡ fresh
unfolding PlayerPauses.hushed PlayerPauses.hushed_to PlayerPauses.freshened PlayerPauses.freshened_to EventsControls.control_change EventsControls.controlled EventsControls.pedal EventsPrograms.program_change EventsBends.pitch_bend EventsKeys.off EventsKeys.let_off EventsKeys.held EventsKeys.pedal_held StateSlots.of_channel StateSlots.paired StateSlots.word_of StateQuiet.fresh
start-fresh = refl

-- the calls of its first four frames
abbrev rest : List Call
rest = one_frame ram [] 1 ∷ one_frame ram [] 2 ∷ one_frame ram [] 3 ∷ NoteOff 0 60 ∷ one_frame ram [] 4 ∷ []

pub song-calls : recital bell ram [] events 0 4 ≡ before ++ rest
unfolding recital calls_for call_of events_at
song-calls = refl

-- behind them the bell still sounds, in a release of 43 frames, and a render of 44 more is done
pub record Ringing : Type 0 where
  pub sounds : (run rest struck_bell).sounding ≡ 1
  pub release : longest_release (run rest struck_bell) ≡ 43
  pub far : distance (run rest struck_bell) 48 ≡ 44
  pub number : render_number 48 ram [] 88 (run rest struck_bell) ≡ 0

pub ringing : Ringing
unfolding CurvesLevels.gain_of CurvesLevels.cb_of CurvesLevels.above CurvesLevels.least_cb CurvesTimes.frames_up CurvesTimes.frames CurvesPitch.bend_cents CurvesPitch.step_of ArithFloors.mod_z VoiceFrames.go_on VoiceFrames.loud VoiceFrames.read_and_moved VoiceFrames.living VoiceFrames.frame_at VoiceFrames.frame VoiceMotion.pitch_total VoiceMotion.step VoiceMotion.folds VoiceMotion.fold VoiceMotion.settled VoiceMotion.ended VoiceRelease.release VoiceFrames.after VoiceStages.level_at VoiceStages.decay_at VoiceStages.release_at VoiceStages.from_decay VoiceStages.from_hold VoiceStages.from_attack VoiceStages.from_delay StateSlots.paired StateSlots.word_of StateSlots.of_channel EventsKeys.held EventsKeys.held_key EventsKeys.let_off EventsKeys.off EventsKeys.off_key EventsKeys.note_off EngineRendering.distance EngineRendering.window EngineRendering.lacking EngineRendering.render_number EngineRendering.played EngineRendering.render run longest
ringing = record { sounds = refl; release = refl; far = refl; number = refl }

-- ---- the turns

-- four frames, and then forty-four more
abbrev first : Turn
first = Play song bell ram [] 4 (replicate 8 nan)

abbrev later : Turn
later = Play song bell ram [] 48 (replicate 88 nan)

-- the player behind the start, and when the song is over
abbrev begun : Player
begun = next_turn (Start song) idle

abbrev at_end : Player
at_end = run_turns (Start song ∷ first ∷ []) idle

-- the calls of a start leave a fresh engine as it was
set-fresh : run (hush_calls 16 ++ fresh_calls 16) fresh ≡ fresh
set-fresh = sym (joined (hushes 16 fresh) (freshens 16 (hushed_to 16 fresh))).state ∙ start-fresh

begun-engine : begun.engine ≡ fresh
begun-engine = (start-calls song events song-events idle).state ∙ set-fresh

-- no slot of it sounds, so every render with room is done
first-number : render_number 4 ram [] 8 fresh ≡ 0
unfolding EngineRendering.distance EngineRendering.lacking EngineRendering.render_number StateSlots.paired StateQuiet.fresh
first-number = refl

first_done : (answered song bell ram [] 4 8 begun).number ≡ 0
first_done = play-number song bell ram [] 4 8 begun ∙ ap (render_number 4 ram [] 8) begun-engine ∙ first-number

four : distance begun.engine 4 ≡ 4
unfolding EngineRendering.distance StateQuiet.fresh
four = ap (λ (e : Engine). distance e 4) begun-engine

first-plays : Plays song bell ram [] (first ∷ []) 4 begun
first-plays = subst (λ (n : ℕ). Plays song bell ram [] (first ∷ []) n begun) (ap (λ (n : ℕ). n + 0) four) (plays 4 (replicate 8 nan) first_done rests)

-- the song is played
pub recited : Recited song bell ram [] events 4 (first ∷ []) idle
unfolding StateQuiet.fresh
recited = song-is-played song bell ram [] events 4 (first ∷ []) idle (lit< tt) song-events first-plays

all-played : events_before 4 events ≡ events
unfolding events_before
all-played = refl

-- the bell still sounds
ended-engine : at_end.engine ≡ run rest struck_bell
unfolding StateQuiet.fresh
ended-engine =
    recited.engine ∙ run-append (hush_calls 16 ++ fresh_calls 16) (recital bell ram [] events 0 4) fresh
    ∙ ap (run (recital bell ram [] events 0 4)) set-fresh ∙ ap (λ (cs : List Call). run cs fresh) song-calls
    ∙ run-append before rest fresh ∙ ap (run rest) computed.struck

pub ended-sounds : at_end.engine.sounding ≡ 1
ended-sounds = ap (λ (e : Engine). e.sounding) ended-engine ∙ ringing.sounds

later-done : (answered song bell ram [] 48 88 at_end).number ≡ 0
later-done = play-number song bell ram [] 48 88 at_end ∙ ap (render_number 48 ram [] 88) ended-engine ∙ ringing.number

later-plays : Plays song bell ram [] (later ∷ []) 44 at_end
later-plays =
    subst (λ (n : ℕ). Plays song bell ram [] (later ∷ []) n at_end) (ap (λ (n : ℕ). n + 0) (ap (λ (e : Engine). distance e 48) ended-engine ∙ ringing.far))
    (plays 48 (replicate 88 nan) later-done rests)

-- its strike has its note-off, and it has no pedal
song-closed : Closed bell ram [] events
unfolding calls_for call_of struck_after pedal_after
song-closed = record { keys = λ c k. by (cond (eqb 0 c) (eqb 60 k) false); pedals = λ c. lit< tt }
  where
    by : (x : Bool) → cond x false (cond x true false) ≡ false
    by true = refl
    by false = refl

pub played-out : PlayedOut song bell ram [] events [] (first ∷ []) (later ∷ []) 4 44
unfolding run_turns
played-out =
    record { clocks = tt; events = song-events; closed = song-closed; played = first-plays; over = recited.all all-played; rest = later-plays }

-- so after the 43 frames of its release and one more all is silent
pub song-silent : (run_turns (later ∷ []) at_end).engine.sounding ≡ 0
unfolding run_turns
song-silent =
    song-ends-in-silence song bell ram [] events [] (first ∷ []) (later ∷ []) 4 44 played-out
    (subst (λ (n : ℕ). n + 1 ≤ 44) (sym (ap longest_release ended-engine ∙ ringing.release)) (lit≤ tt))

-- ---- cuts and refusals

-- the four frames as one and three
abbrev one : Turn
one = Play song bell ram [] (ahead begun.engine 1) (replicate 2 nan)

abbrev three : Turn
three = Play song bell ram [] (ahead (next_turn one begun).engine 3) (replicate 6 nan)

-- are the same player, numbers and counts
pub song-cut : SameAsOne first (one ∷ three ∷ []) begun
unfolding together StateQuiet.fresh
song-cut =
    (any-cut-of-play song bell ram [] 4 (replicate 8 nan) begun (1 ∷ 3 ∷ []) (one ∷ three ∷ []) (subst (λ (e : Engine). e.clock < 4294967296) (sym begun-engine) (lit< tt))
    first_done (sym four) (part 1 (replicate 2 nan) (lit≤ tt) (part 3 (replicate 6 nan) (lit≤ tt) no_part))).1

-- ---- event by event

-- what the file offers first, and behind that
abbrev lent : Handed
lent = handed_of song (opening_of song).cursor

abbrev strike : Event
strike = record { frame = 0; status = 144; first = 60; second = 100 }

abbrev leave : Event
leave = record { frame = 3; status = 128; first = 60; second = 64 }

strike-offered : lent.event ≡ Some strike
unfolding ArithBytes.u8_at ArithHolds.between SmfHead.chunk_end SmfHead.track_from SmfHead.head_of SmfItems.short_at SmfItems.long_at SmfItems.spoken_at SmfItems.exclusive_at SmfItems.meta_of SmfItems.meta_at SmfItems.item_at SmfQuantities.two_at SmfQuantities.three_at SmfQuantities.four_at SmfQuantities.quantity_from SmfQuantities.quantity_at SmfSongs.events_of SmfSongs.opening_of SmfSongs.handed_of SmfTicks.frame_of SmfTrack.acted SmfTrack.obeyed SmfTrack.meet_at SmfTrack.song_from SmfTrack.next_from
strike-offered = refl

leave-offered : (handed_of song lent.cursor).event ≡ Some leave
unfolding ArithBytes.u8_at ArithHolds.between SmfHead.chunk_end SmfHead.track_from SmfHead.head_of SmfItems.short_at SmfItems.long_at SmfItems.spoken_at SmfItems.exclusive_at SmfItems.meta_of SmfItems.meta_at SmfItems.item_at SmfQuantities.two_at SmfQuantities.three_at SmfQuantities.four_at SmfQuantities.quantity_from SmfQuantities.quantity_at SmfSongs.events_of SmfSongs.opening_of SmfSongs.handed_of SmfTicks.frame_of SmfTrack.acted SmfTrack.obeyed SmfTrack.meet_at SmfTrack.song_from SmfTrack.next_from
leave-offered = refl

-- so the strike is due at the start
begun-is : begun ≡ coming (readied idle) lent.cursor (Some strike)
begun-is = start_is song events song-events idle ∙ ap (coming (readied idle) lent.cursor) strike-offered

begun-open : song_over begun ≡ false
begun-open = ap (λ (p : Player). song_over p) begun-is

begun-due : is_due begun ≡ true
begun-due = reached-due begun begun-open (omega (arith, ap (λ (p : Player). (coming_event p).frame) begun-is))

-- and behind it the way is three frames
abbrev over-strike : Turn
over-strike = Step song bell ram []

abbrev struck : Player
struck = next_turn over-strike begun

struck-is : struck ≡ coming (with_engine begun struck.engine) (handed_of song lent.cursor).cursor (Some leave)
struck-is =
    (step-is-tested song bell ram [] begun).behind begun-open
    ∙ ap (λ (c : Cursor). cued (with_engine begun struck.engine) (handed_of song c)) (ap (λ (p : Player). p.cursor) begun-is)
    ∙ ap (coming (with_engine begun struck.engine) (handed_of song lent.cursor).cursor) leave-offered

struck-began : struck.began ≡ 0
unfolding StateQuiet.fresh
struck-began = ap (λ (p : Player). p.began) struck-is ∙ ap (λ (p : Player). p.began) begun-is

struck-frame : (coming_event struck).frame ≡ 3
struck-frame = ap (λ (p : Player). (coming_event p).frame) struck-is

struck-clock : struck.engine.clock ≡ 0
unfolding StateQuiet.fresh
struck-clock = step-clock song bell ram [] begun ∙ ap (λ (e : Engine). e.clock) begun-engine

struck-gap : 3 ≤ gap_of struck 4
unfolding since
struck-gap =
    let n : since struck ≡ 0 = omega (arith, struck-clock, struck-began) in
    omega (arith, struck-frame, n, gap-near struck 4 (ap (λ (p : Player). song_over p) struck-is) (omega (arith, struck-frame, n)))

-- a step, the engine's own three frames, and one more of the song
abbrev own : Turn
own = Direct (Render (ahead struck.engine 3) ram [] (replicate 6 nan))

abbrev last : Turn
last = Play song bell ram [] (ahead (next_turn own struck).engine 1) (replicate 2 nan)

-- are the four frames
pub song-stepped : SameAsOne first (over-strike ∷ own ∷ last ∷ []) begun
unfolding together StateQuiet.fresh
song-stepped =
    (any-cut-of-play song bell ram [] 4 (replicate 8 nan) begun (3 ∷ 1 ∷ []) (over-strike ∷ own ∷ last ∷ [])
    (subst (λ (e : Engine). e.clock < 4294967296) (sym begun-engine) (lit< tt)) first_done (sym four)
    (stepped begun-due (lit< tt)
    (alone 3 4 (replicate 6 nan) (lit< tt) struck-gap (lit≤ tt) (omega (arith, struck-began)) (omega (arith, struck-frame)) (part 1 (replicate 2 nan) (lit≤ tt) no_part)))).1

-- an empty file is refused, and changes nothing
pub empty-changes-nothing : next_turn (Start []) at_end ≡ at_end
unfolding ArithBytes.u8_at SmfHead.chunk_end SmfHead.head_of SmfQuantities.two_at SmfQuantities.four_at SmfSongs.events_of SmfSongs.test_of
empty-changes-nothing = (start-is-tested [] at_end).refused (λ (q : 9 ≡ 0). omega arith)
