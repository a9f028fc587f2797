-- Any two outcomes that a contract allows are one: the answer, the state and all of the output. A contract stands behind `λ` as
-- in the source; tools/contracts compares it with the functions that `contract of` names.
use Rattle.std.specs.Prelude.{◌≡◌, List, Float, ℕ, Bool, cond, ℤ, length, Option, Result}
use Rattle.std.specs.Borrow.{Bor}
use Rattle.state.specs.Answers.{Answered, told_call, number, status_of}
use Rattle.state.specs.declared.Refusal.{Refusal}
use Rattle.state.specs.declared.Engine.{Engine}
use Rattle.promises.specs.Calls.{Call, does, written}
use Rattle.voice.specs.declared.Shown.{Shown}
use Rattle.bank.specs.Admission.{fault_of, fault_number, admitted}
use Rattle.bank.specs.declared.Listed.{Listed}
use Rattle.bank.specs.Listing.{listed}
use Rattle.bank.specs.declared.Fault.{Fault}
use Rattle.bank.specs.Past.{past_memory}
use Rattle.layers.specs.declared.Sheet.{Sheet}
use Rattle.layers.specs.declared.NoSheet.{NoSheet}
use Rattle.layers.specs.Spans.{SheetNumbers, sheet_of, told_sheet}
use Rattle.reader.specs.declared.Opened.{Opened}
use Rattle.reader.specs.Reader.{opened_of, next_of, nth_listed, further}
use Rattle.reader.specs.declared.Reader.{Reader}
use Rattle.reader.specs.declared.Taken.{Taken}
use Rattle.reader.specs.declared.Step.{Step}
use Rattle.smf.specs.declared.Cursor.{Cursor}
use Rattle.smf.specs.declared.Event.{Event}
use Rattle.smf.specs.declared.Handed.{Handed}
use Rattle.smf.specs.declared.Opening.{Opening}
use Rattle.smf.specs.declared.Tested.{Tested}
use Rattle.smf.specs.Songs.{test_of, opening_of, handed_of, bytes_of}
use Rattle.merge.specs.declared.Merged.{Merged}
use Rattle.merge.specs.Merging.{merged_of, room_of, answer_of, written_into}
use Rattle.riff.specs.declared.Fault as RiffFault
use Rattle.riff.specs.declared.FaultKind.{FaultKind}
use Rattle.riff.specs.declared.Font.{Font}
use Rattle.riff.specs.Form.{Found, kind_number, find_of, told_font}
use Rattle.player.specs.declared.Answer.{Answer}
use Rattle.player.specs.declared.Begun.{Begun}
use Rattle.player.specs.declared.Player.{Player}
use Rattle.player.specs.declared.Stepped.{Stepped}
use Rattle.player.specs.Asking.{is_silent, held_count}
use Rattle.player.specs.Cues.{song_over, idle, with_engine, gap_of}
use Rattle.player.specs.Pauses.{started, stopped}
use Rattle.player.specs.Playing.{answered, sounded_into}
use Rattle.player.specs.Stepping.{step_taken, next_event, next_frame}
use Rattle.engine.specs.Presets.{sought_program, sought_bank}
use Rattle.engine.specs.Rendering.{render}
use Rattle.engine.specs.Summing.{summed}
use Rattle.wave.specs.declared.answers.Poured.{Poured}
use Rattle.wave.specs.declared.answers.Refusal as WaveRefusal
use Rattle.wave.specs.Answers.{Heard, SumsTold, refusal_number, told_number, told_heard, told_sums}
use Rattle.wave.specs.Headings.{heading_number, headed}
use Rattle.wave.specs.Pours.{pour_number, poured_into}
use Rattle.wave.specs.Recording.{write_number, recorded}
use Rattle.wave.specs.Playback.{heard_of, replayed}
use Rattle.wave.specs.Lowering.{attenuation_for, sums_into, sums_poured}
use Rattle.records.specs.Memory.{part_of}
use Rattle.state.specs.Board as StateBoard
use Rattle.state.specs.Quiet as StateQuiet

-- a contract settles an outcome: any two that it allows are one
abbrev pub Settles : (A : Type 0) → (A → Type 0) → Type 0
Settles A allows = (a b : A) → allows a → allows b → a ≡ b

-- the same for a borrowed part: what any two hold is one (where it lies is not said: docs/CONTRACTS.md, "Exceptions")
abbrev pub SettlesNow : (A : Type 0) → (Bor A → Type 0) → Type 0
SettlesNow A allows = (a b : Bor A) → allows a → allows b → a.now ≡ b.now

-- ---- engine: the calls that hand the state on

-- what a call of note_on, note_off, control_change, program_change, pitch_bend or render leaves: number, count and state, and the lent output
pub record Outcome : Type 0 where
  pub answer : Answered
  pub output : List Float

-- any two outcomes of a call are one, refused or done: the answer is that of the definition, and so is all of the output
-- contract of events::note_on(e, bank, ram, rom, channel, key, velocity), as NoteOn bank ram rom channel key velocity
-- contract of events::note_off(e, channel, key), as NoteOff channel key
-- contract of events::control_change(e, channel, control, value), as Control channel control value
-- contract of events::program_change(e, channel, program), as Program channel program
-- contract of events::pitch_bend(e, channel, bend), as Bend channel bend
-- contract of engine::render(e, ram, rom, out, to), as Render to ram rom out
abbrev pub CallsDetermined : Type 0
CallsDetermined = (x : Call) (e : Engine) → Settles Outcome (λ o. (o.answer ≡ does x e) × (o.output ≡ written x e))

-- what a call of the engine answers, with the state after, is told by one record alone: tells apart state::told_call
abbrev pub ToldCallApart : Type 0
ToldCallApart = (r s : Result ℕ Refusal) (e f : Engine) → told_call r e ≡ told_call s f → (r ≡ s) × (e ≡ f)

-- the number of an answer that has no count tells it: tells apart state::status_of
abbrev pub ToldStatusApart : Type 0
ToldStatusApart = (r s : Result (Unit {0}) Refusal) → status_of r ≡ status_of s → r ≡ s

-- 01's number of an answer
-- contract of state::status_of(told)
abbrev pub StatusDetermined : Type 0
StatusDetermined = (told : Result ℕ Refusal) → Settles ℕ (λ r. r ≡ status_of told)

-- and of a refusal
-- contract of state::number(refusal)
abbrev pub RefusalNumberDetermined : Type 0
RefusalNumberDetermined = (refusal : Refusal) → Settles ℕ (λ r. r ≡ number refusal)

-- ---- state and engine: the others, which touch no state

-- what the slot is in, or the refusal
-- contract of state::panel(e, slot)
abbrev pub PanelDetermined : Type 0
PanelDetermined = (slot : ℕ) (e : Engine) → Settles Shown (λ r. r ≡ StateBoard.ask slot e)

-- how many voices sound
-- contract of state::voice_count(e)
abbrev pub VoiceCountDetermined : Type 0
VoiceCountDetermined = (e : Engine) → Settles ℕ (λ r. r ≡ StateBoard.voice_count e)

-- the program that a note-on of a channel looks for
-- contract of engine::channel_program(e, channel)
abbrev pub ProgramDetermined : Type 0
ProgramDetermined = (channel : ℕ) (e : Engine) → Settles ℕ (λ r. r ≡ sought_program channel e)

-- and the bank number
-- contract of engine::channel_bank(e, channel)
abbrev pub BankDetermined : Type 0
BankDetermined = (channel : ℕ) (e : Engine) → Settles ℕ (λ r. r ≡ sought_bank channel e)

-- the state at the beginning
-- contract of state::fresh()
abbrev pub FreshDetermined : Type 0
FreshDetermined = Settles Engine (λ r. r ≡ StateQuiet.fresh)

-- 01's number for a bank
-- contract of engine::admit(bank)
-- contract of bank::admission_number(bank)
-- contract of reader::opens(bank)
abbrev pub AdmitDetermined : Type 0
AdmitDetermined = (bank : List ℕ) → Settles ℕ (λ r. r ≡ fault_number (fault_of bank))

-- what stands at a place of the listing
-- contract of engine::list(bank, place)
-- contract of bank::listed_at(bank, place)
abbrev pub ListDetermined : Type 0
ListDetermined = (bank : List ℕ) (place : ℕ) → Settles Listed (λ r. r ≡ listed bank place)

-- ---- bank

-- the first fault of the first kind, or none
-- contract of bank::admission(bank)
abbrev pub AdmissionDetermined : Type 0
AdmissionDetermined = (bank : List ℕ) → Settles (Result (Unit {0}) Fault) (λ r. r ≡ fault_of bank)

-- 01's number for a fault
-- contract of bank::number_of(f)
abbrev pub NumberOfDetermined : Type 0
NumberOfDetermined = (f : Result (Unit {0}) Fault) → Settles ℕ (λ r. r ≡ fault_number f)

-- whether the number is 0
-- contract of bank::admitted(bank)
abbrev pub AdmittedDetermined : Type 0
AdmittedDetermined = (bank : List ℕ) → Settles Bool (λ r. r ≡ admitted bank)

-- the 53 of the first zone whose window ends past a memory of so many samples, or nothing
-- contract of bank::past_memory(bank, ram, rom)
abbrev pub PastMemoryDetermined : Type 0
PastMemoryDetermined = (bank : List ℕ) (ram rom : ℕ) → Settles (Option ℕ) (λ r. r ≡ past_memory bank ram rom)

-- ---- layers

-- what is told of the preset at a place, by its numbers, which `told_sheet` gives of an answer
-- contract of layers::preset_sheet(bank, place)
abbrev pub PresetSheetDetermined : Type 0
PresetSheetDetermined = (bank : List ℕ) (place : ℕ) → Settles SheetNumbers (λ r. r ≡ sheet_of bank place)

-- the numbers of two answers are one only where the answers are: tells apart layers::told_sheet
abbrev pub ToldSheetApart : Type 0
ToldSheetApart = (a b : Result Sheet NoSheet) → told_sheet a ≡ told_sheet b → a ≡ b

-- ---- reader

-- 01's number, and the reader at record 0 over the very slice that was lent
-- contract of reader::open(bank)
abbrev pub OpenDetermined : Type 0
OpenDetermined = (bank : Bor (List ℕ)) → Settles Opened (λ r. r ≡ opened_of bank)

-- what stands at the reader's place, and the reader behind it, over the same slice
-- contract of reader::next(r)
abbrev pub NextDetermined : Type 0
NextDetermined = (r : Reader) → Settles Taken (λ n. n ≡ next_of r)

-- what the k-th next from opening gives
-- contract of reader::nth(bank, k)
abbrev pub NthDetermined : Type 0
NthDetermined = (bank : List ℕ) (k : ℕ) → Settles Listed (λ r. r ≡ nth_listed bank k)

-- the work of a next, on slice and number: what stands at a place, and the place of the next
-- contract of reader::step_from(bank, at)
abbrev pub StepFromDetermined : Type 0
StepFromDetermined =
    (bank : List ℕ) (at : ℕ) → Settles Step (λ r. (r.listed ≡ listed bank at) × (r.place ≡ further bank at))

-- ---- smf

-- a file's number and place
-- contract of smf::test(file)
abbrev pub SongTestDetermined : Type 0
SongTestDetermined = (file : List ℕ) → Settles Tested (λ r. r ≡ test_of file)

-- the same, and the cursor in front of its first event
-- contract of smf::open(file)
abbrev pub SongOpenDetermined : Type 0
SongOpenDetermined = (file : List ℕ) → Settles Opening (λ r. r ≡ opening_of file)

-- what a cursor in a file is offered, and the cursor behind it
-- contract of smf::next(file, cursor)
abbrev pub SongNextDetermined : Type 0
SongNextDetermined = (file : List ℕ) (cursor : Cursor) → Settles Handed (λ r. r ≡ handed_of file cursor)

-- how many bytes an event has
-- contract of smf::size(e)
abbrev pub EventSizeDetermined : Type 0
EventSizeDetermined = (e : Event) → Settles ℕ (λ r. r ≡ length (bytes_of e))

-- ---- wave

-- what a call leaves that is lent an output: its answer, and what the output holds
pub record Ends (A B : Type 0) : Type 0 where
  pub answer : A
  pub output : B

-- 02's number of a refusal
-- contract of wave::number(refusal)
abbrev pub WaveNumberDetermined : Type 0
WaveNumberDetermined = (refusal : WaveRefusal.Refusal) → Settles ℕ (λ r. r ≡ refusal_number refusal)

-- what is told of an answer is one only for one answer
-- tells apart wave::told_number
abbrev pub ToldNumberApart : Type 0
ToldNumberApart = (x y : Result (Unit {0}) WaveRefusal.Refusal) → told_number x ≡ told_number y → x ≡ y

-- .. of the reader
-- tells apart wave::told_heard
abbrev pub ToldHeardApart : Type 0
ToldHeardApart = (x y : Result ℕ WaveRefusal.Refusal) → told_heard x ≡ told_heard y → x ≡ y

-- .. of a pour of sums
-- tells apart wave::told_sums
abbrev pub ToldSumsApart : Type 0
ToldSumsApart = (x y : Result Poured WaveRefusal.Refusal) → told_sums x ≡ told_sums y → x ≡ y

-- 02's number, and the heading in the output
-- contract of wave::heading(frames, out)
abbrev pub HeadingDetermined : Type 0
HeadingDetermined =
    (frames : ℕ) (out : List ℕ) → Settles (Ends ℕ (List ℕ))
    (λ o. (o.answer ≡ heading_number frames (length out)) × (o.output ≡ headed frames out))

-- 02's number, and the bytes of the numbers in the output
-- contract of wave::pour(numbers, out)
abbrev pub PourDetermined : Type 0
PourDetermined =
    (numbers : List Float) (out : List ℕ) → Settles (Ends ℕ (List ℕ))
    (λ o. (o.answer ≡ pour_number numbers (length out)) × (o.output ≡ poured_into numbers out))

-- 02's number, and the file in the output
-- contract of wave::write(numbers, out)
abbrev pub WriteDetermined : Type 0
WriteDetermined =
    (numbers : List Float) (out : List ℕ) → Settles (Ends ℕ (List ℕ))
    (λ o. (o.answer ≡ write_number numbers (length out)) × (o.output ≡ recorded numbers out))

-- 02's number and the frames, and the 16-bit numbers in the output
-- contract of wave::read(file, out)
abbrev pub ReadDetermined : Type 0
ReadDetermined =
    (file : List ℕ) (out : List ℤ) → Settles (Ends Heard (List ℤ))
    (λ o. (o.answer ≡ heard_of file (length out)) × (o.output ≡ replayed file out))

-- 02's number, the frames that are held and the loudest sum, and the bytes of the sums in the output
-- contract of wave::pour_sums(sums, attenuation, out)
abbrev pub PourSumsDetermined : Type 0
PourSumsDetermined =
    (sums : List ℤ) (attenuation : ℕ) (out : List ℕ) → Settles (Ends SumsTold (List ℕ))
    (λ o. (o.answer ≡ sums_poured attenuation sums (length out)) × (o.output ≡ sums_into attenuation sums out))

-- the least attenuation for a size
-- contract of wave::attenuation_for(loudest)
abbrev pub AttenuationForDetermined : Type 0
AttenuationForDetermined = (loudest : ℕ) → Settles ℕ (λ r. r ≡ attenuation_for loudest)

-- ---- engine: the sums, which a recorder lowers before they are held

-- number and state as those of a render, and the sums in the output
-- contract of engine::sums(e, ram, rom, out, to)
abbrev pub SumsDetermined : Type 0
SumsDetermined =
    (e : Engine) (ram rom out : List ℤ) (to : ℕ) → Settles (Ends Answered (List ℤ))
    (λ o. (o.answer ≡ render to ram rom (length out) e) × (o.output ≡ summed to ram rom out e))

-- ---- riff

-- the number of a kind of fault
-- contract of riff::number(kind)
abbrev pub KindNumberDetermined : Type 0
KindNumberDetermined = (kind : FaultKind) → Settles ℕ (λ r. r ≡ kind_number kind)

-- the number and place of a file's first fault, or where its bank and its samples lie
-- contract of riff::find(file)
abbrev pub FindDetermined : Type 0
FindDetermined = (file : List ℕ) → Settles Found (λ r. r ≡ find_of file)

-- what is told of a file is one only for one answer
-- tells apart riff::told_font
abbrev pub ToldFontApart : Type 0
ToldFontApart = (x y : Result Font RiffFault.Fault) → told_font x ≡ told_font y → x ≡ y

-- ---- merge

-- the number, the place and how many bytes are written, and all of the output
-- contract of merge::merge(file, out)
abbrev pub MergeDetermined : Type 0
MergeDetermined =
    (file out : List ℕ) → Settles (Ends Merged (List ℕ))
    (λ o. (o.answer ≡ answer_of (merged_of file (room_of out))) × (o.output ≡ written_into (merged_of file (room_of out)) out))

-- ---- player

-- the player at the beginning
-- contract of player::fresh()
abbrev pub IdleDetermined : Type 0
IdleDetermined = Settles Player (λ r. r ≡ idle)

-- the player with another engine, as a direct call leaves it
-- contract of player::with_engine(p, e)
abbrev pub WithEngineDetermined : Type 0
WithEngineDetermined = (p : Player) (e : Engine) → Settles Player (λ r. r ≡ with_engine p e)

-- a file's number and place, and the player with its song, or as it was
-- contract of player::start(p, file)
abbrev pub StartDetermined : Type 0
StartDetermined = (p : Player) (file : List ℕ) → Settles Begun (λ r. r ≡ started file p)

-- the player with all channels let go and no event left
-- contract of player::stop(p)
abbrev pub StopDetermined : Type 0
StopDetermined = (p : Player) → Settles Player (λ r. r ≡ stopped p)

-- 01's number, the events applied and refused and the player, and all of the output
-- contract of player::render(p, file, bank, ram, rom, out, to)
abbrev pub PlayDetermined : Type 0
PlayDetermined =
    (p : Player) (file bank : List ℕ) (ram rom : List ℤ) (out : List Float) (to : ℕ) → Settles (Ends Answer (List Float))
    (λ o. (o.answer ≡ answered file bank ram rom to (length out) p) × (o.output ≡ sounded_into file bank ram rom to out p))

-- the number of the event that was stepped over, how many were applied, and the player behind it
-- contract of player::step(p, file, bank, ram, rom)
abbrev pub StepDetermined : Type 0
StepDetermined = (p : Player) (file bank : List ℕ) (ram rom : List ℤ) → Settles Stepped (λ r. r ≡ step_taken file bank ram rom p)

-- how far the next event is
-- contract of player::gap(p, most)
abbrev pub GapDetermined : Type 0
GapDetermined = (p : Player) (most : ℕ) → Settles ℕ (λ r. r ≡ gap_of p most)

-- its bytes
-- contract of player::next_event(p)
abbrev pub NextEventDetermined : Type 0
NextEventDetermined = (p : Player) → Settles ℕ (λ r. r ≡ next_event p)

-- and its frame
-- contract of player::next_frame(p)
abbrev pub NextFrameDetermined : Type 0
NextFrameDetermined = (p : Player) → Settles ℕ (λ r. r ≡ next_frame p)

-- whether no event is left
-- contract of player::is_over(p)
abbrev pub OverDetermined : Type 0
OverDetermined = (p : Player) → Settles Bool (λ r. r ≡ song_over p)

-- whether no voice sounds
-- contract of player::is_silent(p)
abbrev pub SilentDetermined : Type 0
SilentDetermined = (p : Player) → Settles Bool (λ r. r ≡ is_silent p)

-- how many voices are held
-- contract of player::held_count(p)
abbrev pub HeldCountDetermined : Type 0
HeldCountDetermined = (p : Player) → Settles ℕ (λ r. r ≡ held_count p)

-- ---- records

-- the length and the samples of the part that it hands back
-- contract of records::window_of(ram, rom, in-rom, start, end)
abbrev pub WindowDetermined : Type 0
WindowDetermined =
    (ram rom : List ℤ) (in-rom : Bool) (start end : ℕ)
    → SettlesNow (List ℤ) (λ r. r.now ≡ part_of (cond in-rom rom ram) start end)

-- ---- any public function

-- a contract that equates the answer with a definition settles it, whatever else it says
abbrev pub EquationSettles : Type 1
EquationSettles = (A : Type 0) (x : A) (also : A → Type 0) → Settles A (λ r. (r ≡ x) × also r)

-- and one that equates the answer and what a lent buffer holds at the exit settles both
abbrev pub EquationsSettle : Type 1
EquationsSettle = (A B : Type 0) (x : A) (y : B) (also : A → B → Type 0) → Settles (A × B) (λ o. (o.0 ≡ x) × (o.1 ≡ y) × also o.0 o.1)
