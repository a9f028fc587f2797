-- Contracts that are equations determine what they speak of.
use mathlib.Core.Path.{◌≡◌, refl, sym, ◌∙◌, ap, ap₂}
use mathlib.Core.List.{List}
use lib.Ieee.{Float}
use Prim.Native.Nat.{ℕ}
use mathlib.Core.Bool.{Bool}
use Rattle.promises.specs.Determined.{Settles, Outcome, Ends}
use Rattle.std.specs.Prelude.{Result, Ok, Err, Option}
use Rattle.state.specs.Answers.{Answered, number, status_of}
use Rattle.state.proofs.ToldLaws.{call-told-apart, status-told-apart}
use Rattle.state.specs.declared.Refusal.{Refusal}
use Rattle.voice.specs.declared.Shown.{Shown}
use Rattle.state.specs.declared.Engine.{Engine}
use Rattle.bank.specs.Admission.{fault_of, fault_number, admitted}
use Rattle.bank.specs.declared.Listed.{Listed}
use Rattle.bank.specs.Listing.{listed}
use Rattle.bank.specs.declared.Fault.{Fault}
use Rattle.bank.specs.Past.{past_memory}
use Rattle.layers.proofs.SpansLaws.{sheet-told-apart}
use Rattle.layers.specs.Spans.{SheetNumbers, sheet_of}
use Rattle.reader.specs.declared.Opened.{Opened}
use Rattle.reader.specs.Reader.{opened_of, next_of, nth_listed}
use Rattle.reader.specs.declared.Taken.{Taken}
use Rattle.reader.specs.declared.Step.{Step}
use lib.ListN.{length}
use Rattle.riff.specs.Form.{Found, kind_number, find_of}
use Rattle.riff.proofs.ToldLaws.{font-told-apart}
use Rattle.player.specs.declared.Begun.{Begun}
use Rattle.player.specs.declared.Player.{Player}
use Rattle.player.specs.declared.Stepped.{Stepped}
use Rattle.player.specs.Asking.{is_silent, held_count}
use Rattle.player.specs.Cues.{song_over, idle, with_engine, gap_of}
use Rattle.player.specs.Pauses.{started, stopped}
use Rattle.player.specs.Stepping.{step_taken, next_event, next_frame}
use Rattle.engine.specs.Presets.{sought_program, sought_bank}
use Rattle.smf.specs.declared.Handed.{Handed}
use Rattle.smf.specs.declared.Opening.{Opening}
use Rattle.smf.specs.declared.Tested.{Tested}
use Rattle.smf.specs.Songs.{test_of, opening_of, handed_of, bytes_of}
use Rattle.wave.specs.Answers.{refusal_number}
use Rattle.wave.specs.Lowering.{attenuation_for}
use Rattle.wave.proofs.ToldLaws.{number-told-apart, heard-told-apart, sums-told-apart}
use Rattle.promises.specs.Determined as D
use Rattle.state.specs.Board as StateBoard
use Rattle.state.specs.Quiet as StateQuiet

-- an equation settles its answer
equation : (A : Type 0) (x : A) → Settles A (λ r. r ≡ x)
equation A x a b h k = h ∙ sym k

-- ---- engine
abbrev outcome : Answered → List Float → Outcome
outcome a l = record { answer = a; output = l }

pub calls-determined : D.CallsDetermined
calls-determined x e o p h k = ap₂ outcome (h.0 ∙ sym k.0) (h.1 ∙ sym k.1)

pub told-call-apart : D.ToldCallApart
told-call-apart r s e f h = (call-told-apart r s e f h, ap (λ (x : Answered). x.engine) h)

pub told-status-apart : D.ToldStatusApart
told-status-apart = status-told-apart

pub status-determined : D.StatusDetermined
status-determined a = equation ℕ (status_of a)

pub refusal-number-determined : D.RefusalNumberDetermined
refusal-number-determined refusal = equation ℕ (number refusal)

pub panel-determined : D.PanelDetermined
panel-determined slot e = equation Shown (StateBoard.ask slot e)

pub voice-count-determined : D.VoiceCountDetermined
voice-count-determined e = equation ℕ (StateBoard.voice_count e)

pub program-determined : D.ProgramDetermined
program-determined channel e = equation ℕ (sought_program channel e)

pub bank-determined : D.BankDetermined
bank-determined channel e = equation ℕ (sought_bank channel e)

pub fresh-determined : D.FreshDetermined
fresh-determined = equation Engine StateQuiet.fresh

pub admit-determined : D.AdmitDetermined
admit-determined bank = equation ℕ (fault_number (fault_of bank))

pub list-determined : D.ListDetermined
list-determined bank place = equation Listed (listed bank place)

-- ---- bank
pub admission-determined : D.AdmissionDetermined
admission-determined bank = equation (Result (Unit {0}) Fault) (fault_of bank)

pub number-of-determined : D.NumberOfDetermined
number-of-determined f = equation ℕ (fault_number f)

pub admitted-determined : D.AdmittedDetermined
admitted-determined bank = equation Bool (admitted bank)

pub past-memory-determined : D.PastMemoryDetermined
past-memory-determined bank ram rom = equation (Option ℕ) (past_memory bank ram rom)

-- ---- layers
pub told-sheet-apart : D.ToldSheetApart
told-sheet-apart = sheet-told-apart

pub preset-sheet-determined : D.PresetSheetDetermined
preset-sheet-determined bank place = equation SheetNumbers (sheet_of bank place)

-- ---- reader
pub open-determined : D.OpenDetermined
open-determined bank = equation Opened (opened_of bank)

pub next-determined : D.NextDetermined
next-determined r = equation Taken (next_of r)

pub nth-determined : D.NthDetermined
nth-determined bank k = equation Listed (nth_listed bank k)

abbrev step : Listed → ℕ → Step
step l p = record { listed = l; place = p }

pub step-from-determined : D.StepFromDetermined
step-from-determined bank at a b h k = ap₂ step (h.0 ∙ sym k.0) (h.1 ∙ sym k.1)

-- ---- smf
pub song-test-determined : D.SongTestDetermined
song-test-determined file = equation Tested (test_of file)

pub song-open-determined : D.SongOpenDetermined
song-open-determined file = equation Opening (opening_of file)

pub song-next-determined : D.SongNextDetermined
song-next-determined file cursor = equation Handed (handed_of file cursor)

pub event-size-determined : D.EventSizeDetermined
event-size-determined e = equation ℕ (length (bytes_of e))

-- ---- wave
ends : {A B : Type 0} (o p : Ends A B) → o.answer ≡ p.answer → o.output ≡ p.output → o ≡ p
ends {A} {B} o p a b = ap₂ (λ (x : A) (y : B). record { answer = x; output = y }) a b

pub heading-determined : D.HeadingDetermined
heading-determined frames out o p h k = ends o p (h.0 ∙ sym k.0) (h.1 ∙ sym k.1)

pub pour-determined : D.PourDetermined
pour-determined numbers out o p h k = ends o p (h.0 ∙ sym k.0) (h.1 ∙ sym k.1)

pub write-determined : D.WriteDetermined
write-determined numbers out o p h k = ends o p (h.0 ∙ sym k.0) (h.1 ∙ sym k.1)

pub read-determined : D.ReadDetermined
read-determined file out o p h k = ends o p (h.0 ∙ sym k.0) (h.1 ∙ sym k.1)

pub pour-sums-determined : D.PourSumsDetermined
pour-sums-determined sums attenuation out o p h k = ends o p (h.0 ∙ sym k.0) (h.1 ∙ sym k.1)

pub wave-number-determined : D.WaveNumberDetermined
wave-number-determined refusal = equation ℕ (refusal_number refusal)

pub told-number-apart : D.ToldNumberApart
told-number-apart = number-told-apart

pub told-heard-apart : D.ToldHeardApart
told-heard-apart = heard-told-apart

pub told-sums-apart : D.ToldSumsApart
told-sums-apart = sums-told-apart

pub attenuation-for-determined : D.AttenuationForDetermined
attenuation-for-determined loudest = equation ℕ (attenuation_for loudest)

-- ---- engine: the sums
pub sums-determined : D.SumsDetermined
sums-determined e ram rom out to o p h k = ends o p (h.0 ∙ sym k.0) (h.1 ∙ sym k.1)

-- ---- riff
pub kind-number-determined : D.KindNumberDetermined
kind-number-determined kind = equation ℕ (kind_number kind)

pub find-determined : D.FindDetermined
find-determined file = equation Found (find_of file)

pub told-font-apart : D.ToldFontApart
told-font-apart = font-told-apart

-- ---- merge
pub merge-determined : D.MergeDetermined
merge-determined file out o p h k = ends o p (h.0 ∙ sym k.0) (h.1 ∙ sym k.1)

-- ---- player
pub idle-determined : D.IdleDetermined
idle-determined = equation Player idle

pub with-engine-determined : D.WithEngineDetermined
with-engine-determined p e = equation Player (with_engine p e)

pub start-determined : D.StartDetermined
start-determined p file = equation Begun (started file p)

pub stop-determined : D.StopDetermined
stop-determined p = equation Player (stopped p)

pub play-determined : D.PlayDetermined
play-determined p file bank ram rom out to x y h k = ends x y (h.0 ∙ sym k.0) (h.1 ∙ sym k.1)

pub step-determined : D.StepDetermined
step-determined p file bank ram rom = equation Stepped (step_taken file bank ram rom p)

pub gap-determined : D.GapDetermined
gap-determined p most = equation ℕ (gap_of p most)

pub next-event-determined : D.NextEventDetermined
next-event-determined p = equation ℕ (next_event p)

pub next-frame-determined : D.NextFrameDetermined
next-frame-determined p = equation ℕ (next_frame p)

pub over-determined : D.OverDetermined
over-determined p = equation Bool (song_over p)

pub silent-determined : D.SilentDetermined
silent-determined p = equation Bool (is_silent p)

pub held-count-determined : D.HeldCountDetermined
held-count-determined p = equation ℕ (held_count p)

-- ---- records
pub window-determined : D.WindowDetermined
window-determined ram rom in-rom start end a b h k = h ∙ sym k

-- ---- any public function
pub equation-settles : D.EquationSettles
equation-settles A x also a b h k = equation A x a b h.0 k.0

pub equations-settle : D.EquationsSettle
equations-settle A B x y also o p h k = ap₂ (λ (a : A) (b : B). (a, b)) (equation A x _ _ h.0 k.0) (equation B y _ _ h.1 k.1)
