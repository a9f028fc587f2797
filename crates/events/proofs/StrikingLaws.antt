-- Laws of note-on: its answer behind the test of ranges, by admission, preset and layers.
use Rattle.std.specs.Prelude.{Option, None, Some, is_some}
use Prim.Native.Nat.{ℕ, ◌-◌, ◌≤◌, ◌<◌}
use mathlib.Core.Path.{◌≡◌, refl, ap, ◌∙◌, ap₂}
use mathlib.Core.Bool.{Bool, true, false, cond, not}
use mathlib.Core.List.{List}
use lib.Dec.{ltb}
use lib.IntN.{ℤ}
use lib.ListN.{length, take, replicate}
use borrow.Author.Tests.{le-leb}
use lib.Seq.{take_at}
use native.Mathlib.Omega.{arith}
use Rattle.voice.specs.declared.Voice.{Voice}
use Rattle.state.specs.declared.Engine.{Engine}
use Rattle.state.specs.Answers.{done, refused, answer}
use Rattle.events.specs.Starting.{any_past, struck}
use Rattle.events.specs.Internal.Striking.{layers_answer, bank_answer}
use Rattle.events.specs.Striking.{channel_bank, note_on_number, bank_from}
use Rattle.bank.specs.Admission.{admitted}
use Rattle.layers.specs.LayerSearch.{preset_for, is_preset}
use Rattle.layers.specs.Voicing.{voices_of, has_preset, struck_voices}
use Rattle.records.specs.Sides.{parts_of}
use Rattle.state.specs.Channels.{channel_at}
use Rattle.layers.specs.Internal.Voicing.{struck_of}
use Rattle.voice.specs.Changes.{blank}
use Rattle.layers.specs.declared.Struck.{Struck}
use Rattle.records.proofs.LookingLaws.{first-is}
use Rattle.records.specs.declared.Parts.{Parts}

-- the tests of a bank with a preset that starts the voices vs
found-answer : (ram rom : List ℤ) (channel : ℕ) (vs : List Voice) (e : Engine) (a b : Bool)
    → a ≡ true → b ≡ true
    → answer (cond (not a) 1 (cond (not b) 3 (cond (ltb 32 (length vs)) 4 (cond (any_past ram rom vs) 8 0)))) e (done (length vs) (struck channel vs e).engine)
    ≡ layers_answer ram rom channel vs e
unfolding layers_answer
found-answer ram rom channel vs e a b p q = simp (p, q) (by (ltb 32 (length vs)) (any_past ram rom vs))
  where
    by : (x y : Bool)
        → answer (cond x 4 (cond y 8 0)) e (done (length vs) (struck channel vs e).engine)
        ≡ cond x (refused 4 e) (cond y (refused 8 e) (done (length vs) (struck channel vs e).engine))
    by true y = refl
    by false true = refl
    by false false = refl

module _ (b : List ℕ) (ram rom : List ℤ) (channel key velocity : ℕ) (e : Engine) where
  -- the preset that the channel names
  abbrev preset : Option ℕ
  preset = preset_for b (parts_of b) (channel_bank e channel) (channel_at e channel).program

  -- a bank that is not admitted: 1
  pub answer-bad : admitted b ≡ false → bank_answer (bank_from b) ram rom channel key velocity e ≡ refused 1 e
  unfolding bank_answer bank_from note_on_number
  answer-bad h = simp h

  -- no preset of the channel: 3
  pub answer-none : admitted b ≡ true → preset ≡ None → bank_answer (bank_from b) ram rom channel key velocity e ≡ refused 3 e
  unfolding bank_answer bank_from note_on_number has_preset
  answer-none h p = simp (h, p)

  found-voices : (h : ℕ) → preset ≡ Some h
      → struck_voices b (channel_bank e channel) (channel_at e channel).program channel key velocity ≡ voices_of b (parts_of b) h channel key velocity
  unfolding struck_voices
  found-voices h p = rw p

  found-preset : (h : ℕ) → preset ≡ Some h → has_preset b (channel_bank e channel) (channel_at e channel).program ≡ true
  unfolding has_preset
  found-preset h p = ap is_some p

  -- a preset is found: its layers answer
  pub answer-found : (h : ℕ) → admitted b ≡ true → preset ≡ Some h
      → bank_answer (bank_from b) ram rom channel key velocity e
      ≡ layers_answer ram rom channel (voices_of b (parts_of b) h channel key velocity) e
  unfolding bank_answer bank_from note_on_number
  answer-found h a p =
      found-answer ram rom channel (struck_voices b (channel_bank e channel) (channel_at e channel).program channel key velocity) e (admitted b)
      (has_preset b (channel_bank e channel) (channel_at e channel).program) a (found-preset h p)
      ∙ ap (λ (vs : List Voice). layers_answer ram rom channel vs e) (found-voices h p)

-- the voices of an array that holds at most 32
pub few : (vs : List Voice) → length vs ≤ 32 → take (length vs) (struck_of vs).voices ≡ vs
unfolding struck_of
few vs h = rw (le-leb (length vs) 32 h) (take_at vs (replicate (32 - length vs) blank) (length vs) refl)

-- how many they are, also where they are too many
pub few-count : (s : Struck) (vs : List Voice) → s ≡ struck_of vs → s.count ≡ length vs
unfolding struck_of
few-count s vs e = ap (λ (x : Struck). x.count) e

-- .. and the voices, by that count
pub few-by : (s : Struck) (vs : List Voice) → s ≡ struck_of vs → s.count ≤ 32 → take s.count s.voices ≡ vs
few-by s vs e h =
    ap₂ (λ (n : ℕ) (l : List Voice). take n l) (few-count s vs e) (ap (λ (x : Struck). x.voices) e) ∙ few vs (omega (arith, few-count s vs e))

-- the preset that was found is one of the heads
pub preset-low : (b : List ℕ) (m : Parts) (bank program h : ℕ) → preset_for b m bank program ≡ Some h → h < m.presets.nheads
unfolding preset_for
preset-low b m bank program h e = omega (arith, (first-is (is_preset b m bank program) 0 (m.presets.nheads - 1) h e).high)
