-- 01, "From a key to layers" and "A voice, frame by frame": the voice that a layer starts, and all that a key starts.
use Rattle.std.specs.Prelude.{false, Bool, List, map, [], ℕ, take, Option, None, Some, is_some}
use Rattle.records.specs.Windows.{movers}
use Rattle.records.specs.declared.Parts.{Parts}
use Rattle.voice.specs.declared.Stage.TheVariants.{Delay}
use Rattle.voice.specs.declared.Voice.{Voice}
use Rattle.totals.specs.Values.{total}
use Rattle.layers.specs.Envelope.{envelope_of}
use Rattle.layers.specs.Extent.{extent_of}
use Rattle.layers.specs.Tuning.{tuning_of}
use Rattle.totals.specs.declared.Layer.{Layer}
use Rattle.layers.specs.LayerSearch.{layer_of, layers_of, preset_for}
use Rattle.layers.specs.declared.Pair.{Pair}
use Rattle.records.specs.Sides.{parts_of}

-- the voice that a layer starts: its extent, its tuning and its envelope
unfoldable pub voice_by : List ℕ → Parts → Layer → ℕ → ℕ → ℕ → Voice
voice_by b m l channel key velocity =
    let t = total b m l in
    let sample = l.instrument.link in
    let extent = extent_of b m sample (movers b m l.instrument l.beside) in
    let tuning = tuning_of b m sample t key velocity in
    let envelope = envelope_of t key in
    record {
      stage = Delay envelope.delay;
      place = 0;
      channel = channel;
      key = key;
      velocity = velocity;
      marked = false;
      class = tuning.class;
      rom = extent.rom;
      start = extent.start;
      end = extent.end;
      mode = extent.mode;
      loopfrom = extent.loopfrom;
      loopto = extent.loopto;
      rate = extent.rate;
      pitch = tuning.pitch;
      pan = tuning.pan;
      attenuation = tuning.attenuation;
      attack = envelope.attack;
      hold = envelope.hold;
      decay = envelope.decay;
      sustain = envelope.sustain;
      release = envelope.release;
    }

-- the voice of a layer of preset h
unfoldable pub voice_of : List ℕ → Parts → ℕ → ℕ → ℕ → ℕ → Pair → Voice
voice_of b m h channel key velocity p = voice_by b m (layer_of b m h p) channel key velocity

-- the voices of the layers of preset h, in order: the search stops at the thirty-third
unfoldable pub voices_of : List ℕ → Parts → ℕ → ℕ → ℕ → ℕ → List Voice
voices_of b m h channel key velocity = map (voice_of b m h channel key velocity) (take 33 (layers_of b m key velocity h))

-- the voices of a preset that was looked for
abbrev voices_at : List ℕ → Parts → Option ℕ → ℕ → ℕ → ℕ → List Voice
voices_at b m None channel key velocity = []
voices_at b m (Some h) channel key velocity = voices_of b m h channel key velocity

-- whether a bank's bytes have a preset with bank and program
unfoldable pub has_preset : List ℕ → ℕ → ℕ → Bool
has_preset b bank program = is_some (preset_for b (parts_of b) bank program)

-- the voices that it starts for channel, key and velocity, in order, the first 33
unfoldable pub struck_voices : List ℕ → ℕ → ℕ → ℕ → ℕ → ℕ → List Voice
struck_voices b bank program channel key velocity =
    voices_at b (parts_of b) (preset_for b (parts_of b) bank program) channel key velocity
