-- A layer's values in two lists give its voice.
use mathlib.Core.Bool.{false}
use Prim.Native.Nat.{ℕ}
use mathlib.Core.List.{List}
use mathlib.Core.Path.{◌≡◌, refl}
use Rattle.voice.specs.declared.Stage.TheVariants.{Delay}
use Rattle.voice.specs.declared.Voice.{Voice}
use Rattle.layers.specs.declared.envelope.Envelope.{Envelope}
use Rattle.layers.specs.declared.extent.Extent.{Extent}
use Rattle.layers.specs.declared.tuning.Tuning.{Tuning}
use Rattle.arith.specs.Holds.{between}
use Rattle.records.specs.Internal.Amounts.{at, poured, poured_from}
use Rattle.records.specs.Windows.{place_moved, start_of, end_of, loop_start_of, loop_end_of, mode_of}
use Rattle.records.specs.Zones.{value}
use Rattle.records.specs.declared.Parts.{Parts}
use Rattle.totals.specs.Internal.Values.{total_in, own_values, added_values}
use Rattle.totals.specs.Settings.{key_of, pitch_of, attenuation_of, root_of, softness, keyed_time}
use Rattle.totals.specs.Values.{instrument_only, default_of, held_total, total_of, total}
use Rattle.totals.specs.declared.Layer.{Layer}
use Rattle.layers.specs.Envelope.{envelope_of}
use Rattle.layers.specs.Extent.{extent_of}
use Rattle.layers.specs.Tuning.{tuning_of}
use Rattle.layers.specs.Voicing.{voice_by}

-- a voice as it starts, by its extent, its tuning and its envelope
abbrev pub started : Extent → Tuning → Envelope → ℕ → ℕ → ℕ → Voice
started e t s channel key velocity =
    record {
      stage = Delay s.delay;
      place = 0;
      channel = channel;
      key = key;
      velocity = velocity;
      marked = false;
      class = t.class;
      rom = e.rom;
      start = e.start;
      end = e.end;
      mode = e.mode;
      loopfrom = e.loopfrom;
      loopto = e.loopto;
      rate = e.rate;
      pitch = t.pitch;
      pan = t.pan;
      attenuation = t.attenuation;
      attack = s.attack;
      hold = s.hold;
      decay = s.decay;
      sustain = s.sustain;
      release = s.release;
    }

module _ (b : List ℕ) (m : Parts) (l : Layer) (channel key velocity : ℕ) where
  -- the layer's values in lists give the layer's voice
  pub voice-in :
      started
      (extent_of b m l.instrument.link (at (own_values b m l)))
      (tuning_of b m l.instrument.link (total_in (own_values b m l) (added_values b m l)) key velocity)
      (envelope_of (total_in (own_values b m l) (added_values b m l)) key)
      channel key velocity
      ≡ voice_by b m l channel key velocity
  unfolding voice_by own_values added_values poured poured_from value total total_of held_total instrument_only default_of between start_of end_of loop_start_of loop_end_of place_moved mode_of keyed_time key_of root_of softness pitch_of attenuation_of
  voice-in = refl
