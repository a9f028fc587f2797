-- 01, "From a key to layers": exclusive class, pitch, pan and attenuation of a starting voice.
use Rattle.std.specs.Prelude.{List, ℕ, ◌+◌, ℤ}
use Rattle.arith.specs.Bytes.{u8_at, i8_at}
use Rattle.arith.specs.Floors.{mod_z}
use Rattle.records.specs.Headers.{sample_at}
use Rattle.records.specs.declared.Parts.{Parts}
use Rattle.totals.specs.Settings.{pitch_of, attenuation_of}
use Rattle.layers.specs.declared.tuning.Tuning.{Tuning}

-- the tuning of sample k by a layer's totals t: the header has the root at 40 and the correction at 41
abbrev pub tuning_of : List ℕ → Parts → ℕ → (ℕ → ℤ) → ℕ → ℕ → Tuning
tuning_of b m k t key velocity =
    record {
      class = mod_z (t 57) 65536;
      pitch = pitch_of t key (u8_at b (sample_at m k + 40)) (i8_at b (sample_at m k + 41));
      pan = t 17;
      attenuation = attenuation_of t velocity;
    }
