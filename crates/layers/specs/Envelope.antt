-- 01, "From a key to layers" and "A voice, frame by frame": the envelope of a starting voice.
use Rattle.std.specs.Prelude.{ℕ, ℤ, pos, nat_abs}
use Rattle.curves.specs.Times.{frames}
use Rattle.totals.specs.Settings.{keyed_time}
use Rattle.layers.specs.declared.envelope.Envelope.{Envelope}

-- the envelope by a layer's totals t: delay and hold are held to 5,000 timecents, the others to 8,000
abbrev pub envelope_of : (ℕ → ℤ) → ℕ → Envelope
envelope_of t key =
    record {
      delay = frames (pos 5000) (t 33);
      attack = frames (pos 8000) (t 34);
      hold = frames (pos 5000) (keyed_time t key 35 39);
      decay = frames (pos 8000) (keyed_time t key 36 40);
      sustain = nat_abs (t 37);
      release = frames (pos 8000) (t 38);
    }
