-- A voice record with one part replaced (antt has no record update), and the record of zeros.
use Rattle.std.specs.Prelude.{ℕ, Bool, false, true, pos}
use Rattle.voice.specs.declared.Stage.{Stage}
use Rattle.voice.specs.declared.Voice.{Voice}
use Rattle.voice.specs.declared.Stage.TheVariants.{Delay}
use Rattle.voice.specs.declared.Slot.{Slot}

-- v with stage s, place p and mark m, and all else as it is
abbrev pub with_moved : Voice → Stage → ℕ → Bool → Voice
with_moved v s p m =
    record {
      stage = s;
      place = p;
      channel = v.channel;
      key = v.key;
      velocity = v.velocity;
      marked = m;
      class = v.class;
      rom = v.rom;
      start = v.start;
      end = v.end;
      mode = v.mode;
      loopfrom = v.loopfrom;
      loopto = v.loopto;
      rate = v.rate;
      pitch = v.pitch;
      pan = v.pan;
      attenuation = v.attenuation;
      attack = v.attack;
      hold = v.hold;
      decay = v.decay;
      sustain = v.sustain;
      release = v.release;
    }

-- v in stage s, no longer marked
abbrev pub with_stage : Voice → Stage → Voice
with_stage v s = with_moved v s v.place false

-- the voice of zeros, which a read past the end of an array gives
abbrev pub blank : Voice
blank =
    record {
      stage = Delay 0;
      place = 0;
      channel = 0;
      key = 0;
      velocity = 0;
      marked = false;
      class = 0;
      rom = false;
      start = 0;
      end = 0;
      mode = 0;
      loopfrom = 0;
      loopto = 0;
      rate = 0;
      pitch = pos 0;
      pan = pos 0;
      attenuation = pos 0;
      attack = 0;
      hold = 0;
      decay = 0;
      sustain = 0;
      release = 0;
    }

-- a slot that sounds
abbrev pub sounds : Voice → Slot
sounds v = record { sounding = true; voice = v }

-- a slot that is free; freeing leaves the record as it was
abbrev pub free : Voice → Slot
free v = record { sounding = false; voice = v }
