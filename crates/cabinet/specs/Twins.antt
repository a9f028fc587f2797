-- The flat twin of a player's state: what C keeps, with no enum and no bool in it.
use Rattle.std.specs.Prelude.{ℕ, Bool, cond, not, map, eqb, None, Some}
use Rattle.voice.specs.declared.Stage.{Stage}
use Rattle.voice.specs.declared.Stage.TheVariants as at
use Rattle.voice.specs.declared.Voice.{Voice}
use Rattle.state.specs.declared.Engine.{Engine}
use Rattle.player.specs.declared.Player.{Player}
use Rattle.player.specs.Cues.{song_over, coming_event}
use Rattle.cabinet.specs.declared.FlatStage.{FlatStage}
use Rattle.cabinet.specs.declared.FlatVoice.{FlatVoice}
use Rattle.cabinet.specs.declared.FlatEngine.{FlatEngine}
use Rattle.cabinet.specs.declared.FlatPlayer.{FlatPlayer}

-- a number as a flag: 0 is no, any other is yes
abbrev pub flag_of : ℕ → Bool
flag_of n = not (eqb n 0)

-- a flag as a number
abbrev pub flag_to : Bool → ℕ
flag_to b = cond b 1 0

-- a stage by its number, any number past 4 for release
abbrev pub stage_of : FlatStage → Stage
stage_of s =
    cond (eqb s.kind 0) (at.Delay s.t)
    (cond (eqb s.kind 1) (at.Attack s.t)
    (cond (eqb s.kind 2) (at.Hold s.t)
    (cond (eqb s.kind 3) (at.Decay s.t)
    (cond (eqb s.kind 4) at.Sustain (at.Release s.from s.t)))))

-- a stage's three numbers
abbrev pub flat_stage : ℕ → ℕ → ℕ → FlatStage
flat_stage k f t = record { kind = k; from = f; t = t }

-- a stage as numbers
abbrev pub stage_to : Stage → FlatStage
stage_to (at.Delay l) = flat_stage 0 0 l
stage_to (at.Attack t) = flat_stage 1 0 t
stage_to (at.Hold t) = flat_stage 2 0 t
stage_to (at.Decay t) = flat_stage 3 0 t
stage_to at.Sustain = flat_stage 4 0 0
stage_to (at.Release f t) = flat_stage 5 f t

-- a voice with the numbers of a twin, a stage and the two flags
abbrev pub voice_from : FlatVoice → Stage → Bool → Bool → Voice
voice_from v stage marked rom =
    record {
      stage = stage;
      place = v.place;
      channel = v.channel;
      key = v.key;
      velocity = v.velocity;
      marked = marked;
      class = v.class;
      rom = rom;
      start = v.start;
      end = v.end;
      mode = v.mode;
      loopfrom = v.loopfrom;
      loopto = v.loopto;
      rate = v.rate;
      pitch = v.pitch;
      pan = v.pan;
      attenuation = v.attenuation;
      attack = v.attack;
      hold = v.hold;
      decay = v.decay;
      sustain = v.sustain;
      release = v.release;
    }

-- a voice from its twin
abbrev pub voice_of_twin : FlatVoice → Voice
voice_of_twin v = voice_from v (stage_of v.stage) (flag_of v.marked) (flag_of v.rom)

-- a twin with the numbers of a voice, a stage and the two flags
abbrev pub twin_from : Voice → FlatStage → ℕ → ℕ → FlatVoice
twin_from v stage marked rom =
    record {
      stage = stage;
      place = v.place;
      channel = v.channel;
      key = v.key;
      velocity = v.velocity;
      marked = marked;
      class = v.class;
      rom = rom;
      start = v.start;
      end = v.end;
      mode = v.mode;
      loopfrom = v.loopfrom;
      loopto = v.loopto;
      rate = v.rate;
      pitch = v.pitch;
      pan = v.pan;
      attenuation = v.attenuation;
      attack = v.attack;
      hold = v.hold;
      decay = v.decay;
      sustain = v.sustain;
      release = v.release;
    }

-- a voice's twin
abbrev pub voice_to : Voice → FlatVoice
voice_to v = twin_from v (stage_to v.stage) (flag_to v.marked) (flag_to v.rom)

-- an engine from its twin
unfoldable pub engine_of : FlatEngine → Engine
engine_of e =
    record {
      voices = map voice_of_twin e.voices;
      channels = e.channels;
      sounding = e.sounding;
      order = e.order;
      clock = e.clock;
    }

-- an engine's twin
unfoldable pub engine_to : Engine → FlatEngine
engine_to e =
    record {
      voices = map voice_to e.voices;
      channels = e.channels;
      sounding = e.sounding;
      order = e.order;
      clock = e.clock;
    }

-- a player from its twin: no event is left where its flag says so, whatever stands in the event's place
unfoldable pub player_of : FlatPlayer → Player
player_of p =
    record {
      engine = engine_of p.engine;
      cursor = p.cursor;
      event = cond (flag_of p.ended) None (Some p.event);
      began = p.began;
    }

-- a player's twin
unfoldable pub player_to : Player → FlatPlayer
player_to p =
    record {
      engine = engine_to p.engine;
      cursor = p.cursor;
      event = coming_event p;
      began = p.began;
      ended = flag_to (song_over p);
    }
