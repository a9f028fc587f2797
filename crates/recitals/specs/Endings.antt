-- A song whose every strike has its note-off ends in silence.
use Rattle.std.specs.Prelude.{ℕ, ◌≤◌, ◌<◌, ◌+◌, cond, true, ◌&&◌, List, [], ◌∷◌, ◌≡◌, eqb, ℤ}
use Rattle.smf.specs.declared.Event.{Event}
use Rattle.smf.specs.Track.{Events}
use Rattle.smf.specs.Songs.{events_of}
use Rattle.player.specs.Acting.{kind_of, channel_in}
use Rattle.player.specs.Cues.{song_over, idle}
use Rattle.promises.specs.Night.{Piece, AllReleased, longest_release}
use Rattle.recitals.specs.Turns.{Turn, Start, next_turn, run_turns, InClocks}
use Rattle.recitals.specs.Recital.{calls_for, Plays}

-- the last value of control 64 among some events of a channel, and `before` where there is none
unfoldable pub pedal_after : ℕ → ℕ → List Event → ℕ
pedal_after c before [] = before
pedal_after c before (v ∷ vs) =
    pedal_after c (cond (eqb (kind_of v) 11 && eqb (channel_in v) c && eqb v.first 64) v.second before) vs

-- a song that leaves each key behind the last time that it strikes it, and no pedal down
pub record Closed (bank : List ℕ) (ram rom : List ℤ) (vs : List Event) : Type 0 where
  pub keys : Piece (calls_for bank ram rom vs)
  pub pedals : (c : ℕ) → pedal_after c 0 vs < 64

-- such a song is started after any turns, played by ts until it is over, and then for m frames more by us
pub record PlayedOut (song bank : List ℕ) (ram rom : List ℤ) (vs : List Event) (before ts us : List Turn) (n m : ℕ) : Type 0 where
  pub clocks : InClocks before
  pub events : events_of song ≡ Events vs
  pub closed : Closed bank ram rom vs
  pub played : Plays song bank ram rom ts n (next_turn (Start song) (run_turns before idle))
  pub over : song_over (run_turns (Start song ∷ ts) (run_turns before idle)) ≡ true
  pub rest : Plays song bank ram rom us m (run_turns (Start song ∷ ts) (run_turns before idle))

-- once it is over, every voice that still sounds is released
abbrev pub SongIsReleased : Type 0
SongIsReleased =
    (song bank : List ℕ) (ram rom : List ℤ) (vs : List Event) (before ts us : List Turn) (n m : ℕ)
    → PlayedOut song bank ram rom vs before ts us n m → AllReleased (run_turns (Start song ∷ ts) (run_turns before idle)).engine

-- after the frames of the longest release and one more the slot word is 0
abbrev pub SongEndsInSilence : Type 0
SongEndsInSilence =
    (song bank : List ℕ) (ram rom : List ℤ) (vs : List Event) (before ts us : List Turn) (n m : ℕ)
    → PlayedOut song bank ram rom vs before ts us n m
    → longest_release (run_turns (Start song ∷ ts) (run_turns before idle)).engine + 1 ≤ m
    → (run_turns us (run_turns (Start song ∷ ts) (run_turns before idle))).engine.sounding ≡ 0

-- 4,480,281 frames are always enough
abbrev pub SongEndsAlways : Type 0
SongEndsAlways =
    (song bank : List ℕ) (ram rom : List ℤ) (vs : List Event) (before ts us : List Turn) (n m : ℕ)
    → PlayedOut song bank ram rom vs before ts us n m → 4480281 ≤ m
    → (run_turns us (run_turns (Start song ∷ ts) (run_turns before idle))).engine.sounding ≡ 0
