-- What C's memory holds after a step over an event of a song.
use Rattle.player.specs.declared.Stepped.{Stepped}
use Rattle.player.specs.Playing.{refusal}
use Rattle.cabinet.specs.declared.Flat.{Flat}
use Rattle.cabinet.specs.Keeping.{kept}

-- the event's number, 1 where there was one, 1 where it was refused, and the player behind it
abbrev pub kept_step : Stepped → Flat
kept_step x = kept x.number x.applied (refusal x.number) 0 x.player
