-- 01, "From a key to layers": key and velocity ranges. A range stands in a generator's amount, the low byte first.
use Rattle.std.specs.Prelude.{List, ℕ, ◌/◌, ◌%◌, ◌+◌, Bool, ◌&&◌, cond, ltb}
use Rattle.records.specs.Sides.{amount}
use Rattle.records.specs.declared.Side.{Side}
use Rattle.layers.specs.declared.Range.{Range}
use Rattle.arith.specs.Holds.{between}
use Rattle.records.specs.Zones.{has}
use Rattle.records.specs.declared.Zone.{Zone}

-- the range in generator g
unfoldable pub range_at : List ℕ → Side → ℕ → Range
range_at b s g = record { low = amount b s g % 256; high = amount b s g / 256 }

-- 0..127
abbrev pub whole : Range
whole = record { low = 0; high = 127 }

-- whether x is in a range. Low above high matches nothing
unfoldable pub inside : Range → ℕ → Bool
inside r x = between r.low r.high x

-- whether the zone's generator n, counted from 0, is there and has the operator o
unfoldable pub has_as : List ℕ → Side → Zone → ℕ → ℕ → Bool
has_as b s z n o = ltb n z.count && has b s o (z.from + n)

-- the zone's key range, or d: it (43) counts only as first generator
unfoldable pub key_range : List ℕ → Side → Zone → Range → Range
key_range b s z d = cond (has_as b s z 0 43) (range_at b s z.from) d

-- the zone's velocity range, or d: it (44) counts as first, or as second behind a key range
unfoldable pub velocity_range : List ℕ → Side → Zone → Range → Range
velocity_range b s z d =
    cond (has_as b s z 0 44) (range_at b s z.from) (cond (has_as b s z 0 43 && has_as b s z 1 44) (range_at b s (z.from + 1)) d)

-- a local range replaces the global one; default 0..127
unfoldable pub matches : List ℕ → Side → Zone → Zone → ℕ → ℕ → Bool
matches b s local global key velocity =
    inside (key_range b s local (key_range b s global whole)) key
    && inside (velocity_range b s local (velocity_range b s global whole)) velocity
