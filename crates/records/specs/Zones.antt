-- 01, "Bank admission": zones, sounding, global and ignored; and what a generator's value is in a zone.
use Rattle.std.specs.Prelude.{List, ℕ, ◌+◌, ◌-◌, zero, suc, Bool, true, false, cond, not, ◌&&◌, eqb, leb, ℤ, Option, None, Some}
use Rattle.records.specs.Sides.{bag_of, gen_of, operator, amount, gen_at, signed}
use Rattle.records.specs.declared.Side.{Side}
use Rattle.records.specs.Looking.{first, last, or_else}
use Rattle.records.specs.declared.Zone.{Zone}

-- the zones of head h: the bags from its bag index up to the next head's
unfoldable pub zone_count : List ℕ → Side → ℕ → ℕ
zone_count b s h = bag_of b s (h + 1) - bag_of b s h

-- the generators of bag z as stored: from its generator index up to the next bag's
unfoldable pub gen_count : List ℕ → Side → ℕ → ℕ
gen_count b s z = gen_of b s (z + 1) - gen_of b s z

-- whether generator g has the operator o
unfoldable pub has : List ℕ → Side → ℕ → ℕ → Bool
has b s o g = eqb (operator b s g) o

-- the first 41 (53) of bag z
unfoldable pub closing_of : List ℕ → Side → ℕ → Option ℕ
closing_of b s z = first (has b s s.closing) (gen_of b s z) (gen_count b s z)

-- a zone from its first generator, their number as stored, and its first 41 (53), which ends those that count
abbrev zone_by : List ℕ → Side → ℕ → ℕ → Option ℕ → Zone
zone_by b s from n None = record { from = from; count = n; sounding = false; link = 0 }
zone_by b s from n (Some g) = record { from = from; count = g - from; sounding = true; link = amount b s g }

-- bag z as a zone
unfoldable pub zone_at : List ℕ → Side → ℕ → Zone
zone_at b s z = zone_by b s (gen_of b s z) (gen_count b s z) (closing_of b s z)

-- where the 41 (53) of a sounding zone stands
abbrev pub link_at : Side → Zone → ℕ
link_at s z = gen_at s (z.from + z.count)

-- a zone of no generators
abbrev pub no_zone : Zone
no_zone = record { from = 0; count = 0; sounding = false; link = 0 }

-- the global zone of head h: the first of two or more zones, if it is not sounding
unfoldable pub global_of : List ℕ → Side → ℕ → Zone
global_of b s h =
    let z = zone_at b s (bag_of b s h) in
    cond (leb 2 (zone_count b s h) && not z.sounding) z no_zone

-- the generator of a zone that counts for the operator o: the last that has it
unfoldable pub last_of : List ℕ → Side → Zone → ℕ → Option ℕ
last_of b s z o = last (has b s o) z.from z.count

-- its amount, or where there is none d
abbrev amount_by : List ℕ → Side → ℤ → Option ℕ → ℤ
amount_by b s d None = d
amount_by b s d (Some g) = signed b s g

-- the amount of the operator o in a zone, or d
unfoldable pub amount_in : List ℕ → Side → Zone → ℤ → ℕ → ℤ
amount_in b s z d o = amount_by b s d (last_of b s z o)

-- the value of the operator o: local, else global, else d
unfoldable pub value : List ℕ → Side → Zone → Zone → ℤ → ℕ → ℤ
value b s local global d o = amount_in b s local (amount_in b s global d o) o

-- the first zone in file order, of a head h below n, at which p h holds
unfoldable pub zone_below : List ℕ → Side → (ℕ → ℕ → Bool) → ℕ → Option ℕ
zone_below b s p zero = None
zone_below b s p (suc h) = or_else (zone_below b s p h) (first (p h) (bag_of b s h) (zone_count b s h))

-- the first zone of a side, in file order, at which p holds of its head and itself. The terminal head has no zones
unfoldable pub first_zone : List ℕ → Side → (ℕ → ℕ → Bool) → Option ℕ
first_zone b s p = zone_below b s p (s.nheads - 1)
