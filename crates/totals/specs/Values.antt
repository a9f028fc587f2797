-- 01, "From a key to layers": values, defaults and totals.
use Rattle.std.specs.Prelude.{Bool, ◌||◌, cond, ℕ, eqb, ℤ, pos, negsuc, ◌+ℤ◌, List}
use Rattle.arith.specs.Holds.{between, held_to}
use Rattle.records.specs.Zones.{value}
use Rattle.records.specs.declared.Parts.{Parts}
use Rattle.totals.specs.declared.Layer.{Layer}

-- 0-4, 12, 45, 46, 47, 50, 54, 57, 58 count in instruments only
unfoldable pub instrument_only : ℕ → Bool
instrument_only g =
    between 0 4 g || eqb g 12 || between 45 47 g || eqb g 50 || eqb g 54 || between 57 58 g

-- 33 to 36 and 38 default to -12,000, 46 and 58 to -1, 56 to 100, others to 0
unfoldable pub default_of : ℕ → ℤ
default_of g =
    cond (between 33 36 g || eqb g 38) (negsuc 11999)
    (cond (eqb g 46 || eqb g 58) (negsuc 0)
    (cond (eqb g 56) (pos 100) (pos 0)))

-- totals are held: 17 -500..500; 37 0..1,000; 39, 40 -1,200..1,200; 51 -120..120; 52 -99..99; 56 0..1,200
unfoldable pub held_total : ℕ → ℤ → ℤ
held_total g x =
    cond (eqb g 17) (held_to (negsuc 499) (pos 500) x)
    (cond (eqb g 37) (held_to (pos 0) (pos 1000) x)
    (cond (between 39 40 g) (held_to (negsuc 1199) (pos 1200) x)
    (cond (eqb g 51) (held_to (negsuc 119) (pos 120) x)
    (cond (eqb g 52) (held_to (negsuc 98) (pos 99) x)
    (cond (eqb g 56) (held_to (pos 0) (pos 1200) x) x)))))

-- the instrument's value of generator g plus the preset's, held; or the instrument's alone, held
unfoldable pub total_of : ℕ → ℤ → ℤ → ℤ
total_of g own added = held_total g (cond (instrument_only g) own (own +ℤ added))

-- the total of generator g: the instrument's local, else global, else default, plus the preset's local, else global, else 0
unfoldable pub total : List ℕ → Parts → Layer → ℕ → ℤ
total b m l g =
    total_of g
    (value b m.instruments l.instrument l.beside (default_of g) g)
    (value b m.presets l.preset l.above (pos 0) g)
