-- Laws of a window's end and a count of samples.
use Rattle.std.specs.Prelude.{None}
use mathlib.Core.Bool.{Bool, true, false, cond, ◌&&◌}
use mathlib.Core.List.{List}
use mathlib.Core.Path.{◌≡◌, refl}
use Prim.Native.Nat.{ℕ, ◌≤◌}
use native.Mathlib.Omega.{arith}
use lib.Dec.{T, leb, ltb}
use lib.IntN.{ℤ, pos, negsuc, nat_abs}
use lib.Signed.{lt_z, non_neg}
use borrow.Author.Tests.{ltb-true, ltb-false, leb-false}
use Rattle.arith.specs.Holds.{word32}
use Rattle.records.proofs.LookingLaws.{placed-none}
use Rattle.records.specs.Headers.{rom_of}
use Rattle.records.specs.Sides.{parts_of}
use Rattle.records.specs.Windows.{end_of, movers}
use Rattle.records.specs.Zones.{zone_at, global_of, first_zone}
use Rattle.bank.specs.Admission.{admitted}
use Rattle.bank.specs.Links.{zone_link_at}
use Rattle.bank.specs.Past.{window_past, zone_past, past_fault, past_memory}
use Rattle.bank.specs.Rules.{Sounding}
use Rattle.bank.proofs.RulesLaws.{no-zone}

-- an end below 0 lies past no count
pub below-zero : (n : ℕ) (x : ℤ) → lt_z x (pos 0) ≡ true → false ≡ lt_z (pos n) x
below-zero n (pos a) e = absurd (omega (arith, ltb-true a 0 e))
below-zero n (negsuc a) e = refl

-- any other is a natural number
pub not-below : (x : ℤ) → lt_z x (pos 0) ≡ false → T (non_neg x)
not-below (pos a) e = tt
not-below (negsuc a) e = let z : ◌≡◌ {A = ℕ} 0 1 = cc in absurd (omega arith)

-- and is compared as one
pub as_number : (n : ℕ) (x : ℤ) → lt_z x (pos 0) ≡ false → ltb n (nat_abs x) ≡ lt_z (pos n) x
as_number n (pos a) e = refl
as_number n (negsuc a) e = let z : ◌≡◌ {A = ℕ} 0 1 = cc in absurd (omega arith)

-- an end that does not lie past a count, as a number of 32 bits
within_count : (n : ℕ) (x : ℤ) → lt_z (pos n) x ≡ false → word32 x ≤ n
unfolding word32
within_count n (negsuc a) e = omega arith
within_count n (pos a) e = by (leb a 4294967295) refl
  where
    by : (t : Bool) → leb a 4294967295 ≡ t → cond t a 4294967295 ≤ n
    by true f = ltb-false n a e
    by false f = omega (arith, ltb-false n a e, leb-false a 4294967295 f)

and_second : (s t : Bool) → s ≡ true → (s && t) ≡ false → t ≡ false
and_second s t e f = rw e at f

-- where no window past its memory is found, none of a sounding zone ends past its memory
pub none-past : (b : List ℕ) (ram rom : ℕ) → admitted b ≡ true → past_memory b ram rom ≡ None → (h z : ℕ) → Sounding b (parts_of b).instruments h z
    → word32 (end_of b (parts_of b) (zone_at b (parts_of b).instruments z).link (movers b (parts_of b) (zone_at b (parts_of b).instruments z) (global_of b (parts_of b).instruments h)))
    ≤ cond (rom_of b (parts_of b) (zone_at b (parts_of b).instruments z).link) rom ram
unfolding past_memory past_fault zone_past window_past
none-past b ram rom ok e h z w =
    let m = parts_of b in
    let i = m.instruments in
    let zone = zone_at b i z in
    let none = placed-none (zone_link_at b i) (first_zone b i (zone_past b m ram rom)) (rw ok at e) in
    let out = no-zone b i (zone_past b m ram rom) none h z w in
    let count = cond (rom_of b m zone.link) rom ram in
    let end = end_of b m zone.link (movers b m zone (global_of b i h)) in
    within_count count end (and_second zone.sounding (lt_z (pos count) end) w.sounds out)
