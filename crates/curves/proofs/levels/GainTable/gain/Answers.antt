-- Each of the eight readings is a kept gain, divided; and the gain is 0 above 1,440.
use mathlib.Core.List.{List}
use Prim.Native.Nat.{ℕ, ◌+◌, ◌-◌, ◌*◌, ◌^◌, ◌/◌, ◌≤◌, ◌<◌}
use lib.ListN.{get_or}
use native.Mathlib.Nat.{div-one}
use native.Mathlib.Omega.{arith}
use mathlib.Core.Path.{◌≡◌, sym, ◌∙◌}
use Rattle.curves.proofs.LevelsLaws.{gain-read}
use Rattle.curves.proofs.LoudnessLaws.{silent-past}
use Rattle.curves.proofs.PitchLaws.{gain-le}
use Rattle.curves.specs.Levels.{gain_of, gains}
use Rattle.curves.proofs.levels.GainTable.gain.Goals as goal

-- a number that is the gain is at most 2^24
bounded : (a g : ℕ) → g ≡ gain_of a → (g ≡ gain_of a) × (g ≤ 16777216)
bounded a g e = (e, rw e (gain-le a))

-- the reading at i, divided n times
at : (n i a : ℕ) (t : List ℕ) → t ≡ gains → a ≡ n * 200 + i → i < 200 → a ≤ 1440
    → (get_or t i 0 / 10 ^ n ≡ gain_of a) × (get_or t i 0 / 10 ^ n ≤ 16777216)
at n i a t e s few h = bounded a (get_or t i 0 / 10 ^ n) (gain-read t n i a e s few h)

pub returns-then-i-lt200 : goal.returns-then-i-lt200
returns-then-i-lt200 c = let a = c.args.a in
    bounded a (get_or c.args.self.now.entries a 0) (sym (div-one (get_or c.args.self.now.entries a 0)) ∙ gain-read c.args.self.now.entries 0 a a c.args.self.now.kept (omega arith) (omega arith) (omega arith))

pub returns-then-i-lt400 : goal.returns-then-i-lt400
returns-then-i-lt400 c = at 1 (c.args.a - 200) c.args.a c.args.self.now.entries c.args.self.now.kept (omega arith) (omega arith) (omega arith)

pub returns-then-i-lt600 : goal.returns-then-i-lt600
returns-then-i-lt600 c = at 2 (c.args.a - 400) c.args.a c.args.self.now.entries c.args.self.now.kept (omega arith) (omega arith) (omega arith)

pub returns-then-i-lt800 : goal.returns-then-i-lt800
returns-then-i-lt800 c = at 3 (c.args.a - 600) c.args.a c.args.self.now.entries c.args.self.now.kept (omega arith) (omega arith) (omega arith)

pub returns-then-i-lt1000 : goal.returns-then-i-lt1000
returns-then-i-lt1000 c = at 4 (c.args.a - 800) c.args.a c.args.self.now.entries c.args.self.now.kept (omega arith) (omega arith) (omega arith)

pub returns-then-i-lt1200 : goal.returns-then-i-lt1200
returns-then-i-lt1200 c = at 5 (c.args.a - 1000) c.args.a c.args.self.now.entries c.args.self.now.kept (omega arith) (omega arith) (omega arith)

pub returns-then-i-lt1400 : goal.returns-then-i-lt1400
returns-then-i-lt1400 c = at 6 (c.args.a - 1200) c.args.a c.args.self.now.entries c.args.self.now.kept (omega arith) (omega arith) (omega arith)

pub returns-then-i-lt1441 : goal.returns-then-i-lt1441
returns-then-i-lt1441 c = at 7 (c.args.a - 1400) c.args.a c.args.self.now.entries c.args.self.now.kept (omega arith) (omega arith) (omega arith)

pub returns : goal.returns
returns c = bounded c.args.a 0 (sym (silent-past c.args.a (omega arith)))
