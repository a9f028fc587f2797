-- The entry that is read is one of the octave table.
use mathlib.Core.Path.{◌≡◌, ap}
use mathlib.Core.List.{List}
use Prim.Native.Nat.{ℕ, ◌%◌, ◌≤◌}
use native.Mathlib.Nat.{lt_of_le_of_lt}
use lib.Dec.{lit<}
use lib.ListN.{get_or}
use Rattle.curves.proofs.PitchLaws.{octave-le}
use Rattle.curves.specs.Octave.{octaves}
use Rattle.curves.proofs.octave.OctaveTable.entry.Goals as goal

same : (t : List ℕ) (i : ℕ) → t ≡ octaves → (get_or t i 0 ≡ get_or octaves i 0) × (get_or t i 0 ≤ 2147483647)
same t i e = let h = ap (λ (l : List ℕ). get_or l i 0) e in (h, rw h (octave-le i))

pub returns : goal.returns
returns c = same c.args.self.now.entries (c.args.c % 1200) c.args.self.now.kept
