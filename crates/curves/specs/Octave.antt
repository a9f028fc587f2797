-- 01, "Tables and steps": the octave table, which steps and times are read from.
use Rattle.std.specs.Prelude.{List, ◌++◌, ℕ}
use Rattle.curves.specs.OctaveTable.{octaves0, octaves1, octaves2, octaves3, octaves4, octaves5, octaves6, octaves7}

-- T for i in 0..1,199 (`octave-largest` is its rule)
abbrev pub octaves : List ℕ
octaves = octaves0 ++ octaves1 ++ octaves2 ++ octaves3 ++ octaves4 ++ octaves5 ++ octaves6 ++ octaves7
