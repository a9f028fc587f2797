-- 01, the table's 8: a voice's lent memory, and a window that ends past it.
use Rattle.std.specs.Prelude.{cond, Bool, List, ℤ, ltb, length}
use Rattle.voice.specs.declared.Voice.{Voice}

-- the lent memory of a voice
abbrev pub memory : List ℤ → List ℤ → Voice → List ℤ
memory ram rom v = cond v.rom rom ram

-- its window ends past its memory
abbrev pub ends_past : List ℤ → List ℤ → Voice → Bool
ends_past ram rom v = ltb (length (memory ram rom v)) v.end
