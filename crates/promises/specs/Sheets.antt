-- What is told of a preset is true of its layers; and where no window past a memory is told of, none refuses a note-on.
use Rattle.std.specs.Prelude.{ℕ, ◌<◌, ◌≤◌, ◌+◌, List, [], ◌⊎◌, ◌≡◌, ℤ, length, None}
use Rattle.bank.specs.Past.{past_memory}
use Rattle.layers.specs.LayerSearch.{layers_of}
use Rattle.layers.specs.Spans.{SheetNumbers, sheet_of}
use Rattle.records.specs.Sides.{parts_of}
use Rattle.state.specs.declared.Engine.{Engine}
use Rattle.promises.specs.Calls.{does, NoteOn}

-- a key of preset h has a layer at some velocity of a note-on
pub record HasLayer (b : List ℕ) (h key : ℕ) : Type 0 where
  pub velocity : ℕ
  pub low : 1 ≤ velocity
  pub high : velocity ≤ 127
  pub layer : 0 < length (layers_of b (parts_of b) key velocity h)

-- a sheet tells what is so of preset h: the 20 bytes of its name lie in the bank; a key outside of low..high has no layer at any
-- velocity of a note-on; and where low is not above high, both of them have one
pub record SheetTells (b : List ℕ) (h : ℕ) (s : SheetNumbers) : Type 0 where
  pub name : s.name + 20 ≤ length b
  pub silent :
      (key velocity : ℕ) → key ≤ 127 → 1 ≤ velocity → velocity ≤ 127
      → (key < s.low) ⊎ (s.high < key) → layers_of b (parts_of b) key velocity h ≡ []
  pub lowest : s.low ≤ s.high → HasLayer b h s.low
  pub highest : s.low ≤ s.high → HasLayer b h s.high

-- every sheet of a preset does
abbrev pub SheetsTell : Type 0
SheetsTell = (b : List ℕ) (h : ℕ) → (sheet_of b h).kind ≡ 0 → SheetTells b h (sheet_of b h)

-- where no window of a bank is found past memories of these lengths, no note-on that is lent such memories is refused with 8
abbrev pub NoneRefusedWith8 : Type 0
NoneRefusedWith8 =
    (b : List ℕ) (ram rom : List ℤ) → past_memory b (length ram) (length rom) ≡ None
    → (c k v : ℕ) (e : Engine) → (does (NoteOn b ram rom c k v) e).status ≡ 8 → ⊥
