-- SoundFont 2.01: a chunk RIFF of type sfbk. Its list pdta is the bank, and the chunk smpl of its list sdta the samples, 16 bits each; there is no chunk for samples in ROM.
-- The first list of each type counts, and the first smpl in the first sdta; chunks and lists may stand in any order, and others are stepped over.
use Rattle.std.specs.Prelude.{cond, not, ◌||◌, List, ℕ, ◌+◌, ◌-◌, eqb, ltb, length, Result, Ok, Err}
use Rattle.arith.specs.Bytes.{u32_at}
use Rattle.riff.specs.declared.Fault.{Fault}
use Rattle.riff.specs.declared.FaultKind.{FaultKind}
use Rattle.riff.specs.declared.FaultKind.TheVariants.{NotFont, Broken, Missing}
use Rattle.riff.specs.declared.Font.{Font}
use Rattle.riff.specs.declared.Part.{Part}
use Rattle.riff.specs.declared.form.Span.{Span}
use Rattle.riff.specs.Chunks.{list_name, size_at, body_end, stop_at, first_at}

-- RIFF, 52 49 46 46
abbrev pub riff_name : ℕ
riff_name = 1179011410

-- sfbk, 73 66 62 6B
abbrev pub font_type : ℕ
font_type = 1801610867

-- pdta, 70 64 74 61
abbrev pub bank_type : ℕ
bank_type = 1635017840

-- sdta, 73 64 74 61
abbrev pub data_type : ℕ
data_type = 1635017843

-- smpl, 73 6D 70 6C
abbrev pub samples_name : ℕ
samples_name = 1819307379

-- what is told of a file: 0, and where the bank and the samples lie; or 40, 41 or 42 and the place of the first fault, with no parts
pub record Found : Type 0 where
  pub number : ℕ
  pub place : ℕ
  pub bank : Part
  pub samples : Part

-- a fault's number and place, and no parts
unfoldable pub refused_by : ℕ → ℕ → Found
refused_by number place =
    record { number = number; place = place; bank = record { at = 0; size = 0 }; samples = record { at = 0; size = 0 } }

-- the number of a kind of fault
abbrev pub kind_number : FaultKind → ℕ
kind_number NotFont = 40
kind_number Broken = 41
kind_number Missing = 42

-- an answer as it is told
abbrev pub told_font : Result Font Fault → Found
told_font (Ok f) = record { number = 0; place = 0; bank = f.bank; samples = f.samples }
told_font (Err f) = refused_by (kind_number f.kind) f.place

-- a list's body behind its type
unfoldable pub list_body : List ℕ → ℕ → Part
list_body b at = record { at = at + 12; size = size_at b at - 4 }

-- a chunk's body, in bytes: of smpl an odd one at its end is no sample
unfoldable pub chunk_body : List ℕ → ℕ → Part
chunk_body b at = record { at = at + 8; size = size_at b at }

-- the place of the first pdta list of a form that ends so; its end where there is none
unfoldable pub bank_at : List ℕ → ℕ → ℕ
bank_at b end = first_at b end list_name bank_type 12

-- .. of the first sdta list
unfoldable pub data_at : List ℕ → ℕ → ℕ
data_at b end = first_at b end list_name data_type 12

-- the chunks in the first sdta list; none, at the form's end, where there is no such list
unfoldable pub data_span : List ℕ → ℕ → Span
data_span b end =
    cond (eqb (data_at b end) end) (record { from = end; end = end })
    (record { from = data_at b end + 12; end = body_end b (data_at b end) })

-- the place of the first smpl chunk in a span; its end where there is none
unfoldable pub samples_at : List ℕ → Span → ℕ
samples_at b s = first_at b s.end samples_name 0 s.from

-- what a form holds, the span being that of its sdta list. 41 is at the first chunk in the file that is not whole: in the list, then in the form, since a form is not walked
-- past a fault. 42 is where the list ends that has no smpl, or the form that has no such list or no pdta list
unfoldable pub found_in : List ℕ → ℕ → Span → Found
found_in b end s =
    cond (not (eqb (stop_at b s.end s.from) s.end)) (refused_by 41 (stop_at b s.end s.from))
    (cond (not (eqb (stop_at b end 12) end)) (refused_by 41 (stop_at b end 12))
    (cond (eqb (samples_at b s) s.end) (refused_by 42 s.end)
    (cond (eqb (bank_at b end) end) (refused_by 42 end)
    (record { number = 0; place = 0; bank = list_body b (bank_at b end); samples = chunk_body b (samples_at b s) }))))

-- a file: 40 where it does not begin with RIFF, at 0, or is of another type, at 8; 41 at 0 where the form passes the file's end or has no room for its type; else what the
-- form holds. What stands behind the form has no part in it
unfoldable pub find_of : List ℕ → Found
find_of b =
    cond (not (eqb (u32_at b 0) riff_name)) (refused_by 40 0)
    (cond (not (eqb (u32_at b 8) font_type)) (refused_by 40 8)
    (cond (ltb (size_at b 0) 4 || ltb (length b) (body_end b 0)) (refused_by 41 0)
    (found_in b (body_end b 0) (data_span b (body_end b 0)))))
