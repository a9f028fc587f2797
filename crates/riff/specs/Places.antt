-- Where the parts of a file lie that is not refused, and what has no part in that.
use Rattle.std.specs.Prelude.{List, ◌++◌, ◌≡◌, ℕ, ◌+◌, ◌≤◌, length}
use Rattle.riff.specs.declared.Part.{Part}
use Rattle.riff.specs.Form.{bank_type, data_type, find_of}
use Rattle.riff.specs.Chunks.{body_end}
use Rattle.riff.specs.Faults.{IsList, IsSamples, FirstOf}

-- the body of the form's first pdta list, behind its name, its size and its type
pub record IsBank (b : List ℕ) (part : Part) : Type 0 where
  pub list : ℕ
  pub first : FirstOf b (body_end b 0) 12 (IsList b bank_type) list
  pub begins : part.at ≡ list + 12
  pub ends : part.at + part.size ≡ body_end b list

-- the body of the first smpl chunk of the form's first sdta list, behind its name and its size
pub record AreSamples (b : List ℕ) (part : Part) : Type 0 where
  pub list : ℕ
  pub chunk : ℕ
  pub first-list : FirstOf b (body_end b 0) 12 (IsList b data_type) list
  pub first : FirstOf b (body_end b list) (list + 12) (IsSamples b) chunk
  pub begins : part.at ≡ chunk + 8
  pub ends : part.at + part.size ≡ body_end b chunk

-- both parts are what they are called
abbrev pub PartsStand : Type 0
PartsStand = (b : List ℕ) → (find_of b).number ≡ 0 → IsBank b (find_of b).bank × AreSamples b (find_of b).samples

-- both lie in the file
abbrev pub PartsWithin : Type 0
PartsWithin =
    (b : List ℕ) → (find_of b).number ≡ 0
    → ((find_of b).bank.at + (find_of b).bank.size ≤ length b) × ((find_of b).samples.at + (find_of b).samples.size ≤ length b)

-- what stands behind the form has no part in it
abbrev pub TailIgnored : Type 0
TailIgnored = (b more : List ℕ) → 12 ≤ length b → body_end b 0 ≤ length b → find_of (b ++ more) ≡ find_of b
