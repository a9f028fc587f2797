-- Presets and instruments have the same build: heads (phdr, inst) with a bag index, bags with a generator and a modulator
-- index, generators, and a generator (41, 53) that names an instrument or a sample. A side says where each list is.
use Rattle.std.specs.Prelude.{List, ℕ, ◌+◌, ◌*◌, ℤ}
use Rattle.records.specs.Chunks.{body, records}
use Rattle.records.specs.declared.Side.{Side}
use Rattle.records.specs.declared.Parts.{Parts}
use Rattle.arith.specs.Bytes.{u16_at, i16_at}

-- phdr: 38 bytes, bag index at 24; 41 names an inst record
unfoldable pub presets : List ℕ → Side
presets b =
    record {
      heads = body b 0;
      width = 38;
      index = 24;
      nheads = records b 0;
      bags = body b 1;
      nbags = records b 1;
      nmods = records b 2;
      gens = body b 3;
      ngens = records b 3;
      nlinks = records b 4;
      closing = 41;
    }

-- inst: 22 bytes, bag index at 20; 53 names a shdr record
unfoldable pub instruments : List ℕ → Side
instruments b =
    record {
      heads = body b 4;
      width = 22;
      index = 20;
      nheads = records b 4;
      bags = body b 5;
      nbags = records b 5;
      nmods = records b 6;
      gens = body b 7;
      ngens = records b 7;
      nlinks = records b 8;
      closing = 53;
    }

-- both, and where the sample headers (shdr) begin
unfoldable pub parts_of : List ℕ → Parts
parts_of b = record { presets = presets b; instruments = instruments b; samples = body b 8 }

-- where head h stands
abbrev pub head_at : Side → ℕ → ℕ
head_at s h = s.heads + s.width * h

-- where bag z stands
abbrev pub bag_at : Side → ℕ → ℕ
bag_at s z = s.bags + 4 * z

-- where generator g stands
abbrev pub gen_at : Side → ℕ → ℕ
gen_at s g = s.gens + 4 * g

-- the bag index of a head
unfoldable pub bag_of : List ℕ → Side → ℕ → ℕ
bag_of b s h = u16_at b (head_at s h + s.index)

-- the generator index of a bag
unfoldable pub gen_of : List ℕ → Side → ℕ → ℕ
gen_of b s z = u16_at b (bag_at s z)

-- the modulator index of a bag
unfoldable pub mod_of : List ℕ → Side → ℕ → ℕ
mod_of b s z = u16_at b (bag_at s z + 2)

-- the operator of a generator
unfoldable pub operator : List ℕ → Side → ℕ → ℕ
operator b s g = u16_at b (gen_at s g)

-- its amount, unsigned
unfoldable pub amount : List ℕ → Side → ℕ → ℕ
amount b s g = u16_at b (gen_at s g + 2)

-- its amount, signed
unfoldable pub signed : List ℕ → Side → ℕ → ℤ
signed b s g = i16_at b (gen_at s g + 2)
