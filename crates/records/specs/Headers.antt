-- 01, "Bank admission": what stands in the headers of presets (phdr) and samples (shdr).
use Rattle.std.specs.Prelude.{ℕ, ◌+◌, ◌*◌, List, Bool, not, ltb}
use Rattle.records.specs.declared.Parts.{Parts}
use Rattle.arith.specs.Bytes.{u16_at, u32_at}
use Rattle.records.specs.Sides.{head_at}

-- where the header of sample k stands (shdr, 46 bytes)
abbrev pub sample_at : Parts → ℕ → ℕ
sample_at m k = m.samples + 46 * k

-- the program of preset h
unfoldable pub program_of : List ℕ → Parts → ℕ → ℕ
program_of b m h = u16_at b (head_at m.presets h + 20)

-- the bank of preset h
unfoldable pub bank_of : List ℕ → Parts → ℕ → ℕ
bank_of b m h = u16_at b (head_at m.presets h + 22)

-- the sample rate of sample k
unfoldable pub rate_of : List ℕ → Parts → ℕ → ℕ
rate_of b m k = u32_at b (sample_at m k + 36)

-- header type bit 15 says ROM
unfoldable pub rom_of : List ℕ → Parts → ℕ → Bool
rom_of b m k = not (ltb (u16_at b (sample_at m k + 44)) 32768)
