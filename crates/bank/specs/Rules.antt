-- 01, "Bank admission", as rules for every record: the same as `admitted`, said without an order of tests.
use Rattle.std.specs.Prelude.{◌≡◌, ℕ, ◌+◌, ◌≤◌, ◌<◌, ◌-◌, ◌%◌, true, List, ℤ, pos, ◌≤ℤ◌, ◌<ℤ◌, length, get_or}
use Rattle.records.specs.Sides.{bag_of, gen_of, mod_of, instruments, presets, parts_of}
use Rattle.records.specs.Zones.{zone_at, global_of}
use Rattle.records.specs.declared.Side.{Side}
use Rattle.records.specs.Windows.{start_of, end_of, loop_start_of, loop_end_of, mode_of, loops, movers}
use Rattle.records.specs.declared.Parts.{Parts}
use Rattle.records.specs.Headers.{rate_of}
use Rattle.records.specs.Chunks.{names, sizes, leasts, chunk_at, name_at, bytes_in, records}

-- n indexes never fall, and the terminal one names the last of m records
pub record Rising (index : ℕ → ℕ) (n m : ℕ) : Type 0 where
  pub grows : (i : ℕ) → i + 1 < n → index i ≤ index (i + 1)
  pub ends : (i : ℕ) → i + 1 ≡ n → index i + 1 ≡ m

-- bag z is a sounding zone of head h, which is not the terminal one
pub record Sounding (b : List ℕ) (s : Side) (h z : ℕ) : Type 0 where
  pub head : h + 1 < s.nheads
  pub low : bag_of b s h ≤ z
  pub high : z < bag_of b s (h + 1)
  pub sounds : (zone_at b s z).sounding ≡ true

-- one side: its indexes, and the numbers that its sounding zones name
pub record GoodSide (b : List ℕ) (s : Side) : Type 0 where
  pub heads : Rising (bag_of b s) s.nheads s.nbags
  pub gens : Rising (gen_of b s) s.nbags s.ngens
  pub mods : Rising (mod_of b s) s.nbags s.nmods
  pub links : (h z : ℕ) → Sounding b s h z → (zone_at b s z).link < s.nlinks - 1

-- the window of sample k with the values v: 0 <= start < end < 2^32, and for modes 1 and 3 also start <= loop start < loop end <= end
pub record GoodWindow (b : List ℕ) (m : Parts) (k : ℕ) (v : ℕ → ℤ) : Type 0 where
  pub low : pos 0 ≤ℤ start_of b m k v
  pub some : start_of b m k v <ℤ end_of b m k v
  pub high : end_of b m k v <ℤ pos 4294967296
  pub loop-low : loops (mode_of v) ≡ true → start_of b m k v ≤ℤ loop_start_of b m k v
  pub loop-some : loops (mode_of v) ≡ true → loop_start_of b m k v <ℤ loop_end_of b m k v
  pub loop-high : loops (mode_of v) ≡ true → loop_end_of b m k v ≤ℤ end_of b m k v

-- every sounding instrument zone: its sample's rate and its window
pub record GoodSounds (b : List ℕ) (m : Parts) : Type 0 where
  pub rate-low : (h z : ℕ) → Sounding b m.instruments h z → 400 ≤ rate_of b m (zone_at b m.instruments z).link
  pub rate-high : (h z : ℕ) → Sounding b m.instruments h z → rate_of b m (zone_at b m.instruments z).link ≤ 50000
  pub windows : (h z : ℕ) → Sounding b m.instruments h z → GoodWindow b m (zone_at b m.instruments z).link (movers b m (zone_at b m.instruments z) (global_of b m.instruments h))

-- a bank that is admitted
pub record Admitted (b : List ℕ) : Type 0 where
  pub short : length b ≤ 65536
  pub named : (k : ℕ) → k < 9 → name_at b k ≡ get_or names k 0
  pub whole : chunk_at b 9 ≡ length b
  pub multiples : (k : ℕ) → k < 9 → bytes_in b k % get_or sizes k 0 ≡ 0
  pub enough : (k : ℕ) → k < 9 → get_or leasts k 0 ≤ records b k
  pub preset-side : GoodSide b (presets b)
  pub instrument-side : GoodSide b (instruments b)
  pub sounds : GoodSounds b (parts_of b)
