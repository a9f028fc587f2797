-- 01, "Bank admission" and "From a key to layers": where a voice reads its sample, and how fast.
use Rattle.std.specs.Prelude.{List, ℕ, ◌-◌, min, ℤ}
use Rattle.arith.specs.Holds.{word32}
use Rattle.records.specs.Headers.{rate_of, rom_of}
use Rattle.records.specs.Windows.{start_of, end_of, loop_start_of, loop_end_of, mode_of}
use Rattle.records.specs.declared.Parts.{Parts}
use Rattle.totals.specs.Settings.{play_mode}
use Rattle.layers.specs.declared.extent.Extent.{Extent}

-- the extent of sample k with the values v: loop places are counted from the window's start; the rate is held to 16 bits,
-- which changes none of an admitted bank's
abbrev pub extent_of : List ℕ → Parts → ℕ → (ℕ → ℤ) → Extent
extent_of b m k v =
    let start = word32 (start_of b m k v) in
    record {
      rom = rom_of b m k;
      start = start;
      end = word32 (end_of b m k v);
      mode = play_mode (mode_of v);
      loopfrom = word32 (loop_start_of b m k v) - start;
      loopto = word32 (loop_end_of b m k v) - start;
      rate = min 65535 (rate_of b m k);
    }
