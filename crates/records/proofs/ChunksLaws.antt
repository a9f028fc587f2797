-- Laws of chunks.
use mathlib.Core.List.{List}
use mathlib.Core.Path.{◌≡◌, refl}
use Prim.Native.Nat.{ℕ, ◌+◌, zero, suc, ◌≤◌, ◌<◌, ◌-◌}
use native.Mathlib.Numerals.{add-one}
use native.Mathlib.Nat.{add-zero, add-suc}
use native.Mathlib.Omega.{arith}
use lib.Dec.{lit<}
use lib.ListN.{get_or}
use Rattle.records.specs.Chunks.{chunk_at, sizes}
use Rattle.arith.specs.Bytes.{u32_at}

pub chunk-first : (b : List ℕ) → chunk_at b 0 ≡ 0
unfolding chunk_at
chunk-first b = refl

pub chunk_next : (b : List ℕ) (k : ℕ) → chunk_at b (k + 1) ≡ chunk_at b k + 8 + u32_at b (chunk_at b k + 4)
unfolding chunk_at
chunk_next b k = rw add-one refl

pub chunk-up : (b : List ℕ) (k d : ℕ) → chunk_at b k ≤ chunk_at b (k + d)
unfolding chunk_at
chunk-up b k zero = rw add-zero (omega arith)
chunk-up b k (suc d) = rw add-suc (omega (arith, chunk-up b k d))

pub sizes-pos : (k : ℕ) → k < 9 → 0 < get_or sizes k 0
sizes-pos zero h = lit< tt
sizes-pos (suc zero) h = lit< tt
sizes-pos (suc (suc zero)) h = lit< tt
sizes-pos (suc (suc (suc zero))) h = lit< tt
sizes-pos (suc (suc (suc (suc zero)))) h = lit< tt
sizes-pos (suc (suc (suc (suc (suc zero))))) h = lit< tt
sizes-pos (suc (suc (suc (suc (suc (suc zero)))))) h = lit< tt
sizes-pos (suc (suc (suc (suc (suc (suc (suc zero))))))) h = lit< tt
sizes-pos (suc (suc (suc (suc (suc (suc (suc (suc zero)))))))) h = lit< tt
sizes-pos (suc (suc (suc (suc (suc (suc (suc (suc (suc k))))))))) h = absurd (omega arith)

-- the body of a chunk begins before the ninth ends
pub chunk-room : (b : List ℕ) (k : ℕ) → k < 9 → chunk_at b k + 8 ≤ chunk_at b 9
chunk-room b k h =
    let e : k + 1 + (9 - (k + 1)) ≡ 9 = omega arith in
    let up : chunk_at b (k + 1) ≤ chunk_at b 9 = rw e at (chunk-up b (k + 1) (9 - (k + 1))) in
    omega (arith, chunk_next b k)
