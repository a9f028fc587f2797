-- 01, "From a key to layers" and "Tables and steps": what a starting voice gets of its layer's totals t.
use Rattle.std.specs.Prelude.{cond, ℕ, ℤ, pos, nat_abs, ◌+ℤ◌, ◌-ℤ◌, ◌*ℤ◌, leb, eqb}
use Rattle.arith.specs.Holds.{between_z}
use Rattle.curves.specs.Levels.{cb_of}

-- x if low..127, else the other
unfoldable pub if_midi : ℕ → ℤ → ℕ → ℕ
if_midi low x other = cond (between_z (pos low) (pos 127) x) (nat_abs x) other

-- key: generator 46 if 0..127, else the struck key
unfoldable pub key_of : (ℕ → ℤ) → ℕ → ℕ
key_of t key = if_midi 0 (t 46) key

-- root: generator 58 if 0..127, else the header's, else 60 where that exceeds 127
unfoldable pub root_of : (ℕ → ℤ) → ℕ → ℕ
root_of t header = if_midi 0 (t 58) (cond (leb header 127) header 60)

-- the pitch total without the bend: (key - root) * scale + 100 * coarse + fine + the header's correction
unfoldable pub pitch_of : (ℕ → ℤ) → ℕ → ℕ → ℤ → ℤ
pitch_of t key header correction =
    (pos (key_of t key) -ℤ pos (root_of t header)) *ℤ t 56 +ℤ pos 100 *ℤ t 51 +ℤ t 52 +ℤ correction

-- hold (35) and decay (36) add (60 - key) times generator 39 or 40
unfoldable pub keyed_time : (ℕ → ℤ) → ℕ → ℕ → ℕ → ℤ
keyed_time t key g by = t g +ℤ (pos 60 -ℤ pos (key_of t key)) *ℤ t by

-- the velocity that attenuates: generator 47, if 1..127, replaces the struck one here only
unfoldable pub softness : (ℕ → ℤ) → ℕ → ℕ
softness t velocity = if_midi 1 (t 47) velocity

-- what stays of the attenuation: generator 48's total and velocity
unfoldable pub attenuation_of : (ℕ → ℤ) → ℕ → ℤ
attenuation_of t velocity = t 48 +ℤ pos (cb_of (softness t velocity))

-- mode 2 counts as 0
unfoldable pub play_mode : ℕ → ℕ
play_mode mode = cond (eqb mode 2) 0 mode
