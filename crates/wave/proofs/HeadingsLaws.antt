-- A heading's length, and the answers of `heading`.
use mathlib.Core.List.{List, ◌++◌}
use mathlib.Core.Path.{◌≡◌, refl}
use Prim.Native.Nat.{ℕ, ◌<◌, ◌≤◌}
use borrow.Author.Tests.{eq-eqb, le-ltb, lt-ltb}
use lib.ListN.{length, drop}
use Rattle.wave.specs.Headings.{most_frames, heading_of, heading_number, headed}

-- the heading's length
pub head-length : (frames : ℕ) → length (heading_of frames) ≡ 44
unfolding heading_of
head-length frames = refl

pub head-14 : (frames room : ℕ) → most_frames < frames → heading_number frames room ≡ 14
unfolding heading_number
head-14 frames room a = rw (lt-ltb most_frames frames a)

pub head-15 : (frames room : ℕ) → frames ≤ most_frames → room < 44 → heading_number frames room ≡ 15
unfolding heading_number
head-15 frames room a b = rw (le-ltb most_frames frames a, lt-ltb room 44 b)

pub head-0 : (frames room : ℕ) → frames ≤ most_frames → 44 ≤ room → heading_number frames room ≡ 0
unfolding heading_number
head-0 frames room a b = rw (le-ltb most_frames frames a, le-ltb room 44 b)

-- what a done call leaves
pub headed-0 : (frames : ℕ) (out : List ℕ) → heading_number frames (length out) ≡ 0 → headed frames out ≡ heading_of frames ++ drop 44 out
unfolding headed
headed-0 frames out h = rw (eq-eqb (heading_number frames (length out)) 0 h)
