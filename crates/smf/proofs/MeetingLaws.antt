-- What is met at a cursor, by the delta time that stands there.
use Rattle.std.proofs.Common.{None}
use mathlib.Core.List.{List}
use mathlib.Core.Path.{◌≡◌, refl}
use Prim.Native.Nat.{ℕ}
use Rattle.smf.specs.declared.Cursor.{Cursor}
use Rattle.smf.specs.declared.Met.TheVariants.{Fault}
use Rattle.smf.specs.Quantities.{quantity_at, quantity}
use Rattle.smf.specs.Items.{item_at}
use Rattle.smf.specs.Ticks.{sum_after}
use Rattle.smf.specs.Track.{edge_of, obeyed, meet_at}

-- a bad one is at fault at its first byte
pub meet-bad : (b : List ℕ) (c : Cursor) → quantity_at b (edge_of b c) c.at ≡ None → meet_at b c ≡ Fault 9 c.at
unfolding meet_at
meet-bad b c e = rw (e, meet_at) refl

-- behind a good one stands the event
pub meet-good : (b : List ℕ) (c : Cursor) (ticks place : ℕ) → quantity_at b (edge_of b c) c.at ≡ quantity ticks place → meet_at b c ≡ obeyed (item_at b (edge_of b c) c.running place) c (sum_after c ticks) place
unfolding meet_at
meet-good b c ticks place e = rw (e, meet_at) refl
