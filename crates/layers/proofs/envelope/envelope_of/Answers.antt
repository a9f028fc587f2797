-- `envelope_of` meets its contract.
use borrow.Author.Rules.{sfits_of}
use mathlib.Core.Path.{◌≡◌, refl, ap, ◌∙◌}
use mir.Facts.{to_z-of_z}
use mir.Syntax.{w32}
use Prim.Native.Nat.{ℕ}
use lib.IntN.{ℤ, pos}
use Rattle.arith.specs.Holds.{between}
use Rattle.curves.specs.Times.{frames}
use Rattle.totals.specs.Settings.{keyed_time}
use Rattle.totals.specs.Values.{total_of, held_total, instrument_only}
use Rattle.layers.specs.declared.envelope.Envelope.{Envelope}
use Rattle.layers.proofs.envelope.envelope_of.Goals as goal

abbrev made : ℕ → ℕ → ℕ → ℕ → ℕ → ℕ → Envelope
made delay attack hold decay sustain release =
    record { delay = delay; attack = attack; hold = hold; decay = decay; sustain = sustain; release = release }

same : {a b d e h i k l s t r q : ℕ} → a ≡ b → d ≡ e → h ≡ i → k ≡ l → s ≡ t → r ≡ q → made a d h k s r ≡ made b e i l t q
same u v w x y z = rw (u, v, w, x, y, z) refl

-- the frames of a time as the code has it, read back from its bits
frames-of : {r : ℕ} (top : ℤ) {x y z : ℤ} → r ≡ frames top x → x ≡ y → y ≡ z → r ≡ frames top z
frames-of top e f g = e ∙ ap (frames top) (f ∙ g)

pub returns : goal.returns
unfolding keyed_time total_of held_total instrument_only between
returns c = same
    (frames-of (pos 5000) c.short_frames.ensures (to_z-of_z {w = w32} {z = c.time_of.result} (sfits_of c.time_of.type_inv)) c.time_of.ensures)
    (frames-of (pos 8000) c.long_frames.ensures (to_z-of_z {w = w32} {z = c.time_of-2.result} (sfits_of c.time_of-2.type_inv)) c.time_of-2.ensures)
    (frames-of (pos 5000) c.short_frames-2.ensures (to_z-of_z {w = w32} {z = c.keyed_time.result} (sfits_of c.keyed_time.type_inv)) c.keyed_time.ensures)
    (frames-of (pos 8000) c.long_frames-2.ensures (to_z-of_z {w = w32} {z = c.keyed_time-2.result} (sfits_of c.keyed_time-2.type_inv)) c.keyed_time-2.ensures)
    c.sustain_of.ensures
    (frames-of (pos 8000) c.long_frames-3.ensures (to_z-of_z {w = w32} {z = c.time_of-3.result} (sfits_of c.time_of-3.type_inv)) c.time_of-3.ensures)
