-- `tuning_of` meets its contract.
use borrow.Author.Rules.{sfits_of}
use mathlib.Core.Path.{◌≡◌, refl, ap₂, ◌∙◌}
use mir.Facts.{to_z-of_z}
use mir.Syntax.{w8, w16, w32}
use Prim.Native.Nat.{ℕ}
use lib.IntN.{ℤ}
use Rattle.arith.specs.Holds.{between}
use Rattle.totals.specs.Internal.Values.{total_in}
use Rattle.totals.specs.Settings.{pitch_of}
use Rattle.totals.specs.Values.{total_of, held_total, instrument_only}
use Rattle.layers.specs.declared.tuning.Tuning.{Tuning}
use Rattle.layers.proofs.tuning.tuning_of.Goals as goal

abbrev made : ℕ → ℤ → ℤ → ℤ → Tuning
made class pitch pan attenuation = record { class = class; pitch = pitch; pan = pan; attenuation = attenuation }

same : {a b : ℕ} {p q x y s t : ℤ} → a ≡ b → p ≡ q → x ≡ y → s ≡ t → made a p x s ≡ made b q y t
same e f g h = rw (e, f, g, h) refl

pub returns : goal.returns
unfolding total_of held_total instrument_only between
returns c = let pan = c.pan_of in
    let pitch = c.pitch_of in
    let correction = c.correction_of-correction in
    let a = c.args in
    same c.class_of.ensures
    (to_z-of_z {w = w32} {z = pitch.result} (sfits_of pitch.type_inv)
    ∙ rw (to_z-of_z {w = w8} {z = correction.result} (sfits_of correction.type_inv)) at pitch.ensures
    ∙ ap₂ (pitch_of (total_in a.values.now.own a.values.now.added) a.key) c.root_byte-root.ensures correction.ensures)
    (to_z-of_z {w = w16} {z = pan.result} (sfits_of pan.type_inv) ∙ pan.ensures)
    (to_z-of_z {w = w32} {z = c.attenuation_of.result} (sfits_of c.attenuation_of.type_inv) ∙ c.attenuation_of.ensures)
