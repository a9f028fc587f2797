-- `window_past` meets its contract.
use borrow.Author.Rules.{sfits_of}
use lib.IntN.{pos}
use lib.Signed.{lt_z}
use mathlib.Core.Path.{sym, ap, ◌∙◌}
use mir.Facts.{to_z-of_z}
use mir.Syntax.{w64}
use Rattle.bank.specs.Past.{window_past}
use Rattle.bank.proofs.past.window_past.Goals as goal

pub returns-then-rom_of : goal.returns-then-rom_of
unfolding window_past
returns-then-rom_of c = let e = c.end_of-end in
    let is = to_z-of_z {w = w64} {z = e.result} (sfits_of e.type_inv) ∙ e.ensures in
    rw (sym c.rom_of.ensures ∙ c.if-rom_of.true) (c.ends_behind.ensures ∙ ap (lt_z (pos c.args.rom)) is)

pub returns : goal.returns
unfolding window_past
returns c = let e = c.end_of-end in
    let is = to_z-of_z {w = w64} {z = e.result} (sfits_of e.type_inv) ∙ e.ensures in
    rw (sym c.rom_of.ensures ∙ c.if-rom_of.false) (c.ends_behind-2.ensures ∙ ap (lt_z (pos c.args.ram)) is)
