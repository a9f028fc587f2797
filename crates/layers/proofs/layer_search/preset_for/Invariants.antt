-- `preset_for` meets its contract: none of the records passed is the preset.
use Rattle.std.specs.Prelude.{None}
use mathlib.Core.Path.{◌≡◌}
use Rattle.records.specs.Looking.{first}
use Rattle.layers.specs.LayerSearch.{is_preset}
use Rattle.layers.proofs.layer_search.preset_for.Given as goal

abbrev pub invariant-loop-h : goal.invariant-loop-h
invariant-loop-h l = first (is_preset l.b l.m l.bank l.program) 0 l.h ≡ None
