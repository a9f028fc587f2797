-- A turn starts one layer.
use mathlib.Core.Path.{sym, ap, ◌∙◌}
use native.Mathlib.Omega.{arith}
use lib.ListN.{get_or, take}
use Rattle.voice.specs.Changes.{blank}
use Rattle.events.specs.Starting.{start, start_all}
use Rattle.events.specs.Internal.Starting.{begin}
use Rattle.events.proofs.StartingLaws.{start_none, start-turn}
use Rattle.events.proofs.starting.start_all.Goals as goal

pub loop-v-init : goal.loop-v-init
loop-v-init c = sym (start_none c.args.voices.now (begin c.args.e))

pub loop-v-preserved : goal.loop-v-preserved
loop-v-preserved c = let a = c.args in
    c.start_one-b.ensures ∙ ap (start (get_or a.voices.now c.loop-v.v-index blank)) c.loop-v.invariant
    ∙ sym (start-turn a.voices.now c.loop-v.v-index (begin a.e) (omega arith))
