-- One voice a turn.
use native.Mathlib.Omega.{arith}
use lib.ListN.{length-set}
use Rattle.voice.specs.Changes.{blank}
use Rattle.cabinet.specs.Twins.{voice_of_twin, voice_to, engine_to}
use Rattle.cabinet.proofs.TwinsLaws.{fill, filled}
use Rattle.cabinet.proofs.twins.FlatEngineFromEngine.from.Goals as goal

pub loop-i-preserved : goal.loop-i-preserved
loop-i-preserved c = let a = c.args in
    let i = c.loop-i.i in (
      c.loop-i.invariant.0,
      simp length-set c.loop-i.invariant.1,
      fill voice_to a.e.voices c.loop-i.voices i blank c.from.result (omega arith) c.loop-i.invariant.1 c.loop-i.invariant.2 c.from.ensures,
    )

pub returns : goal.returns
unfolding engine_to
returns c = simp (filled voice_to c.args.e.voices c.loop-i.voices c.loop-i.i (omega arith) c.loop-i.invariant.1 c.loop-i.invariant.2)
