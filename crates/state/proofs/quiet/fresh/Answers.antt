-- Blank slots, fresh channels, and the slots in order.
use Rattle.state.specs.Quiet.{fresh}
use Rattle.state.proofs.quiet.fresh.Goals as goal

pub returns : goal.returns
unfolding fresh
returns c = simp (c.no_voice-v.ensures, c.fresh_channel-c.ensures)
