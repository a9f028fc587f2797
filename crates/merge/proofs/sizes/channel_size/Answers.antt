-- `channel_size` meets its contract.
use borrow.Author.Tests.{eq-eqb, ne_eqb}
use native.Mathlib.Omega.{arith}
use Rattle.smf.specs.Spelling.{event_bytes, status_bytes}
use Rattle.merge.proofs.sizes.channel_size.Goals as goal

pub returns-then-status-running : goal.returns-then-status-running
unfolding event_bytes status_bytes
returns-then-status-running c = ((λ first second. rw (eq-eqb _ _ c.if-status-running.true) (c.data_size.ensures.0 first second)), omega (arith, c.data_size.ensures.1))

pub returns : goal.returns
unfolding event_bytes status_bytes
returns c = ((λ first second. rw (ne_eqb _ _ c.if-status-running.false) (omega (arith, c.data_size-2.ensures.0 first second))), omega (arith, c.data_size-2.ensures.1))
