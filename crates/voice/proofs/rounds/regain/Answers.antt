-- The same cB has the same gain.
use mathlib.Core.Path.{sym, ap, ◌∙◌}
use Prim.Native.Nat.{ℕ}
use lib.Dec.{lit<}
use mir.Syntax.{w64}
use Rattle.arith.proofs.WithinLaws.{w-back}
use Rattle.curves.specs.Levels.{gain_of}
use Rattle.voice.specs.Sound.{whole_loss}
use Rattle.voice.proofs.rounds.regain.Goals as goal

pub returns-then-e-last : goal.returns-then-e-last
returns-then-e-last c = (c.requires.known.0 ∙ sym (ap (λ (e : ℕ). gain_of (whole_loss c.args.l e)) c.if-e-last.true), c.requires.known.1)

pub returns : goal.returns
returns c = (c.gain.ensures.0 ∙ ap gain_of (rw (w-back w64 c.requires.loss.0 (lit< tt)) at c.total_of.ensures), c.gain.ensures.1)
