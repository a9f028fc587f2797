-- The cases are those of the definition.
use borrow.Author.Tests.{le-ltb, lt-ltb}
use mathlib.Core.Path.{refl}
use Rattle.wave.specs.Internal.Pcm.{word_of}
use Rattle.wave.proofs.pcm.word_of.Goals as goal

pub returns-then-negative : goal.returns-then-negative
unfolding word_of
returns-then-negative c = rw c.if-negative.true refl

pub returns-then-k-gt8388352 : goal.returns-then-k-gt8388352
unfolding word_of
returns-then-k-gt8388352 c = rw (c.if-negative.false, lt-ltb _ _ c.if-k-gt8388352.true) refl

pub returns : goal.returns
unfolding word_of
returns c = rw (c.if-negative.false, le-ltb _ _ c.if-k-gt8388352.false) refl
