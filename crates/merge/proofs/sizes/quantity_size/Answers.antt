-- `quantity_size` meets its contract.
use mathlib.Core.Path.{refl}
use native.Mathlib.Omega.{arith}
use borrow.Author.Tests.{lt-ltb, le-ltb}
use Rattle.smf.specs.Spelling.{quantity_bytes}
use Rattle.merge.proofs.sizes.quantity_size.Goals as goal

pub returns-then-n-lt128 : goal.returns-then-n-lt128
unfolding quantity_bytes
returns-then-n-lt128 c = (rw (lt-ltb _ _ c.if-n-lt128.true) refl, omega arith)

pub returns-then-n-lt16384 : goal.returns-then-n-lt16384
unfolding quantity_bytes
returns-then-n-lt16384 c = (rw (le-ltb _ _ c.if-n-lt128.false, lt-ltb _ _ c.if-n-lt16384.true) refl, omega arith)

pub returns-then-n-lt2097152 : goal.returns-then-n-lt2097152
unfolding quantity_bytes
returns-then-n-lt2097152 c = (rw (le-ltb _ _ c.if-n-lt128.false, le-ltb _ _ c.if-n-lt16384.false, lt-ltb _ _ c.if-n-lt2097152.true) refl, omega arith)

pub returns : goal.returns
unfolding quantity_bytes
returns c = (rw (le-ltb _ _ c.if-n-lt128.false, le-ltb _ _ c.if-n-lt16384.false, le-ltb _ _ c.if-n-lt2097152.false) refl, omega arith)
