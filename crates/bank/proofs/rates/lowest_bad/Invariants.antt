-- `lowest_bad` meets its contract.
use mathlib.Core.Path.{◌≡◌}
use Prim.Native.Nat.{◌-◌, ◌≤◌}
use Rattle.bank.proofs.OnePassLaws.{lowest_below}
use Rattle.bank.proofs.rates.lowest_bad.Given as goal

abbrev pub invariant-loop-h : goal.invariant-loop-h
invariant-loop-h l = l.low ≡ lowest_below l.b l.m l.h
