-- Frames more spent, by the stage: each return by that case of `spent_by`, and the count fits by `RoomBy`.
use mathlib.Core.Path.{sym, ap, subst}
use native.Mathlib.Omega.{arith}
use Rattle.voice.specs.Internal.Stages.{RoomBy}
use Rattle.voice.specs.Stages.{spent_by}
use Rattle.voice.proofs.stages.age_by.Goals as goal

pub overflow_add-result : goal.overflow_add-result
overflow_add-result c = let h = subst (RoomBy c.args.m) c.in-Attack.is c.requires in omega (arith, h)

pub overflow_add-result-in-Hold : goal.overflow_add-result-in-Hold
overflow_add-result-in-Hold c = let h = subst (RoomBy c.args.m) c.in-Hold.is c.requires in omega (arith, h)

pub overflow_add-result-in-Decay : goal.overflow_add-result-in-Decay
overflow_add-result-in-Decay c = let h = subst (RoomBy c.args.m) c.in-Decay.is c.requires in omega (arith, h)

pub overflow_add-result-in-Release : goal.overflow_add-result-in-Release
overflow_add-result-in-Release c = let h = subst (RoomBy c.args.m) c.in-Release.is c.requires in omega (arith, h)

pub returns-in-Attack : goal.returns-in-Attack
returns-in-Attack c = sym (ap (spent_by c.args.m) c.in-Attack.is)

pub returns-in-Hold : goal.returns-in-Hold
returns-in-Hold c = sym (ap (spent_by c.args.m) c.in-Hold.is)

pub returns-in-Decay : goal.returns-in-Decay
returns-in-Decay c = sym (ap (spent_by c.args.m) c.in-Decay.is)

pub returns-in-Release : goal.returns-in-Release
returns-in-Release c = sym (ap (spent_by c.args.m) c.in-Release.is)
