-- How a place goes on, with nothing to divide.
use Rattle.std.specs.Prelude.{ℕ, zero, suc, ◌+◌, ◌-◌, ◌<◌, ◌≤◌, ◌≡◌, cond, false, ltb}
use Rattle.voice.specs.declared.Stage.{Stage}
use Rattle.voice.specs.declared.Voice.{Voice}
use Rattle.voice.specs.declared.way.Way.{Way}
use Rattle.voice.specs.Motion.{ended, settled}

-- the place behind p
abbrev pub next_place : Way → ℕ → ℕ
next_place y p = cond (ltb (p + y.step) y.end) (p + y.step) (p + y.step - y.back)

-- the place m frames behind p
unfoldable pub place_on : Way → ℕ → ℕ → ℕ
place_on y p zero = p
place_on y p (suc m) = next_place y (place_on y p m)

-- from p it leads where the definition does, and stays on the way
pub record Leads (v : Voice) (s : Stage) (st : ℕ) (y : Way) (p : ℕ) : Type 0 where
  pub stays : ended v s (p + st) ≡ false
  pub goes : settled v s (p + st) ≡ next_place y p
  pub keeps : y.from ≤ next_place y p

-- from all places that go by it
abbrev pub OnWay : Voice → Stage → ℕ → Way → Type 0
OnWay v s st y = (p : ℕ) → y.from ≤ p → p < y.limit → Leads v s st y p
