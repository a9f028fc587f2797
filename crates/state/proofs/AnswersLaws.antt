-- Laws of the answers: what a test of the ranges gives, each way.
use mathlib.Core.Path.{◌≡◌, refl}
use mathlib.Core.Bool.{Bool, true, cond, false, ◌||◌}
use Prim.Native.Nat.{ℕ, ◌<◌}
use native.Mathlib.Omega.{arith}
use borrow.Author.Tests.{ltb-false}
use lib.Dec.{ltb, eqb}
use Rattle.state.specs.declared.Engine.{Engine}
use Rattle.state.specs.Answers.{Answered, number, refused, answer, past_one, past_two, past_bend}
use Rattle.state.specs.declared.Refusal.{Refusal}
use Rattle.state.specs.declared.Refusal.TheVariants.{NotAdmitted, OutOfRange, NoPreset, TooManyLayers, ClockBehind, TooManyFrames, OutputTooShort, PastMemory}

-- no refusal has the number of an answer that is done
pub refusal-numbered : (r : Refusal) → eqb (number r) 0 ≡ false
refusal-numbered NotAdmitted = refl
refusal-numbered OutOfRange = refl
refusal-numbered NoPreset = refl
refusal-numbered TooManyLayers = refl
refusal-numbered ClockBehind = refl
refusal-numbered TooManyFrames = refl
refusal-numbered OutputTooShort = refl
refusal-numbered PastMemory = refl

-- the test refuses
pub refuses : (b : Bool) (e : Engine) (a : Answered) → b ≡ true → answer (cond b 2 0) e a ≡ refused 2 e
refuses b e a h = simp h

-- the test lets on
pub passes : (b : Bool) (e : Engine) (a : Answered) → b ≡ false → answer (cond b 2 0) e a ≡ a
passes b e a h = simp h

-- neither of two tests holds
pub or_no : (a b : Bool) → (a || b) ≡ false → (a ≡ false) × (b ≡ false)
or_no true true h = (h, h)
or_no true false h = (h, refl)
or_no false b h = (refl, h)

-- a channel that is not past the last
low : (channel : ℕ) → ltb 15 channel ≡ false → channel < 16
low channel h = omega (arith, ltb-false 15 channel h)

-- a channel that passes is one of the sixteen
pub one-low : (channel a : ℕ) → past_one channel a ≡ false → channel < 16
one-low channel a h = low channel (or_no (ltb 15 channel) (ltb 127 a) h).0

-- .. of three numbers
pub two-low : (channel a b : ℕ) → past_two channel a b ≡ false → channel < 16
two-low channel a b h = one-low channel a (or_no (past_one channel a) (ltb 127 b) h).0

-- .. of a bend
pub bend-low : (channel bend : ℕ) → past_bend channel bend ≡ false → channel < 16
bend-low channel bend h = low channel (or_no (ltb 15 channel) (ltb 16383 bend) h).0
