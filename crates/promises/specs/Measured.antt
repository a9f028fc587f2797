-- What `sums` and `render` give of one engine tell the same, and so do the bytes that are poured of them.
use Rattle.std.specs.Prelude.{ℕ, ◌*◌, ◌≡◌, List, map, ℤ, length, take, drop, Float}
use Rattle.state.specs.declared.Engine.{Engine}
use Rattle.engine.specs.Mixer.{mixed}
use Rattle.engine.specs.Rendering.{render}
use Rattle.engine.specs.Summing.{summed}
use Rattle.wave.specs.Lowering.{sums_into, sums_number}
use Rattle.wave.specs.Pours.{poured_into, pour_number}
use Rattle.promises.specs.Calls.{Render, does, written, frames_of}

module _ (to : ℕ) (ram rom : List ℤ) (e : Engine) (out : List Float) (sums : List ℤ) where
  -- two numbers for each frame that the render gives
  abbrev pub given_count : ℕ
  given_count = 2 * frames_of (Render to ram rom out) e

  -- the numbers that the render gives
  abbrev pub given_numbers : List Float
  given_numbers = take given_count (written (Render to ram rom out) e)

  -- the sums that stand in their places
  abbrev pub given_sums : List ℤ
  given_sums = take given_count (summed to ram rom sums e)

  -- the answer and the state are those of the render; each number is its sum, held and times 2^-23; behind them nothing is written,
  -- and on a refusal nothing at all
  pub record TellsTheSame : Type 0 where
    pub answer : render to ram rom (length sums) e ≡ does (Render to ram rom out) e
    pub numbers : given_numbers ≡ map mixed given_sums
    pub long : length (summed to ram rom sums e) ≡ length sums
    pub behind : drop given_count (summed to ram rom sums e) ≡ drop given_count sums
    pub refused : ((does (Render to ram rom out) e).status ≡ 0 → ⊥) → summed to ram rom sums e ≡ sums

-- so it is wherever the two outputs are of one length
abbrev pub SumsTellTheSame : Type 0
SumsTellTheSame =
    (to : ℕ) (ram rom : List ℤ) (e : Engine) (out : List Float) (sums : List ℤ) → length sums ≡ length out
    → TellsTheSame to ram rom e out sums

-- and the sums, poured at attenuation 0, give the number and every byte that the rendered numbers give, poured
abbrev pub SumsPourAlike : Type 0
SumsPourAlike =
    (to : ℕ) (ram rom : List ℤ) (e : Engine) (out : List Float) (sums : List ℤ) (bytes : List ℕ) → length sums ≡ length out
    → (sums_number (given_sums to ram rom e out sums) (length bytes) ≡ pour_number (given_numbers to ram rom e out sums) (length bytes))
    × (sums_into 0 (given_sums to ram rom e out sums) bytes ≡ poured_into (given_numbers to ram rom e out sums) bytes)
