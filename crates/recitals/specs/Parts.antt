-- A player's render may be cut anywhere, into as many pieces as one likes, and made event by event.
use Rattle.std.specs.Prelude.{ℕ, ◌≤◌, ◌<◌, ◌*◌, ◌≡◌, true, List, [], ◌∷◌, ℤ, Float, length}
use Rattle.engine.specs.Rendering.{distance}
use Rattle.player.specs.declared.Player.{Player}
use Rattle.player.specs.Cues.{coming_event, is_due, gap_of}
use Rattle.player.specs.Playing.{answered}
use Rattle.promises.specs.Calls.{Render, does}
use Rattle.promises.specs.Cuts.{ahead, together}
use Rattle.recitals.specs.Turns.{Turn, Play, Step, Direct, next_turn, frames_of_turn, numbers_of_turn, applied_in, refused_in, run_turns, numbers_turns, applied_turns, refused_turns}

-- renders of such lengths, each with an output of its own that has room, over the same song, bank and memories; before, between and behind them may come any
-- turn that changes nothing and renders nothing (a refused one, or a question). Frames within the gap up to the next event may be the engine's own render, which
-- knows no song; and an event that is due may be stepped over, where frames are left behind it. (The numbers of a song have 32 bits.)
pub data Parts (song bank : List ℕ) (ram rom : List ℤ) : List Turn → List ℕ → Player → Type 0 where
  no_part : {p : Player} → Parts song bank ram rom [] [] p
  stands : {xs : List Turn} {ns : List ℕ} {p : Player} (x : Turn) → next_turn x p ≡ p → frames_of_turn x p ≡ 0 → Parts song bank ram rom xs ns p
      → Parts song bank ram rom (x ∷ xs) ns p
  part : {xs : List Turn} {ns : List ℕ} {p : Player} (n : ℕ) (out : List Float) → 2 * n ≤ length out
      → Parts song bank ram rom xs ns (next_turn (Play song bank ram rom (ahead p.engine n) out) p)
      → Parts song bank ram rom (Play song bank ram rom (ahead p.engine n) out ∷ xs) (n ∷ ns) p
  alone : {xs : List Turn} {ns : List ℕ} {p : Player} (n most : ℕ) (out : List Float) → 0 < n → n ≤ gap_of p most → 2 * n ≤ length out
      → p.began < 4294967296 → (coming_event p).frame < 4294967296
      → Parts song bank ram rom xs ns (next_turn (Direct (Render (ahead p.engine n) ram rom out)) p)
      → Parts song bank ram rom (Direct (Render (ahead p.engine n) ram rom out) ∷ xs) (n ∷ ns) p
  stepped : {xs : List Turn} {ns : List ℕ} {p : Player} → is_due p ≡ true → 0 < together ns → Parts song bank ram rom xs ns (next_turn (Step song bank ram rom) p)
      → Parts song bank ram rom (Step song bank ram rom ∷ xs) ns p

-- every one of them is done
abbrev pub PartsDone : {song bank : List ℕ} {ram rom : List ℤ} {xs : List Turn} {ns : List ℕ} {p : Player} → Parts song bank ram rom xs ns p → Type 0
PartsDone no_part = Unit {0}
PartsDone (stands x h k q) = PartsDone q
PartsDone {song} {bank} {ram} {rom} {p = p} (part n out room q) =
    ((answered song bank ram rom (ahead p.engine n) (length out) p).number ≡ 0) × PartsDone q
PartsDone {ram = ram} {rom} {p = p} (alone n most out some near room b f q) = ((does (Render (ahead p.engine n) ram rom out) p.engine).status ≡ 0) × PartsDone q
PartsDone (stepped due some q) = PartsDone q

-- what they are to the whole render: the player after them is its player; their numbers, one behind the other, are its numbers; and
-- the events applied, and the refused ones among them, add up to its counts
pub record SameAsOne (x : Turn) (xs : List Turn) (p : Player) : Type 0 where
  pub player : run_turns xs p ≡ next_turn x p
  pub numbers : numbers_turns xs p ≡ numbers_of_turn x p
  pub applied : applied_turns xs p ≡ applied_in x p
  pub refused : refused_turns xs p ≡ refused_in x p

-- a done render may be cut into parts whose lengths add up to its frames: each of them is done
abbrev pub AnyCutOfPlay : Type 0
AnyCutOfPlay =
    (song bank : List ℕ) (ram rom : List ℤ) (to : ℕ) (out : List Float) (p : Player) (ns : List ℕ) (xs : List Turn) →
    p.engine.clock < 4294967296 →
    (answered song bank ram rom to (length out) p).number ≡ 0 →
    together ns ≡ distance p.engine to →
    (q : Parts song bank ram rom xs ns p) →
    PartsDone q × SameAsOne (Play song bank ram rom to out) xs p
