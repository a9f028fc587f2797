-- A render may be cut anywhere, and into as many pieces as one likes.
use Rattle.std.specs.Prelude.{ℕ, ◌≤◌, ◌<◌, ◌+◌, ◌*◌, ◌%◌, ◌≡◌, List, [], ◌∷◌, ◌++◌, ℤ, length, take, Float}
use Rattle.state.specs.declared.Engine.{Engine}
use Rattle.engine.specs.Rendering.{distance}
use Rattle.promises.specs.Calls.{Call, Render, Ask, does, next, run, written, frames_of}

-- the clock n frames on
abbrev pub ahead : Engine → ℕ → ℕ
ahead e n = (e.clock + n) % 4294967296

-- the frames of all pieces
unfoldable pub together : List ℕ → ℕ
together [] = 0
together (n ∷ ns) = n + together ns

-- a run of pieces of such lengths, each with an output of its own that has room, over the same memories; before, between and
-- behind them the panel may ask, and any call may be refused (admission and listing are handed no state: they may come anywhere)
pub data Pieces (ram rom : List ℤ) : List Call → List ℕ → Engine → Type 0 where
  none : {e : Engine} → Pieces ram rom [] [] e
  asks : {xs : List Call} {ns : List ℕ} {e : Engine} (slot : ℕ) → Pieces ram rom xs ns e → Pieces ram rom (Ask slot ∷ xs) ns e
  refuses : {xs : List Call} {ns : List ℕ} {e : Engine} (x : Call) → ((does x e).status ≡ 0 → ⊥) → Pieces ram rom xs ns e
      → Pieces ram rom (x ∷ xs) ns e
  piece : {xs : List Call} {ns : List ℕ} {e : Engine} (n : ℕ) (out : List Float) → 2 * n ≤ length out
      → Pieces ram rom xs ns (next (Render (ahead e n) ram rom out) e)
      → Pieces ram rom (Render (ahead e n) ram rom out ∷ xs) (n ∷ ns) e

-- every piece is done, and answers as the whole render does: 0, and a count of 0
abbrev pub AllDone : {ram rom : List ℤ} {xs : List Call} {ns : List ℕ} {e : Engine} → Pieces ram rom xs ns e → Type 0
AllDone none = Unit {0}
AllDone (asks slot p) = AllDone p
AllDone (refuses x h p) = AllDone p
AllDone {ram} {rom} {e = e} (piece n out room p) =
    ((does (Render (ahead e n) ram rom out) e).status ≡ 0) × ((does (Render (ahead e n) ram rom out) e).count ≡ 0) × AllDone p

-- the numbers that a run renders: of each call the first two for each of its frames
unfoldable pub numbers_of : List Call → Engine → List Float
numbers_of [] e = []
numbers_of (x ∷ xs) e = take (2 * frames_of x e) (written x e) ++ numbers_of xs (next x e)

-- what the pieces are to the whole render: each is done, as it is; the state after them is its state, and their numbers, one
-- behind the other, are its numbers
pub record SameAsWhole (to : ℕ) (ram rom : List ℤ) (out : List Float) (e : Engine) (xs : List Call) (ns : List ℕ) (p : Pieces ram rom xs ns e) : Type 0 where
  pub each : AllDone p
  pub status : (does (Render to ram rom out) e).status ≡ 0
  pub count : (does (Render to ram rom out) e).count ≡ 0
  pub state : run xs e ≡ next (Render to ram rom out) e
  pub numbers : numbers_of xs e ≡ take (2 * distance e to) (written (Render to ram rom out) e)

-- a done render may be cut into one or more pieces whose lengths add up to its frames
abbrev pub AnyCut : Type 0
AnyCut =
    (to : ℕ) (ram rom : List ℤ) (out : List Float) (e : Engine) (n : ℕ) (ns : List ℕ) (xs : List Call) →
    e.clock < 4294967296 → to < 4294967296 →
    (does (Render to ram rom out) e).status ≡ 0 →
    together (n ∷ ns) ≡ distance e to →
    (p : Pieces ram rom xs (n ∷ ns) e) →
    SameAsWhole to ram rom out e xs (n ∷ ns) p

-- and where the pieces are done, so is the whole, if it is short enough and has room: so the same is said of it
abbrev pub WholeOfPieces : Type 0
WholeOfPieces =
    (to : ℕ) (ram rom : List ℤ) (out : List Float) (e : Engine) (n : ℕ) (ns : List ℕ) (xs : List Call) →
    together (n ∷ ns) ≡ distance e to → distance e to ≤ 4096 → 2 * distance e to ≤ length out →
    (p : Pieces ram rom xs (n ∷ ns) e) → AllDone p → (does (Render to ram rom out) e).status ≡ 0
