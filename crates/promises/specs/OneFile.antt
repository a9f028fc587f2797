-- 02, M-107: the file of a run of calls. Render calls may be of any length, the file is the same.
use Rattle.std.specs.Prelude.{ℕ, ◌≤◌, ◌<◌, ◌+◌, ◌*◌, ◌≡◌, List, [], ◌∷◌, ◌++◌, ℤ, length, take, Float}
use Rattle.state.specs.declared.Engine.{Engine}
use Rattle.engine.specs.Rendering.{distance}
use Rattle.wave.specs.Headings.{most_frames, heading_number, headed}
use Rattle.wave.specs.Recording.{recording_of, write_number, recorded}
use Rattle.wave.specs.Refusals.{GivenIn, Unfit}
use Rattle.wave.specs.Returned.{file_in}
use Rattle.wave.specs.Streams.{Share, AllPoured, poured_bytes}
use Rattle.promises.specs.Calls.{Call, Render, does, next, run, written, frames_of, frames_run}
use Rattle.promises.specs.Cuts.{together, Pieces, AllDone, numbers_of}

-- ---- the numbers of a run

-- what any run of calls renders, from any state: two numbers for each frame, and every one an output number
abbrev pub RenderedIsFit : Type 0
RenderedIsFit = (xs : List Call) (e : Engine) → (length (numbers_of xs e) ≡ 2 * frames_run xs e) × (Unfit (numbers_of xs e) → ⊥)

-- each number of the writer, given the numbers of a run, and its case: never 13
pub record RunNumbers (xs : List Call) (e : Engine) (room : ℕ) : Type 0 where
  pub thirteen : write_number (numbers_of xs e) room ≡ 13 → ⊥
  pub fourteen : GivenIn (write_number (numbers_of xs e) room) 14 (most_frames < frames_run xs e)
  pub fifteen : GivenIn (write_number (numbers_of xs e) room) 15 ((frames_run xs e ≤ most_frames) × (room < 44 + 4 * frames_run xs e))
  pub done : GivenIn (write_number (numbers_of xs e) room) 0 ((frames_run xs e ≤ most_frames) × (44 + 4 * frames_run xs e ≤ room))

-- so it is of every run
abbrev pub RunIsRecorded : Type 0
RunIsRecorded = (xs : List Call) (e : Engine) (room : ℕ) → RunNumbers xs e room

-- ---- cuts

-- the file of the pieces of a done render is the file of the whole render
abbrev pub CutFile : Type 0
CutFile =
    (to : ℕ) (ram rom : List ℤ) (out : List Float) (e : Engine) (n : ℕ) (ns : List ℕ) (xs : List Call) →
    e.clock < 4294967296 → to < 4294967296 →
    (does (Render to ram rom out) e).status ≡ 0 →
    together (n ∷ ns) ≡ distance e to →
    Pieces ram rom xs (n ∷ ns) e →
    recording_of (numbers_of xs e) ≡ recording_of (take (2 * distance e to) (written (Render to ram rom out) e))

-- two runs of calls that differ only in how their renders are cut: the same calls; or pieces of as many frames, one or more of them and each done, with what `Pieces` allows
-- between them. (A clock has 32 bits.)
pub data Recut : List Call → List Call → Engine → Type 0 where
  at-end : {e : Engine} → Recut [] [] e
  alike : {xs ys : List Call} {e : Engine} (x : Call) → Recut xs ys (next x e) → Recut (x ∷ xs) (x ∷ ys) e
  cut-anew : {ram rom : List ℤ} {ps qs xs ys : List Call} {n m : ℕ} {ns ms : List ℕ} {e : Engine}
      (p : Pieces ram rom ps (n ∷ ns) e) (q : Pieces ram rom qs (m ∷ ms) e) → AllDone p → AllDone q
      → e.clock < 4294967296 → frames_run ps e ≡ frames_run qs e → Recut xs ys (run ps e)
      → Recut (ps ++ xs) (qs ++ ys) e

-- two runs leave the same state, render the same numbers, and are given the same number and the same output by the writer
pub record SameFile (xs ys : List Call) (e : Engine) : Type 0 where
  pub state : run xs e ≡ run ys e
  pub numbers : numbers_of xs e ≡ numbers_of ys e
  pub number : (room : ℕ) → write_number (numbers_of xs e) room ≡ write_number (numbers_of ys e) room
  pub file : (out : List ℕ) → recorded (numbers_of xs e) out ≡ recorded (numbers_of ys e) out

-- however the renders of a run are cut, of any length, the file is the same
abbrev pub AnyLengths : Type 0
AnyLengths = (xs ys : List Call) (e : Engine) → Recut xs ys e → SameFile xs ys e

-- ---- streams

-- for each call of a run a share: the numbers that it renders, and an output with room for their bytes; a call that renders no frame may be passed over
pub data Shared : List Call → Engine → List Share → Type 0 where
  no-share : {e : Engine} → Shared [] e []
  passed_over : {xs : List Call} {e : Engine} {ss : List Share} (x : Call) → frames_of x e ≡ 0 → Shared xs (next x e) ss → Shared (x ∷ xs) e ss
  one-share : {xs : List Call} {e : Engine} {ss : List Share} (x : Call) (out : List ℕ) → 4 * frames_of x e ≤ length out
      → Shared xs (next x e) ss
      → Shared (x ∷ xs) e (record { numbers = take (2 * frames_of x e) (written x e); out = out } ∷ ss)

-- a host that streams: the heading for the frames of a run and the pour of each call's numbers are done, and their bytes, one behind the other, are the file of the run
abbrev pub StreamedFile : Type 0
StreamedFile =
    (xs : List Call) (e : Engine) (ss : List Share) (head out : List ℕ) → Shared xs e ss → frames_run xs e ≤ most_frames
    → 44 ≤ length head → 44 + 4 * frames_run xs e ≤ length out
    → (heading_number (frames_run xs e) (length head) ≡ 0) × AllPoured ss
    × (file_in (numbers_of xs e) out ≡ take 44 (headed (frames_run xs e) head) ++ poured_bytes ss)
