-- The promises of the C library: each turn leaves its player in C's memory, by the law there and back.
use Prim.Native.Nat.{ℕ}
use mathlib.Core.List.{List, [], ◌∷◌}
use mathlib.Core.Path.{◌≡◌, refl, ap, sym, subst, ◌∙◌}
use lib.Ieee.{Float}
use lib.ListN.{length}
use Rattle.smf.specs.Songs.{test_of, handed_of}
use Rattle.engine.specs.Rendering.{render}
use Rattle.player.specs.declared.Player.{Player}
use Rattle.player.specs.Cues.{idle, with_engine}
use Rattle.player.specs.Pauses.{started, stopped}
use Rattle.player.specs.Playing.{answered}
use Rattle.player.specs.Stepping.{step_taken}
use Rattle.cabinet.specs.declared.Flat.{Flat}
use Rattle.cabinet.specs.Keeping.{player_in, engine_in, kept_answer}
use Rattle.cabinet.proofs.TwinsLaws.{player-back}
use Rattle.promises.specs.Calls.{Call, NoteOn, NoteOff, Control, Program, Bend, Render, Ask, does, next}
use Rattle.recitals.specs.Turns.{Turn, Start, Stop, Play, Step, Direct, next_turn, written_in, run_turns, numbers_turns, frames_turns}
use Rattle.recitals.proofs.Acts.{cued-engine}
use Rattle.recitals.proofs.Turns.{keeps-promises}
use Rattle.recitals.proofs.Borders.{start-is-tested, play-is-tested, step-is-tested}
use Rattle.promises.proofs.Demand1.{changes-nothing}
use Rattle.library.specs.Library.{kept_call, kept_turn, kept_run, kept_outputs, turn_outputs, SameRun, SameRunFresh, SameOutputs, after_refusal, RefusedCallsKeep, SumsKeepAsRender, LibraryKeepsPromises}

-- a direct call leaves the player with the engine after it
call_back : (x : Call) (s : Flat) → player_in (kept_call x s) ≡ with_engine (player_in s) (next x (engine_in s))
call_back (NoteOn b ram rom c k v) s = player-back (with_engine (player_in s) (next (NoteOn b ram rom c k v) (engine_in s)))
call_back (NoteOff c k) s = player-back (with_engine (player_in s) (next (NoteOff c k) (engine_in s)))
call_back (Control c n v) s = player-back (with_engine (player_in s) (next (Control c n v) (engine_in s)))
call_back (Program c p) s = player-back (with_engine (player_in s) (next (Program c p) (engine_in s)))
call_back (Bend c b) s = player-back (with_engine (player_in s) (next (Bend c b) (engine_in s)))
call_back (Render to ram rom out) s = player-back (with_engine (player_in s) (next (Render to ram rom out) (engine_in s)))
call_back (Ask i) s = refl

-- a turn leaves the player after it
turn-back : (x : Turn) (s : Flat) → player_in (kept_turn x s) ≡ next_turn x (player_in s)
turn-back (Start song) s = player-back (started song (player_in s)).player
turn-back Stop s = player-back (stopped (player_in s))
turn-back (Play song bank ram rom to out) s = player-back (answered song bank ram rom to (length out) (player_in s)).player
turn-back (Step song bank ram rom) s = player-back (step_taken song bank ram rom (player_in s)).player
turn-back (Direct x) s = call_back x s

pub same-run : SameRun
unfolding kept_run run_turns
same-run [] s = refl
same-run (x ∷ xs) s = same-run xs (kept_turn x s) ∙ ap (run_turns xs) (turn-back x s)

pub same-run-fresh : SameRunFresh
same-run-fresh xs = same-run xs _ ∙ ap (run_turns xs) (player-back idle)

pub same-outputs : SameOutputs
unfolding kept_outputs turn_outputs
same-outputs [] s = refl
same-outputs (x ∷ xs) s =
    ap (λ (ys : List (List Float)). written_in x (player_in s) ∷ ys) (same-outputs xs (kept_turn x s) ∙ ap (turn_outputs xs) (turn-back x s))

-- a direct call that the engine refuses leaves the engine, and with it the player
direct-keep : (x : Call) (s : Flat) → ((does x (engine_in s)).status ≡ 0 → ⊥) → with_engine (player_in s) (next x (engine_in s)) ≡ player_in s
direct-keep x s h = ap (with_engine (player_in s)) (changes-nothing x (engine_in s) h).state

-- a refused turn leaves the player as it was, or behind its event
refused-player : (x : Turn) (s : Flat) → ((kept_turn x s).number ≡ 0 → ⊥) → player_in (kept_turn x s) ≡ after_refusal x (player_in s)
refused-player (Start song) s h =
    let t = start-is-tested song (player_in s) in
    turn-back (Start song) s ∙ t.refused (λ (e : (test_of song).number ≡ 0). h (t.number ∙ e))
refused-player Stop s h = absurd (h refl)
refused-player (Play song bank ram rom to out) s h =
    turn-back (Play song bank ram rom to out) s ∙ ((play-is-tested song bank ram rom to out (player_in s)).refusal h).player
refused-player (Step song bank ram rom) s h = turn-back (Step song bank ram rom) s ∙ (step-is-tested song bank ram rom (player_in s)).refused h
refused-player (Direct (NoteOn b ram rom c k v)) s h = call_back (NoteOn b ram rom c k v) s ∙ direct-keep (NoteOn b ram rom c k v) s h
refused-player (Direct (NoteOff c k)) s h = call_back (NoteOff c k) s ∙ direct-keep (NoteOff c k) s h
refused-player (Direct (Control c n v)) s h = call_back (Control c n v) s ∙ direct-keep (Control c n v) s h
refused-player (Direct (Program c p)) s h = call_back (Program c p) s ∙ direct-keep (Program c p) s h
refused-player (Direct (Bend c b)) s h = call_back (Bend c b) s ∙ direct-keep (Bend c b) s h
refused-player (Direct (Render to ram rom out)) s h = call_back (Render to ram rom out) s ∙ direct-keep (Render to ram rom out) s h
refused-player (Direct (Ask i)) s h = refl

-- with the engine that it had
same-engine : (x : Turn) (p : Player) → (after_refusal x p).engine ≡ p.engine
same-engine (Start song) p = refl
same-engine Stop p = refl
same-engine (Play song bank ram rom to out) p = refl
same-engine (Step song bank ram rom) p = cued-engine p (handed_of song p.cursor)
same-engine (Direct x) p = refl

pub refused-calls-keep : RefusedCallsKeep
refused-calls-keep x s h =
    let e = refused-player x s h in
    (e, ap (λ (p : Player). p.engine) e ∙ same-engine x (player_in s))

pub sums-keep-as-render : SumsKeepAsRender
sums-keep-as-render to ram rom sums out s same = ap (λ (room : ℕ). kept_answer (render to ram rom room (engine_in s)) s) same

pub library-keeps-promises : LibraryKeepsPromises
library-keeps-promises P h ts k =
    subst (λ (p : Player). P p.engine (numbers_turns ts idle) (frames_turns ts idle)) (sym (same-run-fresh ts)) (keeps-promises P h ts k)
