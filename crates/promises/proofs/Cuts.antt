-- A render may be cut anywhere, into as many pieces as one likes.
use mathlib.Core.Path.{◌≡◌, refl, ◌∙◌, ap, ap₂, sym, subst}
use mathlib.Core.Bool.{Bool, cond}
use lib.Dec.{eqb}
use lib.Seq.{take_at}
use lib.ListN.{length, take, drop}
use lib.Ieee.{Float}
use native.Mathlib.Omega.{arith}
use borrow.Author.Tests.{ne_eqb}
use mathlib.Core.List.{List, [], ◌∷◌, ◌++◌, append-nil}
use lib.IntN.{ℤ}
use Prim.Native.Nat.{ℕ, ◌+◌, ◌*◌, ◌%◌, ◌<◌, ◌≤◌}
use Rattle.voice.specs.declared.Voice.{Voice}
use Rattle.engine.specs.Rendering.{output, played, distance, render, render_number}
use Rattle.engine.proofs.CutLaws.{played-cut, output-cut, output-clock, played-clock}
use Rattle.engine.proofs.RenderingLaws.{clock-there}
use Rattle.state.specs.Answers.{Answered}
use Rattle.state.specs.Slots.{with_clock}
use Rattle.state.specs.Reach.{memory}
use Rattle.promises.specs.Calls.{Call, does, next, run, written, frames_of, voice_in}
use Rattle.promises.specs.Demand1.{SlotPast}
use Rattle.promises.specs.Cuts.{ahead, together, Pieces, none, asks, refuses, piece, AllDone, numbers_of, AnyCut, WholeOfPieces}
use Rattle.promises.proofs.Moments.{part-sounded, part-keeps}
use Rattle.promises.proofs.EachSlot.{either}
use Rattle.promises.proofs.Demand1.{render-numbers, changes-nothing}
use Rattle.promises.proofs.Output.{done-written, done-state, out-length}
use Rattle.promises.specs.Calls as Calls
use Rattle.state.specs.declared.Engine.{Engine}

-- the frames to a clock value that is n ahead
ahead-is : (e : Engine) (n : ℕ) → e.clock < 4294967296 → n ≤ 4096 → distance e (ahead e n) ≡ n
unfolding distance
ahead-is e n h k = omega arith

-- a slot of a piece's state whose window ends past its memory: so did the slot's before
past-before : (ram rom : List ℤ) (n t : ℕ) (e : Engine) → SlotPast ram rom (with_clock (played ram rom n e) t) → SlotPast ram rom e
past-before ram rom n t e p =
    let i = p.slot in
    let on = part-sounded ram rom n e i p.sounds in
    record {
      slot = i;
      sounds = on;
      past = back (voice_in i (played ram rom n e)) (part-keeps (λ (v : Voice). (v.rom ≡ (voice_in i e).rom) × (v.end ≡ (voice_in i e).end)) (λ v g q m h. h) ram rom n e i (refl, refl)) p.past;
    }
  where
    back : (v : Voice) → (v.rom ≡ (voice_in p.slot e).rom) × (v.end ≡ (voice_in p.slot e).end)
        → length (memory ram rom v) < v.end → length (memory ram rom (voice_in p.slot e)) < (voice_in p.slot e).end
    back v q h =
        subst (λ (x : ℕ). length (memory ram rom (voice_in p.slot e)) < x) q.1
        (subst (λ (b : Bool). length (cond b rom ram) < v.end) q.0 h)

-- a call that is refused renders no frame
pub no_frames : (x : Call) (e : Engine) → ((does x e).status ≡ 0 → ⊥) → frames_of x e ≡ 0
no_frames (Calls.NoteOn b ram rom c k v) e h = refl
no_frames (Calls.NoteOff c k) e h = refl
no_frames (Calls.Control c n v) e h = refl
no_frames (Calls.Program c p) e h = refl
no_frames (Calls.Bend c b) e h = refl
no_frames (Calls.Render to ram rom out) e h =
    ap (λ (b : Bool). cond b (distance e to) 0) (ne_eqb (does (Calls.Render to ram rom out) e).status 0 h)
no_frames (Calls.Ask i) e h = refl

-- a done render: its frames
pub done-frames : (to : ℕ) (ram rom : List ℤ) (out : List Float) (e : Engine) → (does (Calls.Render to ram rom out) e).status ≡ 0
    → frames_of (Calls.Render to ram rom out) e ≡ distance e to
done-frames to ram rom out e h = ap (λ (n : ℕ). cond (eqb n 0) (distance e to) 0) h

-- and what it writes of them
pub done-numbers : (to : ℕ) (ram rom : List ℤ) (out : List Float) (e : Engine) → (does (Calls.Render to ram rom out) e).status ≡ 0
    → take (2 * distance e to) (written (Calls.Render to ram rom out) e) ≡ output ram rom e (distance e to)
done-numbers to ram rom out e h =
    let n = distance e to in
    ap (take (2 * n)) (done-written to ram rom out e h) ∙ take_at (output ram rom e n) (drop (2 * n) out) (2 * n) (out-length ram rom e n)

-- its count
done-count : (to : ℕ) (ram rom : List ℤ) (out : List Float) (e : Engine) → (does (Calls.Render to ram rom out) e).count ≡ 0
unfolding render
done-count to ram rom out e = either (λ (a : Answered). a.count ≡ 0) (eqb (render_number to ram rom (length out) e) 0) _ _ refl refl

module _ (ram rom : List ℤ) where
  -- what the pieces of ns give, from state e: each is done; they leave y, and have rendered the numbers os
  record Gives (xs : List Call) (ns : List ℕ) (e : Engine) (p : Pieces ram rom xs ns e) (y : Engine) (os : List Float) : Type 0 where
    each : AllDone p
    state : run xs e ≡ y
    numbers : numbers_of xs e ≡ os

  -- a call that renders nothing and changes nothing, in front
  idle : (x : Call) (xs : List Call) (ns : List ℕ) (e y : Engine) (os : List Float) (p : Pieces ram rom xs ns e) → next x e ≡ e → frames_of x e ≡ 0
      → Gives xs ns e p y os → (run (x ∷ xs) e ≡ y) × (numbers_of (x ∷ xs) e ≡ os)
  unfolding run numbers_of
  idle x xs ns e y os p s f g =
      (ap (run xs) s ∙ g.state, ap (λ (n : ℕ). take (2 * n) (written x e) ++ numbers_of xs (next x e)) f ∙ ap (numbers_of xs) s ∙ g.numbers)

  -- no piece: nothing changes
  no-piece : (xs : List Call) (e : Engine) (p : Pieces ram rom xs [] e) → Gives xs [] e p e []
  unfolding run numbers_of
  no-piece [] e none = record { each = tt; state = refl; numbers = refl }
  no-piece (x ∷ xs) e (asks slot p) =
      let g = no-piece xs e p in
      let i = idle x xs [] e e [] p refl refl g in
      record { each = g.each; state = i.0; numbers = i.1 }
  no-piece (x ∷ xs) e (refuses y h p) =
      let g = no-piece xs e p in
      let i = idle x xs [] e e [] p (changes-nothing x e h).state (no_frames x e h) g in
      record { each = g.each; state = i.0; numbers = i.1 }

  -- one piece: it is done, and leaves the state n frames on
  one_piece : (e : Engine) (n : ℕ) (out : List Float) → e.clock < 4294967296 → n ≤ 4096 → 2 * n ≤ length out → (SlotPast ram rom e → ⊥)
      → (does (Calls.Render (ahead e n) ram rom out) e).status ≡ 0
  one_piece e n out h k room clear =
      let d = ahead-is e n h k in
      (render-numbers (ahead e n) ram rom out e).done.1 (omega arith, omega arith, clear)

  -- the state that it leaves
  piece-state : (e : Engine) (n : ℕ) (out : List Float) → e.clock < 4294967296 → n ≤ 4096 → (does (Calls.Render (ahead e n) ram rom out) e).status ≡ 0
      → next (Calls.Render (ahead e n) ram rom out) e ≡ with_clock (played ram rom n e) (ahead e n)
  piece-state e n out h k ok =
      done-state (ahead e n) ram rom out e ok ∙ ap (λ (m : ℕ). with_clock (played ram rom m e) (ahead e n)) (ahead-is e n h k)

  -- and its numbers, in front of others
  piece-numbers : (e : Engine) (n : ℕ) (out : List Float) (xs : List Call) → e.clock < 4294967296 → n ≤ 4096 → (does (Calls.Render (ahead e n) ram rom out) e).status ≡ 0
      → numbers_of (Calls.Render (ahead e n) ram rom out ∷ xs) e ≡ output ram rom e n ++ numbers_of xs (next (Calls.Render (ahead e n) ram rom out) e)
  unfolding numbers_of
  piece-numbers e n out xs h k ok =
      let x = Calls.Render (ahead e n) ram rom out in
      ap (λ (m : ℕ). take (2 * m) (written x e) ++ numbers_of xs (next x e)) (done-frames (ahead e n) ram rom out e ok)
      ∙ ap (λ (os : List Float). os ++ numbers_of xs (next x e)) (done-numbers (ahead e n) ram rom out e ok ∙ ap (output ram rom e) (ahead-is e n h k))

  -- the clock, n frames on and then t more
  ahead-add : (e y : Engine) (n t : ℕ) → y.clock ≡ ahead e n → ahead y t ≡ ahead e (n + t)
  ahead-add e y n t q = omega arith

  -- the last piece, and only idle calls behind it
  last-piece : (e : Engine) (n : ℕ) (out : List Float) (xs : List Call) (room : 2 * n ≤ length out) (p : Pieces ram rom xs [] (next (Calls.Render (ahead e n) ram rom out) e))
      → e.clock < 4294967296 → n ≤ 4096 → (SlotPast ram rom e → ⊥)
      → Gives (Calls.Render (ahead e n) ram rom out ∷ xs) (n ∷ []) e (piece n out room p) (with_clock (played ram rom n e) (ahead e n)) (output ram rom e n)
  unfolding run
  last-piece e n out xs room p h k clear =
      let ok = one_piece e n out h k room clear in
      let g = no-piece xs (next (Calls.Render (ahead e n) ram rom out) e) p in
      record {
        each = (ok, done-count (ahead e n) ram rom out e, g.each);
        state = g.state ∙ piece-state e n out h k ok;
        numbers = piece-numbers e n out xs h k ok ∙ ap (λ (os : List Float). output ram rom e n ++ os) g.numbers ∙ append-nil (output ram rom e n);
      }

  -- a piece, and pieces of t frames behind it
  more-pieces : (e : Engine) (n t : ℕ) (ns : List ℕ) (out : List Float) (xs : List Call) (room : 2 * n ≤ length out)
      (p : Pieces ram rom xs ns (next (Calls.Render (ahead e n) ram rom out) e)) → e.clock < 4294967296 → n ≤ 4096
      → (ok : (does (Calls.Render (ahead e n) ram rom out) e).status ≡ 0) → (y : Engine) → next (Calls.Render (ahead e n) ram rom out) e ≡ y
      → Gives xs ns (next (Calls.Render (ahead e n) ram rom out) e) p (with_clock (played ram rom t y) (ahead y t)) (output ram rom y t)
      → Gives (Calls.Render (ahead e n) ram rom out ∷ xs) (n ∷ ns) e (piece n out room p) (with_clock (played ram rom (n + t) e) (ahead e (n + t))) (output ram rom e (n + t))
  unfolding run
  more-pieces e n t ns out xs room p h k ok y q g =
      let s : y ≡ with_clock (played ram rom n e) (ahead e n) = sym q ∙ piece-state e n out h k ok in
      record {
        each = (ok, done-count (ahead e n) ram rom out e, g.each);
        state =
            g.state ∙ ap (with_clock (played ram rom t y)) (ahead-add e y n t (ap (λ (z : Engine). z.clock) s))
            ∙ ap (λ (z : Engine). with_clock (played ram rom t z) (ahead e (n + t))) s
            ∙ played-clock ram rom (played ram rom n e) (ahead e n) (ahead e (n + t)) t
            ∙ ap (λ (z : Engine). with_clock z (ahead e (n + t))) (sym (played-cut ram rom e n t));
        numbers =
            piece-numbers e n out xs h k ok
            ∙ ap (λ (os : List Float). output ram rom e n ++ os)
            (g.numbers ∙ ap (λ (z : Engine). output ram rom z t) s ∙ output-clock ram rom (played ram rom n e) (ahead e n) t)
            ∙ sym (output-cut ram rom e n t);
      }

  -- any pieces
  any-pieces : (xs : List Call) (n : ℕ) (ns : List ℕ) (e : Engine) (p : Pieces ram rom xs (n ∷ ns) e) → e.clock < 4294967296 → together (n ∷ ns) ≤ 4096 → (SlotPast ram rom e → ⊥)
      → Gives xs (n ∷ ns) e p (with_clock (played ram rom (together (n ∷ ns)) e) (ahead e (together (n ∷ ns)))) (output ram rom e (together (n ∷ ns)))
  unfolding together
  any-pieces [] n ns e p h k clear = elim p [ ]
  any-pieces (x ∷ xs) n ns e (asks slot p) h k clear =
      let g = any-pieces xs n ns e p h k clear in
      let i = idle x xs (n ∷ ns) e _ _ p refl refl g in
      record { each = g.each; state = i.0; numbers = i.1 }
  any-pieces (x ∷ xs) n ns e (refuses z r p) h k clear =
      let g = any-pieces xs n ns e p h k clear in
      let i = idle x xs (n ∷ ns) e _ _ p (changes-nothing x e r).state (no_frames x e r) g in
      record { each = g.each; state = i.0; numbers = i.1 }
  any-pieces (x ∷ xs) n [] e (piece j out room p) h k clear =
      let z : n ≡ n + 0 = omega arith in
      subst (λ (m : ℕ). Gives (x ∷ xs) (n ∷ []) e (piece n out room p) (with_clock (played ram rom m e) (ahead e m)) (output ram rom e m)) z
      (last-piece e n out xs room p h (omega arith) clear)
  any-pieces (x ∷ xs) n (m ∷ ms) e (piece j out room p) h k clear =
      let ok = one_piece e n out h (omega arith) room clear in
      let s = piece-state e n out h (omega arith) ok in
      let y = next (Calls.Render (ahead e n) ram rom out) e in
      let c : y.clock ≡ (e.clock + n) % 4294967296 = ap (λ (z : Engine). z.clock) s in
      more-pieces e n (together (m ∷ ms)) (m ∷ ms) out xs room p h (omega arith) ok y refl
      (any-pieces xs m ms y p (omega arith) (omega arith) (λ b. clear (past-before ram rom n (ahead e n) e (subst (SlotPast ram rom) s b))))

-- the whole render, from its pieces
pub any-cut : AnyCut
any-cut to ram rom out e n ns xs h t ok total p =
    let d = (render-numbers to ram rom out e).done.0 ok in
    let g = any-pieces ram rom xs n ns e p h (subst (λ (m : ℕ). m ≤ 4096) (sym total) d.0) d.2 in
    let c : ahead e (together (n ∷ ns)) ≡ to = clock-there e to (together (n ∷ ns)) (ahead e (together (n ∷ ns))) h t total refl in
    record {
      each = g.each;
      status = ok;
      count = done-count to ram rom out e;
      state = g.state ∙ ap₂ (λ (m u : ℕ). with_clock (played ram rom m e) u) total c ∙ sym (done-state to ram rom out e ok);
      numbers = g.numbers ∙ ap (output ram rom e) total ∙ sym (done-numbers to ram rom out e ok);
    }

-- where a piece is done, no window ends past its memory
clear_of : (ram rom : List ℤ) (xs : List Call) (n : ℕ) (ns : List ℕ) (e : Engine) (p : Pieces ram rom xs (n ∷ ns) e) → AllDone p → SlotPast ram rom e → ⊥
clear_of ram rom [] n ns e p a = elim p [ ]
clear_of ram rom (x ∷ xs) n ns e (asks slot p) a = clear_of ram rom xs n ns e p a
clear_of ram rom (x ∷ xs) n ns e (refuses z r p) a = clear_of ram rom xs n ns e p a
clear_of ram rom (x ∷ xs) n ns e (piece j out room p) a = ((render-numbers (ahead e n) ram rom out e).done.0 a.0).2

-- so the whole is done
pub whole-done : WholeOfPieces
whole-done to ram rom out e n ns xs total few room p a = (render-numbers to ram rom out e).done.1 (few, room, clear_of ram rom xs n ns e p a)
