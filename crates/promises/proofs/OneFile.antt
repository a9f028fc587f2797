-- The file of a run of calls: its numbers are output numbers, and it is the same however the renders are cut.
use Prim.Native.Nat.{ℕ, zero, suc, ◌≤◌, ◌<◌, ◌+◌, ◌*◌, ◌/◌, ◌%◌}
use mathlib.Core.Bool.{Bool, true, false, cond, ◌||◌}
use mathlib.Core.Path.{◌≡◌, refl, ap, ap₂, sym, ◌∙◌, subst}
use mathlib.Core.List.{List, [], ◌∷◌, ◌++◌, append_assoc, append-nil}
use mathlib.Core.Logic.{inr}
use native.Mathlib.Nat.{add-zero}
use native.Mathlib.Omega.{arith}
use borrow.Author.Tests.{eqb-true}
use lib.Dec.{eqb}
use lib.IntN.{ℤ}
use lib.ListN.{length, take, length-append}
use lib.Ieee.{Float}
use Rattle.arith.specs.Lists.{any_of}
use Rattle.state.specs.declared.Engine.{Engine}
use Rattle.state.specs.Slots.{with_clock}
use Rattle.engine.specs.Mixer.{mixed}
use Rattle.engine.specs.Rendering.{distance, left_sum, right_sum, output, played}
use Rattle.engine.proofs.RenderingLaws.{clock-there}
use Rattle.wave.specs.Pcm.{is_output}
use Rattle.wave.specs.Pours.{is_other, is_broken}
use Rattle.wave.specs.Headings.{most_frames}
use Rattle.wave.specs.Recording.{recording_of, write_number, recorded}
use Rattle.wave.specs.Returned.{file_in}
use Rattle.wave.specs.Streams.{Share, AllRoomy, all_numbers}
use Rattle.wave.proofs.FractionsLaws.{output-passes}
use Rattle.wave.proofs.RecordingLaws.{write-0}
use Rattle.wave.proofs.RefusalsLaws.{writer-numbers, fit_of}
use Rattle.wave.proofs.StreamsLaws.{whole_of, any_append, file-is-stream, stream-is-file}
use Rattle.promises.specs.Calls.{Call, does, next, run, written, frames_of, frames_run}
use Rattle.promises.specs.Cuts.{ahead, Pieces, none, asks, refuses, piece, AllDone, numbers_of}
use Rattle.promises.specs.OneFile.{RenderedIsFit, RunIsRecorded, CutFile, Recut, at-end, alike, cut-anew, AnyLengths, Shared, no-share, passed_over, one-share, StreamedFile}
use Rattle.engine.proofs.CutLaws.{output-cut, played-cut, output-clock, played-clock}
use Rattle.promises.proofs.Cuts.{no_frames, done-frames, done-numbers, any-cut}
use Rattle.promises.proofs.Demand1.{changes-nothing}
use Rattle.promises.proofs.Output.{out-length, done-state, mixed-fraction}
use Rattle.promises.specs.Calls as Calls

-- ---- the numbers of a run

-- a mixed sum is an output number
mixed-passes : (z : ℤ) → is_output (mixed z) ≡ true
mixed-passes z =
    let f = mixed-fraction z in
    (output-passes (mixed z) _ (record { sign = _; value = f.exact.value; small = f.within; signed = inr refl })).0

clean-output : (ram rom : List ℤ) (e : Engine) (n : ℕ) → any_of is_other (output ram rom e n) ≡ false
unfolding output
clean-output ram rom e zero = refl
clean-output ram rom e (suc n) =
    any_append is_other (output ram rom e n) _ ∙ rw (clean-output ram rom e n, mixed-passes (left_sum ram rom e n), mixed-passes (right_sum ram rom e n))

-- the numbers of a call: two for each of its frames, and all output numbers
record Fit (n : ℕ) (os : List Float) : Type 0 where
  count : length os ≡ 2 * n
  clean : any_of is_other os ≡ false

call-fit : (x : Call) (e : Engine) → Fit (frames_of x e) (take (2 * frames_of x e) (written x e))
call-fit (Calls.NoteOn b ram rom c k v) e = record { count = refl; clean = refl }
call-fit (Calls.NoteOff c k) e = record { count = refl; clean = refl }
call-fit (Calls.Control c n v) e = record { count = refl; clean = refl }
call-fit (Calls.Program c p) e = record { count = refl; clean = refl }
call-fit (Calls.Bend c b) e = record { count = refl; clean = refl }
call-fit (Calls.Render to ram rom out) e = by (eqb (does (Calls.Render to ram rom out) e).status 0) refl
  where
    n : ℕ
    n = distance e to

    by : (b : Bool) → eqb (does (Calls.Render to ram rom out) e).status 0 ≡ b
        → Fit (cond b n 0) (take (2 * cond b n 0) (written (Calls.Render to ram rom out) e))
    by true q =
        subst (Fit n) (sym (done-numbers to ram rom out e (eqb-true (does (Calls.Render to ram rom out) e).status 0 q)))
        (record { count = out-length ram rom e n; clean = clean-output ram rom e n })
    by false q = record { count = refl; clean = refl }
call-fit (Calls.Ask i) e = record { count = refl; clean = refl }

run-fit : (xs : List Call) (e : Engine) → Fit (frames_run xs e) (numbers_of xs e)
unfolding frames_run numbers_of
run-fit [] e = record { count = refl; clean = refl }
run-fit (x ∷ xs) e =
    let here = call-fit x e in
    let rest = run-fit xs (next x e) in
    let os = take (2 * frames_of x e) (written x e) in
    let one = here.count in
    let more = rest.count in
    record {
      count = length-append os (numbers_of xs (next x e)) ∙ omega arith;
      clean = any_append is_other os (numbers_of xs (next x e)) ∙ ap₂ ◌||◌ here.clean rest.clean;
    }

whole_run : (xs : List Call) (e : Engine) → is_broken (numbers_of xs e) ≡ false
whole_run xs e = let f = run-fit xs e in let l = f.count in whole_of (numbers_of xs e) (omega arith) f.clean

-- the writer takes them, where they are not too many and there is room
run-done : (xs : List Call) (e : Engine) (room : ℕ) → frames_run xs e ≤ most_frames → 44 + 4 * frames_run xs e ≤ room → write_number (numbers_of xs e) room ≡ 0
run-done xs e room few long = let l = (run-fit xs e).count in write-0 (numbers_of xs e) room (whole_run xs e) (omega arith) (omega arith)

pub rendered-is-fit : RenderedIsFit
rendered-is-fit xs e = ((run-fit xs e).count, fit_of (numbers_of xs e) (whole_run xs e))

pub run-is-recorded : RunIsRecorded
run-is-recorded xs e room =
    let os = numbers_of xs e in
    let l = (run-fit xs e).count in
    let fit = fit_of os (whole_run xs e) in
    let w = writer-numbers os room in
    let half : length os / 2 ≡ frames_run xs e = omega arith in
    record {
      thirteen = λ h. fit (w.thirteen.0 h);
      fourteen = (λ h. let d = (w.fourteen.0 h).1 in omega arith, λ h. w.fourteen.1 (fit, omega arith));
      fifteen = (λ h. let d = w.fifteen.0 h in (omega arith, omega arith), λ h. w.fifteen.1 (fit, omega arith, omega arith));
      done = (λ h. let d = w.done.0 h in (omega arith, omega arith), λ h. run-done xs e room h.0 h.1);
    }

-- ---- cuts
pub cut-file : CutFile
cut-file to ram rom out e n ns xs h t ok total p = ap recording_of (any-cut to ram rom out e n ns xs h t ok total p).numbers

-- what a run of calls gives: its state, its numbers, its frames
record Gives (xs : List Call) (e y : Engine) (os : List Float) (n : ℕ) : Type 0 where
  state : run xs e ≡ y
  numbers : numbers_of xs e ≡ os
  frames : frames_run xs e ≡ n

-- a call that renders nothing and changes nothing, in front
idle : (x : Call) (xs : List Call) (e y : Engine) (os : List Float) (n : ℕ) → next x e ≡ e → frames_of x e ≡ 0 → Gives xs e y os n → Gives (x ∷ xs) e y os n
unfolding run numbers_of frames_run
idle x xs e y os n s f g = record {
  state = ap (run xs) s ∙ g.state;
  numbers = ap (λ (m : ℕ). take (2 * m) (written x e) ++ numbers_of xs (next x e)) f ∙ ap (numbers_of xs) s ∙ g.numbers;
  frames = ap₂ ◌+◌ f (ap (frames_run xs) s) ∙ native.Mathlib.Nat.zero-add (frames_run xs e) ∙ g.frames;
}

module _ (ram rom : List ℤ) where
  -- no piece: nothing changes
  no-piece : (xs : List Call) (e : Engine) → Pieces ram rom xs [] e → Gives xs e e [] 0
  unfolding run numbers_of frames_run
  no-piece [] e none = record { state = refl; numbers = refl; frames = refl }
  no-piece (x ∷ xs) e (asks slot p) = idle x xs e e [] 0 refl refl (no-piece xs e p)
  no-piece (x ∷ xs) e (refuses y h p) = idle x xs e e [] 0 (changes-nothing x e h).state (no_frames x e h) (no-piece xs e p)

  -- n frames on: the state, with its clock, and the numbers
  On : List Call → Engine → ℕ → Type 0
  On xs e n = Gives xs e (with_clock (played ram rom n e) (ahead e n)) (output ram rom e n) n

  -- a done piece in front of what gives no more, or n frames more
  module _ (e : Engine) (to : ℕ) (out : List Float) (h : e.clock < 4294967296) (g : to < 4294967296) (ok : (does (Calls.Render to ram rom out) e).status ≡ 0) where
    abbrev x : Call
    x = Calls.Render to ram rom out

    abbrev t : ℕ
    t = distance e to

    there : ahead e t ≡ to
    there = clock-there e to (distance e to) (ahead e (distance e to)) h g refl refl

    left : next x e ≡ with_clock (played ram rom t e) (ahead e t)
    left = done-state to ram rom out e ok ∙ ap (with_clock (played ram rom (distance e to) e)) (sym there)

    front : (xs : List Call) → numbers_of (x ∷ xs) e ≡ output ram rom e t ++ numbers_of xs (next x e)
    unfolding numbers_of
    front xs =
        ap (λ (m : ℕ). take (2 * m) (written x e) ++ numbers_of xs (next x e)) (done-frames to ram rom out e ok)
        ∙ ap (λ (os : List Float). os ++ numbers_of xs (next x e)) (done-numbers to ram rom out e ok)

    counts : (xs : List Call) → frames_run (x ∷ xs) e ≡ t + frames_run xs (next x e)
    unfolding frames_run
    counts xs = ap (λ (m : ℕ). m + frames_run xs (next x e)) (done-frames to ram rom out e ok)

    last : (xs : List Call) → Gives xs (next x e) (next x e) [] 0 → On (x ∷ xs) e t
    unfolding On run
    last xs r = record {
      state = r.state ∙ left;
      numbers = front xs ∙ ap (λ (os : List Float). output ram rom e t ++ os) r.numbers ∙ append-nil (output ram rom e t);
      frames = counts xs ∙ ap (λ (m : ℕ). t + m) r.frames ∙ add-zero t;
    }

    more : (xs : List Call) (n : ℕ) → On xs (next x e) n → On (x ∷ xs) e (t + n)
    unfolding On run
    more xs n r = record {
      state = r.state ∙ ap (λ (y : Engine). with_clock (played ram rom n y) (ahead y n)) left
          ∙ played-clock ram rom (played ram rom t e) (ahead e t) _ n
          ∙ ap₂ with_clock (sym (played-cut ram rom e t n)) later;
      numbers = front xs
          ∙ ap (λ (os : List Float). output ram rom e t ++ os)
          (r.numbers ∙ ap (λ (y : Engine). output ram rom y n) left ∙ output-clock ram rom (played ram rom t e) (ahead e t) n)
          ∙ sym (output-cut ram rom e t n);
      frames = counts xs ∙ ap (λ (m : ℕ). t + m) r.frames;
    }
      where
        later : ((e.clock + t) % 4294967296 + n) % 4294967296 ≡ (e.clock + (t + n)) % 4294967296
        later = omega arith

  -- any pieces that are done
  record Some (xs : List Call) (e : Engine) : Type 0 where
    many : ℕ
    gives : On xs e many

  below : (e : Engine) (n : ℕ) → ahead e n < 4294967296
  below e n = omega arith

  pieces : (xs : List Call) (n : ℕ) (ns : List ℕ) (e : Engine) (p : Pieces ram rom xs (n ∷ ns) e) → AllDone p → e.clock < 4294967296 → Some xs e
  unfolding On
  pieces [] n ns e p a h = elim p [ ]
  pieces (y ∷ xs) n ns e (asks slot p) a h =
      let r = pieces xs n ns e p a h in
      record { many = r.many; gives = idle y xs e _ _ r.many refl refl r.gives }
  pieces (y ∷ xs) n ns e (refuses z f p) a h =
      let r = pieces xs n ns e p a h in
      record { many = r.many; gives = idle y xs e _ _ r.many (changes-nothing y e f).state (no_frames y e f) r.gives }
  pieces (y ∷ xs) n [] e (piece j out room p) a h =
      record { many = distance e (ahead e n); gives = last e (ahead e n) out h (below e n) a.0 xs (no-piece xs (next y e) p) }
  pieces (y ∷ xs) n (m ∷ ms) e (piece j out room p) a h =
      let l = left e (ahead e n) out h (below e n) a.0 in
      let c : (next y e).clock ≡ ahead e (distance e (ahead e n)) = ap (λ (z : Engine). z.clock) l in
      let r = pieces xs m ms (next y e) p a.2 (subst (λ (k : ℕ). k < 4294967296) (sym c) (below e (distance e (ahead e n)))) in
      record { many = distance e (ahead e n) + r.many; gives = more e (ahead e n) out h (below e n) a.0 xs r.many r.gives }

  -- two runs of pieces with as many frames
  two_runs : (xs ys : List Call) (e : Engine) → Some xs e → Some ys e → frames_run xs e ≡ frames_run ys e
      → (run xs e ≡ run ys e) × (numbers_of xs e ≡ numbers_of ys e)
  unfolding On
  two_runs xs ys e a b q =
      let same : a.many ≡ b.many = sym a.gives.frames ∙ q ∙ b.gives.frames in (
        a.gives.state ∙ ap (λ (n : ℕ). with_clock (played ram rom n e) (ahead e n)) same ∙ sym b.gives.state,
        a.gives.numbers ∙ ap (output ram rom e) same ∙ sym b.gives.numbers,
      )

-- one run behind another
run-append : (xs ys : List Call) (e : Engine) → run (xs ++ ys) e ≡ run ys (run xs e)
unfolding run
run-append [] ys e = refl
run-append (x ∷ xs) ys e = run-append xs ys (next x e)

numbers-append : (xs ys : List Call) (e : Engine) → numbers_of (xs ++ ys) e ≡ numbers_of xs e ++ numbers_of ys (run xs e)
unfolding numbers_of run
numbers-append [] ys e = refl
numbers-append (x ∷ xs) ys e =
    let os = take (2 * frames_of x e) (written x e) in
    ap (λ (l : List Float). os ++ l) (numbers-append xs ys (next x e)) ∙ sym (append_assoc os (numbers_of xs (next x e)) (numbers_of ys (run xs (next x e))))

recut-same : (xs ys : List Call) (e : Engine) → Recut xs ys e → (run xs e ≡ run ys e) × (numbers_of xs e ≡ numbers_of ys e)
unfolding run numbers_of
recut-same xs ys e at-end = (refl, refl)
recut-same xs ys e (alike {xs = us} {ys = vs} x r) =
    let rest = recut-same us vs (next x e) r in
    (rest.0, ap (λ (l : List Float). take (2 * frames_of x e) (written x e) ++ l) rest.1)
recut-same xs ys e (cut-anew {ram} {rom} {ps} {qs} {xs = us} {ys = vs} {n} {m} {ns} {ms} p q a b h same r) =
    let two = two_runs ram rom ps qs e (pieces ram rom ps n ns e p a h) (pieces ram rom qs m ms e q b h) same in
    let rest = recut-same us vs (run ps e) r in (
      run-append ps us e ∙ rest.0 ∙ ap (run vs) two.0 ∙ sym (run-append qs vs e),
      numbers-append ps us e ∙ ap₂ ◌++◌ two.1 (rest.1 ∙ ap (numbers_of vs) two.0) ∙ sym (numbers-append qs vs e),
    )

pub any-lengths : AnyLengths
any-lengths xs ys e r =
    let two = recut-same xs ys e r in
    record {
      state = two.0;
      numbers = two.1;
      number = λ room. ap (λ (os : List Float). write_number os room) two.1;
      file = λ out. ap (λ (os : List Float). recorded os out) two.1;
    }

-- ---- streams

-- the numbers of the shares are those of the run
shared-numbers : (xs : List Call) (e : Engine) (ss : List Share) → Shared xs e ss → all_numbers ss ≡ numbers_of xs e
unfolding numbers_of
shared-numbers xs e ss no-share = refl
shared-numbers xs e ss (passed_over {xs = ys} x z r) =
    shared-numbers ys (next x e) ss r ∙ ap (λ (n : ℕ). take (2 * n) (written x e) ++ numbers_of ys (next x e)) (sym z)
shared-numbers xs e ss (one-share {xs = ys} {ss = ts} x out room r) =
    ap (λ (l : List Float). take (2 * frames_of x e) (written x e) ++ l) (shared-numbers ys (next x e) ts r)

-- each has an even count, and room
shared-roomy : (xs : List Call) (e : Engine) (ss : List Share) → Shared xs e ss → AllRoomy ss
shared-roomy xs e ss no-share = tt
shared-roomy xs e ss (passed_over {xs = ys} x z r) = shared-roomy ys (next x e) ss r
shared-roomy xs e ss (one-share {xs = ys} {ss = ts} x out room r) =
    let l = (call-fit x e).count in
    let even : length (take (2 * frames_of x e) (written x e)) % 2 ≡ 0 = omega arith in
    let fits : 2 * length (take (2 * frames_of x e) (written x e)) ≤ length out = omega arith in
    ((even, fits), shared-roomy ys (next x e) ts r)

pub streamed-file : StreamedFile
streamed-file xs e ss head out s few h room =
    let q = shared-numbers xs e ss s in
    let l = (run-fit xs e).count in
    let k : length (all_numbers ss) ≡ length (numbers_of xs e) = ap length q in
    let w : write_number (all_numbers ss) (length out) ≡ 0 = ap (λ (os : List Float). write_number os (length out)) q ∙ run-done xs e (length out) few room in
    let back = file-is-stream (frames_run xs e) head out ss w (omega arith) h (shared-roomy xs e ss s) in
    let there = stream-is-file (frames_run xs e) head out ss back.0 back.1 (omega arith) (omega arith) in
    (back.0, back.1, ap (λ (os : List Float). file_in os out) (sym q) ∙ there.1)
