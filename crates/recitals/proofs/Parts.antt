-- A player's render may be cut anywhere, and made event by event: frames one behind the other, and counts that add up.
use Prim.Native.Nat.{ℕ, zero, suc, ◌+◌, ◌*◌, ◌<◌, ◌≤◌}
use mathlib.Core.Bool.{Bool, true, false, cond}
use mathlib.Core.List.{List, [], ◌∷◌, ◌++◌, append_assoc, append-nil}
use mathlib.Core.Logic.{◌⊎◌, inl, inr, ⊎_elim}
use mathlib.Core.Path.{◌≡◌, refl, sym, ap, ap₂, ◌∙◌, subst}
use native.Mathlib.Nat.{add-zero, zero-add, suc-add, add_assoc, suc-ne-zero}
use native.Mathlib.Omega.{arith}
use borrow.Author.Tests.{eqb-true, eqb-false}
use lib.Dec.{eqb}
use lib.IntN.{ℤ}
use lib.Ieee.{Float}
use lib.ListN.{length, take}
use Rattle.state.specs.declared.Engine.{Engine}
use Rattle.state.specs.Slots.{with_clock}
use Rattle.engine.specs.Rendering.{distance, output, played, render_number}
use Rattle.smf.specs.Songs.{turns}
use Rattle.player.specs.declared.Answer.{Answer}
use Rattle.player.specs.declared.Player.{Player}
use Rattle.player.specs.declared.Stepped.{Stepped}
use Rattle.player.specs.declared.Tally.{Tally}
use Rattle.player.specs.Acting.{heeded}
use Rattle.player.specs.Cues.{song_over, coming_event, with_engine, since, is_due, gap_of}
use Rattle.player.specs.Playing.{refusal, opened, ticked, forward, applying, caught_up, prepared, performed, numbers, answered}
use Rattle.player.specs.Stepping.{step_taken}
use Rattle.player.proofs.CuesLaws.{left, due-open, Quiet, gap-quiet}
use Rattle.player.proofs.PlayingLaws.{Bounded, ticked-some, applying-fewer, after_one, numbers-one, after-quiet, numbers-quiet}
use Rattle.promises.specs.Calls.{Render, does, next, written, frames_of}
use Rattle.promises.specs.Cuts.{ahead, together}
use Rattle.promises.proofs.Cuts.{done-frames, done-numbers}
use Rattle.promises.proofs.Demand1.{render-numbers}
use Rattle.promises.proofs.Output.{done-state}
use Rattle.recitals.specs.Turns.{Turn, Start, Stop, Play, Step, Direct, next_turn, frames_of_turn, numbers_of_turn, applied_in, refused_in, written_in, run_turns, numbers_turns, applied_turns, refused_turns}
use Rattle.recitals.specs.Parts.{Parts, no_part, stands, part, alone, stepped, PartsDone, AnyCutOfPlay}
use Rattle.recitals.proofs.Clocks.{Clear, of-clear}
use Rattle.recitals.proofs.Acts.{applying-acts, frames-go}
use Rattle.recitals.proofs.Turns.{play-done, play-refused, play-number, render-number, done-clear, play-frames, play-numbers, step-none, step-one}

-- ---- counts

-- a tally with so many more
abbrev pub more : ℕ → ℕ → Tally → Tally
more a r x = record { player = x.player; applied = a + x.applied; refused = r + x.refused }

-- a tally from none
pub from-none : (x : Tally) → x ≡ more x.applied x.refused (opened x.player)
from-none x = ap₂ (λ (a r : ℕ). record { player = x.player; applied = a; refused = r }) (sym (add-zero x.applied)) (sym (add-zero x.refused))

module _ (song bank : List ℕ) (ram rom : List ℤ) where
  -- an event applied counts the same, whatever was counted before
  applying-more : (a r : ℕ) (x : Tally) → applying song bank ram rom (more a r x) ≡ more a r (applying song bank ram rom x)
  unfolding applying
  applying-more a r x =
      ap₂ (λ (m n : ℕ). record { player = (applying song bank ram rom x).player; applied = m; refused = n })
      (add_assoc a x.applied 1) (add_assoc r x.refused (refusal (heeded bank ram rom (coming_event x.player) x.player.engine).status))

  caught-more : (n a r : ℕ) (x : Tally) → caught_up song bank ram rom n (more a r x) ≡ more a r (caught_up song bank ram rom n x)
  unfolding caught_up
  caught-more zero a r x = refl
  caught-more (suc n) a r x = by (is_due x.player) (ap (caught_up song bank ram rom n) (applying-more a r x) ∙ caught-more n a r (applying song bank ram rom x))
    where
      by : (b : Bool) → caught_up song bank ram rom n (applying song bank ram rom (more a r x)) ≡ more a r (caught_up song bank ram rom n (applying song bank ram rom x))
          → cond b (caught_up song bank ram rom n (applying song bank ram rom (more a r x))) (more a r x) ≡ more a r (cond b (caught_up song bank ram rom n (applying song bank ram rom x)) x)
      by true h = h
      by false h = refl

  -- a frame
  turn_more : (a r : ℕ) (x : Tally) → forward ram rom 1 (prepared song bank ram rom (more a r x)) ≡ more a r (forward ram rom 1 (prepared song bank ram rom x))
  unfolding forward
  turn_more a r x = ap (forward ram rom 1) (caught-more (turns song) a r x)

  -- frames
  pub after_more : (n a r : ℕ) (x : Tally) → performed song bank ram rom n (more a r x) ≡ more a r (performed song bank ram rom n x)
  unfolding performed
  after_more zero a r x = refl
  after_more (suc n) a r x = ap (performed song bank ram rom n) (turn_more a r x) ∙ after_more n a r (forward ram rom 1 (prepared song bank ram rom x))

  -- and their numbers
  pub numbers_more : (n a r : ℕ) (x : Tally) → numbers song bank ram rom n (more a r x) ≡ numbers song bank ram rom n x
  unfolding numbers
  numbers_more zero a r x = refl
  numbers_more (suc n) a r x =
      ap₂ (λ (y z : Tally). output ram rom y.player.engine 1 ++ numbers song bank ram rom n z) (caught-more (turns song) a r x) (turn_more a r x)
      ∙ ap (λ (os : List Float). output ram rom (prepared song bank ram rom x).player.engine 1 ++ os) (numbers_more n a r (forward ram rom 1 (prepared song bank ram rom x)))

  -- ---- frames one behind the other

  pub after-cut : (m n : ℕ) (x : Tally) → performed song bank ram rom (m + n) x ≡ performed song bank ram rom n (performed song bank ram rom m x)
  unfolding performed
  after-cut zero n x = rw (zero-add n) refl
  after-cut (suc m) n x = rw (suc-add m n) (after-cut m n (forward ram rom 1 (prepared song bank ram rom x)))

  pub numbers-cut : (m n : ℕ) (x : Tally) → numbers song bank ram rom (m + n) x ≡ numbers song bank ram rom m x ++ numbers song bank ram rom n (performed song bank ram rom m x)
  unfolding performed numbers
  numbers-cut zero n x = rw (zero-add n) refl
  numbers-cut (suc m) n x =
      rw (suc-add m n, numbers-cut m n (forward ram rom 1 (prepared song bank ram rom x)), append_assoc) refl

  -- from a player on
  pub after_two : (m n : ℕ) (p : Player) → performed song bank ram rom (m + n) (opened p)
      ≡ more (performed song bank ram rom m (opened p)).applied (performed song bank ram rom m (opened p)).refused (performed song bank ram rom n (opened (performed song bank ram rom m (opened p)).player))
  after_two m n p =
      let y = performed song bank ram rom m (opened p) in
      after-cut m n (opened p) ∙ ap (performed song bank ram rom n) (from-none y) ∙ after_more n y.applied y.refused (opened y.player)

  pub numbers-two : (m n : ℕ) (p : Player) → numbers song bank ram rom (m + n) (opened p)
      ≡ numbers song bank ram rom m (opened p) ++ numbers song bank ram rom n (opened (performed song bank ram rom m (opened p)).player)
  numbers-two m n p =
      let y = performed song bank ram rom m (opened p) in
      numbers-cut m n (opened p)
      ∙ ap (λ (os : List Float). numbers song bank ram rom m (opened p) ++ os) (ap (numbers song bank ram rom n) (from-none y) ∙ numbers_more n y.applied y.refused (opened y.player))

-- ---- parts

-- a step that changes nothing is one with no event left: behind each event fewer are left
idle-step : (song bank : List ℕ) (ram rom : List ℤ) (p : Player) → next_turn (Step song bank ram rom) p ≡ p → song_over p ≡ true
idle-step song bank ram rom p s = by (song_over p) refl
  where
    by : (b : Bool) → song_over p ≡ b → song_over p ≡ true
    by true e = e
    by false e =
        let same : (applying song bank ram rom (opened p)).player ≡ p = sym (ap (λ (x : Stepped). x.player) (step-one song bank ram rom p e)) ∙ s in
        absurd (omega (arith, (applying-fewer song bank ram rom (opened p) e).less, ap (left song) same))

-- a turn that changes nothing and renders nothing applies nothing
idle-counts : (x : Turn) (p : Player) → next_turn x p ≡ p → frames_of_turn x p ≡ 0 → (applied_in x p ≡ 0) × (refused_in x p ≡ 0)
unfolding performed
idle-counts (Start song) p s h = (refl, refl)
idle-counts Stop p s h = (refl, refl)
idle-counts (Play song bank ram rom to out) p s h = by (eqb number 0) refl
  where
    number : ℕ
    number = render_number to ram rom (length out) p.engine

    by : (b : Bool) → eqb number 0 ≡ b
        → ((answered song bank ram rom to (length out) p).applied ≡ 0) × ((answered song bank ram rom to (length out) p).refused ≡ 0)
    by true q =
        let z = eqb-true number 0 q in
        let d = play-done song bank ram rom to (length out) p z in
        let n : distance p.engine to ≡ 0 = sym (play-frames song bank ram rom to out p z) ∙ h in (
          ap (λ (a : Answer). a.applied) d ∙ ap (λ (m : ℕ). (performed song bank ram rom m (opened p)).applied) n,
          ap (λ (a : Answer). a.refused) d ∙ ap (λ (m : ℕ). (performed song bank ram rom m (opened p)).refused) n,
        )
    by false q =
        let d = play-refused song bank ram rom to (length out) p (eqb-false number 0 q) in
        (ap (λ (a : Answer). a.applied) d, ap (λ (a : Answer). a.refused) d)
idle-counts (Step song bank ram rom) p s h =
    let z = step-none song bank ram rom p (idle-step song bank ram rom p s) in
    (ap (λ (x : Stepped). x.applied) z, ap (λ (x : Stepped). refusal x.number) z)
idle-counts (Direct x) p s h = (refl, refl)

module _ (song bank : List ℕ) (ram rom : List ℤ) where
  -- what the turns xs give from a player p: those of n frames
  pub record Gives (xs : List Turn) (p : Player) (n : ℕ) : Type 0 where
    pub player : run_turns xs p ≡ (performed song bank ram rom n (opened p)).player
    pub numbered : numbers_turns xs p ≡ numbers song bank ram rom n (opened p)
    pub applied : applied_turns xs p ≡ (performed song bank ram rom n (opened p)).applied
    pub refused : refused_turns xs p ≡ (performed song bank ram rom n (opened p)).refused

  -- a part that is short enough and has room is done
  part-done : (n : ℕ) (out : List Float) (p : Player) → p.engine.clock < 4294967296 → Clear ram rom p.engine → n ≤ 4096 → 2 * n ≤ length out
      → (render_number (ahead p.engine n) ram rom (length out) p.engine ≡ 0) × (distance p.engine (ahead p.engine n) ≡ n)
  unfolding distance
  part-done n out p h c k room =
      let e = p.engine in
      let d : distance e (ahead e n) ≡ n = omega arith in
      (sym (render-number song bank ram rom (ahead e n) out e) ∙ (render-numbers (ahead e n) ram rom out e).done.1 (omega arith, omega arith, of-clear ram rom e c), d)

  -- n frames, and t more behind them
  pub behind : (n t : ℕ) (x : Turn) (xs : List Turn) (p : Player) → next_turn x p ≡ (performed song bank ram rom n (opened p)).player
      → numbers_of_turn x p ≡ numbers song bank ram rom n (opened p) → applied_in x p ≡ (performed song bank ram rom n (opened p)).applied
      → refused_in x p ≡ (performed song bank ram rom n (opened p)).refused → Gives xs (next_turn x p) t → Gives (x ∷ xs) p (n + t)
  unfolding run_turns numbers_turns applied_turns refused_turns
  behind n t x xs p z os a r g =
      let w = after_two song bank ram rom n t p in
      record {
        player = g.player ∙ ap (λ (u : Player). (performed song bank ram rom t (opened u)).player) z ∙ sym (ap (λ (u : Tally). u.player) w);
        numbered =
            ap₂ (λ (k l : List Float). k ++ l) os (g.numbered ∙ ap (λ (u : Player). numbers song bank ram rom t (opened u)) z)
            ∙ sym (numbers-two song bank ram rom n t p);
        applied =
            ap₂ (λ (k l : ℕ). k + l) a (g.applied ∙ ap (λ (u : Player). (performed song bank ram rom t (opened u)).applied) z)
            ∙ sym (ap (λ (u : Tally). u.applied) w);
        refused =
            ap₂ (λ (k l : ℕ). k + l) r (g.refused ∙ ap (λ (u : Player). (performed song bank ram rom t (opened u)).refused) z)
            ∙ sym (ap (λ (u : Tally). u.refused) w);
      }

  -- a turn that changes nothing and renders nothing, in front
  pub idle-gives : (x : Turn) (xs : List Turn) (p : Player) (n : ℕ) → next_turn x p ≡ p → frames_of_turn x p ≡ 0 → Gives xs p n → Gives (x ∷ xs) p n
  unfolding run_turns numbers_turns applied_turns refused_turns
  idle-gives x xs p n s f g =
      let i = idle-counts x p s f in
      record {
        player = ap (run_turns xs) s ∙ g.player;
        numbered = ap (λ (m : ℕ). take (2 * m) (written_in x p) ++ numbers_turns xs (next_turn x p)) f ∙ ap (numbers_turns xs) s ∙ g.numbered;
        applied = ap₂ (λ (m l : ℕ). m + l) i.0 (ap (applied_turns xs) s ∙ g.applied) ∙ zero-add _;
        refused = ap₂ (λ (m l : ℕ). m + l) i.1 (ap (refused_turns xs) s ∙ g.refused) ∙ zero-add _;
      }

  -- ---- frames in which no event is due

  -- there are none within the gap
  within-gap : (n most : ℕ) (p : Player) → 0 < n → n ≤ gap_of p most → Quiet n p
  within-gap n most p some near =
      ⊎_elim (⊎_elim (λ (e : song_over p ≡ true). inl e) (λ (h : since p + gap_of p most ≤ (coming_event p).frame). inr (omega arith)))
      (λ (z : gap_of p most ≡ 0). absurd (omega arith)) (gap-quiet p most)

  -- they are the engine's own
  quiet-frames : (n : ℕ) (p : Player) → Bounded p → Quiet n p → performed song bank ram rom n (opened p) ≡ forward ram rom n (opened p)
  unfolding performed
  quiet-frames n p b q =
      ap (λ (m : ℕ). performed song bank ram rom m (opened p)) (sym (add-zero n)) ∙ after-quiet song bank ram rom n 0 (opened p) b q

  -- and so are their numbers
  quiet-numbers : (n : ℕ) (p : Player) → Bounded p → Quiet n p → numbers song bank ram rom n (opened p) ≡ output ram rom p.engine n
  unfolding numbers
  quiet-numbers n p b q =
      ap (λ (m : ℕ). numbers song bank ram rom m (opened p)) (sym (add-zero n))
      ∙ numbers-quiet song bank ram rom n 0 (opened p) b q ∙ append-nil (output ram rom p.engine n)

  -- the engine's own render of them: what it leaves, and its numbers
  own-state : (n : ℕ) (out : List Float) (e : Engine) → 0 < n → distance e (ahead e n) ≡ n → (does (Render (ahead e n) ram rom out) e).status ≡ 0
      → next (Render (ahead e n) ram rom out) e ≡ ticked ram rom n e
  own-state n out e some d ok =
      done-state (ahead e n) ram rom out e ok
      ∙ ap (λ (m : ℕ). with_clock (played ram rom m e) (ahead e n)) d
      ∙ sym (ticked-some ram rom n e (λ (z : n ≡ 0). absurd (omega arith)))

  own-numbers : (n : ℕ) (out : List Float) (e : Engine) → distance e (ahead e n) ≡ n → (does (Render (ahead e n) ram rom out) e).status ≡ 0
      → take (2 * frames_of (Render (ahead e n) ram rom out) e) (written (Render (ahead e n) ram rom out) e) ≡ output ram rom e n
  own-numbers n out e d ok =
      let x = Render (ahead e n) ram rom out in
      ap (λ (m : ℕ). take (2 * m) (written x e)) (done-frames (ahead e n) ram rom out e ok)
      ∙ done-numbers (ahead e n) ram rom out e ok ∙ ap (output ram rom e) d

  -- no event is counted
  forward-none-counted : (n : ℕ) (p : Player) → ((forward ram rom n (opened p)).applied ≡ 0) × ((forward ram rom n (opened p)).refused ≡ 0)
  unfolding forward
  forward-none-counted n p = (refl, refl)

  forward-player : (n : ℕ) (p : Player) → (forward ram rom n (opened p)).player ≡ with_engine p (ticked ram rom n p.engine)
  unfolding forward
  forward-player n p = refl

  -- the player behind them
  alone-player : (n most : ℕ) (out : List Float) (p : Player) → Bounded p → 0 < n → n ≤ gap_of p most → distance p.engine (ahead p.engine n) ≡ n
      → (does (Render (ahead p.engine n) ram rom out) p.engine).status ≡ 0
      → next_turn (Direct (Render (ahead p.engine n) ram rom out)) p ≡ (performed song bank ram rom n (opened p)).player
  alone-player n most out p b some near d ok =
      ap (with_engine p) (own-state n out p.engine some d ok) ∙ sym (forward-player n p)
      ∙ sym (ap (λ (u : Tally). u.player) (quiet-frames n p b (within-gap n most p some near)))

  -- frames of the engine's own within the gap, in front of t more
  pub alone-gives : (n t most : ℕ) (out : List Float) (xs : List Turn) (p : Player) → Bounded p → 0 < n → n ≤ gap_of p most → distance p.engine (ahead p.engine n) ≡ n
      → (does (Render (ahead p.engine n) ram rom out) p.engine).status ≡ 0 → Gives xs (next_turn (Direct (Render (ahead p.engine n) ram rom out)) p) t
      → Gives (Direct (Render (ahead p.engine n) ram rom out) ∷ xs) p (n + t)
  alone-gives n t most out xs p b some near d ok g =
      let quiet = within-gap n most p some near in
      let frames = quiet-frames n p b quiet in
      behind n t (Direct (Render (ahead p.engine n) ram rom out)) xs p (alone-player n most out p b some near d ok) (own-numbers n out p.engine d ok ∙ sym (quiet-numbers n p b quiet))
      (sym (ap (λ (u : Tally). u.applied) frames ∙ (forward-none-counted n p).0)) (sym (ap (λ (u : Tally). u.refused) frames ∙ (forward-none-counted n p).1)) g

  -- ---- an event that is due

  -- n frames behind it are those in front of it
  due-after : (n : ℕ) (x : Tally) → 0 < n → is_due x.player ≡ true → performed song bank ram rom n (applying song bank ram rom x) ≡ performed song bank ram rom n x
  due-after zero x some due = absurd (omega arith)
  due-after (suc n) x some due = after_one song bank ram rom n x due

  due-numbers : (n : ℕ) (x : Tally) → 0 < n → is_due x.player ≡ true → numbers song bank ram rom n (applying song bank ram rom x) ≡ numbers song bank ram rom n x
  due-numbers zero x some due = absurd (omega arith)
  due-numbers (suc n) x some due = numbers-one song bank ram rom n x due

  -- what a step counts
  step_counts : (p : Player) → song_over p ≡ false
      → (applied_in (Step song bank ram rom) p ≡ (applying song bank ram rom (opened p)).applied) × (refused_in (Step song bank ram rom) p ≡ (applying song bank ram rom (opened p)).refused)
  unfolding applying
  step_counts p e =
      let s = step-one song bank ram rom p e in
      (ap (λ (x : Stepped). x.applied) s, ap (λ (x : Stepped). refusal x.number) s ∙ sym (zero-add _))

  -- a step over an event that is due, in front of n frames
  pub step_gives : (n : ℕ) (xs : List Turn) (p : Player) → 0 < n → is_due p ≡ true → Gives xs (next_turn (Step song bank ram rom) p) n → Gives (Step song bank ram rom ∷ xs) p n
  unfolding run_turns numbers_turns applied_turns refused_turns
  step_gives n xs p some due g =
      let y = applying song bank ram rom (opened p) in
      let here = due-open p due in
      let s : next_turn (Step song bank ram rom) p ≡ y.player = ap (λ (x : Stepped). x.player) (step-one song bank ram rom p here) in
      let c = step_counts p here in
      let w : performed song bank ram rom n (opened p) ≡ more y.applied y.refused (performed song bank ram rom n (opened y.player)) =
      sym (due-after n (opened p) some due) ∙ ap (performed song bank ram rom n) (from-none y) ∙ after_more song bank ram rom n y.applied y.refused (opened y.player) in
      let v : numbers song bank ram rom n (opened p) ≡ numbers song bank ram rom n (opened y.player) =
      sym (due-numbers n (opened p) some due) ∙ ap (numbers song bank ram rom n) (from-none y) ∙ numbers_more song bank ram rom n y.applied y.refused (opened y.player) in
      record {
        player = g.player ∙ ap (λ (u : Player). (performed song bank ram rom n (opened u)).player) s ∙ sym (ap (λ (u : Tally). u.player) w);
        numbered = g.numbered ∙ ap (λ (u : Player). numbers song bank ram rom n (opened u)) s ∙ sym v;
        applied =
            ap₂ (λ (k l : ℕ). k + l) c.0 (g.applied ∙ ap (λ (u : Player). (performed song bank ram rom n (opened u)).applied) s)
            ∙ sym (ap (λ (u : Tally). u.applied) w);
        refused =
            ap₂ (λ (k l : ℕ). k + l) c.1 (g.refused ∙ ap (λ (u : Player). (performed song bank ram rom n (opened u)).refused) s)
            ∙ sym (ap (λ (u : Tally). u.refused) w);
      }

  -- any parts
  any-parts : (xs : List Turn) (ns : List ℕ) (p : Player) (q : Parts song bank ram rom xs ns p) → p.engine.clock < 4294967296 → Clear ram rom p.engine → together ns ≤ 4096
      → PartsDone q × Gives xs p (together ns)
  unfolding together performed numbers run_turns numbers_turns applied_turns refused_turns
  any-parts [] (n ∷ ns) p q h c k = elim q [ ]
  any-parts [] [] p no_part h c k = (tt, record { player = refl; numbered = refl; applied = refl; refused = refl })
  any-parts (x ∷ xs) ns p (stands y s f q) h c k =
      let g = any-parts xs ns p q h c k in
      (g.0, idle-gives x xs p (together ns) s f g.1)
  any-parts (x ∷ xs) (n ∷ ns) p (part m out room q) h c k =
      let e = p.engine in
      let ok = part-done n out p h c (omega arith) room in
      let d = play-done song bank ram rom (ahead e n) (length out) p ok.0 in
      let y = performed song bank ram rom n (opened p) in
      let same : (answered song bank ram rom (ahead e n) (length out) p).player ≡ y.player =
      ap (λ (a : Answer). a.player) d ∙ ap (λ (m : ℕ). (performed song bank ram rom m (opened p)).player) ok.1 in
      let f = frames-go ram rom song bank n (opened p) h c in
      let t : (answered song bank ram rom (ahead e n) (length out) p).player.engine.clock < 4294967296 = rw same (omega (arith, f.clock)) in
      let g = any-parts xs ns (next_turn (Play song bank ram rom (ahead e n) out) p) q t (rw same f.clear) (omega arith) in (
        (play-number song bank ram rom (ahead e n) (length out) p ∙ ok.0, g.0),
        behind n (together ns) (Play song bank ram rom (ahead e n) out) xs p same
            (play-numbers song bank ram rom (ahead e n) out p ok.0 ∙ ap (λ (m : ℕ). numbers song bank ram rom m (opened p)) ok.1)
            (ap (λ (a : Answer). a.applied) d ∙ ap (λ (m : ℕ). (performed song bank ram rom m (opened p)).applied) ok.1)
            (ap (λ (a : Answer). a.refused) d ∙ ap (λ (m : ℕ). (performed song bank ram rom m (opened p)).refused) ok.1)
            g.1,
      )
  any-parts (x ∷ xs) (n ∷ ns) p (alone m most out some near room b f q) h c k =
      let e = p.engine in
      let r = part-done n out p h c (omega arith) room in
      let ok : (does (Render (ahead e n) ram rom out) e).status ≡ 0 = render-number song bank ram rom (ahead e n) out e ∙ r.0 in
      let bounded : Bounded p = record { clock = h; began = b; frame = f } in
      let same = alone-player n most out p bounded some near r.1 ok in
      let w = frames-go ram rom song bank n (opened p) h c in
      let t : (next_turn (Direct (Render (ahead e n) ram rom out)) p).engine.clock < 4294967296 = rw (ap (λ (u : Player). u.engine.clock) same) (omega (arith, w.clock)) in
      let g = any-parts xs ns (next_turn (Direct (Render (ahead e n) ram rom out)) p) q t (subst (λ (u : Player). Clear ram rom u.engine) (sym same) w.clear) (omega arith) in (
        (ok, g.0),
        alone-gives n (together ns) most out xs p bounded some near r.1 ok g.1,
      )
  any-parts (x ∷ xs) ns p (stepped due some q) h c k =
      let a = applying-acts ram rom song bank (opened p) in
      let s : next_turn (Step song bank ram rom) p ≡ (applying song bank ram rom (opened p)).player = ap (λ (x : Stepped). x.player) (step-one song bank ram rom p (due-open p due)) in
      let t : (next_turn (Step song bank ram rom) p).engine.clock < 4294967296 = rw (ap (λ (u : Player). u.engine.clock) s ∙ a.clock) h in
      let g = any-parts xs ns (next_turn (Step song bank ram rom) p) q t (subst (λ (u : Player). Clear ram rom u.engine) (sym s) (a.clear c)) k in
      (g.0, step_gives (together ns) xs p some due g.1)

-- the whole render, from its parts
pub any-cut-of-play : AnyCutOfPlay
any-cut-of-play song bank ram rom to out p ns xs h ok total q =
    let z : render_number to ram rom (length out) p.engine ≡ 0 = sym (play-number song bank ram rom to (length out) p) ∙ ok in
    let n = distance p.engine to in
    let d = play-done song bank ram rom to (length out) p z in
    let few = ((render-numbers to ram rom out p.engine).done.0 (render-number song bank ram rom to out p.engine ∙ z)).0 in
    let g = any-parts song bank ram rom xs ns p q h (done-clear song bank ram rom to out p.engine z) (subst (λ (m : ℕ). m ≤ 4096) (sym total) few) in
    let w = g.1 in (
      g.0,
      record {
        player = w.player ∙ ap (λ (m : ℕ). (performed song bank ram rom m (opened p)).player) total ∙ sym (ap (λ (a : Answer). a.player) d);
        numbers = w.numbered ∙ ap (λ (m : ℕ). numbers song bank ram rom m (opened p)) total ∙ sym (play-numbers song bank ram rom to out p z);
        applied = w.applied ∙ ap (λ (m : ℕ). (performed song bank ram rom m (opened p)).applied) total ∙ sym (ap (λ (a : Answer). a.applied) d);
        refused = w.refused ∙ ap (λ (m : ℕ). (performed song bank ram rom m (opened p)).refused) total ∙ sym (ap (λ (a : Answer). a.refused) d);
      },
    )
