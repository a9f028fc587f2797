-- Laws of a render by the player: the turns are enough for all events that are due, an event that is due may be applied at once, and frames in which none is due go together.
use Rattle.std.proofs.Common.{◌≡◌, ℕ, zero, suc, ◌+◌, ◌-◌, ◌*◌, ◌%◌, ◌<◌, ◌≤◌, Bool, true, false, cond, eqb, ltb, ◌⊎◌, List, ◌++◌, length, take, drop, ℤ, sym, refl, ap, ◌∙◌, inl, inr, ⊎_elim, append_assoc, append-nil, suc-add, zero-add, suc-ne-zero, add-one, arith, length-append, length-drop, take-append-drop, length-take-le, take_all, drop-drop, take_at, drop_at, ltb-false, ltb-true, le-ltb, lt-ltb}
use lib.Ieee.{Float}
use lib.Seq.{drop-length}
use borrow.Rule.Slice.PartMut.{put_mid, post_of, Post-is}
use Rattle.smf.specs.Songs.{turns, handed_of}
use Rattle.smf.proofs.TrackLaws.{handed-led}
use Rattle.state.specs.declared.Engine.{Engine}
use Rattle.state.specs.Slots.{with_clock}
use Rattle.engine.specs.Rendering.{output, played}
use Rattle.engine.proofs.CutLaws.{played-cut, output-cut, played-clock, output-clock}
use Rattle.player.specs.declared.Player.{Player}
use Rattle.player.specs.declared.Tally.{Tally}
use Rattle.player.specs.Acting.{heeded}
use Rattle.player.specs.Cues.{song_over, coming_event, with_engine, since, is_due, gap_of}
use Rattle.player.specs.Playing.{ticked, forward, applying, caught_up, prepared, performed, numbers}
use Rattle.player.proofs.CuesLaws.{left, left-most, Fewer, fewer, due-open, reached-due, Quiet, quiet-still, gap-most, gap-quiet, gap-less}

-- frames are left behind so many where they are among those that were left
pub left_behind : (k m n : ℕ) → k ≤ n → ltb (k + m) n ≡ ltb m (n - k)
left_behind k m n h = by (ltb m (n - k)) refl
  where
    by : (t : Bool) → ltb m (n - k) ≡ t → ltb (k + m) n ≡ t
    by true e = lt-ltb (k + m) n (omega (arith, ltb-true m (n - k) e))
    by false e = le-ltb (k + m) n (omega (arith, ltb-false m (n - k) e))

-- ---- a part of the output

-- no number is written
pub written_none : (ram rom : List ℤ) (e : Engine) (at m : ℕ) (out : List Float) → m ≡ 0 → out ≡ take at out ++ (output ram rom e m ++ drop (at + 2 * m) out)
unfolding output
written_none ram rom e at zero out h =
    let n : at ≡ at + 2 * 0 = omega arith in
    sym (take-append-drop at out) ∙ ap (λ (k : ℕ). take at out ++ drop k out) n
written_none ram rom e at (suc m) out h = absurd (suc-ne-zero m h)

-- the part from a place on comes back with k numbers written
pub part-put : (at k : ℕ) (out os : List Float) → at ≤ length out
    → put_mid at (length out - at) out (os ++ drop k (take (length out - at) (drop at out))) ≡ take at out ++ (os ++ drop (at + k) out)
part-put at k out os h =
    let all : take (length out - at) (drop at out) ≡ drop at out = take_all (length out - at) (drop at out) (omega (arith, length-drop at out)) in
    ap (λ (xs : List Float). take at out ++ ((os ++ drop k xs) ++ post_of at (length out - at) out)) all
    ∙ ap (λ (xs : List Float). take at out ++ ((os ++ drop k (drop at out)) ++ xs)) (Post-is at (length out) out h ∙ drop-length out)
    ∙ ap (λ (xs : List Float). take at out ++ xs) (append-nil (os ++ drop k (drop at out)) ∙ ap (λ (xs : List Float). os ++ xs) (drop-drop k at out))

-- two numbers a frame
pub output-length : (ram rom : List ℤ) (e : Engine) (n : ℕ) → length (output ram rom e n) ≡ 2 * n
unfolding output
output-length ram rom e zero = refl
output-length ram rom e (suc n) = simp length-append (omega (arith, output-length ram rom e n))

-- k frames are written, and m more behind them: k + m are, and what was behind them is as it was
pub written_on : (k m : ℕ) (before out next os : List Float) → 2 * k ≤ length out → length os ≡ 2 * m
    → out ≡ take (2 * k) out ++ drop (2 * k) before
    → next ≡ take (2 * k) out ++ (os ++ drop (2 * k + 2 * m) out)
    → (take (2 * (k + m)) next ≡ take (2 * k) out ++ os) × (next ≡ take (2 * (k + m)) next ++ drop (2 * (k + m)) before)
written_on k m before out next os room long same new =
    let front = take (2 * k) out in
    let far : length front ≡ 2 * k = length-take-le (2 * k) out room in
    let size : length (front ++ os) ≡ 2 * (k + m) = simp length-append (omega (arith, far, long)) in
    let sum : 2 * k + 2 * m ≡ 2 * (k + m) = omega arith in
    let behind : drop (2 * k) out ≡ drop (2 * k) before = ap (drop (2 * k)) same ∙ drop_at front (drop (2 * k) before) (2 * k) far in
    let rest : drop (2 * k + 2 * m) out ≡ drop (2 * (k + m)) before =
    sym (drop-drop (2 * m) (2 * k) out) ∙ ap (drop (2 * m)) behind ∙ drop-drop (2 * m) (2 * k) before ∙ ap (λ (j : ℕ). drop j before) sum in
    let whole : next ≡ (front ++ os) ++ drop (2 * (k + m)) before =
    new ∙ ap (λ (xs : List Float). front ++ (os ++ xs)) rest ∙ sym (append_assoc front os (drop (2 * (k + m)) before)) in
    let first : take (2 * (k + m)) next ≡ front ++ os = ap (take (2 * (k + m))) whole ∙ take_at (front ++ os) (drop (2 * (k + m)) before) (2 * (k + m)) size in
    (first, whole ∙ ap (λ (xs : List Float). xs ++ drop (2 * (k + m)) before) (sym first))

-- ---- the engine's own frames

-- one frame and then m are m + 1
pub ticked-on : (ram rom : List ℤ) (m : ℕ) (e : Engine) → ticked ram rom m (ticked ram rom 1 e) ≡ ticked ram rom (suc m) e
unfolding ticked
ticked-on ram rom zero e = refl
ticked-on ram rom (suc k) e =
    let t = (e.clock + 1) % 4294967296 in
    let c : (t + suc k) % 4294967296 ≡ (e.clock + suc (suc k)) % 4294967296 = omega arith in
    let n : 1 + suc k ≡ suc (suc k) = omega arith in
    played-clock ram rom (played ram rom 1 e) t ((t + suc k) % 4294967296) (suc k)
    ∙ ap (λ (x : Engine). with_clock x ((t + suc k) % 4294967296)) (sym (played-cut ram rom e 1 (suc k)) ∙ ap (λ (j : ℕ). played ram rom j e) n)
    ∙ ap (with_clock (played ram rom (suc (suc k)) e)) c

-- and so are their numbers
pub output_on : (ram rom : List ℤ) (m : ℕ) (e : Engine) → output ram rom e 1 ++ output ram rom (ticked ram rom 1 e) m ≡ output ram rom e (suc m)
unfolding ticked
output_on ram rom m e =
    let n : 1 + m ≡ suc m = omega arith in
    ap (λ (os : List Float). output ram rom e 1 ++ os) (output-clock ram rom (played ram rom 1 e) ((e.clock + 1) % 4294967296) m)
    ∙ sym (output-cut ram rom e 1 m) ∙ ap (output ram rom e) n

-- frames of which there are some
pub ticked-some : (ram rom : List ℤ) (m : ℕ) (e : Engine) → (m ≡ 0 → ⊥) → ticked ram rom m e ≡ with_clock (played ram rom m e) ((e.clock + m) % 4294967296)
unfolding ticked
ticked-some ram rom zero e h = absurd (h refl)
ticked-some ram rom (suc m) e h = refl

-- of a player
pub forward-none : (ram rom : List ℤ) (x : Tally) → forward ram rom 0 x ≡ x
unfolding forward ticked
forward-none ram rom x = refl

forward-on : (ram rom : List ℤ) (m : ℕ) (x : Tally) → forward ram rom m (forward ram rom 1 x) ≡ forward ram rom (suc m) x
unfolding forward
forward-on ram rom m x =
    ap (λ (e : Engine). with x e) (ticked-on ram rom m x.player.engine)
  where
    with : Tally → Engine → Tally
    with x e = record { player = with_engine x.player e; applied = x.applied; refused = x.refused }

-- and its numbers
output-forward : (ram rom : List ℤ) (m : ℕ) (x : Tally)
    → output ram rom x.player.engine 1 ++ output ram rom (forward ram rom 1 x).player.engine m ≡ output ram rom x.player.engine (suc m)
unfolding forward
output-forward ram rom m x = output_on ram rom m x.player.engine

-- ---- the clock of a player

-- its numbers are of 32 bits
pub record Bounded (p : Player) : Type 0 where
  pub clock : p.engine.clock < 4294967296
  pub began : p.began < 4294967296
  pub frame : (coming_event p).frame < 4294967296

-- m frames on, as long as the count of frames does not wrap
pub since-on : (ram rom : List ℤ) (m : ℕ) (x : Tally) → Bounded x.player → since x.player + m < 4294967296
    → since (forward ram rom m x).player ≡ since x.player + m
unfolding since forward ticked
since-on ram rom zero x b h = omega (arith, b.clock, b.began)
since-on ram rom (suc m) x b h = omega (arith, b.clock, b.began)

-- the bounds hold on
pub bounded-on : (ram rom : List ℤ) (m : ℕ) (x : Tally) → Bounded x.player → Bounded (forward ram rom m x).player
unfolding forward ticked
bounded-on ram rom zero x b = record { clock = b.clock; began = b.began; frame = b.frame }
bounded-on ram rom (suc m) x b = record { clock = omega arith; began = b.began; frame = b.frame }

-- the frames since the start are counted in 32 bits
since-low : (p : Player) → since p < 4294967296
unfolding since
since-low p = omega arith

-- frames leave the events as they are
forward-left : (song : List ℕ) (ram rom : List ℤ) (m : ℕ) (x : Tally) → left song (forward ram rom m x).player ≡ left song x.player
unfolding forward left
forward-left song ram rom m x = refl

-- and whether one comes
pub forward-ended : (ram rom : List ℤ) (m : ℕ) (x : Tally) → song_over (forward ram rom m x).player ≡ song_over x.player
unfolding forward
forward-ended ram rom m x = refl

-- and the counts
pub forward-counts : (ram rom : List ℤ) (m : ℕ) (x : Tally) → ((forward ram rom m x).applied ≡ x.applied) × ((forward ram rom m x).refused ≡ x.refused)
unfolding forward
forward-counts ram rom m x = (refl, refl)

-- none is due in the frames behind the first of some in which none is
quiet-on : (ram rom : List ℤ) (m : ℕ) (x : Tally) → Bounded x.player → Quiet (suc m) x.player → Quiet m (forward ram rom 1 x).player
unfolding forward
quiet-on ram rom m x b q =
    ⊎_elim (λ (e : song_over x.player ≡ true). inl e)
    (λ (h : since x.player + suc m ≤ (coming_event x.player).frame).
    let s = since-on ram rom 1 x b (omega (arith, b.frame)) in
    inr (omega arith)) q

module _ (song bank : List ℕ) (ram rom : List ℤ) where
  -- ---- events

  -- fewer are left behind each
  pub applying-fewer : (x : Tally) → song_over x.player ≡ false → Fewer (left song x.player) (left song (applying song bank ram rom x).player)
  unfolding applying left
  applying-fewer x e =
      let p = x.player in
      let c = p.cursor in
      fewer song (with_engine p (heeded bank ram rom (coming_event p) p.engine).engine) (handed_of song c).cursor (handed_of song c).event (handed-led song c) e

  -- each is counted, and at most once as refused
  applying-counts : (x : Tally) → ((applying song bank ram rom x).applied ≡ x.applied + 1) × ((applying song bank ram rom x).refused ≤ x.refused + 1)
  unfolding applying
  applying-counts x = (refl, by (eqb (heeded bank ram rom (coming_event x.player) x.player.engine).status 0))
    where
      by : (t : Bool) → x.refused + cond t 0 1 ≤ x.refused + 1
      by true = omega arith
      by false = omega arith

  -- where none is due, none is applied
  up_none : (n : ℕ) (x : Tally) → is_due x.player ≡ false → caught_up song bank ram rom n x ≡ x
  unfolding caught_up
  up_none zero x e = refl
  up_none (suc n) x e = rw e refl

  -- where one is, it is applied first
  up_one : (n : ℕ) (x : Tally) → is_due x.player ≡ true → caught_up song bank ram rom (suc n) x ≡ caught_up song bank ram rom n (applying song bank ram rom x)
  unfolding caught_up
  up_one n x e = rw e refl

  -- fewer are left behind one that is due
  due-fewer : (x : Tally) → is_due x.player ≡ true → left song (applying song bank ram rom x).player < left song x.player
  due-fewer x e = (applying-fewer x (due-open x.player e)).less

  -- none is due where none is left
  left-due : (x : Tally) → left song x.player ≤ 0 → is_due x.player ≡ false
  left-due x h = by (is_due x.player) refl
    where
      by : (t : Bool) → is_due x.player ≡ t → is_due x.player ≡ false
      by true e = absurd (omega (arith, due-fewer x e))
      by false e = e

  -- a turn more than are left changes nothing
  settled : (n : ℕ) (x : Tally) → left song x.player ≤ n → caught_up song bank ram rom (suc n) x ≡ caught_up song bank ram rom n x
  settled zero x h = up_none 1 x (left-due x h) ∙ sym (up_none 0 x (left-due x h))
  settled (suc n) x h = go (λ y. settled n y) (is_due x.player) refl
    where
      go : ((y : Tally) → left song y.player ≤ n → caught_up song bank ram rom (suc n) y ≡ caught_up song bank ram rom n y) → (t : Bool) → is_due x.player ≡ t → caught_up song bank ram rom (suc (suc n)) x ≡ caught_up song bank ram rom (suc n) x
      go more true e = up_one (suc n) x e ∙ more (applying song bank ram rom x) (omega (arith, due-fewer x e)) ∙ sym (up_one n x e)
      go more false e = up_none (suc (suc n)) x e ∙ sym (up_none (suc n) x e)

  -- so after all turns none is due
  caught : (n : ℕ) (x : Tally) → left song x.player ≤ n → is_due (caught_up song bank ram rom n x).player ≡ false
  caught zero x h = ap (λ (y : Tally). is_due y.player) (up_none 0 x (left-due x h)) ∙ left-due x h
  caught (suc n) x h = go (λ y. caught n y) (is_due x.player) refl
    where
      go : ((y : Tally) → left song y.player ≤ n → is_due (caught_up song bank ram rom n y).player ≡ false) → (t : Bool) → is_due x.player ≡ t → is_due (caught_up song bank ram rom (suc n) x).player ≡ false
      go more true e = ap (λ (y : Tally). is_due y.player) (up_one n x e) ∙ more (applying song bank ram rom x) (omega (arith, due-fewer x e))
      go more false e = ap (λ (y : Tally). is_due y.player) (up_none (suc n) x e) ∙ e

  -- in front of a frame no event is due that is not applied
  pub none-due : (x : Tally) → is_due (prepared song bank ram rom x).player ≡ false
  none-due x = caught (turns song) x (omega (arith, left-most song x.player))

  -- where none is due, nothing is to be done in front of a frame
  pub prepared-none : (x : Tally) → is_due x.player ≡ false → prepared song bank ram rom x ≡ x
  prepared-none x e = up_none (turns song) x e

  -- an event that is due may be applied at once
  pub prepared-one : (x : Tally) → is_due x.player ≡ true → prepared song bank ram rom (applying song bank ram rom x) ≡ prepared song bank ram rom x
  prepared-one x e =
      let y = applying song bank ram rom x in
      ap (λ (n : ℕ). caught_up song bank ram rom n y) (add-one (length song))
      ∙ settled (length song) y (omega (arith, due-fewer x e, left-most song x.player))
      ∙ sym (ap (λ (n : ℕ). caught_up song bank ram rom n x) (add-one (length song)) ∙ up_one (length song) x e)

  -- ---- frames

  -- n frames from a state in front of which an event is due
  pub after_one : (n : ℕ) (x : Tally) → is_due x.player ≡ true
      → performed song bank ram rom (suc n) (applying song bank ram rom x) ≡ performed song bank ram rom (suc n) x
  unfolding performed
  after_one n x e = ap (λ (y : Tally). performed song bank ram rom n (forward ram rom 1 y)) (prepared-one x e)

  -- their numbers
  pub numbers-one : (n : ℕ) (x : Tally) → is_due x.player ≡ true
      → numbers song bank ram rom (suc n) (applying song bank ram rom x) ≡ numbers song bank ram rom (suc n) x
  unfolding numbers
  numbers-one n x e =
      ap (λ (y : Tally). output ram rom y.player.engine 1 ++ numbers song bank ram rom n (forward ram rom 1 y)) (prepared-one x e)

  -- frames in front of which no event is due go together
  pub after-quiet : (m r : ℕ) (x : Tally) → Bounded x.player → Quiet m x.player
      → performed song bank ram rom (m + r) x ≡ performed song bank ram rom r (forward ram rom m x)
  unfolding performed
  after-quiet zero r x b q = ap (λ (n : ℕ). performed song bank ram rom n x) (zero-add r) ∙ ap (performed song bank ram rom r) (sym (forward-none ram rom x))
  after-quiet (suc m) r x b q =
      ap (λ (n : ℕ). performed song bank ram rom n x) (suc-add m r)
      ∙ ap (λ (y : Tally). performed song bank ram rom (m + r) (forward ram rom 1 y)) (prepared-none x (quiet-still m x.player q))
      ∙ after-quiet m r (forward ram rom 1 x) (bounded-on ram rom 1 x b) (quiet-on ram rom m x b q)
      ∙ ap (performed song bank ram rom r) (forward-on ram rom m x)

  -- and so do their numbers
  pub numbers-quiet : (m r : ℕ) (x : Tally) → Bounded x.player → Quiet m x.player
      → numbers song bank ram rom (m + r) x ≡ output ram rom x.player.engine m ++ numbers song bank ram rom r (forward ram rom m x)
  unfolding numbers output
  numbers-quiet zero r x b q =
      ap (λ (n : ℕ). numbers song bank ram rom n x) (zero-add r) ∙ ap (numbers song bank ram rom r) (sym (forward-none ram rom x))
  numbers-quiet (suc m) r x b q =
      let e = x.player.engine in
      let y = forward ram rom 1 x in
      let rest = numbers song bank ram rom r (forward ram rom (suc m) x) in
      ap (λ (n : ℕ). numbers song bank ram rom n x) (suc-add m r)
      ∙ ap (λ (z : Tally). output ram rom z.player.engine 1 ++ numbers song bank ram rom (m + r) (forward ram rom 1 z)) (prepared-none x (quiet-still m x.player q))
      ∙ ap (λ (os : List Float). output ram rom e 1 ++ os)
      (numbers-quiet m r y (bounded-on ram rom 1 x b) (quiet-on ram rom m x b q)
      ∙ ap (λ (z : Tally). output ram rom y.player.engine m ++ numbers song bank ram rom r z) (forward-on ram rom m x))
      ∙ sym (append_assoc (output ram rom e 1) (output ram rom y.player.engine m) rest)
      ∙ ap (λ (os : List Float). os ++ rest) (output-forward ram rom m x)

  -- ---- a turn of the loop: on to the next event, and that event where frames are left

  -- the frames of a gap go together
  gap-after : (m r : ℕ) (x : Tally) → Bounded x.player → Quiet m x.player ⊎ (m ≡ 0)
      → performed song bank ram rom (m + r) x ≡ performed song bank ram rom r (forward ram rom m x)
  gap-after m r x b q = ⊎_elim (λ (q : Quiet m x.player). after-quiet m r x b q) (none m) q
    where
      none : (m : ℕ) → m ≡ 0 → performed song bank ram rom (m + r) x ≡ performed song bank ram rom r (forward ram rom m x)
      none zero z = ap (λ (n : ℕ). performed song bank ram rom n x) (zero-add r) ∙ ap (performed song bank ram rom r) (sym (forward-none ram rom x))
      none (suc m) z = absurd (suc-ne-zero m z)

  -- and so do their numbers
  gap-numbers : (m r : ℕ) (x : Tally) → Bounded x.player → Quiet m x.player ⊎ (m ≡ 0)
      → numbers song bank ram rom (m + r) x ≡ output ram rom x.player.engine m ++ numbers song bank ram rom r (forward ram rom m x)
  unfolding output
  gap-numbers m r x b q = ⊎_elim (λ (q : Quiet m x.player). numbers-quiet m r x b q) (none m) q
    where
      none : (m : ℕ) → m ≡ 0 → numbers song bank ram rom (m + r) x ≡ output ram rom x.player.engine m ++ numbers song bank ram rom r (forward ram rom m x)
      none zero z = ap (λ (n : ℕ). numbers song bank ram rom n x) (zero-add r) ∙ ap (numbers song bank ram rom r) (sym (forward-none ram rom x))
      none (suc m) z = absurd (suc-ne-zero m z)

  -- where frames are left behind a gap, an event is due
  gap-due : (most : ℕ) (x : Tally) → Bounded x.player → gap_of x.player most < most → is_due (forward ram rom (gap_of x.player most) x).player ≡ true
  unfolding forward
  gap-due most x b h =
      let p = x.player in
      let g = gap-less p most h in
      let s = since-on ram rom (gap_of p most) x b (omega (arith, g.1, b.frame, since-low p)) in
      reached-due (forward ram rom (gap_of p most) x).player g.0 (omega (arith, g.1, s))

  -- what a turn leaves
  abbrev pub turned : Bool → ℕ → Tally → Tally
  turned more m x = cond more (applying song bank ram rom (forward ram rom m x)) (forward ram rom m x)

  -- where frames are left, the event that is applied is due
  turn-rest : (m r : ℕ) (x : Tally) → is_due (forward ram rom m x).player ≡ true
      → performed song bank ram rom (suc r) (forward ram rom m x) ≡ performed song bank ram rom (suc r) (turned true m x)
  turn-rest m r x e = sym (after_one r (forward ram rom m x) e)

  -- from there the frames that are left give the same
  pub turn-after : (most : ℕ) (x : Tally) (more : Bool) → Bounded x.player → ltb (gap_of x.player most) most ≡ more
      → performed song bank ram rom most x ≡ performed song bank ram rom (most - gap_of x.player most) (turned more (gap_of x.player most) x)
  turn-after most x more b f = by more f (most - m) refl
    where
      m : ℕ
      m = gap_of x.player most

      whole : m + (most - m) ≡ most
      whole = omega (arith, gap-most x.player most)

      gone : performed song bank ram rom most x ≡ performed song bank ram rom (most - m) (forward ram rom m x)
      gone = ap (λ (n : ℕ). performed song bank ram rom n x) (sym whole) ∙ gap-after m (most - m) x b (gap-quiet x.player most)

      by : (t : Bool) → ltb m most ≡ t → (r : ℕ) → most - m ≡ r → performed song bank ram rom most x ≡ performed song bank ram rom (most - m) (turned t m x)
      by false f r e = gone
      by true f zero e = absurd (omega (arith, ltb-true m most f))
      by true f (suc r) e =
          let due = gap-due most x b (ltb-true m most f) in
          gone ∙ rw e (turn-rest m r x due)

  -- with the numbers of the gap in front, and so do the numbers
  pub turn-numbers : (most : ℕ) (x : Tally) (more : Bool) → Bounded x.player → ltb (gap_of x.player most) most ≡ more
      → numbers song bank ram rom most x
      ≡ output ram rom x.player.engine (gap_of x.player most) ++ numbers song bank ram rom (most - gap_of x.player most) (turned more (gap_of x.player most) x)
  turn-numbers most x more b f = by more f (most - m) refl
    where
      m : ℕ
      m = gap_of x.player most

      os : List Float
      os = output ram rom x.player.engine m

      whole : m + (most - m) ≡ most
      whole = omega (arith, gap-most x.player most)

      gone : numbers song bank ram rom most x ≡ os ++ numbers song bank ram rom (most - m) (forward ram rom m x)
      gone = ap (λ (n : ℕ). numbers song bank ram rom n x) (sym whole) ∙ gap-numbers m (most - m) x b (gap-quiet x.player most)

      by : (t : Bool) → ltb m most ≡ t → (r : ℕ) → most - m ≡ r → numbers song bank ram rom most x ≡ os ++ numbers song bank ram rom (most - m) (turned t m x)
      by false f r e = gone
      by true f zero e = absurd (omega (arith, ltb-true m most f))
      by true f (suc r) e =
          let due = gap-due most x b (ltb-true m most f) in
          gone ∙ ap (λ (xs : List Float). os ++ xs) (rw e (sym (numbers-one r (forward ram rom m x) due)))

  -- frames and events that are left fall with each turn
  pub turn-less : (most : ℕ) (x : Tally) (more : Bool) → Bounded x.player → 0 < most → ltb (gap_of x.player most) most ≡ more
      → most - gap_of x.player most + left song (turned more (gap_of x.player most) x).player < most + left song x.player
  turn-less most x more b h f = by more f
    where
      m : ℕ
      m = gap_of x.player most

      y : Tally
      y = forward ram rom m x

      same : left song y.player ≡ left song x.player
      same = forward-left song ram rom m x

      by : (t : Bool) → ltb m most ≡ t → most - m + left song (turned t m x).player < most + left song x.player
      by false f = omega (arith, same, ltb-false m most f)
      by true f = omega (arith, same, (applying-fewer y (due-open y.player (gap-due most x b (ltb-true m most f)))).less)

  -- and the count of those applied has room
  pub turn-counts : (most : ℕ) (x : Tally) (more : Bool) → Bounded x.player → ltb (gap_of x.player most) most ≡ more
      → (2 * x.applied + left song x.player ≤ 4294967296) × (x.refused ≤ x.applied)
      → (2 * (turned more (gap_of x.player most) x).applied + left song (turned more (gap_of x.player most) x).player ≤ 4294967296)
      × ((turned more (gap_of x.player most) x).refused ≤ (turned more (gap_of x.player most) x).applied)
  turn-counts most x more b f h = by more f
    where
      m : ℕ
      m = gap_of x.player most

      y : Tally
      y = forward ram rom m x

      same : left song y.player ≡ left song x.player
      same = forward-left song ram rom m x

      kept : (y.applied ≡ x.applied) × (y.refused ≡ x.refused)
      kept = forward-counts ram rom m x

      by : (t : Bool) → ltb m most ≡ t
          → (2 * (turned t m x).applied + left song (turned t m x).player ≤ 4294967296) × ((turned t m x).refused ≤ (turned t m x).applied)
      by false f = (omega (arith, same, kept.0, h.0), omega (arith, kept.0, kept.1, h.1))
      by true f =
          let less = (applying-fewer y (due-open y.player (gap-due most x b (ltb-true m most f)))).halves x.applied (omega (arith, same, h.0)) in
          let c = applying-counts y in
          (omega (arith, less, c.0, kept.0), omega (arith, c.0, c.1, kept.0, kept.1, h.1))
