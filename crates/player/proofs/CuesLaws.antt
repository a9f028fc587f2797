-- Laws of the event that comes next: when it is due, how far it is, and that fewer are left behind each.
use Rattle.smf.specs.declared.Event.{Event}
use Rattle.std.proofs.Common.{◌≡◌, ℕ, suc, ◌+◌, ◌-◌, ◌*◌, ◌<◌, ◌≤◌, Bool, true, false, cond, not, ◌&&◌, ltb, leb, ◌⊎◌, List, length, refl, ap, ◌∙◌, inl, inr, ⊎_elim, arith, ltb-false, ltb-true, le-ltb, lt-ltb, le-leb, leb-false, leb-true, Option, Some, None}
use native.Mathlib.Nat.{min-le_left}
use Rattle.smf.specs.declared.Cursor.{Cursor}
use Rattle.smf.specs.Track.{edge_of}
use Rattle.smf.proofs.TrackLaws.{LedTo, edge_in, further-edge}
use Rattle.player.specs.declared.Player.{Player}
use Rattle.player.specs.Cues.{song_over, coming_event, coming, since, is_due, wait_of, gap_of}

-- ---- how many are left

-- events and bytes that are left: the event that comes, and each byte behind it
unfoldable pub left : List ℕ → Player → ℕ
left song p = cond (song_over p) 0 (suc (edge_of song p.cursor - p.cursor.at))

-- a song that has ended has none left
pub left-none : (song : List ℕ) (p : Player) → song_over p ≡ true → left song p ≡ 0
unfolding left
left-none song p e = rw e refl

-- another has the event that comes, and the bytes behind it
pub left-some : (song : List ℕ) (p : Player) → song_over p ≡ false → left song p ≡ suc (edge_of song p.cursor - p.cursor.at)
unfolding left
left-some song p e = rw e refl

-- no more than the bytes of the song and one
pub left-most : (song : List ℕ) (p : Player) → left song p ≤ suc (length song)
left-most song p = by (song_over p) refl
  where
    by : (t : Bool) → song_over p ≡ t → left song p ≤ suc (length song)
    by true e = omega (arith, left-none song p e)
    by false e = omega (arith, left-some song p e, edge_in song p.cursor)

-- no more than 32 bits count
pub left-low : (song : List ℕ) (p : Player) → p.cursor.end < 4294967296 → left song p ≤ 4294967296
left-low song p h = by (song_over p) refl
  where
    by : (t : Bool) → song_over p ≡ t → left song p ≤ 4294967296
    by true e = omega (arith, left-none song p e)
    by false e = omega (arith, left-some song p e, min-le_left p.cursor.end (length song))

-- fewer are left: each event takes two bytes or more
pub record Fewer (before after : ℕ) : Type 0 where
  pub less : after < before
  pub halves : (k : ℕ) → 2 * k + before ≤ 4294967296 → 2 * (k + 1) + after ≤ 4294967296

-- .. behind the event that comes
pub fewer : (song : List ℕ) (p : Player) (c : Cursor) (o : Option Event) → LedTo song p.cursor c o → song_over p ≡ false → Fewer (left song p) (left song (coming p c o))
fewer song p c None l e =
    let n = left-none song (coming p c None) refl in
    let s = left-some song p e in
    record { less = omega arith; halves = λ k h. omega arith }
fewer song p c (Some v) l e =
    let n = left-some song (coming p c (Some v)) refl in
    let s = left-some song p e in
    let same : edge_of song c ≡ edge_of song p.cursor = further-edge song p.cursor c l in
    record { less = omega (arith, l.after, l.before); halves = λ k h. omega (arith, l.after, l.before) }

-- ---- when it is due

-- only an event that comes is due
pub due-open : (p : Player) → is_due p ≡ true → song_over p ≡ false
due-open p h = by (song_over p) refl h
  where
    by : (t : Bool) → song_over p ≡ t → (not t && leb (coming_event p).frame (since p)) ≡ true → song_over p ≡ false
    by true e q = let z : ◌≡◌ {A = ℕ} 0 1 = cc in absurd (omega arith)
    by false e q = e

-- one whose frame is reached is
pub reached-due : (p : Player) → song_over p ≡ false → (coming_event p).frame ≤ since p → is_due p ≡ true
unfolding since
reached-due p e h = rw (e, le-leb (coming_event p).frame (since p) h) refl

-- none is due within the next m frames
abbrev pub Quiet : ℕ → Player → Type 0
Quiet m p = (song_over p ≡ true) ⊎ (since p + m ≤ (coming_event p).frame)

-- so none is due now
pub quiet-still : (m : ℕ) (p : Player) → Quiet (suc m) p → is_due p ≡ false
unfolding since
quiet-still m p q = ⊎_elim (λ (e : song_over p ≡ true). rw e refl) (λ (h : since p + suc m ≤ (coming_event p).frame). late h (leb (coming_event p).frame (since p)) refl) q
  where
    late : since p + suc m ≤ (coming_event p).frame → (t : Bool) → leb (coming_event p).frame (since p) ≡ t → is_due p ≡ false
    late h true e = absurd (omega (arith, leb-true (coming_event p).frame (since p) e))
    late h false e = by (song_over p) refl
      where
        by : (t : Bool) → song_over p ≡ t → is_due p ≡ false
        by true q = rw q refl
        by false q = rw (q, e) refl

-- ---- how far it is

-- where the song has ended it is all that was asked for
pub gap-ended : (p : Player) (most : ℕ) → song_over p ≡ true → gap_of p most ≡ most
unfolding gap_of
gap-ended p most e = ap (λ (t : Bool). cond t most (cond (ltb (wait_of p) most) (wait_of p) most)) e

-- the way to the next event, where that is less
pub gap-near : (p : Player) (most : ℕ) → song_over p ≡ false → wait_of p < most → gap_of p most ≡ wait_of p
unfolding gap_of
gap-near p most e h =
    ap (λ (t : Bool). cond t most (cond (ltb (wait_of p) most) (wait_of p) most)) e ∙ ap (λ (t : Bool). cond t (wait_of p) most) (lt-ltb (wait_of p) most h)

-- and else all
pub gap-far : (p : Player) (most : ℕ) → song_over p ≡ false → most ≤ wait_of p → gap_of p most ≡ most
unfolding gap_of
gap-far p most e h =
    ap (λ (t : Bool). cond t most (cond (ltb (wait_of p) most) (wait_of p) most)) e ∙ ap (λ (t : Bool). cond t (wait_of p) most) (le-ltb (wait_of p) most h)

-- the gap is at most what was asked for
pub gap-most : (p : Player) (most : ℕ) → gap_of p most ≤ most
unfolding gap_of
gap-most p most = by (song_over p) (ltb (wait_of p) most) refl
  where
    by : (t u : Bool) → ltb (wait_of p) most ≡ u → cond t most (cond u (wait_of p) most) ≤ most
    by true u e = omega arith
    by false true e = omega (arith, ltb-true (wait_of p) most e)
    by false false e = omega arith

-- no event is due within it
pub gap-quiet : (p : Player) (most : ℕ) → Quiet (gap_of p most) p ⊎ (gap_of p most ≡ 0)
unfolding gap_of
gap-quiet p most = by (song_over p) refl (ltb (wait_of p) most) refl
  where
    by : (t : Bool) → song_over p ≡ t → (u : Bool) → ltb (wait_of p) most ≡ u
        → Quiet (cond t most (cond u (wait_of p) most)) p ⊎ (cond t most (cond u (wait_of p) most) ≡ 0)
    by true e u f = inl (inl e)
    by false e true f = either (leb (coming_event p).frame (since p)) refl
      where
        either : (s : Bool) → leb (coming_event p).frame (since p) ≡ s → Quiet (wait_of p) p ⊎ (wait_of p ≡ 0)
        either true g = inr (omega (arith, leb-true (coming_event p).frame (since p) g))
        either false g = inl (inr (omega (arith, leb-false (coming_event p).frame (since p) g)))
    by false e false f = either (leb (coming_event p).frame (since p)) refl
      where
        either : (s : Bool) → leb (coming_event p).frame (since p) ≡ s → Quiet most p ⊎ (most ≡ 0)
        either true g = inr (omega (arith, leb-true (coming_event p).frame (since p) g, ltb-false (wait_of p) most f))
        either false g = inl (inr (omega (arith, leb-false (coming_event p).frame (since p) g, ltb-false (wait_of p) most f)))

-- where it is less, an event comes and it is the way to it
pub gap-less : (p : Player) (most : ℕ) → gap_of p most < most → (song_over p ≡ false) × (gap_of p most ≡ wait_of p)
unfolding gap_of
gap-less p most h = by (song_over p) refl (ltb (wait_of p) most) refl h
  where
    by : (t : Bool) → song_over p ≡ t → (u : Bool) → ltb (wait_of p) most ≡ u → cond t most (cond u (wait_of p) most) < most
        → (song_over p ≡ false) × (cond t most (cond u (wait_of p) most) ≡ wait_of p)
    by true e u f h = absurd (omega arith)
    by false e true f h = (e, refl)
    by false e false f h = absurd (omega arith)
