-- Each number of the four calls is given exactly in its case, and what a call leaves as it was.
use mathlib.Core.Bool.{Bool, true, false, not, ◌&&◌, ◌||◌, or-true}
use mathlib.Core.List.{List, [], ◌∷◌, ◌++◌}
use mathlib.Core.Logic.{inl, inr}
use mathlib.Core.Path.{◌≡◌, refl, ap, sym, ◌∙◌, subst}
use Prim.Native.Nat.{ℕ, ◌+◌, ◌*◌, ◌/◌, ◌%◌, ◌<◌, ◌≤◌}
use native.Mathlib.Omega.{arith}
use borrow.Author.Tests.{eqb-true, eq-eqb, ne_eqb, ltb-true, ltb-false, leb-true, le-leb}
use lib.Dec.{T, eqb, leb, ltb}
use lib.Ieee.{Float}
use lib.IntN.{ℤ}
use lib.ListN.{length, take, drop, length-append, length-drop, take-append-drop}
use lib.Seq.{take_at, drop_at}
use Rattle.arith.specs.Lists.{any_of}
use Rattle.wave.specs.Fractions.{AnOutput}
use Rattle.wave.specs.Pcm.{is_output, k_of}
use Rattle.wave.specs.Headings.{most_frames, heading_of, heading_number, headed}
use Rattle.wave.specs.Pours.{is_other, is_broken, poured_of, pour_number, poured_into}
use Rattle.wave.specs.Recording.{recording_of, write_number, recorded}
use Rattle.wave.specs.Playback.{same_bytes, frames_in, is_recording, pcms_in, read_number, heard_of, replayed}
use Rattle.wave.specs.Refusals.{HasOther, here, later, Unfit, WriteNumbers, WriterNumbers, HeadNumbers, HeadingNumbers, PourNumbers, PouringNumbers, FileOf, ReadNumbers, ReaderNumbers, OneCount, RefusedWritesNothing, KeptBehind, DoneKeepsTheRest}
use Rattle.wave.proofs.PcmLaws.{both}
use Rattle.wave.proofs.HeadingsLaws.{head-0, head-14, head-15, head-length, headed-0}
use Rattle.wave.proofs.PoursLaws.{even, pour-0, pour-13, pour-15, poured-0, poured-length}
use Rattle.wave.proofs.RecordingLaws.{recorded-0, recording-length, write-0, write-13, write-14, write-15}
use Rattle.wave.proofs.PlaybackLaws.{numbers-length, read-0, read-15, read-28, replayed-0, same-eq, same_refl}
use Rattle.wave.proofs.FractionsLaws.{output-passes, passed-is-output}

-- a flag is not both
never : {A : Type 0} {b : Bool} → b ≡ true → b ≡ false → A
never p q = absurd (subst T (sym p ∙ q) tt)

-- ---- 13

-- what passes the test is an output number, and only that
is-output : (x : Float) → is_output x ≡ true → AnOutput x
is-output x h = (k_of x, passed-is-output x h)

no_output : (x : Float) → is_output x ≡ false → AnOutput x → ⊥
no_output x h o = never (output-passes x o.0 o.1).0 h

has_other : (xs : List Float) → any_of is_other xs ≡ true → HasOther xs
has_other [] h = never h refl
has_other (x ∷ xs) h = by (λ (g : any_of is_other xs ≡ true). has_other xs g) (is_output x) refl h
  where
    by : (any_of is_other xs ≡ true → HasOther xs) → (b : Bool) → is_output x ≡ b → (not b || any_of is_other xs) ≡ true → HasOther (x ∷ xs)
    by rest true e g = later (rest g)
    by rest false e g = here (no_output x e)

pub other-has : (xs : List Float) → HasOther xs → any_of is_other xs ≡ true
other-has [] x' = elim x' [ ]
other-has (x ∷ xs) (here f) = by (is_output x) refl
  where
    by : (b : Bool) → is_output x ≡ b → (not b || any_of is_other xs) ≡ true
    by true e = absurd (f (is-output x e))
    by false e = refl
other-has (x ∷ xs) (later h) = rw (other-has xs h) (or-true (not (is_output x)))

pub broken-unfit : (xs : List Float) → is_broken xs ≡ true → Unfit xs
unfolding is_broken
broken-unfit xs h = by (eqb (length xs % 2) 1) refl h
  where
    by : (b : Bool) → eqb (length xs % 2) 1 ≡ b → (b || any_of is_other xs) ≡ true → Unfit xs
    by true e g = inl (eqb-true (length xs % 2) 1 e)
    by false e g = inr (has_other xs g)

pub unfit-broken : (xs : List Float) → Unfit xs → is_broken xs ≡ true
unfolding is_broken
unfit-broken xs (inl e) = rw (eq-eqb (length xs % 2) 1 e)
unfit-broken xs (inr o) = rw (other-has xs o) (or-true (eqb (length xs % 2) 1))

pub fit_of : (xs : List Float) → is_broken xs ≡ false → Unfit xs → ⊥
fit_of xs h u = never (unfit-broken xs u) h

pub not-broken : (xs : List Float) → (Unfit xs → ⊥) → is_broken xs ≡ false
not-broken xs f = by (is_broken xs) refl
  where
    by : (b : Bool) → is_broken xs ≡ b → b ≡ false
    by true e = absurd (f (broken-unfit xs e))
    by false e = refl

-- ---- the writer
pub writer-numbers : WriterNumbers
writer-numbers xs room = by (is_broken xs) refl (ltb most_frames (length xs / 2)) refl (ltb room (44 + 2 * length xs)) refl
  where
    by : (a : Bool) → is_broken xs ≡ a → (b : Bool) → ltb most_frames (length xs / 2) ≡ b → (c : Bool) → ltb room (44 + 2 * length xs) ≡ c
        → WriteNumbers xs room
    by true p b q c r =
        let v = write-13 xs room p in
        let u = broken-unfit xs p in
        record {
          thirteen = (λ e. u, λ k. v);
          fourteen = (λ e. absurd (omega arith), λ k. absurd (k.0 u));
          fifteen = (λ e. absurd (omega arith), λ k. absurd (k.0 u));
          done = (λ e. absurd (omega arith), λ k. absurd (k.0 u));
          no_other = inr (inl v);
        }
    by false p true q c r =
        let l = ltb-true most_frames (length xs / 2) q in
        let v = write-14 xs room p l in
        let f = fit_of xs p in
        record {
          thirteen = (λ e. absurd (omega arith), λ k. absurd (f k));
          fourteen = (λ e. (f, l), λ k. v);
          fifteen = (λ e. absurd (omega arith), λ k. absurd (omega arith));
          done = (λ e. absurd (omega arith), λ k. absurd (omega arith));
          no_other = inr (inr (inl v));
        }
    by false p false q true r =
        let l = ltb-false most_frames (length xs / 2) q in
        let s = ltb-true room (44 + 2 * length xs) r in
        let v = write-15 xs room p l s in
        let f = fit_of xs p in
        let pairs = even xs p in
        let short : room < 44 + 4 * (length xs / 2) = omega arith in
        record {
          thirteen = (λ e. absurd (omega arith), λ k. absurd (f k));
          fourteen = (λ e. absurd (omega arith), λ k. absurd (omega arith));
          fifteen = (λ e. (f, l, short), λ k. v);
          done = (λ e. absurd (omega arith), λ k. absurd (omega arith));
          no_other = inr (inr (inr v));
        }
    by false p false q false r =
        let l = ltb-false most_frames (length xs / 2) q in
        let s = ltb-false room (44 + 2 * length xs) r in
        let v = write-0 xs room p l s in
        let f = fit_of xs p in
        let pairs = even xs p in
        let long : 44 + 4 * (length xs / 2) ≤ room = omega arith in
        record {
          thirteen = (λ e. absurd (omega arith), λ k. absurd (f k));
          fourteen = (λ e. absurd (omega arith), λ k. absurd (omega arith));
          fifteen = (λ e. absurd (omega arith), λ k. absurd (omega arith));
          done = (λ e. (f, l, long), λ k. v);
          no_other = inl v;
        }

-- ---- the heading
pub heading-numbers : HeadingNumbers
heading-numbers frames room = by (ltb most_frames frames) refl (ltb room 44) refl
  where
    by : (a : Bool) → ltb most_frames frames ≡ a → (b : Bool) → ltb room 44 ≡ b → HeadNumbers frames room
    by true p b q =
        let l = ltb-true most_frames frames p in
        let v = head-14 frames room l in
        record {
          fourteen = (λ e. l, λ k. v);
          fifteen = (λ e. absurd (omega arith), λ k. absurd (omega arith));
          done = (λ e. absurd (omega arith), λ k. absurd (omega arith));
          no_other = inr (inl v);
        }
    by false p true q =
        let l = ltb-false most_frames frames p in
        let s = ltb-true room 44 q in
        let v = head-15 frames room l s in
        record {
          fourteen = (λ e. absurd (omega arith), λ k. absurd (omega arith));
          fifteen = (λ e. (l, s), λ k. v);
          done = (λ e. absurd (omega arith), λ k. absurd (omega arith));
          no_other = inr (inr v);
        }
    by false p false q =
        let l = ltb-false most_frames frames p in
        let s = ltb-false room 44 q in
        let v = head-0 frames room l s in
        record {
          fourteen = (λ e. absurd (omega arith), λ k. absurd (omega arith));
          fifteen = (λ e. absurd (omega arith), λ k. absurd (omega arith));
          done = (λ e. (l, s), λ k. v);
          no_other = inl v;
        }

-- ---- a pour
pub pouring-numbers : PouringNumbers
pouring-numbers xs room = by (is_broken xs) refl (ltb room (2 * length xs)) refl
  where
    by : (a : Bool) → is_broken xs ≡ a → (b : Bool) → ltb room (2 * length xs) ≡ b → PourNumbers xs room
    by true p b q =
        let v = pour-13 xs room p in
        let u = broken-unfit xs p in
        record {
          thirteen = (λ e. u, λ k. v);
          fifteen = (λ e. absurd (omega arith), λ k. absurd (k.0 u));
          done = (λ e. absurd (omega arith), λ k. absurd (k.0 u));
          no_other = inr (inl v);
        }
    by false p true q =
        let s = ltb-true room (2 * length xs) q in
        let v = pour-15 xs room p s in
        let f = fit_of xs p in
        let pairs = even xs p in
        let short : room < 4 * (length xs / 2) = omega arith in
        record {
          thirteen = (λ e. absurd (omega arith), λ k. absurd (f k));
          fifteen = (λ e. (f, short), λ k. v);
          done = (λ e. absurd (omega arith), λ k. absurd (omega arith));
          no_other = inr (inr v);
        }
    by false p false q =
        let s = ltb-false room (2 * length xs) q in
        let v = pour-0 xs room p s in
        let f = fit_of xs p in
        let pairs = even xs p in
        let long : 4 * (length xs / 2) ≤ room = omega arith in
        record {
          thirteen = (λ e. absurd (omega arith), λ k. absurd (f k));
          fifteen = (λ e. absurd (omega arith), λ k. absurd (omega arith));
          done = (λ e. (f, long), λ k. v);
          no_other = inl v;
        }

-- ---- the reader
-- what passes the test is a file of its frames
pub file-of : (file : List ℕ) → is_recording file ≡ true → FileOf file (frames_in file)
unfolding is_recording
file-of file h =
    let n = frames_in file in
    let one = both (eqb (length file) (44 + 4 * n) && leb n most_frames) (same_bytes (take 44 file) (heading_of n)) h in
    let two = both (eqb (length file) (44 + 4 * n)) (leb n most_frames) one.0 in
    let l = eqb-true (length file) (44 + 4 * n) two.0 in
    record {
      few = leb-true n most_frames two.1;
      body = drop 44 file;
      long = simp length-drop (omega arith);
      whole = sym (take-append-drop 44 file) ∙ ap (λ (f : List ℕ). f ++ drop 44 file) (same-eq (take 44 file) (heading_of n) one.1);
    }

-- a file of n frames has so many bytes
file-length : (file : List ℕ) (n : ℕ) → FileOf file n → length file ≡ 44 + 4 * n
file-length file n f = ap length f.whole ∙ length-append (heading_of n) f.body ∙ omega (arith, head-length n, f.long)

pub frames-of : (file : List ℕ) (n : ℕ) → FileOf file n → frames_in file ≡ n
frames-of file n f = let l = file-length file n f in omega arith

pub is-file : (file : List ℕ) (n : ℕ) → FileOf file n → is_recording file ≡ true
unfolding is_recording
is-file file n f =
    let l = file-length file n f in
    let t : take 44 file ≡ heading_of n = ap (take 44) f.whole ∙ take_at (heading_of n) f.body 44 (head-length n) in
    rw (frames-of file n f, eq-eqb (length file) (44 + 4 * n) l, le-leb n most_frames f.few, t) (same_refl (heading_of n))

pub one-count : OneCount
one-count file m n f g = sym (frames-of file m f) ∙ frames-of file n g

-- the frames that a done reader answers
pub counted : (file : List ℕ) (room n : ℕ) → FileOf file n → 2 * n ≤ room → (heard_of file room).frames ≡ n
unfolding heard_of
counted file room n f l =
    let q = frames-of file n f in
    rw (eq-eqb (read_number file room) 0 (read-0 file room (is-file file n f) (omega arith))) q

pub reader-numbers : ReaderNumbers
reader-numbers file room = by (is_recording file) refl (ltb room (2 * frames_in file)) refl
  where
    by : (a : Bool) → is_recording file ≡ a → (b : Bool) → ltb room (2 * frames_in file) ≡ b → ReadNumbers file room
    by true p true q =
        let s = ltb-true room (2 * frames_in file) q in
        let v = read-15 file room p s in
        let f = file-of file p in
        record {
          twenty-eight = (λ e. absurd (omega arith), λ k. absurd (k (frames_in file) f));
          fifteen = (λ e. (frames_in file, (f, s)), λ k. v);
          done = (λ e. absurd (omega arith), λ k. absurd (let w = frames-of file k.0 k.1.0 in omega arith));
          frames = counted file room;
          no_other = inr (inl v);
        }
    by true p false q =
        let s = ltb-false room (2 * frames_in file) q in
        let v = read-0 file room p s in
        let f = file-of file p in
        record {
          twenty-eight = (λ e. absurd (omega arith), λ k. absurd (k (frames_in file) f));
          fifteen = (λ e. absurd (omega arith), λ k. absurd (let w = frames-of file k.0 k.1.0 in omega arith));
          done = (λ e. (frames_in file, (f, s)), λ k. v);
          frames = counted file room;
          no_other = inl v;
        }
    by false p b q =
        let v = read-28 file room p in
        record {
          twenty-eight = (λ e n f. never (is-file file n f) p, λ k. v);
          fifteen = (λ e. absurd (omega arith), λ k. never (is-file file k.0 k.1.0) p);
          done = (λ e. absurd (omega arith), λ k. never (is-file file k.0 k.1.0) p);
          frames = counted file room;
          no_other = inr (inr v);
        }

-- ---- what is left as it was
pub refused-writes-nothing : RefusedWritesNothing
unfolding headed poured_into recorded replayed heard_of
refused-writes-nothing = (
  λ frames out h. rw (ne_eqb (heading_number frames (length out)) 0 h),
  λ xs out h. rw (ne_eqb (pour_number xs (length out)) 0 h),
  λ xs out h. rw (ne_eqb (write_number xs (length out)) 0 h),
  λ file out h. (rw (ne_eqb (read_number file (length out)) 0 h), rw (ne_eqb (read_number file (length out)) 0 h)),
)

-- what a done writer and a done pour had
pub write-room : (xs : List Float) (room : ℕ) → write_number xs room ≡ 0 → (is_broken xs ≡ false) × (length xs / 2 ≤ most_frames) × (44 + 2 * length xs ≤ room)
write-room xs room h =
    let d = (writer-numbers xs room).done.0 h in
    let p = not-broken xs d.0 in
    let pairs = even xs p in
    let long : 44 + 2 * length xs ≤ room = omega arith in
    (p, d.1, long)

pub pour-room : (xs : List Float) (room : ℕ) → pour_number xs room ≡ 0 → (is_broken xs ≡ false) × (2 * length xs ≤ room)
pour-room xs room h =
    let d = (pouring-numbers xs room).done.0 h in
    let p = not-broken xs d.0 in
    let pairs = even xs p in
    let long : 2 * length xs ≤ room = omega arith in
    (p, long)

-- a front of `count` in place of as many
kept : {A : Type 0} (count : ℕ) (front before now : List A) → length front ≡ count → count ≤ length before → now ≡ front ++ drop count before
    → KeptBehind count before now
kept count front before now l room e = (
  ap length e ∙ simp (length-append, length-drop) (omega arith),
  ap (drop count) e ∙ drop_at front (drop count before) count l,
)

pub done-keeps-the-rest : DoneKeepsTheRest
done-keeps-the-rest = (
  λ frames out h. kept 44 (heading_of frames) out (headed frames out) (head-length frames) ((heading-numbers frames (length out)).done.0 h).1 (headed-0 frames out h),
  poured,
  written,
  played,
)
  where
    poured : (xs : List Float) (out : List ℕ) → pour_number xs (length out) ≡ 0 → KeptBehind (2 * length xs) out (poured_into xs out)
    poured xs out h = kept (2 * length xs) (poured_of xs) out (poured_into xs out) (poured-length xs) (pour-room xs (length out) h).1 (poured-0 xs out h)

    written : (xs : List Float) (out : List ℕ) → write_number xs (length out) ≡ 0 → KeptBehind (44 + 2 * length xs) out (recorded xs out)
    written xs out h = kept (44 + 2 * length xs) (recording_of xs) out (recorded xs out) (recording-length xs) (write-room xs (length out) h).2 (recorded-0 xs out h)

    played : (file : List ℕ) (out : List ℤ) (n : ℕ) → read_number file (length out) ≡ 0 → FileOf file n → KeptBehind (2 * n) out (replayed file out)
    played file out n h f =
        let d = (reader-numbers file (length out)).done.0 h in
        let same = one-count file d.0 n d.1.0 f in
        let l = file-length file n f in
        kept (2 * n) (pcms_in (drop 44 file)) out (replayed file out)
        (numbers-length file ∙ omega arith)
        (omega arith)
        (replayed-0 file out h ∙ ap (λ (m : ℕ). pcms_in (drop 44 file) ++ drop (2 * m) out) (frames-of file n f))
