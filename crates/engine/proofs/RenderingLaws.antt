-- Laws of render: a free slot is skipped, what all slots add to the sums, and the output made of the sums.
use Rattle.std.proofs.Common.{◌≡◌, ℕ, zero, suc, ◌+◌, ◌*◌, ◌%◌, ◌<◌, ◌≤◌, Bool, true, false, cond, ◌||◌, ltb, leb, ◌⊎◌, List, [], ◌∷◌, ◌++◌, length, get_or, take, replicate, ℤ, pos, ◌+ℤ◌, sym, refl, ap, ◌∙◌, subst, ap₂, inl, inr, ⊎_elim, not-suc-le-zero, zero-add, suc-ne-zero, add-one, arith, length-append, take-suc, ltb-false, ltb-true}
use lib.IntN.{+ℤ_assoc, +ℤ_idr, +ℤ_idl}
use lib.ListN.{get_or-append}
use lib.Seq.{get_or_at}
use lib.Ieee.{Float}
use Rattle.records.specs.Memory.{part_of}
use Rattle.voice.specs.declared.Voice.{Voice}
use Rattle.engine.specs.Rendering.{window, distance, lacking, render_number, slot_after, slot_left, slot_right, left_sum, right_sum, output}
use Rattle.state.specs.declared.Engine.{Engine}
use Rattle.state.specs.Slots.{slots_of}
use Rattle.voice.specs.declared.Slot.{Slot}
use Rattle.voice.specs.declared.Channel.{Channel}
use Rattle.voice.specs.Motion.{step}
use Rattle.voice.specs.Sound.{loss}
use Rattle.voice.specs.Frames.{after, left_in, right_in}
use Rattle.voice.specs.Internal.Frames.{heard, after_at, heard_at}
use Rattle.voice.proofs.RunLaws.{once, heard-once, heard-length}
use Rattle.voice.proofs.Silence.{adds-nothing, stays-small}
use Rattle.voice.proofs.Advance.{free_stays}
use Rattle.voice.specs.Internal.Sums.{add_to, Small}
use Rattle.voice.proofs.SumsLaws.{add_to-none, small-none, add_to-length}
use Rattle.voice.specs.Changes.{blank, free}
use Rattle.state.specs.Channels.{channel_at}
use Rattle.engine.specs.Internal.Sums.{add_all, mixed_to, slot_heard}
use Rattle.arith.specs.Lists.{sum_of, any_of}
use Rattle.engine.specs.Mixer.{mixed}

-- the window is the part that the voice names of its memory
pub window-part : (ram rom : List ℤ) (v : Voice) → window ram rom v ≡ part_of (cond v.rom rom ram) v.start v.end
unfolding window
window-part ram rom v = refl

-- a render that is not refused is short enough, and has room
pub zero-low : (to : ℕ) (ram rom : List ℤ) (room : ℕ) (e : Engine) → render_number to ram rom room e ≡ 0
    → (distance e to ≤ 4096) × (2 * distance e to ≤ room)
unfolding render_number
zero-low to ram rom room e h = by (leb 2147483648 (distance e to)) (ltb 4096 (distance e to)) refl (ltb room (2 * distance e to)) refl h
  where
    by : (a b : Bool) → ltb 4096 (distance e to) ≡ b → (c : Bool) → ltb room (2 * distance e to) ≡ c
        → ◌≡◌ {A = ℕ} (cond a 5 (cond b 6 (cond c 7 (cond (lacking ram rom (slots_of e)) 8 0)))) 0
        → (distance e to ≤ 4096) × (2 * distance e to ≤ room)
    by true b p c q h = absurd (suc-ne-zero 4 h)
    by false true p c q h = absurd (suc-ne-zero 5 h)
    by false false p true q h = absurd (suc-ne-zero 6 h)
    by false false p false q h = (ltb-false 4096 (distance e to) p, ltb-false room (2 * distance e to) q)

-- a slot that lacks its window is one that does
pub lacks_at : (p : Slot → Bool) (ss : List Slot) (i : ℕ) (d : Slot) → i < length ss → p (get_or ss i d) ≡ true → any_of p ss ≡ true
lacks_at p [] i d h e = absurd (omega arith)
lacks_at p (s ∷ ss) zero d h e = simp e
lacks_at p (s ∷ ss) (suc i) d h e = by (p s) (lacks_at p ss i d (omega arith) e)
  where
    by : (b : Bool) → any_of p ss ≡ true → (b || any_of p ss) ≡ true
    by true q = refl
    by false q = q

-- the clock moved by the distance is the asked value
pub clock-there : (e : Engine) (to n t : ℕ) → e.clock < 4294967296 → to < 4294967296 → n ≡ distance e to → t ≡ (e.clock + n) % 4294967296 → t ≡ to
unfolding distance
clock-there e to n t h g p q = omega arith

-- a free slot stays, and adds nothing
module _ (c : Channel) (w : List ℤ) (n : ℕ) (s : Slot) (h : s.sounding ≡ false) where
  -- its step
  abbrev st : ℕ
  st = step c s.voice

  -- its loss
  abbrev l : ℤ
  l = loss c s.voice

  quiet : (after_at st l w 0 s).sounding ≡ false
  unfolding after_at
  quiet = h

  -- it stays
  pub free-after : after c w n s ≡ s
  free-after = once c w s n ∙ free_stays st l w n s h

  from-none : heard c w n s ≡ heard_at st l w (0 + n) s
  from-none = heard-once c w s n ∙ ap (λ (m : ℕ). heard_at st l w m s) (sym (zero-add n))

  -- it adds nothing
  pub free-adds : (ys : List ℤ) → add_to (heard c w n s) ys ≡ ys
  unfolding heard_at
  free-adds ys = ap (λ (xs : List ℤ). add_to xs ys) from-none ∙ adds-nothing st l w 0 s quiet ys n ∙ add_to-none ys

  -- its numbers are small, as those of a voice are
  pub free-small : Small 1 (heard c w n s)
  unfolding heard_at
  free-small = subst (Small 1) (sym from-none) (stays-small st l w 0 s quiet n small-none)

-- .. also where a read past the last slot finds it
pub slot-stays : (ram rom : List ℤ) (e : Engine) (n : ℕ) → slot_after ram rom e n (free blank) ≡ free blank
slot-stays ram rom e n = free-after (channel_at e 0) (window ram rom blank) n (free blank) refl

-- before the first turn, and a turn
pub add_none : (f : Slot → List ℤ) (ss : List Slot) (ys : List ℤ) → add_all f (take 0 ss) ys ≡ ys
unfolding add_all
add_none f ss ys = refl

add-snoc : (f : Slot → List ℤ) (ss : List Slot) (s : Slot) (ys : List ℤ) → add_all f (ss ++ (s ∷ [])) ys ≡ add_to (f s) (add_all f ss ys)
unfolding add_all
add-snoc f [] s ys = refl
add-snoc f (x ∷ ss) s ys = add-snoc f ss s (add_to (f x) ys)

-- slot i is added
pub add_turn : (f : Slot → List ℤ) (ss : List Slot) (i : ℕ) (ys : List ℤ) → i < length ss
    → add_all f (take (i + 1) ss) ys ≡ add_to (f (get_or ss i (free blank))) (add_all f (take i ss) ys)
add_turn f ss i ys h = rw (add-one, take-suc ss i (free blank) h) (add-snoc f (take i ss) (get_or ss i (free blank)) ys)

add_to-get : (xs ys : List ℤ) (k : ℕ) → k < length xs → k < length ys → get_or (add_to xs ys) k (pos 0) ≡ get_or ys k (pos 0) +ℤ get_or xs k (pos 0)
unfolding add_to
add_to-get [] ys k h g = absurd (not-suc-le-zero h)
add_to-get (x ∷ xs) [] k h g = absurd (not-suc-le-zero g)
add_to-get (x ∷ xs) (y ∷ ys) zero h g = refl
add_to-get (x ∷ xs) (y ∷ ys) (suc k) h g = add_to-get xs ys k (native.Mathlib.Nat.le_of_suc-le-suc h) (native.Mathlib.Nat.le_of_suc-le-suc g)

-- one element of the sums
add_at : (f : Slot → List ℤ) (v : Slot → ℤ) (j : ℕ) → ((s : Slot) → j < length (f s)) → ((s : Slot) → get_or (f s) j (pos 0) ≡ v s)
    → (ss : List Slot) (ys : List ℤ) → j < length ys → get_or (add_all f ss ys) j (pos 0) ≡ get_or ys j (pos 0) +ℤ sum_of v ss
unfolding add_all
add_at f v j long same [] ys h = sym (+ℤ_idr (get_or ys j (pos 0)))
add_at f v j long same (s ∷ ss) ys h =
    let one = add_to-get (f s) ys j (long s) h ∙ ap (◌+ℤ◌ (get_or ys j (pos 0))) (same s) in
    add_at f v j long same ss (add_to (f s) ys) (omega (arith, add_to-length (f s) ys))
    ∙ ap (λ (z : ℤ). z +ℤ sum_of v ss) one
    ∙ +ℤ_assoc (get_or ys j (pos 0)) (v s) (sum_of v ss)

-- the numbers of a slot, frame by frame
module _ (c : Channel) (w : List ℤ) (s : Slot) where
  -- two numbers a frame
  pub long-heard : (n : ℕ) → length (heard c w n s) ≡ 2 * n
  long-heard n = ap length (heard-once c w s n) ∙ heard-length (step c s.voice) (loss c s.voice) w n s

  split : (k n : ℕ) → k < suc n → (k < n) ⊎ (k ≡ n)
  split k n h = by (ltb k n) refl
    where
      by : (t : Bool) → ltb k n ≡ t → (k < n) ⊎ (k ≡ n)
      by true e = inl (ltb-true k n e)
      by false e = inr (omega (arith, ltb-false k n e))

  -- number 2k is left of frame k
  pub heard-left : (n k : ℕ) → k < n → get_or (heard c w n s) (2 * k) (pos 0) ≡ left_in c w k s
  unfolding heard
  heard-left zero k h = absurd (not-suc-le-zero h)
  heard-left (suc n) k h =
      ⊎_elim
      (λ (q : k < n). get_or-append (heard c w n s) _ (pos 0) (2 * k) (omega (arith, long-heard n)) ∙ heard-left n k q)
      (λ (q : k ≡ n). rw q (get_or_at (heard c w n s) _ _ (pos 0) (2 * n) (long-heard n)))
      (split k n h)

  -- number 2k + 1 is right of frame k
  pub heard-right : (n k : ℕ) → k < n → get_or (heard c w n s) (2 * k + 1) (pos 0) ≡ right_in c w k s
  unfolding heard
  heard-right zero k h = absurd (not-suc-le-zero h)
  heard-right (suc n) k h =
      ⊎_elim
      (λ (q : k < n). get_or-append (heard c w n s) _ (pos 0) (2 * k + 1) (omega (arith, long-heard n)) ∙ heard-right n k q)
      (λ (q : k ≡ n). rw q (behind (heard c w n s) (left_in c w n s) (right_in c w n s) (2 * n) (long-heard n)))
      (split k n h)
    where
      behind : (xs : List ℤ) (a b : ℤ) (m : ℕ) → length xs ≡ m → get_or (xs ++ (a ∷ b ∷ [])) (m + 1) (pos 0) ≡ b
      behind [] a b zero e = refl
      behind [] a b (suc m) e = absurd (native.Mathlib.Nat.suc-ne-zero m (sym e))
      behind (x ∷ xs) a b zero e = absurd (native.Mathlib.Nat.suc-ne-zero (length xs) e)
      behind (x ∷ xs) a b (suc m) e = rw (native.Mathlib.Nat.suc-add m 1) (behind xs a b m (native.Mathlib.Nat.suc_inj e))

-- before the first turn, and a turn
pub mixed-none : (xs : List ℤ) → mixed_to 0 xs ≡ []
unfolding mixed_to
mixed-none xs = refl

-- frame n is written
pub mixed-turn : (n : ℕ) (xs : List ℤ)
    → mixed_to (n + 1) xs ≡ mixed_to n xs ++ (mixed (get_or xs (2 * n) (pos 0)) ∷ mixed (get_or xs (2 * n + 1) (pos 0)) ∷ [])
unfolding mixed_to
mixed-turn n xs = rw (add-one n)

-- two numbers a frame
pub mixed-length : (n : ℕ) (xs : List ℤ) → length (mixed_to n xs) ≡ 2 * n
unfolding mixed_to
mixed-length zero xs = refl
mixed-length (suc n) xs = simp length-append (omega (arith, mixed-length n xs))

-- what all slots add up to in frame k, from zeros
module _ (ram rom : List ℤ) (e : Engine) (m : ℕ) (ys : List ℤ) (g : 2 * m ≤ length ys) (z : (j : ℕ) → get_or ys j (pos 0) ≡ pos 0) where
  -- the sums when all slots are added
  abbrev pub all_added : List ℤ
  all_added = add_all (slot_heard ram rom e m) (slots_of e) ys

  -- number 2k is the sum left
  pub left-added : (k : ℕ) → k < m → get_or all_added (2 * k) (pos 0) ≡ left_sum ram rom e k
  left-added k h =
      add_at (slot_heard ram rom e m) (slot_left ram rom e k) (2 * k)
      (λ s. omega (arith, long-heard (channel_at e s.voice.channel) (window ram rom s.voice) s m))
      (λ s. heard-left (channel_at e s.voice.channel) (window ram rom s.voice) s m k h) (slots_of e) ys (omega arith)
      ∙ ap (λ (q : ℤ). q +ℤ left_sum ram rom e k) (z (2 * k)) ∙ +ℤ_idl (left_sum ram rom e k)

  -- number 2k + 1 is the sum right
  pub right-added : (k : ℕ) → k < m → get_or all_added (2 * k + 1) (pos 0) ≡ right_sum ram rom e k
  right-added k h =
      add_at (slot_heard ram rom e m) (slot_right ram rom e k) (2 * k + 1)
      (λ s. omega (arith, long-heard (channel_at e s.voice.channel) (window ram rom s.voice) s m))
      (λ s. heard-right (channel_at e s.voice.channel) (window ram rom s.voice) s m k h) (slots_of e) ys (omega arith)
      ∙ ap (λ (q : ℤ). q +ℤ right_sum ram rom e k) (z (2 * k + 1)) ∙ +ℤ_idl (right_sum ram rom e k)

  -- the sums of all slots give the output
  pub output-mixed : (n : ℕ) → n ≤ m → mixed_to n all_added ≡ output ram rom e n
  unfolding mixed_to output
  output-mixed zero h = refl
  output-mixed (suc n) h =
      ap₂ (λ (p q : List Float). p ++ q) (output-mixed n (omega arith))
      (ap₂ (λ (a b : ℤ). mixed a ∷ mixed b ∷ []) (left-added n (omega arith)) (right-added n (omega arith)))

-- the sums that a render begins with
pub zeros-at : (n k : ℕ) → get_or (replicate n (pos 0)) k (pos 0) ≡ pos 0
zeros-at zero k = refl
zeros-at (suc n) zero = refl
zeros-at (suc n) (suc k) = zeros-at n k
