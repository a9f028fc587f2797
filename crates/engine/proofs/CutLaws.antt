-- Laws of cuts: the slots after m + n frames are those after m and then n, and so are the numbers of each frame; the clock matters to neither.
use Rattle.std.proofs.Common.{◌≡◌, ℕ, zero, suc, ◌+◌, List, [], ◌∷◌, ◌++◌, map, ℤ, ◌+ℤ◌, sym, refl, ap, ◌∙◌, append_assoc, append-nil, add-zero, add-suc}
use lib.Ieee.{Float}
use Rattle.arith.specs.Lists.{sum_of}
use Rattle.voice.specs.declared.Voice.{Voice}
use Rattle.voice.specs.declared.Channel.{Channel}
use Rattle.voice.specs.declared.Slot.{Slot}
use Rattle.voice.specs.Sound.{loss}
use Rattle.voice.specs.Motion.{step}
use Rattle.voice.specs.Frames.{frame, after}
use Rattle.voice.proofs.RunLaws.{frame-keeps, after-cut}
use Rattle.state.specs.declared.Engine.{Engine}
use Rattle.state.specs.Slots.{slots_of, with_slots, with_clock}
use Rattle.state.specs.Channels.{channel_at}
use Rattle.state.proofs.SlotsLaws.{slots-back}
use Rattle.engine.specs.Mixer.{mixed}
use Rattle.engine.specs.Rendering.{window, slot_after, slot_left, slot_right, left_sum, right_sum, output, played}

-- channel and window stay as they are from frame to frame
frame-channel : (c : Channel) (w : List ℤ) (s : Slot) → (frame c w s).slot.voice.channel ≡ s.voice.channel
unfolding frame
frame-channel c w s = frame-keeps (λ (v : Voice). v.channel ≡ s.voice.channel) (step c s.voice) (loss c s.voice) w s refl (λ g p. refl)

frame-window : (ram rom : List ℤ) (c : Channel) (w : List ℤ) (s : Slot) → window ram rom (frame c w s).slot.voice ≡ window ram rom s.voice
unfolding frame window
frame-window ram rom c w s =
    frame-keeps (λ (v : Voice). window ram rom v ≡ window ram rom s.voice) (step c s.voice) (loss c s.voice) w s refl (λ g p. refl)

pub after-channel : (c : Channel) (w : List ℤ) (n : ℕ) (s : Slot) → (after c w n s).voice.channel ≡ s.voice.channel
unfolding after
after-channel c w zero s = refl
after-channel c w (suc n) s = frame-channel c w (after c w n s) ∙ after-channel c w n s

pub after-window : (ram rom : List ℤ) (c : Channel) (w : List ℤ) (n : ℕ) (s : Slot) → window ram rom (after c w n s).voice ≡ window ram rom s.voice
unfolding after
after-window ram rom c w zero s = refl
after-window ram rom c w (suc n) s = frame-window ram rom c w (after c w n s) ∙ after-window ram rom c w n s

-- f over a list, and g over that
pub map-two : (f g h : Slot → Slot) → ((s : Slot) → h s ≡ g (f s)) → (ss : List Slot) → map h ss ≡ map g (map f ss)
map-two f g h k [] = refl
map-two f g h k (s ∷ ss) = rw (k s) (ap (◌∷◌ (g (f s))) (map-two f g h k ss))

sum-two : (f : Slot → Slot) (g h : Slot → ℤ) → ((s : Slot) → h s ≡ g (f s)) → (ss : List Slot) → sum_of h ss ≡ sum_of g (map f ss)
sum-two f g h k [] = refl
sum-two f g h k (s ∷ ss) = rw (k s) (ap (◌+ℤ◌ (g (f s))) (sum-two f g h k ss))

module _ (ram rom : List ℤ) (e : Engine) (m : ℕ) where
  -- the state after the first m frames
  abbrev mid : Engine
  mid = played ram rom m e

  first : Slot → Slot
  first s = slot_after ram rom e m s

  mid-slots : slots_of mid ≡ map first (slots_of e)
  unfolding played first
  mid-slots = slots-back (map (slot_after ram rom e m) (slots_of e))

  -- one slot: n frames more, from the middle
  slot-cut : (n : ℕ) (s : Slot) → slot_after ram rom e (m + n) s ≡ slot_after ram rom mid n (first s)
  unfolding played first
  slot-cut n s =
      let c = channel_at e s.voice.channel in
      let w = window ram rom s.voice in
      after-cut c w m n s ∙ rw (after-channel c w m s, after-window ram rom c w m s)

  left_cut : (k : ℕ) (s : Slot) → slot_left ram rom e (m + k) s ≡ slot_left ram rom mid k (first s)
  unfolding played first
  left_cut k s =
      let c = channel_at e s.voice.channel in
      let w = window ram rom s.voice in
      ap (λ (x : Slot). (frame c w x).left) (after-cut c w m k s) ∙ rw (after-channel c w m s, after-window ram rom c w m s)

  right-cut : (k : ℕ) (s : Slot) → slot_right ram rom e (m + k) s ≡ slot_right ram rom mid k (first s)
  unfolding played first
  right-cut k s =
      let c = channel_at e s.voice.channel in
      let w = window ram rom s.voice in
      ap (λ (x : Slot). (frame c w x).right) (after-cut c w m k s) ∙ rw (after-channel c w m s, after-window ram rom c w m s)

  -- the state
  pub played-cut : (n : ℕ) → played ram rom (m + n) e ≡ played ram rom n mid
  unfolding played
  played-cut n =
      ap (with_slots e) (map-two first (slot_after ram rom mid n) (slot_after ram rom e (m + n)) (slot-cut n) (slots_of e) ∙ ap (map (slot_after ram rom mid n)) (sym mid-slots))

  lefts : (k : ℕ) → left_sum ram rom e (m + k) ≡ left_sum ram rom mid k
  lefts k = sum-two first (slot_left ram rom mid k) (slot_left ram rom e (m + k)) (left_cut k) (slots_of e) ∙ ap (sum_of (slot_left ram rom mid k)) (sym mid-slots)

  rights : (k : ℕ) → right_sum ram rom e (m + k) ≡ right_sum ram rom mid k
  rights k = sum-two first (slot_right ram rom mid k) (slot_right ram rom e (m + k)) (right-cut k) (slots_of e) ∙ ap (sum_of (slot_right ram rom mid k)) (sym mid-slots)

  -- the output
  pub output-cut : (n : ℕ) → output ram rom e (m + n) ≡ output ram rom e m ++ output ram rom mid n
  unfolding output
  output-cut zero = rw (add-zero, append-nil)
  output-cut (suc n) = rw (add-suc, output-cut n, lefts n, rights n, append_assoc)

-- the clock's value matters to nothing but the distance
pub output-clock : (ram rom : List ℤ) (e : Engine) (t n : ℕ) → output ram rom (with_clock e t) n ≡ output ram rom e n
unfolding output
output-clock ram rom e t zero = refl
output-clock ram rom e t (suc n) = ap (λ (o : List Float). o ++ (mixed (left_sum ram rom e n) ∷ mixed (right_sum ram rom e n) ∷ [])) (output-clock ram rom e t n)

pub played-clock : (ram rom : List ℤ) (e : Engine) (t u n : ℕ) → with_clock (played ram rom n (with_clock e t)) u ≡ with_clock (played ram rom n e) u
unfolding played
played-clock ram rom e t u n = refl
