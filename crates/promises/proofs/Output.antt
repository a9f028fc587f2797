-- Demand 2: the word, other channels and the output.
use Prim.Native.Nat.{ℕ, ◌^◌, ◌<◌, zero, suc, ◌+◌, ◌*◌, ◌≤◌, ◌-◌}
use mathlib.Core.Path.{sym, subst, ◌≡◌, ap, ◌∙◌, refl}
use mathlib.Core.List.{List, [], ◌∷◌, ◌++◌, append_assoc}
use lib.Dec.{eqb, ltb}
use lib.Seq.{get_or-set_other, get_or_at, get_or-append-add, drop_at}
use mathlib.Core.Bool.{cond, Bool, true, false}
use lib.ListN.{length, get_or, length-append, drop, length-drop}
use native.Mathlib.Omega.{arith}
use lib.IntN.{ℤ, pos, negsuc}
use borrow.Author.Tests.{eqb-true, eqb-false, ltb-true, ltb-false}
use lib.Ieee.{Float}
use Rattle.state.specs.Quiet.{fresh}
use Rattle.state.specs.Board.{voice_count}
use Rattle.state.proofs.SeatsLaws.{ones-voices as word-voices}
use Rattle.promises.specs.Calls.{run, next, channel_of, does, written}
use Rattle.promises.proofs.Seats.{sized-run}
use Rattle.promises.specs.Demand2.{OnesAreVoices, OtherVoicesStand, OtherChannelsStand, Fraction, OutputIsExact}
use Rattle.voice.specs.Frames.{after}
use Rattle.state.specs.Slots.{slot_at, with_clock}
use Rattle.engine.specs.Rendering.{slot_after, distance, played, render_number, render, left_sum, right_sum, output, rendered}
use Rattle.promises.proofs.EachSlot.{What, stands, pedalled, loosed, freed, started, goes, never, what, held-channel, either}
use Rattle.voice.specs.declared.Voice.{Voice}
use Rattle.voice.specs.declared.Channel.{Channel}
use Rattle.state.specs.declared.Engine.{Engine}
use Rattle.state.specs.Answers.{Answered}
use Rattle.state.specs.Channels.{channel_at, with_channel, no_channel}
use Rattle.state.specs.Answers.{refused, answer, done, past_one, past_two, past_bend}
use Rattle.events.specs.Keys.{off, off_key, note_off}
use Rattle.events.specs.Controls.{with_stored, with_volume, with_expression, with_pedal, pedal, silence, controlled, control_change}
use Rattle.state.specs.Seats.{start_in}
use Rattle.events.specs.Starting.{Started, start, start_all, cleared, struck}
use Rattle.events.specs.Striking.{layer_voices, note_on_number, note_on, bank_from}
use Rattle.events.specs.Programs.{with_program, program_change}
use Rattle.events.specs.Bends.{with_bend, pitch_bend}
use Rattle.engine.specs.Mixer.{mixed}
use Rattle.arith.proofs.HoldsLaws.{held-within}
use Rattle.arith.specs.Holds.{held_to}
use Rattle.engine.proofs.MixerLaws.{unit-exact}
use Rattle.arith.specs.Within.{Within}
use Rattle.arith.proofs.WithinLaws.{w_le}
use Rattle.promises.proofs.Demand1.{render-numbers}
use Rattle.promises.specs.Calls as Calls

-- ---- the word

-- by the law of the word
pub ones-voices : OnesAreVoices
unfolding voice_count
ones-voices xs =
    let e = run xs fresh in
    let z = sized-run xs in
    word-voices e (subst (λ (n : ℕ). e.sounding < 2 ^ n) (sym z.voices) z.word)

-- ---- other channels

-- by what a call does to a slot: only voices of its channel are let go or freed
pub others-stand : OtherVoicesStand
unfolding after
others-stand x e i n o none = by (what x e i)
  where
    by : What x e i → slot_at (next x e) i ≡ slot_at e i
    by (stands a z) = a
    by (pedalled a z l d) = absurd (never (sym o ∙ held-channel (channel_of x) (slot_at e i) l))
    by (loosed a z c) = absurd (never (sym o ∙ c))
    by (freed a z c) = absurd (never (sym o ∙ c))
    by (started u a z f t) = absurd (never (sym none ∙ t))
    by (goes ram rom a) = a ∙ ap (λ (m : ℕ). slot_after ram rom e m (slot_at e i)) n

module _ (d : ℕ) (e : Engine) where
  -- channel d is as it was
  abbrev Same : Engine → Type 0
  Same y = channel_at y d ≡ channel_at e d

  told : (n : ℕ) (a : Answered) → Same a.engine → Same (answer n e a).engine
  told n a k = either (λ (x : Answered). Same x.engine) (eqb n 0) a (refused n e) k refl

  layers : (vs : List Voice) (x : Started) → Same x.engine → Same (start_all vs x).engine
  unfolding start_all start start_in
  layers [] x h = h
  layers (v ∷ vs) x h = layers vs (start v x) h

  apart : (c : ℕ) (x : Channel) → (d ≡ c → ⊥) → Same (with_channel e c x)
  apart c x h = get_or-set_other e.channels c d x no_channel h

  controls : (c n v : ℕ) → (d ≡ c → ⊥) → Same (controlled c n v e)
  unfolding controlled pedal silence off
  controls c n v h =
      either Same (eqb n 0) _ _ (apart c (with_stored (channel_at e c) v) h)
      (either Same (eqb n 7) _ _ (apart c (with_volume (channel_at e c) v) h)
      (either Same (eqb n 11) _ _ (apart c (with_expression (channel_at e c) v) h)
      (either Same (eqb n 64) _ _ (either Same (ltb v 64) _ _ (apart c (with_pedal (channel_at e c) v) h) (apart c (with_pedal (channel_at e c) v) h))
      (either Same (eqb n 120) _ _ refl
      (either Same (eqb n 123) _ _ refl refl)))))

-- call by call: only its own channel is set
pub channels-stand : OtherChannelsStand
unfolding note_on note_off off_key off control_change program_change pitch_bend render struck cleared played
channels-stand (Calls.NoteOn b ram rom c k v) e d h =
    let vs = layer_voices (bank_from b) c k v e in
    told d e (cond (past_two c k v) 2 0) _
    (either (λ (x : Answered). Same d e x.engine) (eqb v 0) _ _ refl
    (told d e (note_on_number (bank_from b) ram rom c k v e) (done (length vs) (struck c vs e).engine) (layers d e vs (record { engine = cleared c vs e; mine = 0 }) refl)))
channels-stand (Calls.NoteOff c k) e d h = told d e (cond (past_one c k) 2 0) (off_key c k e) refl
channels-stand (Calls.Control c n v) e d h = told d e (cond (past_two c n v) 2 0) (done 0 (controlled c n v e)) (controls d e c n v h)
channels-stand (Calls.Program c p) e d h =
    let x = with_program (channel_at e c) p in
    told d e (cond (past_one c p) 2 0) (done 0 (with_channel e c x)) (apart d e c x h)
channels-stand (Calls.Bend c b) e d h =
    let x = with_bend (channel_at e c) b in
    told d e (cond (past_bend c b) 2 0) (done 0 (with_channel e c x)) (apart d e c x h)
channels-stand (Calls.Render to ram rom out) e d h =
    told d e (render_number to ram rom (length out) e) (done 0 (with_clock (played ram rom (distance e to) e) to)) refl
channels-stand (Calls.Ask i) e d h = refl

-- ---- the output

-- a sum, held and scaled
pub mixed-fraction : (z : ℤ) → Fraction (mixed z) z
mixed-fraction z =
    let h = held_to (negsuc 8388607) (pos 8388608) z in
    let w : Within h 8388608 = held-within z 8388607 in
    record { exact = unit-exact h (w_le w (omega arith)); within = w }

module _ (ram rom : List ℤ) (e : Engine) where
  -- two numbers a frame
  pub out-length : (n : ℕ) → length (output ram rom e n) ≡ 2 * n
  unfolding output
  out-length zero = refl
  out-length (suc n) = simp length-append (omega (arith, out-length n))

  -- frame j, whatever stands behind
  frame_at : (n j : ℕ) (t : List Float) (d : Float) → j < n
      → (get_or (output ram rom e n ++ t) (2 * j) d ≡ mixed (left_sum ram rom e j)) × (get_or (output ram rom e n ++ t) (2 * j + 1) d ≡ mixed (right_sum ram rom e j))
  unfolding output
  frame_at zero j t d h = absurd (no h)
    where
      no : j < 0 → ⊥
      no h = omega arith
  frame_at (suc n) j t d h = rw (append_assoc) (by (eqb j n) refl (frame_at n j))
    where
      l : Float
      l = mixed (left_sum ram rom e n)

      r : Float
      r = mixed (right_sum ram rom e n)

      o : List Float
      o = output ram rom e n

      below : (j ≡ n → ⊥) → j < n
      below k = less (ltb j n) refl
        where
          less : (b : Bool) → ltb j n ≡ b → j < n
          less true q = ltb-true j n q
          less false q = absurd (k (omega (arith, ltb-false j n q)))

      by : (b : Bool) → eqb j n ≡ b
          → ((t : List Float) (d : Float) → j < n → (get_or (o ++ t) (2 * j) d ≡ mixed (left_sum ram rom e j)) × (get_or (o ++ t) (2 * j + 1) d ≡ mixed (right_sum ram rom e j)))
          → (get_or (o ++ (l ∷ r ∷ t)) (2 * j) d ≡ mixed (left_sum ram rom e j)) × (get_or (o ++ (l ∷ r ∷ t)) (2 * j + 1) d ≡ mixed (right_sum ram rom e j))
      by true q f =
          let z = eqb-true j n q in
          let w = out-length n in
          let odd : length o + 1 ≡ 2 * n + 1 = omega arith in
          subst (λ (m : ℕ). (get_or (o ++ (l ∷ r ∷ t)) (2 * m) d ≡ mixed (left_sum ram rom e m)) × (get_or (o ++ (l ∷ r ∷ t)) (2 * m + 1) d ≡ mixed (right_sum ram rom e m))) (sym z)
          (get_or_at o l (r ∷ t) d (2 * n) w, subst (λ (m : ℕ). get_or (o ++ (l ∷ r ∷ t)) m d ≡ r) odd (get_or-append-add o (l ∷ r ∷ t) 1 d))
      by false q f = f (l ∷ r ∷ t) d (below (eqb-false j n q))

-- what a done render writes
pub done-written : (to : ℕ) (ram rom : List ℤ) (out : List Float) (e : Engine) → (does (Calls.Render to ram rom out) e).status ≡ 0
    → written (Calls.Render to ram rom out) e ≡ output ram rom e (distance e to) ++ drop (2 * distance e to) out
unfolding render rendered
done-written to ram rom out e h = by (eqb number 0) refl h
  where
    number : ℕ
    number = render_number to ram rom (length out) e

    by : (b : Bool) → eqb number 0 ≡ b → (cond b (done 0 (with_clock (played ram rom (distance e to) e) to)) (refused number e)).status ≡ 0
        → cond b (output ram rom e (distance e to) ++ drop (2 * distance e to) out) out ≡ output ram rom e (distance e to) ++ drop (2 * distance e to) out
    by true q k = refl
    by false q k = absurd (eqb-false number 0 q k)

-- and the state after it
pub done-state : (to : ℕ) (ram rom : List ℤ) (out : List Float) (e : Engine) → (does (Calls.Render to ram rom out) e).status ≡ 0
    → next (Calls.Render to ram rom out) e ≡ with_clock (played ram rom (distance e to) e) to
unfolding render
done-state to ram rom out e h = by (eqb number 0) refl h
  where
    number : ℕ
    number = render_number to ram rom (length out) e

    by : (b : Bool) → eqb number 0 ≡ b → (cond b (done 0 (with_clock (played ram rom (distance e to) e) to)) (refused number e)).status ≡ 0
        → (cond b (done 0 (with_clock (played ram rom (distance e to) e) to)) (refused number e)).engine ≡ with_clock (played ram rom (distance e to) e) to
    by true q k = refl
    by false q k = absurd (eqb-false number 0 q k)

-- number by number of what is written
pub exact : OutputIsExact
exact to ram rom out e none h =
    let n = distance e to in
    let o = output ram rom e n in
    let w = done-written to ram rom out e h in
    let room : 2 * n ≤ length out = ((render-numbers to ram rom out e).done.0 h).1 in
    let l = out-length ram rom e n in
    record {
      long = ap length w ∙ simp (length-append, length-drop) (omega arith);
      left = λ j k. fraction (2 * j) (left_sum ram rom e j) w (frame_at ram rom e n j (drop (2 * n) out) none k).0;
      right = λ j k. fraction (2 * j + 1) (right_sum ram rom e j) w (frame_at ram rom e n j (drop (2 * n) out) none k).1;
      behind = ap (drop (2 * n)) w ∙ drop_at o (drop (2 * n) out) (2 * n) l;
    }
  where
    -- number m of what was written, where all of it is known
    fraction : {all : List Float} (m : ℕ) (z : ℤ) → written (Calls.Render to ram rom out) e ≡ all → get_or all m none ≡ mixed z
        → Fraction (get_or (written (Calls.Render to ram rom out) e) m none) z
    fraction m z w at = subst (λ (x : Float). Fraction x z) (sym (ap (λ (x : List Float). get_or x m none) w ∙ at)) (mixed-fraction z)
