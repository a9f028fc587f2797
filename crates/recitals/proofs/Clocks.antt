-- No call but a render moves the clock, and no call of a player takes a window past its memory.
use Prim.Native.Nat.{ℕ, suc, ◌<◌, ◌≤◌}
use mathlib.Core.Bool.{Bool, true, false, cond}
use mathlib.Core.List.{List, [], ◌∷◌, map}
use mathlib.Core.Logic.{⊎_elim, inl, inr}
use mathlib.Core.Path.{◌≡◌, refl, subst}
use native.Mathlib.Omega.{arith}
use borrow.Author.Tests.{eqb-true, eqb-false, ltb-true, ltb-false}
use lib.Dec.{eqb, ltb}
use lib.IntN.{ℤ}
use lib.ListN.{length, get_or}
use Rattle.voice.specs.declared.Voice.{Voice}
use Rattle.voice.specs.Changes.{blank}
use Rattle.state.specs.Answers.{Answered}
use Rattle.state.specs.declared.Engine.{Engine}
use Rattle.state.specs.Answers.{done, refused, answer, past_one, past_two, past_bend}
use Rattle.state.specs.Channels.{channel_at, with_channel}
use Rattle.state.specs.Reach.{memory}
use Rattle.state.specs.Seats.{start_in}
use Rattle.state.specs.Slots.{slots_of, with_slots, with_order, cut}
use Rattle.voice.specs.declared.Slot.{Slot}
use Rattle.events.specs.Controls.{controlled, pedal, silence, control_change}
use Rattle.events.specs.Keys.{let_off, held_key, pedal_down, off, off_key, note_off}
use Rattle.events.specs.Programs.{program_change, with_program}
use Rattle.events.specs.Bends.{pitch_bend, with_bend}
use Rattle.events.specs.Starting.{Started, start, start_all, rival, cleared, struck}
use Rattle.events.specs.Striking.{note_on, note_on_number, layer_voices, bank_from}
use Rattle.promises.specs.Calls.{Call, does, next, voice_in, begun}
use Rattle.promises.specs.Demand1.{SlotPast, LayerPast}
use Rattle.promises.proofs.EachSlot.{Among, either}
use Rattle.promises.proofs.Frames.{after-keeps}
use Rattle.voice.specs.Release.{release}
use Rattle.promises.proofs.Demand1.{note-on-numbers}
use Rattle.promises.proofs.Voices.{Everyone, Lasts, call-voice}
use Rattle.promises.specs.Calls as Calls

-- ---- what a key's calls keep

-- a property that neither slots nor the order of age touch
module _ (P : Engine → Type 0) (slots : (e : Engine) (ss : List Slot) → P e → P (with_slots e ss)) (order : (e : Engine) (o : List ℕ) → P e → P (with_order e o)) where
  answers : (n : ℕ) (e : Engine) (a : Answered) → P e → P a.engine → P (answer n e a).engine
  answers n e a h k = either (λ (x : Answered). P x.engine) (eqb n 0) a (refused n e) k h

  layers : (vs : List Voice) (x : Started) → P x.engine → P (start_all vs x).engine
  unfolding start_all start start_in
  layers [] x h = h
  layers (v ∷ vs) x h = layers vs (start v x) (order _ _ (slots x.engine _ h))

  lets : (c k : ℕ) (e : Engine) → P e → P (off_key c k e).engine
  unfolding off_key off
  lets c k e h = slots e (map (let_off (pedal_down e c) (held_key c k)) (slots_of e)) h

  pub on-keeps : (b : List ℕ) (ram rom : List ℤ) (c k v : ℕ) (e : Engine) → P e → P (next (Calls.NoteOn b ram rom c k v) e)
  unfolding note_on struck cleared
  on-keeps b ram rom c k v e h =
      let vs = layer_voices (bank_from b) c k v e in
      answers (cond (past_two c k v) 2 0) e _ h
      (either (λ (x : Answered). P x.engine) (eqb v 0) _ _ (lets c k e h)
      (answers (note_on_number (bank_from b) ram rom c k v e) e (done (length vs) (struck c vs e).engine) h
      (layers vs (record { engine = cleared c vs e; mine = 0 }) (slots e (map (cut (rival c vs)) (slots_of e)) h))))

  pub off-keeps : (c k : ℕ) (e : Engine) → P e → P (next (Calls.NoteOff c k) e)
  unfolding note_off
  off-keeps c k e h = answers (cond (past_one c k) 2 0) e (off_key c k e) h (lets c k e h)

-- ---- the clock

module _ (t : ℕ) where
  -- the clock stands at t
  abbrev At : Engine → Type 0
  At e = e.clock ≡ t

  told : (n : ℕ) (e : Engine) (a : Answered) → At e → At a.engine → At (answer n e a).engine
  told n e a h k = either (λ (x : Answered). At x.engine) (eqb n 0) a (refused n e) k h

  pub on-clock : (b : List ℕ) (ram rom : List ℤ) (c k v : ℕ) (e : Engine) → At e → At (next (Calls.NoteOn b ram rom c k v) e)
  on-clock = on-keeps At (λ e ss h. h) (λ e o h. h)

  pub off-clock : (c k : ℕ) (e : Engine) → At e → At (next (Calls.NoteOff c k) e)
  off-clock = off-keeps At (λ e ss h. h) (λ e o h. h)

  pub control-clock : (c n v : ℕ) (e : Engine) → At e → At (next (Calls.Control c n v) e)
  unfolding control_change controlled pedal silence off
  control-clock c n v e h =
      told (cond (past_two c n v) 2 0) e (done 0 (controlled c n v e)) h
      (either At (eqb n 0) _ _ h
      (either At (eqb n 7) _ _ h
      (either At (eqb n 11) _ _ h
      (either At (eqb n 64) _ _ (either At (ltb v 64) _ _ h h)
      (either At (eqb n 120) _ _ h (either At (eqb n 123) _ _ h h))))))

  pub program-clock : (c p : ℕ) (e : Engine) → At e → At (next (Calls.Program c p) e)
  unfolding program_change
  program-clock c p e h = told (cond (past_one c p) 2 0) e (done 0 (with_channel e c (with_program (channel_at e c) p))) h h

  pub bend-clock : (c b : ℕ) (e : Engine) → At e → At (next (Calls.Bend c b) e)
  unfolding pitch_bend
  bend-clock c b e h = told (cond (past_bend c b) 2 0) e (done 0 (with_channel e c (with_bend (channel_at e c) b))) h h

-- ---- windows and memories

module _ (ram rom : List ℤ) where
  -- a window that ends within its memory
  abbrev pub Fits : Voice → Type 0
  Fits v = v.end ≤ length (memory ram rom v)

  -- every window does
  abbrev pub Clear : Engine → Type 0
  Clear e = Everyone Fits e

  -- no slot's ends past it
  pub clear_of : (e : Engine) → (SlotPast ram rom e → ⊥) → Clear e
  clear_of e h i on = by (ltb (length (memory ram rom (voice_in i e))) (voice_in i e).end) refl
    where
      by : (b : Bool) → ltb (length (memory ram rom (voice_in i e))) (voice_in i e).end ≡ b → Fits (voice_in i e)
      by true q = absurd (h (record { slot = i; sounds = on; past = ltb-true (length (memory ram rom (voice_in i e))) (voice_in i e).end q }))
      by false q = ltb-false (length (memory ram rom (voice_in i e))) (voice_in i e).end q

  pub of-clear : (e : Engine) → Clear e → SlotPast ram rom e → ⊥
  of-clear e h p = omega (arith, h p.slot p.sounds, p.past)

  -- neither a release nor a mark nor a frame takes it away
  fits-lasts : Lasts Fits
  unfolding release
  fits-lasts =
      record {
        marks = λ v r h. h;
        lets = λ v h. h;
        plays = λ c w n s h. after-keeps c w Fits (λ v g p q. q) n s h;
      }

  -- a call that starts no other
  pub clear-call : (x : Call) (e : Engine) → ((u : Voice) → Among u (begun x e) → Fits u) → Clear e → Clear (next x e)
  clear-call x e new h i on = call-voice Fits fits-lasts x e i (h i) (λ u a t. new u a) on

  -- a voice among some has a number there
  layer-of : (u : Voice) (vs : List Voice) → Among u vs → ((n : ℕ) → n < length vs → Fits (get_or vs n blank)) → Fits u
  layer-of u [] a h = absurd a
  layer-of u (v ∷ vs) (inl q) h = subst Fits q (h 0 (omega arith))
  layer-of u (v ∷ vs) (inr a) h = layer-of u vs a (λ n l. h (suc n) (omega arith))

  -- a note-on with the same memories
  pub on-clear : (b : List ℕ) (c k v : ℕ) (e : Engine) → Clear e → Clear (next (Calls.NoteOn b ram rom c k v) e)
  on-clear b c k v e h = clear-call (Calls.NoteOn b ram rom c k v) e (λ u a. by u (eqb status 0) refl (eqb v 0) refl a) h
    where
      status : ℕ
      status = (does (Calls.NoteOn b ram rom c k v) e).status

      vs : List Voice
      vs = layer_voices (bank_from b) c k v e

      fit : (b : Bool) (n : ℕ) → ltb (length (memory ram rom (get_or vs n blank))) (get_or vs n blank).end ≡ b → (LayerPast ram rom vs → ⊥) → n < length vs → Fits (get_or vs n blank)
      fit true n q g l = absurd (g (record { layer = n; one = l; past = ltb-true (length (memory ram rom (get_or vs n blank))) (get_or vs n blank).end q }))
      fit false n q g l = ltb-false (length (memory ram rom (get_or vs n blank))) (get_or vs n blank).end q

      by : (u : Voice) (s : Bool) → eqb status 0 ≡ s → (z : Bool) → eqb v 0 ≡ z → Among u (cond s (cond z [] vs) []) → Fits u
      by u false p z q a = absurd a
      by u true p true q a = absurd a
      by u true p false q a =
          layer-of u vs a
          (λ n l. fit _ n refl (⊎_elim (λ y. absurd (eqb-false v 0 q y.2)) (λ y. y.4) ((note-on-numbers b ram rom c k v e).done.0 (eqb-true status 0 p))) l)
