-- What every call keeps: a property of states that each of the four things that calls are made of keeps.
use Prim.Native.Nat.{ℕ, ◌^◌, ◌<◌}
use mathlib.Core.List.{map, List, [], ◌∷◌}
use mathlib.Core.Bool.{false, cond}
use lib.Dec.{eqb, ltb}
use lib.ListN.{length, length-map, set, length-set, length-replicate}
use mathlib.Core.Path.{◌≡◌, subst, ◌∙◌}
use native.Mathlib.Omega.{arith}
use Rattle.voice.specs.declared.Voice.{Voice}
use Rattle.voice.specs.declared.Channel.{Channel}
use Rattle.voice.specs.declared.Slot.{Slot}
use Rattle.state.specs.declared.Engine.{Engine}
use Rattle.state.specs.Slots.{slots_of, with_slots, with_clock, of_channel, cut, word_of}
use Rattle.state.specs.Channels.{with_channel, channel_at}
use Rattle.state.specs.Seats.{seat, start_in}
use Rattle.events.specs.Starting.{start, Started, start_all, cleared, rival, struck}
use Rattle.events.specs.Striking.{layer_voices, note_on_number, note_on, bank_from}
use Rattle.state.specs.Answers.{Answered}
use Rattle.state.specs.Answers.{done, refused, answer, past_one, past_two, past_bend}
use Rattle.events.specs.Keys.{let_off, pedal_down, held_key, held, off, off_key, note_off, pedal_held}
use Rattle.events.specs.Controls.{pedal, silence, controlled, control_change, with_stored, with_volume, with_expression, with_pedal}
use Rattle.events.specs.Programs.{with_program, program_change}
use Rattle.events.specs.Bends.{with_bend, pitch_bend}
use Rattle.engine.specs.Rendering.{distance, slot_after, played, render_number, render}
use Rattle.promises.specs.Calls.{Call, next, run}
use Rattle.promises.proofs.EachSlot.{either}
use Rattle.state.proofs.SlotLoopLaws.{word_lt, paired-length}
use Rattle.voice.specs.Changes.{sounds, blank}
use Rattle.state.specs.Quiet.{fresh_channel, fresh}
use Rattle.promises.specs.Calls as Calls

-- a property that no part of a call breaks
pub record Lasting (P : Engine → Type 0) : Type 0 where
  pub channel : (e : Engine) (c : ℕ) (x : Channel) → P e → P (with_channel e c x)
  pub slots : (e : Engine) (f : Slot → Slot) → P e → P (with_slots e (map f (slots_of e)))
  pub start : (e : Engine) (m : ℕ) (v : Voice) → P e → P (start_in (seat e m) v e)
  pub clock : (e : Engine) (t : ℕ) → P e → P (with_clock e t)

module _ (P : Engine → Type 0) (l : Lasting P) where
  told : (n : ℕ) (e : Engine) (a : Answered) → P e → P a.engine → P (answer n e a).engine
  told n e a h k = either (λ (x : Answered). P x.engine) (eqb n 0) a (refused n e) k h

  -- layers that are started one after the other
  pub layers : (vs : List Voice) (x : Started) → P x.engine → P (start_all vs x).engine
  unfolding start_all start
  layers [] x h = h
  layers (v ∷ vs) x h = layers vs (start v x) (l.start x.engine x.mine v h)

  controls : (c n v : ℕ) (e : Engine) → P e → P (controlled c n v e)
  unfolding controlled pedal silence off
  controls c n v e h =
      either P (eqb n 0) _ _ (l.channel e c (with_stored (channel_at e c) v) h)
      (either P (eqb n 7) _ _ (l.channel e c (with_volume (channel_at e c) v) h)
      (either P (eqb n 11) _ _ (l.channel e c (with_expression (channel_at e c) v) h)
      (either P (eqb n 64) _ _
      (let p = l.channel e c (with_pedal (channel_at e c) v) h in
      either P (ltb v 64) _ _ (l.slots (with_channel e c (with_pedal (channel_at e c) v)) (let_off false (pedal_held c)) p) p)
      (either P (eqb n 120) _ _ (l.slots e (cut (of_channel c)) h)
      (either P (eqb n 123) _ _ (l.slots e (let_off (pedal_down e c) (held c)) h) h)))))

  lets : (c k : ℕ) (e : Engine) → P e → P (off_key c k e).engine
  unfolding off_key off
  lets c k e h = l.slots e (let_off (pedal_down e c) (held_key c k)) h

  -- a call
  pub call-keeps : (x : Call) (e : Engine) → P e → P (next x e)
  unfolding note_on note_off control_change program_change pitch_bend render struck cleared played
  call-keeps (Calls.NoteOn b ram rom c k v) e h =
      let vs = layer_voices (bank_from b) c k v e in
      told (cond (past_two c k v) 2 0) e _ h
      (either (λ (x : Answered). P x.engine) (eqb v 0) _ _ (lets c k e h)
      (told (note_on_number (bank_from b) ram rom c k v e) e (done (length vs) (struck c vs e).engine) h
      (layers vs (record { engine = cleared c vs e; mine = 0 }) (l.slots e (cut (rival c vs)) h))))
  call-keeps (Calls.NoteOff c k) e h = told (cond (past_one c k) 2 0) e (off_key c k e) h (lets c k e h)
  call-keeps (Calls.Control c n v) e h = told (cond (past_two c n v) 2 0) e (done 0 (controlled c n v e)) h (controls c n v e h)
  call-keeps (Calls.Program c p) e h =
      let x = with_program (channel_at e c) p in
      told (cond (past_one c p) 2 0) e (done 0 (with_channel e c x)) h (l.channel e c x h)
  call-keeps (Calls.Bend c b) e h =
      let x = with_bend (channel_at e c) b in
      told (cond (past_bend c b) 2 0) e (done 0 (with_channel e c x)) h (l.channel e c x h)
  call-keeps (Calls.Render to ram rom out) e h =
      let d = distance e to in
      told (render_number to ram rom (length out) e) e (done 0 (with_clock (played ram rom d e) to)) h
      (l.clock (played ram rom d e) to (l.slots e (slot_after ram rom e d) h))
  call-keeps (Calls.Ask i) e h = h

  -- a run
  pub run-keeps : (xs : List Call) (e : Engine) → P e → P (run xs e)
  unfolding run
  run-keeps [] e h = h
  run-keeps (x ∷ xs) e h = run-keeps xs (next x e) (call-keeps x e h)

-- ---- as many slots and channels as there were, and no bit of the word past the last slot

-- 32 slots, 16 channels, and a word of 32 bits
pub record Sized (e : Engine) : Type 0 where
  pub voices : length e.voices ≡ 32
  pub channels : length e.channels ≡ 16
  pub word : e.sounding < 2 ^ 32

-- a state made of 32 slots
resized : (e : Engine) (ss : List Slot) → length ss ≡ 32 → Sized e → Sized (with_slots e ss)
resized e ss q h =
    record {
      voices = simp length-map q;
      channels = h.channels;
      word = subst (λ (n : ℕ). word_of ss < 2 ^ n) q (word_lt ss);
    }

-- its slots are 32
pub slots-32 : (e : Engine) → Sized e → length (slots_of e) ≡ 32
slots-32 e h = paired-length e.sounding e.voices ∙ h.voices

-- no part of a call changes it
pub sized-lasts : Lasting Sized
unfolding start_in
sized-lasts =
    record {
      channel = λ e c x h. record { voices = h.voices; channels = simp length-set h.channels; word = h.word };
      slots = λ e f h. resized e (map f (slots_of e)) (simp length-map (slots-32 e h)) h;
      start = λ e m v h.
          let r = resized e (set (slots_of e) (seat e m) (sounds v)) (simp length-set (slots-32 e h)) h in
          record { voices = r.voices; channels = r.channels; word = r.word };
      clock = λ e t h. record { voices = h.voices; channels = h.channels; word = h.word };
    }

-- it is so at first
pub fresh-sized : Sized fresh
unfolding fresh
fresh-sized = record { voices = length-replicate 32 blank; channels = length-replicate 16 fresh_channel; word = omega arith }
