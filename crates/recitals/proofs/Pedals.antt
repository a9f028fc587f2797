-- Pedals through a song: each channel's is where the last control 64 among the events has put it.
use Prim.Native.Nat.{ℕ, zero, suc, ◌+◌, ◌%◌, ◌≤◌}
use mathlib.Core.Bool.{Bool, true, false, cond, ◌&&◌}
use mathlib.Core.List.{List, [], ◌∷◌, ◌++◌}
use mathlib.Core.Path.{◌≡◌, refl, sym, ap, ◌∙◌, subst}
use native.Mathlib.Omega.{arith}
use borrow.Author.Tests.{ne_eqb, eqb-true, eqb-false, ltb-true, ltb-false}
use lib.Dec.{eqb, ltb}
use lib.IntN.{ℤ}
use lib.Ieee.{Float, nan}
use lib.ListN.{length, get_or, set}
use lib.Seq.{get_or-set_same}
use Rattle.smf.specs.declared.Event.{Event}
use Rattle.voice.specs.declared.Channel.{Channel}
use Rattle.state.specs.Answers.{Answered}
use Rattle.state.specs.declared.Engine.{Engine}
use Rattle.state.specs.Answers.{done, refused, answer, past_one, past_two, past_bend}
use Rattle.state.specs.Channels.{channel_at, with_channel, no_channel}
use Rattle.events.specs.Bends.{pitch_bend, with_bend}
use Rattle.events.specs.Controls.{control_change, controlled, pedal, silence, with_stored, with_volume, with_expression, with_pedal}
use Rattle.events.specs.Keys.{off}
use Rattle.events.specs.Programs.{program_change, with_program}
use Rattle.engine.specs.Rendering.{render_number, render, played}
use Rattle.player.specs.Acting.{kind_of, channel_in, bend_in}
use Rattle.promises.specs.Calls.{next, run}
use Rattle.promises.proofs.Controls.{sets-one}
use Rattle.promises.proofs.EachSlot.{either}
use Rattle.promises.proofs.Kept.{run-keeps}
use Rattle.promises.proofs.Output.{channels-stand}
use Rattle.promises.proofs.Pedal.{lifts}
use Rattle.recitals.specs.Turns.{call_of, one_frame}
use Rattle.recitals.specs.Recital.{events_at, frame_by_frame, calls_for, recital}
use Rattle.recitals.specs.Endings.{pedal_after}
use Rattle.recitals.proofs.Clocks.{on-keeps, off-keeps}
use Rattle.recitals.proofs.Acts.{run-append}
use Rattle.recitals.proofs.Hushes.{many-channels}
use Rattle.recitals.proofs.Recital.{Each}
use Rattle.promises.specs.Calls as Calls

-- a channel set to one with the same pedal
set-pedal : (cs : List Channel) (c d : ℕ) (x : Channel) → x.pedal ≡ (get_or cs c no_channel).pedal → (get_or (set cs c x) d no_channel).pedal ≡ (get_or cs d no_channel).pedal
set-pedal [] c d x h = refl
set-pedal (y ∷ cs) zero zero x h = h
set-pedal (y ∷ cs) zero (suc d) x h = refl
set-pedal (y ∷ cs) (suc c) zero x h = refl
set-pedal (y ∷ cs) (suc c) (suc d) x h = set-pedal cs c d x h

module _ (d : ℕ) (e : Engine) where
  -- channel d's pedal is as it was
  abbrev Same : Engine → Type 0
  Same y = (channel_at y d).pedal ≡ (channel_at e d).pedal

  told : (n : ℕ) (a : Answered) → Same a.engine → Same (answer n e a).engine
  told n a k = either (λ (x : Answered). Same x.engine) (eqb n 0) a (refused n e) k refl

  sets : (c : ℕ) (x : Channel) → x.pedal ≡ (channel_at e c).pedal → Same (with_channel e c x)
  sets c x h = set-pedal e.channels c d x h

  -- one of two, the first being out of the question
  second : (b : Bool) (x y : Engine) → b ≡ false → Same y → Same (cond b x y)
  second b x y q k = subst (λ (t : Bool). Same (cond t x y)) (sym q) k

  pub other-pedal : (c n v : ℕ) → (n ≡ 64 → ⊥) → Same (next (Calls.Control c n v) e)
  unfolding control_change controlled silence off
  other-pedal c n v h =
      told (cond (past_two c n v) 2 0) (done 0 (controlled c n v e))
      (either Same (eqb n 0) _ _ (sets c (with_stored (channel_at e c) v) refl)
      (either Same (eqb n 7) _ _ (sets c (with_volume (channel_at e c) v) refl)
      (either Same (eqb n 11) _ _ (sets c (with_expression (channel_at e c) v) refl)
      (second (eqb n 64) (pedal c v e) _ (ne_eqb n 64 h)
      (either Same (eqb n 120) _ _ refl (either Same (eqb n 123) _ _ refl refl))))))

  pub program-pedal : (c p : ℕ) → Same (next (Calls.Program c p) e)
  unfolding program_change
  program-pedal c p = told (cond (past_one c p) 2 0) (done 0 (with_channel e c (with_program (channel_at e c) p))) (sets c (with_program (channel_at e c) p) refl)

  pub bend-pedal : (c b : ℕ) → Same (next (Calls.Bend c b) e)
  unfolding pitch_bend
  bend-pedal c b = told (cond (past_bend c b) 2 0) (done 0 (with_channel e c (with_bend (channel_at e c) b))) (sets c (with_bend (channel_at e c) b) refl)

  pub on-pedal : (b : List ℕ) (ram rom : List ℤ) (c k v : ℕ) → Same (next (Calls.NoteOn b ram rom c k v) e)
  on-pedal b ram rom c k v = on-keeps Same (λ y ss h. h) (λ y o h. h) b ram rom c k v e refl

  pub off-pedal : (c k : ℕ) → Same (next (Calls.NoteOff c k) e)
  off-pedal c k = off-keeps Same (λ y ss h. h) (λ y o h. h) c k e refl

  pub render-pedal : (to : ℕ) (ram rom : List ℤ) (out : List Float) → Same (next (Calls.Render to ram rom out) e)
  unfolding render played
  render-pedal to ram rom out = either (λ (a : Answered). Same a.engine) (eqb (render_number to ram rom (length out) e) 0) _ _ refl refl

-- control 64 sets its own channel's
pedal-here : (c v : ℕ) (e : Engine) → c ≤ 15 → v ≤ 127 → length e.channels ≡ 16 → (channel_at (next (Calls.Control c 64 v) e) c).pedal ≡ v
pedal-here c v e h k n = by (ltb v 64) refl
  where
    x : Channel
    x = with_pedal (channel_at e c) v

    there : (get_or (set e.channels c x) c no_channel).pedal ≡ v
    there = ap (λ (y : Channel). y.pedal) (get_or-set_same e.channels c x no_channel (omega arith))

    by : (b : Bool) → ltb v 64 ≡ b → (channel_at (next (Calls.Control c 64 v) e) c).pedal ≡ v
    by true q = ap (λ (cs : List Channel). (get_or cs c no_channel).pedal) (lifts c v e h (ltb-true v 64 q)).channels ∙ there
    by false q = ap (λ (a : Answered). (channel_at a.engine c).pedal) ((sets-one c v e h k).down (ltb-false v 64 q)) ∙ there

-- any control
control-pedal : (d c n v : ℕ) (e : Engine) → c ≤ 15 → v ≤ 127 → length e.channels ≡ 16
    → (channel_at (next (Calls.Control c n v) e) d).pedal ≡ cond (eqb c d && eqb n 64) v (channel_at e d).pedal
control-pedal d c n v e h k m = by (eqb c d) refl (eqb n 64) refl
  where
    by : (a : Bool) → eqb c d ≡ a → (b : Bool) → eqb n 64 ≡ b → (channel_at (next (Calls.Control c n v) e) d).pedal ≡ cond (a && b) v (channel_at e d).pedal
    by true p true q =
        ap (λ (y : ℕ). (channel_at (next (Calls.Control c y v) e) d).pedal) (eqb-true n 64 q)
        ∙ subst (λ (y : ℕ). (channel_at (next (Calls.Control c 64 v) e) y).pedal ≡ v) (eqb-true c d p) (pedal-here c v e h k m)
    by true p false q = other-pedal d e c n v (eqb-false n 64 q)
    by false p b q = ap (λ (x : Channel). x.pedal) (channels-stand (Calls.Control c n v) e d (λ r. eqb-false c d p (sym r)))

-- values in their range
abbrev pub InBytes : List Event → Type 0
InBytes vs = Each (λ (v : Event). v.second ≤ 127) vs

-- an event
event-pedal : (bank : List ℕ) (ram rom : List ℤ) (d : ℕ) (v : Event) (e : Engine) → v.second ≤ 127 → length e.channels ≡ 16
    → (channel_at (run (call_of bank ram rom v) e) d).pedal ≡ cond (eqb (kind_of v) 11 && eqb (channel_in v) d && eqb v.first 64) v.second (channel_at e d).pedal
unfolding call_of run
event-pedal bank ram rom d v e h m = by (eqb (kind_of v) 8) refl (eqb (kind_of v) 9) refl (eqb (kind_of v) 11) refl (eqb (kind_of v) 12) (eqb (kind_of v) 14)
  where
    by : (a : Bool) → eqb (kind_of v) 8 ≡ a → (b : Bool) → eqb (kind_of v) 9 ≡ b → (c : Bool) → eqb (kind_of v) 11 ≡ c → (f g : Bool)
        → (channel_at (run (cond a (Calls.NoteOff (channel_in v) v.first ∷ []) (cond b (Calls.NoteOn bank ram rom (channel_in v) v.first v.second ∷ []) (cond c (Calls.Control (channel_in v) v.first v.second ∷ []) (cond f (Calls.Program (channel_in v) v.first ∷ []) (cond g (Calls.Bend (channel_in v) (bend_in v) ∷ []) []))))) e) d).pedal
        ≡ cond (c && eqb (channel_in v) d && eqb v.first 64) v.second (channel_at e d).pedal
    by true p b q true r f g = absurd (omega (arith, eqb-true (kind_of v) 8 p, eqb-true (kind_of v) 11 r))
    by true p b q false r f g = off-pedal d e (channel_in v) v.first
    by false p true q true r f g = absurd (omega (arith, eqb-true (kind_of v) 9 q, eqb-true (kind_of v) 11 r))
    by false p true q false r f g = on-pedal d e bank ram rom (channel_in v) v.first v.second
    by false p false q true r f g = control-pedal d (channel_in v) v.first v.second e (omega arith) h m
    by false p false q false r true g = program-pedal d e (channel_in v) v.first
    by false p false q false r false true = bend-pedal d e (channel_in v) (bend_in v)
    by false p false q false r false false = refl

-- events
pub events-pedal : (bank : List ℕ) (ram rom : List ℤ) (d : ℕ) (vs : List Event) (e : Engine) → InBytes vs → length e.channels ≡ 16
    → (channel_at (run (calls_for bank ram rom vs) e) d).pedal ≡ pedal_after d (channel_at e d).pedal vs
unfolding calls_for run pedal_after
events-pedal bank ram rom d [] e h m = refl
events-pedal bank ram rom d (v ∷ vs) e h m =
    let cs = call_of bank ram rom v in
    ap (λ (y : Engine). (channel_at y d).pedal) (run-append cs (calls_for bank ram rom vs) e)
    ∙ events-pedal bank ram rom d vs (run cs e) h.1 (run-keeps (λ (y : Engine). length y.channels ≡ 16) many-channels cs e m)
    ∙ ap (λ (b : ℕ). pedal_after d b vs) (event-pedal bank ram rom d v e h.0 m)

-- ---- frame by frame

pedal-append : (d b : ℕ) (us vs : List Event) → pedal_after d b (us ++ vs) ≡ pedal_after d (pedal_after d b us) vs
unfolding pedal_after
pedal-append d b [] vs = refl
pedal-append d b (u ∷ us) vs = pedal-append d (cond (eqb (kind_of u) 11 && eqb (channel_in u) d && eqb u.first 64) u.second b) us vs

-- the events of a frame are events of the song
at_each : (P : Event → Type 0) (n : ℕ) (vs : List Event) → Each P vs → Each P (events_at n vs)
unfolding events_at
at_each P n [] h = tt
at_each P n (v ∷ vs) h = by (eqb v.frame n) (at_each P n vs h.1)
  where
    by : (b : Bool) → Each P (events_at n vs) → Each P (cond b (v ∷ events_at n vs) (events_at n vs))
    by true k = (h.0, k)
    by false k = k

-- after n frames of a song
pub recital-pedal : (bank : List ℕ) (ram rom : List ℤ) (d : ℕ) (vs : List Event) (began n : ℕ) (e : Engine) → InBytes vs → length e.channels ≡ 16
    → (channel_at (run (recital bank ram rom vs began n) e) d).pedal ≡ pedal_after d (channel_at e d).pedal (frame_by_frame n vs)
unfolding recital frame_by_frame pedal_after run
recital-pedal bank ram rom d vs began zero e h m = refl
recital-pedal bank ram rom d vs began (suc n) e h m =
    let xs = recital bank ram rom vs began n in
    let ys = calls_for bank ram rom (events_at n vs) in
    let x = one_frame ram rom ((began + suc n) % 4294967296) in
    let y = run xs e in
    let k = run-keeps (λ (z : Engine). length z.channels ≡ 16) many-channels xs e m in
    ap (λ (z : Engine). (channel_at z d).pedal) (run-append xs (ys ++ (x ∷ [])) e ∙ run-append ys (x ∷ []) y)
    ∙ render-pedal d (run ys y) ((began + suc n) % 4294967296) ram rom (nan ∷ nan ∷ [])
    ∙ events-pedal bank ram rom d (events_at n vs) y (at_each (λ (v : Event). v.second ≤ 127) n vs h) k
    ∙ ap (λ (b : ℕ). pedal_after d b (events_at n vs)) (recital-pedal bank ram rom d vs began n e h m)
    ∙ sym (pedal-append d (channel_at e d).pedal (frame_by_frame n vs) (events_at n vs))
