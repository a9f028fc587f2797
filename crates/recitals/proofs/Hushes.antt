-- Channels let go and set as in a fresh engine: their voices are released, their pedals up, and then all that they hold is fresh.
use Prim.Native.Nat.{ℕ, zero, suc, ◌<◌, ◌≤◌}
use mathlib.Core.Bool.{Bool, true, false, cond}
use mathlib.Core.List.{List, [], ◌∷◌, ◌++◌}
use mathlib.Core.Logic.{◌⊎◌, ⊎_elim, inl, inr}
use mathlib.Core.Path.{◌≡◌, refl, sym, ap, ◌∙◌, subst}
use native.Mathlib.Omega.{arith}
use borrow.Author.Tests.{le-ltb, eq-eqb, eqb-true, eqb-false}
use lib.Dec.{eqb, leb}
use lib.ListN.{length, get_or, set, length-set}
use lib.Seq.{get_or-set_same}
use Rattle.voice.specs.declared.Channel.{Channel}
use Rattle.voice.specs.declared.Slot.{Slot}
use Rattle.voice.specs.declared.Stage.{Stage}
use Rattle.voice.specs.declared.Stage.TheVariants.{Delay, Attack, Hold, Decay, Sustain, Release}
use Rattle.voice.specs.declared.Voice.{Voice}
use Rattle.voice.specs.Changes.{free, blank}
use Rattle.voice.specs.Frames.{after}
use Rattle.voice.specs.Release.{let_go, release}
use Rattle.voice.specs.Stages.{released}
use Rattle.state.specs.Answers.{Answered}
use Rattle.state.specs.declared.Engine.{Engine}
use Rattle.state.specs.Answers.{done}
use Rattle.state.specs.Channels.{channel_at, no_channel}
use Rattle.state.specs.Quiet.{fresh, fresh_channel}
use Rattle.state.specs.Seats.{start_in}
use Rattle.state.specs.Slots.{slot_at, with_voice, of_channel}
use Rattle.state.proofs.SlotsLaws.{slot_map}
use Rattle.events.specs.Bends.{with_bend}
use Rattle.events.specs.Controls.{control_change, controlled, with_stored, with_volume, with_expression, with_pedal}
use Rattle.events.specs.Keys.{held, let_off, mark, off, pedal_down, pedal_held}
use Rattle.events.specs.Programs.{with_program}
use Rattle.events.proofs.KeysLaws.{off-keeps}
use Rattle.engine.specs.Rendering.{slot_after}
use Rattle.player.specs.Pauses.{hushed, hushed_to, freshened, freshened_to}
use Rattle.promises.specs.Calls.{Call, next, run, voice_in, frames_of, begun}
use Rattle.promises.specs.Controls.{Sets}
use Rattle.promises.specs.Night.{AllReleased}
use Rattle.promises.specs.Pedal.{MarksUnderPedal, Lifted}
use Rattle.promises.proofs.Banks.{came}
use Rattle.promises.proofs.Controls.{sets-one, bend-sets}
use Rattle.promises.proofs.EachSlot.{Among, What, stands, pedalled, loosed, freed, started, goes, what, never, let_off-picked}
use Rattle.promises.proofs.Kept.{Lasting, run-keeps}
use Rattle.promises.proofs.Output.{channels-stand}
use Rattle.promises.proofs.Pedal.{lifts, marks-run, no-mark}
use Rattle.promises.proofs.Voices.{from-fresh}
use Rattle.recitals.specs.Turns.{hush_calls}
use Rattle.recitals.specs.Borders.{Stands}
use Rattle.recitals.proofs.Acts.{run-append, hushes, freshens}
use Rattle.promises.specs.Calls as Calls

-- ---- voices

-- a voice that is let go is released
let-go : (v : Voice) (s : Stage) → released (let_go v s) ≡ true
let-go v (Delay left) = refl
let-go v (Attack t) = refl
let-go v (Hold t) = refl
let-go v (Decay t) = refl
let-go v Sustain = refl
let-go v (Release a t) = refl

-- control 123 within its ranges
notes-is : (c : ℕ) (e : Engine) → c ≤ 15 → control_change c 123 0 e ≡ done 0 (off c (held c) e)
unfolding control_change controlled
notes-is c e h = simp (le-ltb 15 c h)

notes-slot : (c : ℕ) (e : Engine) (i : ℕ) → c ≤ 15 → slot_at (next (Calls.Control c 123 0) e) i ≡ let_off (pedal_down e c) (held c) (slot_at e i)
unfolding off held of_channel
notes-slot c e i h =
    ap (λ (a : Answered). slot_at a.engine i) (notes-is c e h)
    ∙ slot_map e e (let_off (pedal_down e c) (held c)) i (off-keeps (pedal_down e c) (held c) (free blank) refl)

module _ (c : ℕ) where
  -- a voice of the channel that sounds is released
  abbrev pub Loosed : Slot → Type 0
  Loosed s = s.sounding ≡ true → s.voice.channel ≡ c → released s.voice.stage ≡ true

  -- a call that renders nothing and starts nothing keeps it so
  keeps : (x : Call) (e : Engine) (i : ℕ) → frames_of x e ≡ 0 → ((u : Voice) → Among u (begun x e) → ⊥) → Loosed (slot_at e i) → Loosed (slot_at (next x e) i)
  unfolding release after
  keeps x e i f none h = by (what x e i)
    where
      s : Slot
      s = slot_at e i

      at : (t : Slot) → slot_at (next x e) i ≡ t → Loosed t → Loosed (slot_at (next x e) i)
      at t q k = subst Loosed (sym q) k

      by : What x e i → Loosed (slot_at (next x e) i)
      by (stands a n) = at s a h
      by (pedalled a n l d) = at (with_voice s (mark s.voice)) a h
      by (loosed a n o) = at (with_voice s (release s.voice)) a (λ on q. let-go s.voice s.voice.stage)
      by (freed a n o) = at (free s.voice) a (λ on q. absurd (never on))
      by (started u a n w t) = absurd (none u w)
      by (goes ram rom a) = at s (a ∙ ap (λ (m : ℕ). slot_after ram rom e m s) f) h

  -- with the pedal up, control 123 releases all that are held; and what is marked is under a pedal
  looses : (e : Engine) (i : ℕ) → c ≤ 15 → pedal_down e c ≡ false → MarksUnderPedal e → Loosed (slot_at (next (Calls.Control c 123 0) e) i)
  unfolding release held of_channel
  looses e i h up marks =
      subst Loosed (sym (notes-slot c e i h)) (by (held c s) refl)
    where
      s : Slot
      s = slot_at e i

      free_of : (b : Bool) → s.voice.marked ≡ b → s.sounding ≡ true → s.voice.channel ≡ c → b ≡ false
      free_of false q on w = refl
      free_of true q on w = absurd (never (sym up ∙ subst (λ (d : ℕ). pedal_down e d ≡ true) w (marks i on q)))

      loose : (r : Bool) → released s.voice.stage ≡ r → held c s ≡ false → s.sounding ≡ true → s.voice.channel ≡ c → r ≡ true
      loose true r q on w = refl
      loose false r q on w = absurd (never (sym q ∙ rw (on, eq-eqb s.voice.channel c w, r, free_of s.voice.marked refl on w) refl))

      by : (b : Bool) → held c s ≡ b → Loosed (let_off (pedal_down e c) (held c) s)
      by true q =
          subst Loosed (sym (let_off-picked (pedal_down e c) (held c) s q ∙ ap (λ (d : Bool). with_voice s (cond d (mark s.voice) (release s.voice))) up))
          (λ on w. let-go s.voice s.voice.stage)
      by false q = subst Loosed (sym (off-keeps (pedal_down e c) (held c) s q)) (λ on w. loose (released s.voice.stage) refl q on w)

-- ---- pedals

-- a channel set to one whose pedal is at 0
set-up : (cs : List Channel) (c : ℕ) (x : Channel) → x.pedal ≡ 0 → (get_or (set cs c x) c no_channel).pedal ≡ 0
set-up [] c x h = refl
set-up (y ∷ cs) zero x h = h
set-up (y ∷ cs) (suc c) x h = set-up cs c x h

-- control 64 with 0 puts it there
lifted : (c : ℕ) (e : Engine) → c ≤ 15 → (channel_at (next (Calls.Control c 64 0) e) c).pedal ≡ 0
lifted c e h =
    ap (λ (cs : List Channel). (get_or cs c no_channel).pedal) (lifts c 0 e h (omega arith)).channels
    ∙ set-up e.channels c (with_pedal (channel_at e c) 0) refl

-- control 123 sets no channel
notes-channels : (c : ℕ) (e : Engine) → c ≤ 15 → (next (Calls.Control c 123 0) e).channels ≡ e.channels
unfolding off
notes-channels c e h = ap (λ (a : Answered). a.engine.channels) (notes-is c e h)

-- a channel let go: its pedal is at 0, its voices are released, and other channels' too if they were
hush-pedal : (n c : ℕ) (e : Engine) → n ≤ 15 → (c ≡ n) ⊎ ((channel_at e c).pedal ≡ 0) → (channel_at (hushed n e) c).pedal ≡ 0
unfolding hushed
hush-pedal n c e h q =
    ap (λ (cs : List Channel). (get_or cs c no_channel).pedal) (notes-channels n (next (Calls.Control n 64 0) e) h) ∙ by (eqb c n) refl q
  where
    by : (b : Bool) → eqb c n ≡ b → (c ≡ n) ⊎ ((channel_at e c).pedal ≡ 0) → (channel_at (next (Calls.Control n 64 0) e) c).pedal ≡ 0
    by true r q = subst (λ (d : ℕ). (channel_at (next (Calls.Control n 64 0) e) d).pedal ≡ 0) (sym (eqb-true c n r)) (lifted n e h)
    by false r (inl w) = absurd (eqb-false c n r w)
    by false r (inr w) = ap (λ (x : Channel). x.pedal) (channels-stand (Calls.Control n 64 0) e c (eqb-false c n r)) ∙ w

hush-loosed : (n c : ℕ) (e : Engine) → n ≤ 15 → MarksUnderPedal e → (c ≡ n) ⊎ ((i : ℕ) → Loosed c (slot_at e i)) → (i : ℕ) → Loosed c (slot_at (hushed n e) i)
unfolding hushed run
hush-loosed n c e h m (inl q) i =
    let y = next (Calls.Control n 64 0) e in
    subst (λ (d : ℕ). Loosed d (slot_at (next (Calls.Control n 123 0) y) i)) (sym q)
    (looses n y i h (ap (leb 64) (lifted n e h)) (marks-run (Calls.Control n 64 0 ∷ []) e m))
hush-loosed n c e h m (inr q) i =
    let y = next (Calls.Control n 64 0) e in
    keeps c (Calls.Control n 123 0) y i refl (λ u a. absurd a) (keeps c (Calls.Control n 64 0) e i refl (λ u a. absurd a) (q i))

-- all of them
split-last : (c n : ℕ) → c < suc n → (c ≡ n) ⊎ (c < n)
split-last c n h = by (eqb c n) refl
  where
    by : (b : Bool) → eqb c n ≡ b → (c ≡ n) ⊎ (c < n)
    by true q = inl (eqb-true c n q)
    by false q = inr (omega (arith, eqb-false c n q))

pub hushed-pedals : (n c : ℕ) (e : Engine) → n ≤ 16 → c < n → (channel_at (hushed_to n e) c).pedal ≡ 0
unfolding hushed_to
hushed-pedals zero c e h l = absurd (omega arith)
hushed-pedals (suc n) c e h l =
    hush-pedal n c (hushed_to n e) (omega arith) (⊎_elim (λ q. inl q) (λ k. inr (hushed-pedals n c e (omega arith) k)) (split-last c n l))

hushed-marks : (n : ℕ) (e : Engine) → MarksUnderPedal e → MarksUnderPedal (hushed_to n e)
hushed-marks n e m = subst MarksUnderPedal (sym (hushes n e).state) (marks-run _ e m)

hushed-loosed : (n c : ℕ) (e : Engine) → n ≤ 16 → c < n → MarksUnderPedal e → (i : ℕ) → Loosed c (slot_at (hushed_to n e) i)
unfolding hushed_to
hushed-loosed zero c e h l m i = absurd (omega arith)
hushed-loosed (suc n) c e h l m i =
    hush-loosed n c (hushed_to n e) (omega arith) (hushed-marks n e m)
    (⊎_elim (λ q. inl q) (λ k. inr (hushed-loosed n c e (omega arith) k m)) (split-last c n l)) i

-- ---- channels

-- as many channels as there were
pub many-channels : Lasting (λ (e : Engine). length e.channels ≡ 16)
unfolding start_in
many-channels =
    record {
      channel = λ e c x h. length-set e.channels c x ∙ h;
      slots = λ e f h. h;
      start = λ e m v h. h;
      clock = λ e t h. h;
    }

-- a call that sets one channel
set_here : (x : Call) (c : ℕ) (f : Channel → Channel) (e : Engine) → Sets x c f e → length e.channels ≡ 16 → c < 16 → channel_at (next x e) c ≡ f (channel_at e c)
set_here x c f e s n h =
    ap (λ (a : Answered). channel_at a.engine c) s ∙ get_or-set_same e.channels c (f (channel_at e c)) no_channel (omega arith)

-- a channel set as in a fresh engine, but for its pedal
fresh-here : (n : ℕ) (e : Engine) → length e.channels ≡ 16 → n < 16 → channel_at (freshened n e) n ≡ with_pedal fresh_channel (channel_at e n).pedal
unfolding freshened run
fresh-here n e h l =
    let a = next (Calls.Control n 0 0) e in
    let b = next (Calls.Program n 0) a in
    let d = next (Calls.Bend n 8192) b in
    let f = next (Calls.Control n 7 100) d in
    let k : (xs : List Call) → length (run xs e).channels ≡ 16 = λ xs. run-keeps (λ (y : Engine). length y.channels ≡ 16) many-channels xs e h in
    set_here (Calls.Control n 11 127) n (λ (c : Channel). with_expression c 127) f (sets-one n 127 f (omega arith) (omega arith)).expression
    (k (Calls.Control n 0 0 ∷ Calls.Program n 0 ∷ Calls.Bend n 8192 ∷ Calls.Control n 7 100 ∷ [])) l
    ∙ ap (λ (c : Channel). with_expression c 127) (
    set_here (Calls.Control n 7 100) n (λ (c : Channel). with_volume c 100) d (sets-one n 100 d (omega arith) (omega arith)).volume
    (k (Calls.Control n 0 0 ∷ Calls.Program n 0 ∷ Calls.Bend n 8192 ∷ [])) l
    ∙ ap (λ (c : Channel). with_volume c 100) (
    set_here (Calls.Bend n 8192) n (λ (c : Channel). with_bend c 8192) b (bend-sets n 8192 b (omega arith) (omega arith))
    (k (Calls.Control n 0 0 ∷ Calls.Program n 0 ∷ [])) l
    ∙ ap (λ (c : Channel). with_bend c 8192) (
    set_here (Calls.Program n 0) n (λ (c : Channel). with_program c 0) a (sets-one n 0 a (omega arith) (omega arith)).program
    (k (Calls.Control n 0 0 ∷ [])) l
    ∙ ap (λ (c : Channel). with_program c 0)
    (set_here (Calls.Control n 0 0) n (λ (c : Channel). with_stored c 0) e (sets-one n 0 e (omega arith) (omega arith)).stored h l))))

-- another channel stands
fresh-there : (n c : ℕ) (e : Engine) → (c ≡ n → ⊥) → channel_at (freshened n e) c ≡ channel_at e c
unfolding freshened
fresh-there n c e h =
    let a = next (Calls.Control n 0 0) e in
    let b = next (Calls.Program n 0) a in
    let d = next (Calls.Bend n 8192) b in
    let f = next (Calls.Control n 7 100) d in
    channels-stand (Calls.Control n 11 127) f c h ∙ channels-stand (Calls.Control n 7 100) d c h ∙ channels-stand (Calls.Bend n 8192) b c h
    ∙ channels-stand (Calls.Program n 0) a c h ∙ channels-stand (Calls.Control n 0 0) e c h

-- those that were not yet set stand, and those that were are fresh where their pedals were at 0
pub freshened-channels : (n c : ℕ) (e : Engine) → n ≤ 16 → length e.channels ≡ 16 → (channel_at e c).pedal ≡ 0
    → (n ≤ c → channel_at (freshened_to n e) c ≡ channel_at e c) × (c < n → channel_at (freshened_to n e) c ≡ fresh_channel)
unfolding freshened_to
freshened-channels zero c e h k up = (λ l. refl, λ l. absurd (omega arith))
freshened-channels (suc n) c e h k up =
    let t = freshened-channels n c e (omega arith) k up in
    let y = freshened_to n e in
    let z : length y.channels ≡ 16 =
    subst (λ (x : Engine). length x.channels ≡ 16) (sym (freshens n e).state) (run-keeps (λ (x : Engine). length x.channels ≡ 16) many-channels _ e k) in (
      λ l. fresh-there n c y (λ q. omega arith) ∙ t.0 (omega arith),
      λ l. ⊎_elim
          (λ (q : c ≡ n). subst (λ (d : ℕ). channel_at (freshened n y) d ≡ fresh_channel) (sym q)
          (fresh-here n y z (omega arith) ∙ ap (with_pedal fresh_channel) (ap (λ (x : Channel). x.pedal) (subst (λ (d : ℕ). channel_at y d ≡ channel_at e c) q (t.0 (omega arith))) ∙ up)))
          (λ (q : c < n). fresh-there n c y (λ w. omega arith) ∙ t.1 q) (split-last c n l),
    )

-- ---- slots that stand

-- as they were
stood : (s : Slot) → Stands s s
stood s = record { sounding = refl; channel = refl; key = refl; place = refl }

-- one after the other
stand-on : {s t u : Slot} → Stands s t → Stands t u → Stands s u
stand-on a b =
    record {
      sounding = b.sounding ∙ a.sounding;
      channel = b.channel ∙ a.channel;
      key = b.key ∙ a.key;
      place = b.place ∙ a.place;
    }

-- a slot that is let go stands
let_off-stands : (down : Bool) (picks : Slot → Bool) (s : Slot) → Stands s (let_off down picks s)
unfolding release
let_off-stands down picks s = by (picks s) refl down
  where
    by : (b : Bool) → picks s ≡ b → (d : Bool) → Stands s (let_off d picks s)
    by true q true = subst (Stands s) (sym (let_off-picked true picks s q)) (record { sounding = refl; channel = refl; key = refl; place = refl })
    by true q false = subst (Stands s) (sym (let_off-picked false picks s q)) (record { sounding = refl; channel = refl; key = refl; place = refl })
    by false q d = subst (Stands s) (sym (off-keeps d picks s q)) (stood s)

-- a channel let go
hush-stands : (n : ℕ) (e : Engine) (i : ℕ) → n ≤ 15 → Stands (slot_at e i) (slot_at (hushed n e) i)
unfolding hushed
hush-stands n e i h =
    let y = next (Calls.Control n 64 0) e in
    stand-on (by (pedal_held n (slot_at e i)) refl) (subst (Stands (slot_at y i)) (sym (notes-slot n y i h)) (let_off-stands (pedal_down y n) (held n) (slot_at y i)))
  where
    l : Lifted n 0 e
    l = lifts n 0 e h (omega arith)

    by : (b : Bool) → pedal_held n (slot_at e i) ≡ b → Stands (slot_at e i) (slot_at (next (Calls.Control n 64 0) e) i)
    by true q = subst (Stands (slot_at e i)) (let_off-picked false (pedal_held n) (slot_at e i) q ∙ sym (l.all i q)) (let_off-stands false (pedal_held n) (slot_at e i))
    by false q = subst (Stands (slot_at e i)) (sym (l.others i q)) (stood (slot_at e i))

-- all of them
pub hushed-stands : (n : ℕ) (e : Engine) (i : ℕ) → n ≤ 16 → Stands (slot_at e i) (slot_at (hushed_to n e) i)
unfolding hushed_to
hushed-stands zero e i h = stood (slot_at e i)
hushed-stands (suc n) e i h = stand-on (hushed-stands n e i (omega arith)) (hush-stands n (hushed_to n e) i (omega arith))

-- a call that sets one channel leaves the slots as they are
set-slot : (x : Call) (c : ℕ) (f : Channel → Channel) (e : Engine) (i : ℕ) → Sets x c f e → slot_at (next x e) i ≡ slot_at e i
set-slot x c f e i s = ap (λ (a : Answered). slot_at a.engine i) s

pub freshened-slots : (n : ℕ) (e : Engine) (i : ℕ) → n ≤ 16 → slot_at (freshened_to n e) i ≡ slot_at e i
unfolding freshened_to freshened
freshened-slots zero e i h = refl
freshened-slots (suc n) e i h =
    let y = freshened_to n e in
    let a = next (Calls.Control n 0 0) y in
    let b = next (Calls.Program n 0) a in
    let d = next (Calls.Bend n 8192) b in
    let f = next (Calls.Control n 7 100) d in
    set-slot (Calls.Control n 11 127) n (λ (c : Channel). with_expression c 127) f i (sets-one n 127 f (omega arith) (omega arith)).expression
    ∙ set-slot (Calls.Control n 7 100) n (λ (c : Channel). with_volume c 100) d i (sets-one n 100 d (omega arith) (omega arith)).volume
    ∙ set-slot (Calls.Bend n 8192) n (λ (c : Channel). with_bend c 8192) b i (bend-sets n 8192 b (omega arith) (omega arith))
    ∙ set-slot (Calls.Program n 0) n (λ (c : Channel). with_program c 0) a i (sets-one n 0 a (omega arith) (omega arith)).program
    ∙ set-slot (Calls.Control n 0 0) n (λ (c : Channel). with_stored c 0) y i (sets-one n 0 y (omega arith) (omega arith)).stored
    ∙ freshened-slots n e i (omega arith)

-- ---- all channels

-- after any run of calls, every voice that sounds is released once all channels are let go
pub all-hushed : (xs : List Call) → AllReleased (hushed_to 16 (run xs fresh))
all-hushed xs i on =
    let e = run xs fresh in
    let y = hushed_to 16 e in
    let w : y ≡ run (xs ++ hush_calls 16) fresh = (hushes 16 e).state ∙ sym (run-append xs (hush_calls 16) fresh) in
    let small : (voice_in i y).channel ≤ 15 =
    subst (λ (z : Engine). (slot_at z i).sounding ≡ true → (voice_in i z).channel ≤ 15) (sym w)
    (from-fresh (λ (u : Voice). u.channel ≤ 15) (λ u g p m h. h) (λ x z u f. (came x z u f).small) (xs ++ hush_calls 16) i) on in
    hushed-loosed 16 (voice_in i y).channel e (omega arith) (omega arith) (no-mark xs) i on refl

-- and so it stays while they are set
pub all-freshened : (e : Engine) → AllReleased e → AllReleased (freshened_to 16 e)
all-freshened e h i on =
    let q = freshened-slots 16 e i (omega arith) in
    subst (λ (s : Slot). released s.voice.stage ≡ true) (sym q) (h i (sym (ap (λ (s : Slot). s.sounding) q) ∙ on))
