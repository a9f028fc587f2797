-- Demand 1: refusals change nothing; the numbers of render, note-on, the other calls, admission and listing, each exactly in its case.
use Rattle.std.specs.Prelude.{Result, Ok, Err}
use mathlib.Core.Path.{◌≡◌, refl, sym, ap, ◌∙◌, subst}
use Prim.Native.Nat.{ℕ, ◌*◌, ◌<◌, ◌≤◌, zero, suc, ◌+◌, ◌-◌}
use mathlib.Core.Bool.{Bool, true, false, cond, ◌||◌, or-true, ◌&&◌, not}
use lib.Dec.{eqb, ltb, T, leb}
use mathlib.Core.List.{List, ◌++◌, [], ◌∷◌}
use lib.Ieee.{Float}
use lib.IntN.{ℤ}
use lib.ListN.{length, drop, get_or}
use borrow.Author.Tests.{eqb-true, ltb-true, lt-ltb, ltb-false, le-ltb, ne_eqb, eqb-false, leb-true, leb-false, le-leb, lt-leb, not-true, not-false, eq-eqb}
use mathlib.Core.Logic.{◌⊎◌, inl, inr, ⊎_elim}
use native.Mathlib.Omega.{arith}
use native.Mathlib.Nat.{not-suc-le-zero, le_of_suc-le-suc}
use Rattle.state.specs.declared.Engine.{Engine}
use Rattle.state.specs.Answers.{Answered}
use Rattle.state.specs.Answers.{refused, answer, done, past_one, past_two, past_bend}
use Rattle.events.specs.Keys.{off_key, note_off}
use Rattle.engine.specs.Rendering.{output, distance, played, render_number, render, rendered, lacking}
use Rattle.promises.specs.Calls.{Call, does, lent, written}
use Rattle.promises.specs.Demand1.{Untouched, RefusalsChangeNothing, Played, LayerPast, SlotPast, RenderNumbers, HasPreset, NoteOnNumbers, OthersNumbers, NoOther, Given, AdmissionNumbers, ListingNumbers, ListingInOrder}
use Rattle.state.specs.Slots.{with_clock, slots_of, slot_at}
use Rattle.state.specs.Channels.{channel_at, with_channel}
use Rattle.events.specs.Controls.{controlled, control_change}
use Rattle.events.specs.Programs.{with_program, program_change}
use Rattle.events.specs.Bends.{with_bend, pitch_bend}
use Rattle.events.specs.Striking.{layer_voices, note_on_number, note_on, bank_from, Bank, channel_bank}
use Rattle.events.specs.Starting.{struck, any_past}
use Rattle.state.proofs.AnswersLaws.{or_no}
use Rattle.state.specs.Reach.{memory, ends_past}
use Rattle.voice.specs.declared.Slot.{Slot}
use Rattle.voice.specs.Changes.{blank, free}
use Rattle.promises.proofs.EachSlot.{never, and_both}
use Rattle.voice.specs.declared.Voice.{Voice}
use Rattle.bank.specs.Admission.{admitted, fault_number, fault_of}
use Rattle.bank.specs.Rules.{Admitted}
use Rattle.bank.proofs.AdmittedLaws.{admitted-rules, rules-admitted}
use Rattle.voice.specs.declared.Stage.{Stage}
use Rattle.voice.specs.declared.Stage.TheVariants.{Delay, Attack, Hold, Decay, Sustain, Release}
use Rattle.voice.specs.Panel.{stage_shown, shown_number as panel_number, shown}
use Rattle.state.specs.Board.{ask}
use Rattle.bank.specs.declared.Listed.TheVariants.{Refused, End, Row}
use Rattle.bank.specs.declared.Fault.{Fault}
use Rattle.bank.proofs.RulesLaws.{rules-fine}
use Rattle.records.specs.Sides.{parts_of}
use Rattle.records.specs.Headers.{program_of, bank_of as bank_number}
use Rattle.bank.specs.Listing.{listed, listed_number, listed_values}
use Rattle.reader.proofs.ReaderLaws.{given-listed, listed-row, listed-end}
use Rattle.promises.specs.Calls as Calls
use Rattle.voice.specs.declared.Shown.TheVariants as is

-- done, or refused with the state as it was
abbrev Same : Engine → Answered → Type 0
Same e a = (a.status ≡ 0 → ⊥) → (a.count ≡ 0) × (a.engine ≡ e)

fine : (e : Engine) (a : Answered) → a.status ≡ 0 → Same e a
fine e a h n = absurd (n h)

no : (n : ℕ) (e : Engine) → Same e (refused n e)
no n e h = (refl, refl)

choose : (e : Engine) (b : Bool) (x y : Answered) → Same e x → Same e y → Same e (cond b x y)
choose e true x y h k = h
choose e false x y h k = k

answers : (n : ℕ) (e : Engine) (a : Answered) → Same e a → Same e (answer n e a)
answers n e a h = choose e (eqb n 0) a (refused n e) h (no n e)

off-fine : (c k : ℕ) (e : Engine) → Same e (off_key c k e)
unfolding off_key
off-fine c k e = fine e (off_key c k e) refl

untouched : (x : Call) (e : Engine) → written x e ≡ lent x → Same e (does x e) → ((does x e).status ≡ 0 → ⊥) → Untouched x e
untouched x e w s h = record { count = (s h).0; state = (s h).1; output = w }

-- the output of a render that is refused
kept : (to : ℕ) (ram rom : List ℤ) (out : List Float) (e : Engine) → ((render to ram rom (length out) e).status ≡ 0 → ⊥) → rendered to ram rom out e ≡ out
unfolding render rendered
kept to ram rom out e h = by (eqb (render_number to ram rom (length out) e) 0) h
  where
    by : (b : Bool) → ((cond b (done 0 (with_clock (played ram rom (distance e to) e) to)) (refused (render_number to ram rom (length out) e) e)).status ≡ 0 → ⊥)
        → cond b (output ram rom e (distance e to) ++ drop (2 * distance e to) out) out ≡ out
    by true h = absurd (h refl)
    by false h = refl

-- call by call: each is refused as it was, or done
pub changes-nothing : RefusalsChangeNothing
unfolding note_off control_change program_change pitch_bend note_on render
changes-nothing (Calls.NoteOn b ram rom c k v) e h =
    untouched (Calls.NoteOn b ram rom c k v) e refl
    (answers (cond (past_two c k v) 2 0) e _
    (choose e (eqb v 0) _ _ (off-fine c k e)
    (answers (note_on_number (bank_from b) ram rom c k v e) e _ (fine e (done (length (layer_voices (bank_from b) c k v e)) (struck c (layer_voices (bank_from b) c k v e) e).engine) refl)))) h
changes-nothing (Calls.NoteOff c k) e h =
    untouched (Calls.NoteOff c k) e refl (answers (cond (past_one c k) 2 0) e (off_key c k e) (off-fine c k e)) h
changes-nothing (Calls.Control c n v) e h =
    untouched (Calls.Control c n v) e refl
    (answers (cond (past_two c n v) 2 0) e (done 0 (controlled c n v e)) (fine e (done 0 (controlled c n v e)) refl)) h
changes-nothing (Calls.Program c p) e h =
    let x = done 0 (with_channel e c (with_program (channel_at e c) p)) in
    untouched (Calls.Program c p) e refl (answers (cond (past_one c p) 2 0) e x (fine e x refl)) h
changes-nothing (Calls.Bend c b) e h =
    let x = done 0 (with_channel e c (with_bend (channel_at e c) b)) in
    untouched (Calls.Bend c b) e refl (answers (cond (past_bend c b) 2 0) e x (fine e x refl)) h
changes-nothing (Calls.Render to ram rom out) e h =
    let x = done 0 (with_clock (played ram rom (distance e to) e) to) in
    untouched (Calls.Render to ram rom out) e (kept to ram rom out e h) (answers (render_number to ram rom (length out) e) e x (fine e x refl)) h
changes-nothing (Calls.Ask i) e h = record { count = refl; state = refl; output = refl }

-- ---- render's numbers

-- the status of an answer that is done or refused is the number of its tests
number_is : (n : ℕ) (e : Engine) (k : ℕ) (x : Engine) → (answer n e (done k x)).status ≡ n
number_is n e k x = by (eqb n 0) refl
  where
    by : (b : Bool) → eqb n 0 ≡ b → (cond b (done k x) (refused n e)).status ≡ n
    by true h = sym (eqb-true n 0 h)
    by false h = refl

-- ---- tests

or_split : (a b : Bool) → (a || b) ≡ true → (a ≡ true) ⊎ (b ≡ true)
or_split true b e = inl refl
or_split false b e = inr e

-- a test of ranges, and what it says
one-past : (c k m : ℕ) → (ltb 15 c || ltb m k) ≡ true → (15 < c) ⊎ (m < k)
one-past c k m e = ⊎_elim (λ h. inl (ltb-true 15 c h)) (λ h. inr (ltb-true m k h)) (or_split (ltb 15 c) (ltb m k) e)

past_one_lem : (c k m : ℕ) → (15 < c) ⊎ (m < k) → (ltb 15 c || ltb m k) ≡ true
past_one_lem c k m h =
    ⊎_elim (λ l. ap (λ (b : Bool). b || ltb m k) (lt-ltb 15 c l)) (λ l. ap (λ (b : Bool). ltb 15 c || b) (lt-ltb m k l) ∙ or-true (ltb 15 c)) h

two_past : (c k v : ℕ) → past_two c k v ≡ true → (15 < c) ⊎ (127 < k) ⊎ (127 < v)
two_past c k v e =
    ⊎_elim (λ h. ⊎_elim (λ a. inl a) (λ a. inr (inl a)) (one-past c k 127 h)) (λ h. inr (inr (ltb-true 127 v h))) (or_split (ltb 15 c || ltb 127 k) (ltb 127 v) e)

past_two_lem : (c k v : ℕ) → (15 < c) ⊎ (127 < k) ⊎ (127 < v) → past_two c k v ≡ true
past_two_lem c k v h =
    ⊎_elim (λ a. ap (λ (b : Bool). b || ltb 127 v) (past_one_lem c k 127 (inl a)))
    (λ r. ⊎_elim (λ a. ap (λ (b : Bool). b || ltb 127 v) (past_one_lem c k 127 (inr a)))
    (λ a. ap (λ (b : Bool). ltb 15 c || ltb 127 k || b) (lt-ltb 127 v a) ∙ or-true (ltb 15 c || ltb 127 k)) r) h

-- within range
within : (c k v : ℕ) → past_two c k v ≡ false → (c ≤ 15) × (k ≤ 127) × (v ≤ 127)
within c k v e =
    let a = or_no (ltb 15 c || ltb 127 k) (ltb 127 v) e in
    let b = or_no (ltb 15 c) (ltb 127 k) a.0 in
    (ltb-false 15 c b.0, ltb-false 127 k b.1, ltb-false 127 v a.1)

in-range : (c k v : ℕ) → Played c k v → past_two c k v ≡ false
in-range c k v h = simp (le-ltb 15 c h.0, le-ltb 127 k h.1, le-ltb 127 v h.3)

some : (v : ℕ) → eqb v 0 ≡ false → 0 < v
some zero e = absurd (subst (λ (x : Bool). T x) e tt)
some (suc v) e = omega arith

none : (v : ℕ) → 0 < v → eqb v 0 ≡ false
none v h = ne_eqb v 0 (λ e. omega arith)

-- a test that cannot hold
unless : (b : Bool) → (b ≡ true → ⊥) → b ≡ false
unless true k = absurd (k refl)
unless false k = refl

-- a chain of tests gave n: a test of another number did not hold, and the rest gave n
peel : (a : Bool) (m r n : ℕ) → eqb m n ≡ false → cond a m r ≡ n → (a ≡ false) × (r ≡ n)
peel true m r n d e = absurd (eqb-false m n d e)
peel false m r n d e = (refl, e)

-- the test of n held, where the rest does not give n
hit : (a : Bool) (n r : ℕ) → cond a n r ≡ n → (r ≡ n → ⊥) → a ≡ true
hit true n r e k = refl
hit false n r e k = absurd (k e)

-- two tests, and 0 behind them
two-tests : (a b : Bool) (x y n : ℕ) → eqb x n ≡ false → eqb y n ≡ false → eqb 0 n ≡ false → cond a x (cond b y 0) ≡ n → ⊥
two-tests a b x y n p q z e = eqb-false 0 n z (peel b y 0 n q (peel a x (cond b y 0) n p e).1).1

-- render's tests in their order
abbrev pick : (a b c d : Bool) → ℕ
pick a b c d = cond a 5 (cond b 6 (cond c 7 (cond d 8 0)))

-- ---- windows that end past their memories

-- one of the slots sounds and its window ends past its memory
record Lacks (ram rom : List ℤ) (ss : List Slot) : Type 0 where
  slot : ℕ
  sounds : (get_or ss slot (free blank)).sounding ≡ true
  past : length (memory ram rom (get_or ss slot (free blank)).voice) < (get_or ss slot (free blank)).voice.end

lacks : (ram rom : List ℤ) (ss : List Slot) → lacking ram rom ss ≡ true → Lacks ram rom ss
unfolding lacking
lacks ram rom [] e = absurd (never e)
lacks ram rom (s ∷ ss) e = ⊎_elim here (λ k. deeper (lacks ram rom ss k)) (or_split (s.sounding && ends_past ram rom s.voice) (lacking ram rom ss) e)
  where
    here : (s.sounding && ends_past ram rom s.voice) ≡ true → Lacks ram rom (s ∷ ss)
    here k = let b = and_both s.sounding (ends_past ram rom s.voice) k in record { slot = 0; sounds = b.0; past = ltb-true _ _ b.1 }

    deeper : Lacks ram rom ss → Lacks ram rom (s ∷ ss)
    deeper r = record { slot = suc r.slot; sounds = r.sounds; past = r.past }

lacks-back : (ram rom : List ℤ) (ss : List Slot) (i : ℕ) → (get_or ss i (free blank)).sounding ≡ true
    → length (memory ram rom (get_or ss i (free blank)).voice) < (get_or ss i (free blank)).voice.end → lacking ram rom ss ≡ true
unfolding lacking
lacks-back ram rom [] i a l = absurd (never a)
lacks-back ram rom (s ∷ ss) zero a l = simp (a, lt-ltb (length (memory ram rom s.voice)) s.voice.end l)
lacks-back ram rom (s ∷ ss) (suc i) a l =
    ap (λ (b : Bool). s.sounding && ends_past ram rom s.voice || b) (lacks-back ram rom ss i a l) ∙ or-true (s.sounding && ends_past ram rom s.voice)

any-past : (ram rom : List ℤ) (vs : List Voice) → any_past ram rom vs ≡ true → LayerPast ram rom vs
unfolding any_past
any-past ram rom [] e = absurd (never e)
any-past ram rom (v ∷ vs) e = ⊎_elim here (λ k. deeper (any-past ram rom vs k)) (or_split (ends_past ram rom v) (any_past ram rom vs) e)
  where
    here : ends_past ram rom v ≡ true → LayerPast ram rom (v ∷ vs)
    here k = record { layer = 0; one = omega arith; past = ltb-true _ _ k }

    deeper : LayerPast ram rom vs → LayerPast ram rom (v ∷ vs)
    deeper r = record { layer = suc r.layer; one = omega (arith, r.one); past = r.past }

past-any : (ram rom : List ℤ) (vs : List Voice) (i : ℕ) → i < length vs → length (memory ram rom (get_or vs i blank)) < (get_or vs i blank).end → any_past ram rom vs ≡ true
unfolding any_past
past-any ram rom [] i n l = absurd (not-suc-le-zero n)
past-any ram rom (v ∷ vs) zero n l = simp (lt-ltb (length (memory ram rom v)) v.end l)
past-any ram rom (v ∷ vs) (suc i) n l =
    ap (λ (b : Bool). ends_past ram rom v || b) (past-any ram rom vs i (le_of_suc-le-suc n) l) ∙ or-true (ends_past ram rom v)

-- ---- render's numbers

-- the status of a render
pub render-status : (to : ℕ) (ram rom : List ℤ) (out : List Float) (e : Engine) → (render to ram rom (length out) e).status
    ≡ pick (leb 2147483648 (distance e to)) (ltb 4096 (distance e to)) (ltb (length out) (2 * distance e to)) (lacking ram rom (slots_of e))
unfolding render render_number
render-status to ram rom out e =
    number_is (pick (leb 2147483648 (distance e to)) (ltb 4096 (distance e to)) (ltb (length out) (2 * distance e to)) (lacking ram rom (slots_of e))) e 0
    (with_clock (played ram rom (distance e to) e) to)

-- each number by the tests in front of it, and back
pub render-numbers : (to : ℕ) (ram rom : List ℤ) (out : List Float) (e : Engine) → RenderNumbers to ram rom out e
render-numbers to ram rom out e =
    let d = distance e to in
    let a = leb 2147483648 d in
    let b = ltb 4096 d in
    let c = ltb (length out) (2 * d) in
    let l = lacking ram rom (slots_of e) in
    let s = render-status to ram rom out e in
    record {
      five = (
        λ h. leb-true 2147483648 d (hit a 5 _ (sym s ∙ h) (λ k. two-tests c l 7 8 5 refl refl refl (peel b 6 _ 5 refl k).1)),
        λ h. s ∙ simp (le-leb 2147483648 d h),
      );
      six = (
        λ h. let p = peel a 5 _ 6 refl (sym s ∙ h) in (leb-false 2147483648 d p.0, ltb-true 4096 d (hit b 6 _ p.1 (λ k. two-tests c l 7 8 6 refl refl refl k))),
        λ h. s ∙ simp (lt-leb 2147483648 d h.0, lt-ltb 4096 d h.1),
      );
      seven = (
        λ h. let p = peel b 6 _ 7 refl (peel a 5 _ 7 refl (sym s ∙ h)).1 in
            (ltb-false 4096 d p.0, ltb-true (length out) (2 * d) (hit c 7 _ p.1 (λ k. eqb-false 0 7 refl (peel l 8 0 7 refl k).1))),
        λ h. s ∙ simp (lt-leb 2147483648 d (low d h.0), le-ltb 4096 d h.0, lt-ltb (length out) (2 * d) h.1),
      );
      eight = (
        λ h. let p = peel b 6 _ 8 refl (peel a 5 _ 8 refl (sym s ∙ h)).1 in let q = peel c 7 _ 8 refl p.1 in
            (ltb-false 4096 d p.0, ltb-false (length out) (2 * d) q.0, slot-past (hit l 8 0 q.1 (eqb-false 0 8 refl))),
        λ h. s ∙ simp (lt-leb 2147483648 d (low d h.0), le-ltb 4096 d h.0, le-ltb (length out) (2 * d) h.1, past-slot h.2),
      );
      done = (
        λ h. let p = peel b 6 _ 0 refl (peel a 5 _ 0 refl (sym s ∙ h)).1 in let q = peel c 7 _ 0 refl p.1 in
            (ltb-false 4096 d p.0, ltb-false (length out) (2 * d) q.0, λ k. never (sym (peel l 8 0 0 refl q.1).0 ∙ past-slot k)),
        λ h. s ∙ simp (lt-leb 2147483648 d (low d h.0), le-ltb 4096 d h.0, le-ltb (length out) (2 * d) h.1, unless l (λ k. h.2 (slot-past k))),
      );
    }
  where
    low : (d : ℕ) → d ≤ 4096 → d < 2147483648
    low d h = omega arith

    slot-past : lacking ram rom (slots_of e) ≡ true → SlotPast ram rom e
    slot-past h = let r = lacks ram rom (slots_of e) h in record { slot = r.slot; sounds = r.sounds; past = r.past }

    past-slot : SlotPast ram rom e → lacking ram rom (slots_of e) ≡ true
    past-slot r = lacks-back ram rom (slots_of e) r.slot r.sounds r.past

-- ---- note-on's numbers

-- its tests in their order
abbrev pub choice : (t z a p l w : Bool) → ℕ
choice t z a p l w = cond t 2 (cond z 0 (cond a 1 (cond p 3 (cond l 4 (cond w 8 0)))))

-- the status of a note-on
pub status-is : (b : Bank) (ram rom : List ℤ) (c k v : ℕ) (e : Engine) → (note_on b ram rom c k v e).status
    ≡ choice (past_two c k v) (eqb v 0) (not b.admitted) (not (b.has_preset (channel_bank e c) (channel_at e c).program)) (ltb 32 (length (layer_voices b c k v e))) (any_past ram rom (layer_voices b c k v e))
unfolding note_on note_on_number off_key
status-is b ram rom c k v e =
    by (past_two c k v) (eqb v 0) (cond (not b.admitted) 1 (cond (not (b.has_preset (channel_bank e c) (channel_at e c).program)) 3 (cond (ltb 32 (length (layer_voices b c k v e))) 4 (cond (any_past ram rom (layer_voices b c k v e)) 8 0))))
  where
    by : (t z : Bool) (n : ℕ) → (answer (cond t 2 0) e (cond z (off_key c k e) (answer n e (done (length (layer_voices b c k v e)) (struck c (layer_voices b c k v e) e).engine)))).status ≡ cond t 2 (cond z 0 n)
    by true z n = refl
    by false true n = refl
    by false false n = number_is n e (length (layer_voices b c k v e)) (struck c (layer_voices b c k v e) e).engine

-- a bank's bytes are admitted as the rules say
admit-rules : (b : List ℕ) → (bank_from b).admitted ≡ true → Admitted b
unfolding bank_from
admit-rules b h = admitted-rules b h

-- .. and back
pub rules-admit : (b : List ℕ) → Admitted b → (bank_from b).admitted ≡ true
unfolding bank_from
rules-admit b a = rules-admitted b a

-- each number by the tests in front of it, and back
pub note-on-numbers : (b : List ℕ) (ram rom : List ℤ) (c k v : ℕ) (e : Engine) → NoteOnNumbers b ram rom c k v e
unfolding bank_from
note-on-numbers b ram rom c k v e =
    record {
      two = (
        λ h. two_past c k v (hit t 2 _ (sym s ∙ h) (λ q. two-tests l w 4 8 2 refl refl refl (peel p 3 _ 2 refl (peel a 1 _ 2 refl (peel z 0 _ 2 refl q).1).1).1)),
        λ h. s ∙ simp (past_two_lem c k v h),
      );
      one = (
        λ h. let g = played 1 refl refl (sym s ∙ h) in (g.0, λ m. never (sym (not-true (bank_from b).admitted (hit a 1 _ g.1 (λ q. two-tests l w 4 8 1 refl refl refl (peel p 3 _ 1 refl q).1))) ∙ rules-admit b m)),
        λ h. s ∙ simp (in-range c k v h.0, none v h.0.2, unless (bank_from b).admitted (λ y. h.1 (admit-rules b y))),
      );
      three = (
        λ h. let g = played 3 refl refl (sym s ∙ h) in let q = peel a 1 _ 3 refl g.1 in
            (g.0, admit-rules b (not-false (bank_from b).admitted q.0), λ y. never (sym (not-true _ (hit p 3 _ q.1 (λ r. two-tests l w 4 8 3 refl refl refl r))) ∙ y)),
        λ h. s ∙ simp (in-range c k v h.0, none v h.0.2, rules-admit b h.1, unless ((bank_from b).has_preset (channel_bank e c) (channel_at e c).program) h.2),
      );
      four = (
        λ h. let g = played 4 refl refl (sym s ∙ h) in let q = peel a 1 _ 4 refl g.1 in let r = peel p 3 _ 4 refl q.1 in
            (g.0, admit-rules b (not-false (bank_from b).admitted q.0), not-false _ r.0, ltb-true 32 _ (hit l 4 _ r.1 (λ y. eqb-false 0 4 refl (peel w 8 0 4 refl y).1))),
        λ h. s ∙ simp (in-range c k v h.0, none v h.0.2, rules-admit b h.1, h.2, lt-ltb 32 _ h.3),
      );
      eight = (
        λ h. let g = played 8 refl refl (sym s ∙ h) in let q = peel a 1 _ 8 refl g.1 in let r = peel p 3 _ 8 refl q.1 in let y = peel l 4 _ 8 refl r.1 in
            (g.0, admit-rules b (not-false (bank_from b).admitted q.0), not-false _ r.0, ltb-false 32 _ y.0, any-past ram rom (layer_voices (bank_from b) c k v e) (hit w 8 0 y.1 (eqb-false 0 8 refl))),
        λ h. s ∙ simp (in-range c k v h.0, none v h.0.2, rules-admit b h.1, h.2, le-ltb 32 _ h.3, past-any ram rom (layer_voices (bank_from b) c k v e) h.4.layer h.4.one h.4.past),
      );
      done = (λ h. well z refl (peel t 2 _ 0 refl (sym s ∙ h)), ⊎_elim off on);
    }
  where
    t : Bool
    t = past_two c k v

    z : Bool
    z = eqb v 0

    a : Bool
    a = not (bank_from b).admitted

    p : Bool
    p = not ((bank_from b).has_preset (channel_bank e c) (channel_at e c).program)

    l : Bool
    l = ltb 32 (length (layer_voices (bank_from b) c k v e))

    w : Bool
    w = any_past ram rom (layer_voices (bank_from b) c k v e)

    s : (note_on (bank_from b) ram rom c k v e).status ≡ choice t z a p l w
    s = status-is (bank_from b) ram rom c k v e

    -- past the ranges, and no note-off
    played : (n : ℕ) → eqb 2 n ≡ false → eqb 0 n ≡ false → choice t z a p l w ≡ n → Played c k v × (cond a 1 (cond p 3 (cond l 4 (cond w 8 0))) ≡ n)
    played n d f h =
        let x = peel t 2 _ n d h in
        let y = peel z 0 _ n f x.1 in
        let r = within c k v x.0 in
        ((r.0, r.1, some v y.0, r.2), y.1)

    Well : Type 0
    Well =
        ((c ≤ 15) × (k ≤ 127) × (v ≡ 0))
        ⊎ (Played c k v × Admitted b × HasPreset b c e × (length (layer_voices (bank_from b) c k v e) ≤ 32) × (LayerPast ram rom (layer_voices (bank_from b) c k v e) → ⊥))

    well : (q : Bool) → z ≡ q → (t ≡ false) × (◌≡◌ {A = ℕ} (cond z 0 (cond a 1 (cond p 3 (cond l 4 (cond w 8 0))))) 0) → Well
    well true q h = let r = within c k v h.0 in inl (r.0, r.1, eqb-true v 0 q)
    well false q h =
        let r = within c k v h.0 in
        let x : ◌≡◌ {A = ℕ} (cond a 1 (cond p 3 (cond l 4 (cond w 8 0)))) 0 = rw q at h.1 in
        let y = peel a 1 _ 0 refl x in
        let u = peel p 3 _ 0 refl y.1 in
        let o = peel l 4 _ 0 refl u.1 in
        inr (
          (r.0, r.1, some v q, r.2),
          admit-rules b (not-false (bank_from b).admitted y.0),
          not-false _ u.0,
          ltb-false 32 _ o.0,
          λ f. never (sym (peel w 8 0 0 refl o.1).0 ∙ past-any ram rom (layer_voices (bank_from b) c k v e) f.layer f.one f.past),
        )

    off : (c ≤ 15) × (k ≤ 127) × (v ≡ 0) → (note_on (bank_from b) ram rom c k v e).status ≡ 0
    off h = s ∙ simp (le-ltb 15 c h.0, le-ltb 127 k h.1, h.2)

    on : Played c k v × Admitted b × HasPreset b c e × (length (layer_voices (bank_from b) c k v e) ≤ 32) × (LayerPast ram rom (layer_voices (bank_from b) c k v e) → ⊥)
        → (note_on (bank_from b) ram rom c k v e).status ≡ 0
    on h = s ∙ simp (in-range c k v h.0, none v h.0.2, rules-admit b h.1, h.2, le-ltb 32 _ h.3, unless w (λ y. h.4 (any-past ram rom (layer_voices (bank_from b) c k v e) y)))

-- ---- the others

two-when : (b : Bool) → ◌≡◌ {A = ℕ} (cond b 2 0) 2 → b ≡ true
two-when true e = refl
two-when false e = absurd (eqb-false 0 2 refl e)

when-two : (b : Bool) → b ≡ true → ◌≡◌ {A = ℕ} (cond b 2 0) 2
when-two b e = ap (λ (x : Bool). two x) e
  where
    two : Bool → ℕ
    two x = cond x 2 0

stage-fine : (v : Voice) (s : Stage) → panel_number (stage_shown v s) ≡ 0
stage-fine v (Delay left) = refl
stage-fine v (Attack t) = refl
stage-fine v (Hold t) = refl
stage-fine v (Decay t) = refl
stage-fine v Sustain = refl
stage-fine v (Release a t) = refl

shown-fine : (s : Slot) → panel_number (shown s) ≡ 0
unfolding shown
shown-fine s = by s.sounding
  where
    by : (b : Bool) → panel_number (cond b (stage_shown s.voice s.voice.stage) is.Free) ≡ 0
    by true = stage-fine s.voice s.voice.stage
    by false = refl

ask-number : (i : ℕ) (e : Engine) → panel_number (ask i e) ≡ cond (ltb 31 i) 2 0
unfolding ask
ask-number i e = by (ltb 31 i)
  where
    by : (b : Bool) → panel_number (cond b is.Refused (shown (slot_at e i))) ≡ cond b 2 0
    by true = refl
    by false = shown-fine (slot_at e i)

-- each has one test
pub others-numbers : OthersNumbers
unfolding note_off off_key control_change program_change pitch_bend
others-numbers e c k v =
    let off = number_is (cond (past_one c k) 2 0) e (off_key c k e).count (off_key c k e).engine in
    let con = number_is (cond (past_two c k v) 2 0) e 0 (controlled c k v e) in
    let pro = number_is (cond (past_one c k) 2 0) e 0 (with_channel e c (with_program (channel_at e c) k)) in
    let ben = number_is (cond (past_bend c k) 2 0) e 0 (with_channel e c (with_bend (channel_at e c) k)) in
    let pan = ask-number c e in (
      (λ h. one-past c k 127 (two-when (past_one c k) (sym off ∙ h)), λ h. off ∙ when-two (past_one c k) (past_one_lem c k 127 h)),
      (λ h. two_past c k v (two-when (past_two c k v) (sym con ∙ h)), λ h. con ∙ when-two (past_two c k v) (past_two_lem c k v h)),
      (λ h. one-past c k 127 (two-when (past_one c k) (sym pro ∙ h)), λ h. pro ∙ when-two (past_one c k) (past_one_lem c k 127 h)),
      (λ h. one-past c k 16383 (two-when (past_bend c k) (sym ben ∙ h)), λ h. ben ∙ when-two (past_bend c k) (past_one_lem c k 16383 h)),
      (λ h. ltb-true 31 c (two-when (ltb 31 c) (sym pan ∙ h)), λ h. pan ∙ when-two (ltb 31 c) (lt-ltb 31 c h)),
    )

-- ---- no other number

zero-or-two : (b : Bool) (n : ℕ) → n ≡ cond b 2 0 → (n ≡ 0) ⊎ (n ≡ 2)
zero-or-two true n e = inr e
zero-or-two false n e = inl e

-- the tests give no other number
pub no_other : NoOther
unfolding note_off off_key control_change program_change pitch_bend
no_other (Calls.NoteOn b ram rom c k v) e =
    by (past_two c k v) (eqb v 0) (not (bank_from b).admitted) (not ((bank_from b).has_preset (channel_bank e c) (channel_at e c).program)) (ltb 32 (length (layer_voices (bank_from b) c k v e))) (any_past ram rom (layer_voices (bank_from b) c k v e))
    (status-is (bank_from b) ram rom c k v e)
  where
    n : ℕ
    n = (note_on (bank_from b) ram rom c k v e).status

    by : (t z a p l w : Bool) → n ≡ choice t z a p l w → (n ≡ 0) ⊎ (n ≡ 1) ⊎ (n ≡ 2) ⊎ (n ≡ 3) ⊎ (n ≡ 4) ⊎ (n ≡ 8)
    by true z a p l w h = inr (inr (inl h))
    by false true a p l w h = inl h
    by false false true p l w h = inr (inl h)
    by false false false true l w h = inr (inr (inr (inl h)))
    by false false false false true w h = inr (inr (inr (inr (inl h))))
    by false false false false false true h = inr (inr (inr (inr (inr h))))
    by false false false false false false h = inl h
no_other (Calls.NoteOff c k) e = zero-or-two (past_one c k) _ (number_is (cond (past_one c k) 2 0) e (off_key c k e).count (off_key c k e).engine)
no_other (Calls.Control c k v) e = zero-or-two (past_two c k v) _ (number_is (cond (past_two c k v) 2 0) e 0 (controlled c k v e))
no_other (Calls.Program c k) e = zero-or-two (past_one c k) _ (number_is (cond (past_one c k) 2 0) e 0 (with_channel e c (with_program (channel_at e c) k)))
no_other (Calls.Bend c k) e = zero-or-two (past_bend c k) _ (number_is (cond (past_bend c k) 2 0) e 0 (with_channel e c (with_bend (channel_at e c) k)))
no_other (Calls.Render to ram rom out) e =
    by (leb 2147483648 (distance e to)) (ltb 4096 (distance e to)) (ltb (length out) (2 * distance e to)) (lacking ram rom (slots_of e)) (render-status to ram rom out e)
  where
    n : ℕ
    n = (render to ram rom (length out) e).status

    by : (a b c d : Bool) → n ≡ pick a b c d → (n ≡ 0) ⊎ (n ≡ 5) ⊎ (n ≡ 6) ⊎ (n ≡ 7) ⊎ (n ≡ 8)
    by true b c d h = inr (inl h)
    by false true c d h = inr (inr (inl h))
    by false false true d h = inr (inr (inr (inl h)))
    by false false false true h = inr (inr (inr (inr h)))
    by false false false false h = inl h
no_other (Calls.Ask i) e = zero-or-two (ltb 31 i) _ (ask-number i e)

-- ---- admission and listing

one_or_zero : (f : Result (Unit {0}) Fault) → (fault_number f ≡ 0) ⊎ (fault_number f ≡ 1)
one_or_zero (Ok u) = inl refl
one_or_zero (Err f) = inr refl

-- a number that is 0 or 1, and 0 exactly for banks that are admitted
by-rules : (b : List ℕ) (n : ℕ) → (n ≡ 0) ⊎ (n ≡ 1) → (n ≡ 0 → Admitted b) → (Admitted b → n ≡ 0) → Given n 1 (Admitted b → ⊥) × Given n 0 (Admitted b)
by-rules b n o f g = ((λ h a. eqb-false 0 1 refl (sym (g a) ∙ h), λ h. ⊎_elim (λ z. absurd (h (f z))) (λ z. z) o), (f, g))

-- by the rules of admission, each way
pub admission-numbers : AdmissionNumbers
unfolding admitted
admission-numbers b =
    by-rules b (fault_number (fault_of b)) (one_or_zero (fault_of b)) (λ h. admitted-rules b (eq-eqb (fault_number (fault_of b)) 0 h)) (λ a. ap fault_number (rules-fine b a))

-- the listing's number is admission's
list-number : (b : List ℕ) (place : ℕ) → listed_number (listed b place) ≡ cond (admitted b) 0 1
unfolding listed
list-number b place = by (admitted b) (ltb place ((parts_of b).presets.nheads - 1))
  where
    by : (a l : Bool) → listed_number (cond a (cond l (Row (program_of b (parts_of b) place) (bank_number b (parts_of b) place) (place + 1)) End) Refused) ≡ cond a 0 1
    by true true = refl
    by true false = refl
    by false l = refl

same_number : (f : Result (Unit {0}) Fault) → cond (eqb (fault_number f) 0) 0 1 ≡ fault_number f
same_number (Ok u) = refl
same_number (Err f) = refl

-- by admission
pub listing-numbers : ListingNumbers
unfolding admitted
listing-numbers b place =
    let e : listed_number (listed b place) ≡ fault_number (fault_of b) = list-number b place ∙ same_number (fault_of b) in
    rw e (admission-numbers b)

-- a next gives what stands at its place of the listing
pub listing-in-order : ListingInOrder
listing-in-order b k a =
    let well = rules-admitted b a in
    (λ h. ap listed_values (given-listed b k ∙ listed-row b k well h), λ h. given-listed b k ∙ listed-end b k well h)
