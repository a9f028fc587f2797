-- Age: `order` is the order of starting, after any run and before each layer of a call.
use Prim.Native.Nat.{ℕ, ◌<◌, ◌≤◌, suc, zero, ◌+◌}
use mathlib.Core.Path.{subst, ◌≡◌, refl, sym, ap, ◌∙◌}
use mathlib.Core.Bool.{true, Bool, false, cond}
use mathlib.Core.List.{List, ◌∷◌, [], ◌++◌, append-nil, append_assoc}
use mathlib.Core.Logic.{⊎_elim}
use lib.Dec.{eqb, ltb}
use lib.ListN.{length}
use lib.IntN.{ℤ}
use native.Mathlib.Omega.{arith}
use borrow.Author.Tests.{eqb-false, eqb-true, lt-ltb, le-ltb}
use Rattle.voice.specs.declared.Voice.{Voice}
use Rattle.state.specs.declared.Engine.{Engine}
use Rattle.state.specs.Answers.{Answered}
use Rattle.state.specs.Seats.{seat}
use Rattle.state.specs.Slots.{with_clock}
use Rattle.state.specs.Quiet.{up_from, fresh}
use Rattle.state.specs.Channels.{channel_at, with_channel}
use Rattle.state.specs.Answers.{done, refused, answer, past_two, past_one, past_bend}
use Rattle.events.specs.Keys.{off_key, off, note_off}
use Rattle.events.specs.Controls.{pedal, silence, controlled, control_change}
use Rattle.events.specs.Programs.{with_program, program_change}
use Rattle.events.specs.Bends.{with_bend, pitch_bend}
use Rattle.events.specs.Starting.{Started, start, start_all, cleared, struck}
use Rattle.events.specs.Striking.{layer_voices, note_on_number, note_on, bank_from}
use Rattle.engine.specs.Rendering.{distance, played, render_number, render}
use Rattle.promises.specs.Calls.{Call, seats, begun, run, next, starts_in, history, channel_of}
use Rattle.promises.specs.Age.{older, started_last, OfAge, OrderIsAge, AgedLayers, LayersAge}
use Rattle.promises.proofs.AgeLaws.{renewed-ordered, renewed-older}
use Rattle.promises.proofs.EachSlot.{either, answer_at, seats_at}
use Rattle.promises.proofs.Seats.{split, start-order, seat-slot, fresh-ordered}
use Rattle.promises.specs.Calls as Calls

last-append : (xs ys : List ℕ) (i j : ℕ) (b : Bool) → started_last (xs ++ ys) i j b ≡ started_last ys i j (started_last xs i j b)
unfolding started_last
last-append [] ys i j b = refl
last-append (x ∷ xs) ys i j b = last-append xs ys i j (cond (eqb x j) true (cond (eqb x i) false b))

told : (e : Engine) (n : ℕ) (a : Answered) → a.engine.order ≡ e.order → (answer n e a).engine.order ≡ e.order
told e n a k = either (λ (x : Answered). x.engine.order ≡ e.order) (eqb n 0) a (refused n e) k refl

control-order : (c n v : ℕ) (e : Engine) → (controlled c n v e).order ≡ e.order
unfolding controlled pedal silence off
control-order c n v e =
    either P (eqb n 0) _ _ refl
    (either P (eqb n 7) _ _ refl
    (either P (eqb n 11) _ _ refl
    (either P (eqb n 64) _ _ (either P (ltb v 64) _ _ refl refl)
    (either P (eqb n 120) _ _ refl
    (either P (eqb n 123) _ _ refl refl)))))
  where
    P : Engine → Type 0
    P y = y.order ≡ e.order

-- no start more
no_start : (past order : List ℕ) → OfAge past order → OfAge (past ++ []) order
no_start past order h = subst (λ (p : List ℕ). OfAge p order) (sym (append-nil past)) h

-- one layer more is one start more
start-aged : (past : List ℕ) (v : Voice) (x : Started) → OfAge past x.engine.order
    → OfAge (past ++ (seat x.engine x.mine ∷ [])) (start v x).engine.order
unfolding started_last
start-aged past v x h =
    let s = seat x.engine x.mine in
    let l = seat-slot x.engine x.mine h.0 in
    let o = start-order v x h.0 in (
      rw o (renewed-ordered s x.engine.order l h.0),
      λ i j li lj d.
          ap (λ (q : List ℕ). older q i j) o ∙ renewed-older i j d s x.engine.order l li lj h.0
          ∙ ap (λ (b : Bool). cond (eqb s j) true (cond (eqb s i) false b)) (h.1 i j li lj d)
          ∙ sym (last-append past (s ∷ []) i j (ltb i j)),
    )

-- and so are all layers
layers-aged : (vs : List Voice) (x : Started) (past : List ℕ) → OfAge past x.engine.order → OfAge (past ++ seats vs x) (start_all vs x).engine.order
unfolding start_all seats
layers-aged [] x past h = no_start past x.engine.order h
layers-aged (v ∷ vs) x past h =
    let s = seat x.engine x.mine in
    subst (λ (p : List ℕ). OfAge p (start_all vs (start v x)).engine.order) (append_assoc past (s ∷ []) (seats vs (start v x)))
    (layers-aged vs (start v x) (past ++ (s ∷ [])) (start-aged past v x h))

-- a note-on
note-on-aged : (b : List ℕ) (ram rom : List ℤ) (c k v : ℕ) (e : Engine) (past : List ℕ) → OfAge past e.order
    → OfAge (past ++ starts_in (Calls.NoteOn b ram rom c k v) e) (next (Calls.NoteOn b ram rom c k v) e).order
unfolding note_on off_key off struck cleared seats
note-on-aged b ram rom c k v e past h = by (past_two c k v) (eqb v 0) (eqb number 0) number refl
  where
    vs : List Voice
    vs = layer_voices (bank_from b) c k v e

    number : ℕ
    number = note_on_number (bank_from b) ram rom c k v e

    by : (t z q : Bool) (n : ℕ) → eqb n 0 ≡ q → OfAge (past ++ seats_at c k vs e t z q n) (answer_at c k vs e t z q n).engine.order
    by true z q n r = no_start past e.order h
    by false true q n r = no_start past e.order h
    by false false true n r = layers-aged vs (record { engine = cleared c vs e; mine = 0 }) past h
    by false false false n r = rw r (no_start past e.order h)

-- the other calls start nothing and leave the order as it is
call-aged : (x : Call) (e : Engine) (past : List ℕ) → OfAge past e.order → OfAge (past ++ starts_in x e) (next x e).order
unfolding note_off off_key off control_change program_change pitch_bend render played seats
call-aged (Calls.NoteOn b ram rom c k v) e past h = note-on-aged b ram rom c k v e past h
call-aged (Calls.NoteOff c k) e past h = rw (told e (cond (past_one c k) 2 0) (off_key c k e) refl) (no_start past e.order h)
call-aged (Calls.Control c n v) e past h =
    rw (told e (cond (past_two c n v) 2 0) (done 0 (controlled c n v e)) (control-order c n v e)) (no_start past e.order h)
call-aged (Calls.Program c p) e past h =
    rw (told e (cond (past_one c p) 2 0) (done 0 (with_channel e c (with_program (channel_at e c) p))) refl) (no_start past e.order h)
call-aged (Calls.Bend c b) e past h =
    rw (told e (cond (past_bend c b) 2 0) (done 0 (with_channel e c (with_bend (channel_at e c) b))) refl) (no_start past e.order h)
call-aged (Calls.Render to ram rom out) e past h =
    rw (told e (render_number to ram rom (length out) e) (done 0 (with_clock (played ram rom (distance e to) e) to)) refl) (no_start past e.order h)
call-aged (Calls.Ask s) e past h = no_start past e.order h

-- call by call
run-aged : (xs : List Call) (e : Engine) (past : List ℕ) → OfAge past e.order → OfAge (past ++ history xs e) (run xs e).order
unfolding run history
run-aged [] e past h = no_start past e.order h
run-aged (x ∷ xs) e past h =
    subst (λ (p : List ℕ). OfAge p (run xs (next x e)).order) (append_assoc past (starts_in x e) (history xs (next x e)))
    (run-aged xs (next x e) (past ++ starts_in x e) (call-aged x e past h))

-- the fresh order is by number
up-older : (i j a n : ℕ) → a ≤ i → a ≤ j → i < a + n → j < a + n → (i ≡ j → ⊥) → older (up_from a n) i j ≡ ltb i j
unfolding older
up-older i j a zero hi hj ki kj d = absurd (no hi ki)
  where
    no : a ≤ i → i < a + 0 → ⊥
    no h k = omega arith
up-older i j a (suc n) hi hj ki kj d = by (eqb a i) refl (eqb a j) refl (up-older i j (a + 1) n)
  where
    over : (k : ℕ) → a ≤ k → (a ≡ k → ⊥) → a + 1 ≤ k
    over k h m = ⊎_elim (λ l. omega arith) (λ l. absurd (m l)) (split a k h)

    by : (p : Bool) → eqb a i ≡ p → (q : Bool) → eqb a j ≡ q
        → (a + 1 ≤ i → a + 1 ≤ j → i < a + 1 + n → j < a + 1 + n → (i ≡ j → ⊥) → older (up_from (a + 1) n) i j ≡ ltb i j)
        → cond p true (cond q false (older (up_from (a + 1) n) i j)) ≡ ltb i j
    by true e true f r = absurd (d (sym (eqb-true a i e) ∙ eqb-true a j f))
    by true e false f r = sym (lt-ltb i j (omega (arith, eqb-true a i e, over j hj (eqb-false a j f))))
    by false e true f r = sym (le-ltb i j (omega (arith, eqb-true a j f)))
    by false e false f r = r (over i hi (eqb-false a i e)) (over j hj (eqb-false a j f)) (omega arith) (omega arith) d

fresh-older : (i j : ℕ) → i < 32 → j < 32 → (i ≡ j → ⊥) → older fresh.order i j ≡ ltb i j
unfolding fresh
fresh-older i j li lj d = up-older i j 0 32 (omega arith) (omega arith) (omega arith) (omega arith) d

-- from the fresh order on
pub order-age : OrderIsAge
unfolding started_last
order-age xs = run-aged xs fresh [] (fresh-ordered, fresh-older)

-- layer by layer; freeing the rivals moves no slot in the order
pub layers-age : LayersAge
unfolding cleared
layers-age xs x =
    layers (history xs fresh) (begun x (run xs fresh)) (record { engine = cleared (channel_of x) (begun x (run xs fresh)) (run xs fresh); mine = 0 })
    (order-age xs)
  where
    layers : (past : List ℕ) (vs : List Voice) (y : Started) → OfAge past y.engine.order → AgedLayers past vs y
    layers past [] y h = tt
    layers past (v ∷ vs) y h = (h, layers (past ++ (seat y.engine y.mine ∷ [])) vs (start v y) (start-aged past v y h))
