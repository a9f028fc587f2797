-- The score of a sequence keeps its events and its time: bridges change no U, and what is left out adds its ticks to what comes next.
use Rattle.std.proofs.Common.{Option, Some, None}
use mathlib.Core.Bool.{Bool, true, false, cond, not, ◌&&◌}
use mathlib.Core.List.{List, [], ◌∷◌}
use mathlib.Core.Path.{◌≡◌, refl, ap, subst, ◌∙◌}
use Prim.Native.Nat.{ℕ, zero, suc, ◌+◌, ◌*◌, ◌-◌, ◌<◌, ◌≤◌}
use native.Mathlib.Nat.{add-mul}
use native.Mathlib.Omega.{arith}
use borrow.Author.Tests.{ltb-false, le-ltb}
use Rattle.smf.specs.declared.Event.{Event}
use Rattle.smf.specs.declared.Item.{Item}
use Rattle.smf.specs.declared.Item.TheVariants.{Bad, End, Passed, Tempo, Channel}
use Rattle.smf.specs.Ticks.{is_late, frame_of}
use Rattle.smf.specs.Spelling.{Mark, GoodMark, GoodMarks, GoodScore, has_one, rung_from, in_time_from, rung, in_time}
use Rattle.merge.specs.declared.Entry.{Entry}
use Rattle.merge.specs.Lateness.{tempo_after, sum_at, nearer, late_from, late_of, sounding, struck_from, struck_of}
use Rattle.merge.specs.Bridges.{bridges_of, rest_of, bridged}
use Rattle.merge.specs.Marks.{last_end_from, marks_from, last_from, score_of}
use Rattle.merge.specs.Kept.{NoneBefore, TicksRise}
use Rattle.merge.proofs.BridgesLaws.{bridges-most, rest-small}
use Rattle.merge.proofs.KeptOrderLaws.{Each}

-- ---- 1. Sums of ticks

-- the U of two runs of ticks in one tempo
ticks-add : (x y z tempo : ℕ) → z ≡ x + y → z * tempo ≡ x * tempo + y * tempo
ticks-add x y z tempo e = ap (λ (n : ℕ). n * tempo) e ∙ add-mul x y tempo

-- the bridges of a gap and what they leave are the gap
gap-whole : (gap : ℕ) → gap ≡ bridges_of gap * 268435455 + rest_of gap
unfolding rest_of
gap-whole gap = let h = bridges-most gap in omega (arith, h)

-- no ticks add nothing
none-add : (tick end tempo : ℕ) → end ≤ tick → (end - tick) * tempo ≡ 0
none-add tick end tempo h =
    let z : end - tick ≡ 0 = omega (arith, h) in
    let y : (end - tick) * tempo ≡ 0 * tempo = ap (λ (n : ℕ). n * tempo) z in
    omega (arith, y)

-- .. from a tick to itself
no-ticks : (tick tempo sum : ℕ) → sum ≡ sum + (tick - tick) * tempo
no-ticks tick tempo sum = let z = none-add tick tick tempo (omega arith) in omega (arith, z)

-- ---- 2. The events

module _ (division tempo : ℕ) where
  -- bridges ring nothing, and U goes on behind them
  bridged-rung : (n sum behind : ℕ) (ms : List Mark) → behind ≡ sum + n * 268435455 * tempo → rung_from division tempo sum (bridged tempo n ms) ≡ rung_from division tempo behind ms
  unfolding rung_from bridged
  bridged-rung zero sum behind ms e =
      let z : sum ≡ behind = omega (arith, e) in
      ap (λ (u : ℕ). rung_from division tempo u ms) z
  bridged-rung (suc n) sum behind ms e =
      let t = ticks-add 268435455 (n * 268435455) (suc n * 268435455) tempo (omega arith) in
      bridged-rung n (sum + 268435455 * tempo) behind ms (omega (arith, e, t))

-- the events of a sequence are those of its marks. U is that of the written tick; the tick that is reached may be behind it
pub marks-rung : (es : List Entry) (division end tick now tempo sum u : ℕ) → tick ≤ now → NoneBefore now es → TicksRise es → u ≡ sum + (now - tick) * tempo
    → rung_from division tempo sum (marks_from end tick tempo es) ≡ struck_from division now tempo u es
unfolding marks_from struck_from rung_from
marks-rung [] division end tick now tempo sum u h k r e = bridged-rung division tempo (bridges_of (end - tick)) sum (sum + bridges_of (end - tick) * 268435455 * tempo) [] refl
marks-rung (x ∷ xs) division end tick now tempo sum u h k r e =
    let there = k.0 in
    let t1 = ticks-add (now - tick) (x.tick - now) (x.tick - tick) tempo (omega (arith, h, there)) in
    let u1 : sum_at now tempo u x ≡ sum + (x.tick - tick) * tempo = omega (arith, e, t1) in
    go u1 (marks-rung xs division end tick x.tick tempo sum (sum_at now tempo u x) (omega (arith, h, there)) r.0 r.1 u1)
    (λ next s. marks-rung xs division end x.tick x.tick next s s (omega arith) r.0 r.1 (no-ticks x.tick next s))
    x.item
  where
    gap : ℕ
    gap = x.tick - tick

    whole : sum_at now tempo u x ≡ sum + gap * tempo → sum + bridges_of gap * 268435455 * tempo + rest_of gap * tempo ≡ sum_at now tempo u x
    whole u1 = let t = ticks-add (bridges_of gap * 268435455) (rest_of gap) gap tempo (gap-whole gap) in omega (arith, u1, t)

    Goal : Item → Type 0
    Goal i =
        rung_from division tempo sum
        (elim i [
          | Bad ↦ marks_from end tick tempo xs
          | End ↦ marks_from end tick tempo xs
          | Passed behind ↦ marks_from end tick tempo xs
          | Tempo next behind ↦ bridged tempo (bridges_of (x.tick - tick)) (Mark.Tempo (rest_of (x.tick - tick)) next ∷ marks_from end x.tick next xs)
          | Channel status first second behind ↦ bridged tempo (bridges_of (x.tick - tick)) (Mark.Channel (rest_of (x.tick - tick)) status first second ∷ marks_from end x.tick tempo xs)
        ])
        ≡ sounding (frame_of division (sum_at now tempo u x)) i (struck_from division x.tick (tempo_after tempo i) (sum_at now tempo u x) xs)

    go : sum_at now tempo u x ≡ sum + (x.tick - tick) * tempo
        → rung_from division tempo sum (marks_from end tick tempo xs) ≡ struck_from division x.tick tempo (sum_at now tempo u x) xs
        → ((next s : ℕ) → rung_from division next s (marks_from end x.tick next xs) ≡ struck_from division x.tick next s xs)
        → (i : Item) → Goal i
    go u1 left more Bad = left
    go u1 left more End = left
    go u1 left more (Passed behind) = left
    go u1 left more (Tempo next behind) =
        bridged-rung division tempo (bridges_of gap) sum (sum + bridges_of gap * 268435455 * tempo) (Mark.Tempo (rest_of gap) next ∷ marks_from end x.tick next xs) refl
        ∙ more next (sum + bridges_of gap * 268435455 * tempo + rest_of gap * tempo)
        ∙ ap (λ (v : ℕ). struck_from division x.tick next v xs) (whole u1)
    go u1 left more (Channel status first second behind) =
        bridged-rung division tempo (bridges_of gap) sum (sum + bridges_of gap * 268435455 * tempo) (Mark.Channel (rest_of gap) status first second ∷ marks_from end x.tick tempo xs) refl
        ∙ ap (λ (es : List Event). sounding (frame_of division (sum + bridges_of gap * 268435455 * tempo + rest_of gap * tempo)) (Channel status first second behind) es)
        (more tempo (sum + bridges_of gap * 268435455 * tempo + rest_of gap * tempo))
        ∙ ap (λ (v : ℕ). sounding (frame_of division v) (Channel status first second behind) (struck_from division x.tick tempo v xs)) (whole u1)

-- ---- 3. What an event adds to a score

module _ (e : Entry) (es : List Entry) (begun end tick tempo : ℕ) where
  -- a tempo change
  pub adds-tempo : (next behind : ℕ) → e.item ≡ Tempo next behind
      → (last_end_from begun (e ∷ es) ≡ last_end_from begun es)
      × (marks_from end tick tempo (e ∷ es) ≡ bridged tempo (bridges_of (e.tick - tick)) (Mark.Tempo (rest_of (e.tick - tick)) next ∷ marks_from end e.tick next es))
      × (last_from end tick (e ∷ es) ≡ last_from end e.tick es)
  unfolding last_end_from marks_from last_from
  adds-tempo next behind p = (rw (p, last_end_from) refl, rw (p, marks_from) refl, rw (p, last_from) refl)

  -- a channel event
  pub adds-channel : (status first second behind : ℕ) → e.item ≡ Channel status first second behind
      → (last_end_from begun (e ∷ es) ≡ last_end_from begun es)
      × (marks_from end tick tempo (e ∷ es) ≡ bridged tempo (bridges_of (e.tick - tick)) (Mark.Channel (rest_of (e.tick - tick)) status first second ∷ marks_from end e.tick tempo es))
      × (last_from end tick (e ∷ es) ≡ last_from end e.tick es)
  unfolding last_end_from marks_from last_from
  adds-channel status first second behind p = (rw (p, last_end_from) refl, rw (p, marks_from) refl, rw (p, last_from) refl)

  -- an end of track
  pub adds-end : e.item ≡ End
      → (last_end_from begun (e ∷ es) ≡ last_end_from e.tick es) × (marks_from end tick tempo (e ∷ es) ≡ marks_from end tick tempo es) × (last_from end tick (e ∷ es) ≡ last_from end tick es)
  unfolding last_end_from marks_from last_from
  adds-end p = (rw (p, last_end_from) refl, rw (p, marks_from) refl, rw (p, last_from) refl)

  -- an event that is stepped over
  pub adds-passed : (behind : ℕ) → e.item ≡ Passed behind
      → (last_end_from begun (e ∷ es) ≡ last_end_from begun es) × (marks_from end tick tempo (e ∷ es) ≡ marks_from end tick tempo es) × (last_from end tick (e ∷ es) ≡ last_from end tick es)
  unfolding last_end_from marks_from last_from
  adds-passed behind p = (rw (p, last_end_from) refl, rw (p, marks_from) refl, rw (p, last_from) refl)

  -- a fault
  pub adds-bad : e.item ≡ Bad
      → (last_end_from begun (e ∷ es) ≡ last_end_from begun es) × (marks_from end tick tempo (e ∷ es) ≡ marks_from end tick tempo es) × (last_from end tick (e ∷ es) ≡ last_from end tick es)
  unfolding last_end_from marks_from last_from
  adds-bad p = (rw (p, last_end_from) refl, rw (p, marks_from) refl, rw (p, last_from) refl)

-- nothing is left
pub adds_none : (begun end tick tempo : ℕ) → (last_end_from begun [] ≡ begun) × (marks_from end tick tempo [] ≡ bridged tempo (bridges_of (end - tick)) []) × (last_from end tick [] ≡ rest_of (end - tick))
unfolding last_end_from marks_from last_from
adds_none begun end tick tempo = (refl, refl, refl)

-- ---- 4. Time

-- the smaller of two places is one
never-none : (place : ℕ) (s : Option ℕ) → nearer place s ≡ None → ⊥
never-none place None e = let z : ◌≡◌ {A = ℕ} 0 1 = cc in omega arith
never-none place (Some other) e = let z : ◌≡◌ {A = ℕ} 0 1 = cc in omega arith

-- where no event is past an hour, the first is not, nor is one behind it
pub late-none : (division tick tempo sum : ℕ) (e : Entry) (es : List Entry) → late_from division tick tempo sum (e ∷ es) ≡ None
    → (sum_at tick tempo sum e ≤ 3600000000 * division) × (late_from division e.tick (tempo_after tempo e.item) (sum_at tick tempo sum e) es ≡ None)
unfolding late_from
late-none division tick tempo sum e es n = go (is_late division (sum_at tick tempo sum e)) refl n
  where
    behind : Option ℕ
    behind = late_from division e.tick (tempo_after tempo e.item) (sum_at tick tempo sum e) es

    go : (t : Bool) → is_late division (sum_at tick tempo sum e) ≡ t → cond t (nearer e.place behind) behind ≡ None
        → (sum_at tick tempo sum e ≤ 3600000000 * division) × (behind ≡ None)
    go true t f = absurd (never-none e.place behind f)
    go false t f = (ltb-false _ _ t, f)

-- what is not past an hour
in-hour : (division sum : ℕ) → sum ≤ 3600000000 * division → not (is_late division sum) ≡ true
in-hour division sum h = rw (le-ltb _ _ h) refl

module _ (division tempo last : ℕ) where
  -- bridges that do not go past an hour
  bridged-in-time : (n sum behind : ℕ) (ms : List Mark) → behind ≡ sum + n * 268435455 * tempo → behind ≤ 3600000000 * division → in_time_from division tempo behind ms last ≡ true
      → in_time_from division tempo sum (bridged tempo n ms) last ≡ true
  unfolding in_time_from bridged
  bridged-in-time zero sum behind ms e l h =
      let z : sum ≡ behind = omega (arith, e) in
      ap (λ (u : ℕ). in_time_from division tempo u ms last) z ∙ h
  bridged-in-time (suc n) sum behind ms e l h =
      let t = ticks-add 268435455 (n * 268435455) (suc n * 268435455) tempo (omega arith) in
      ap (λ (f : Bool). f && in_time_from division tempo (sum + 268435455 * tempo) (bridged tempo n ms) last) (in-hour division (sum + 268435455 * tempo) (omega (arith, e, t, l)))
      ∙ bridged-in-time n (sum + 268435455 * tempo) behind ms (omega (arith, e, t)) l h

  -- a mark behind the bridges of a gap that does not end past an hour
  gap-in-time : (gap sum u : ℕ) (ms : List Mark) → u ≡ sum + gap * tempo → u ≤ 3600000000 * division
      → ((v : ℕ) → v + rest_of gap * tempo ≡ u → in_time_from division tempo v ms last ≡ true)
      → in_time_from division tempo sum (bridged tempo (bridges_of gap) ms) last ≡ true
  gap-in-time gap sum u ms e l h =
      let t = ticks-add (bridges_of gap * 268435455) (rest_of gap) gap tempo (gap-whole gap) in
      bridged-in-time (bridges_of gap) sum (sum + bridges_of gap * 268435455 * tempo) ms refl (omega (arith, e, t, l))
      (h (sum + bridges_of gap * 268435455 * tempo) (omega (arith, e, t)))

-- the end of track behind its bridges
end-in-time : (division tempo gap sum : ℕ) → sum + gap * tempo ≤ 3600000000 * division → in_time_from division tempo sum (bridged tempo (bridges_of gap) []) (rest_of gap) ≡ true
unfolding in_time_from
end-in-time division tempo gap sum h =
    gap-in-time division tempo (rest_of gap) gap sum (sum + gap * tempo) [] refl h (λ v e. in-hour division (v + rest_of gap * tempo) (omega (arith, e, h)))

module _ (division tempo gap last sum u : ℕ) (ms : List Mark) (e : u ≡ sum + gap * tempo) (l : u ≤ 3600000000 * division) where
  -- a tempo change behind its bridges
  tempo-in-time : (next : ℕ) → in_time_from division next u ms last ≡ true → in_time_from division tempo sum (bridged tempo (bridges_of gap) (Mark.Tempo (rest_of gap) next ∷ ms)) last ≡ true
  unfolding in_time_from
  tempo-in-time next h = gap-in-time division tempo last gap sum u (Mark.Tempo (rest_of gap) next ∷ ms) e l (λ v f. rw (f, in-hour division u l) h)

  -- a channel event behind its bridges
  channel-in-time : (status first second : ℕ) → in_time_from division tempo u ms last ≡ true → in_time_from division tempo sum (bridged tempo (bridges_of gap) (Mark.Channel (rest_of gap) status first second ∷ ms)) last ≡ true
  unfolding in_time_from
  channel-in-time status first second h = gap-in-time division tempo last gap sum u (Mark.Channel (rest_of gap) status first second ∷ ms) e l (λ v f. rw (f, in-hour division u l) h)

-- the marks of a sequence of which no event is past an hour are in time, with their end
pub marks-in-time : (es : List Entry) (division begun tick now tempo sum u : ℕ) → tick ≤ now → begun ≤ now → NoneBefore now es → TicksRise es → u ≡ sum + (now - tick) * tempo
    → sum + (begun - tick) * tempo ≤ 3600000000 * division → late_from division now tempo u es ≡ None
    → in_time_from division tempo sum (marks_from (last_end_from begun es) tick tempo es) (last_from (last_end_from begun es) tick es) ≡ true
marks-in-time [] division begun tick now tempo sum u h g k r e l n =
    let a = adds_none begun begun tick tempo in
    rw (a.0, a.1, a.2) (end-in-time division tempo (begun - tick) sum l)
marks-in-time (x ∷ xs) division begun tick now tempo sum u h g k r e l n =
    let there = k.0 in
    let t1 = ticks-add (now - tick) (x.tick - now) (x.tick - tick) tempo (omega (arith, h, there)) in
    let u1 : sum_at now tempo u x ≡ sum + (x.tick - tick) * tempo = omega (arith, e, t1) in
    let late = late-none division now tempo u x xs n in
    go u1 late.0 late.1
    (λ start f. marks-in-time xs division start tick x.tick tempo sum (sum_at now tempo u x) (omega (arith, h, there)) f r.0 r.1 u1)
    (λ next s f m. marks-in-time xs division begun x.tick x.tick next s s (omega arith) (omega (arith, g, there)) r.0 r.1 (no-ticks x.tick next s) f m)
    x.item refl
  where
    S : ℕ
    S = sum_at now tempo u x

    go : S ≡ sum + (x.tick - tick) * tempo → S ≤ 3600000000 * division → late_from division x.tick (tempo_after tempo x.item) S xs ≡ None
        → ((start : ℕ) → start ≤ x.tick → sum + (start - tick) * tempo ≤ 3600000000 * division → late_from division x.tick tempo S xs ≡ None
        → in_time_from division tempo sum (marks_from (last_end_from start xs) tick tempo xs) (last_from (last_end_from start xs) tick xs) ≡ true)
        → ((next s : ℕ) → s + (begun - x.tick) * next ≤ 3600000000 * division → late_from division x.tick next s xs ≡ None
        → in_time_from division next s (marks_from (last_end_from begun xs) x.tick next xs) (last_from (last_end_from begun xs) x.tick xs) ≡ true)
        → (i : Item) → x.item ≡ i
        → in_time_from division tempo sum (marks_from (last_end_from begun (x ∷ xs)) tick tempo (x ∷ xs)) (last_from (last_end_from begun (x ∷ xs)) tick (x ∷ xs)) ≡ true
    go u1 l1 n1 left more Bad p =
        let a = adds-bad x xs begun (last_end_from begun xs) tick tempo p in
        rw (a.0, a.1, a.2) (left begun (omega (arith, g, k.0)) l (rw p at n1))
    go u1 l1 n1 left more End p =
        let a = adds-end x xs begun (last_end_from x.tick xs) tick tempo p in
        rw (a.0, a.1, a.2) (left x.tick (omega arith) (omega (arith, u1, l1)) (rw p at n1))
    go u1 l1 n1 left more (Passed behind) p =
        let a = adds-passed x xs begun (last_end_from begun xs) tick tempo behind p in
        rw (a.0, a.1, a.2) (left begun (omega (arith, g, k.0)) l (rw p at n1))
    go u1 l1 n1 left more (Tempo next behind) p =
        let a = adds-tempo x xs begun (last_end_from begun xs) tick tempo next behind p in
        let z = none-add x.tick begun next (omega (arith, g, k.0)) in
        rw (a.0, a.1, a.2)
        (tempo-in-time division tempo (x.tick - tick) (last_from (last_end_from begun xs) x.tick xs) sum S (marks_from (last_end_from begun xs) x.tick next xs) u1 l1 next
        (more next S (omega (arith, z, l1)) (rw p at n1)))
    go u1 l1 n1 left more (Channel status first second behind) p =
        let a = adds-channel x xs begun (last_end_from begun xs) tick tempo status first second behind p in
        let z = none-add x.tick begun tempo (omega (arith, g, k.0)) in
        rw (a.0, a.1, a.2)
        (channel-in-time division tempo (x.tick - tick) (last_from (last_end_from begun xs) x.tick xs) sum S (marks_from (last_end_from begun xs) x.tick tempo xs) u1 l1 status first second
        (more tempo S (omega (arith, z, l1)) (rw p at n1)))

-- ---- 5. Marks that can be written

-- numbers that a mark can have
abbrev pub Fair : Item → Type 0
Fair Bad = Unit {0}
Fair End = Unit {0}
Fair (Passed behind) = Unit {0}
Fair (Tempo tempo behind) = tempo < 16777216
Fair (Channel status first second behind) = (128 ≤ status) × (status ≤ 239) × (first < 128) × (second < 128) × (has_one status ≡ true → second ≡ 0)

-- .. of each of some events
abbrev pub AllFair : List Entry → Type 0
AllFair es = Each (λ (e : Entry). Fair e.item) es

-- a mark that is a tempo change or a channel event
abbrev pub Plain : Mark → Type 0
Plain (Mark.Channel ticks status first second) = Unit {0}
Plain (Mark.Tempo ticks tempo) = Unit {0}
Plain (Mark.Meta ticks kind bytes) = ⊥
Plain (Mark.Exclusive ticks status bytes) = ⊥

-- .. each of some marks, and all are good
abbrev pub AllPlain : List Mark → Type 0
AllPlain [] = Unit {0}
AllPlain (m ∷ ms) = GoodMark m × Plain m × AllPlain ms

-- they are good
pub plain-good : (ms : List Mark) → AllPlain ms → GoodMarks ms
plain-good [] p = tt
plain-good (m ∷ ms) p = (p.0, plain-good ms p.2)

-- bridges are
bridged-plain : (n tempo : ℕ) (ms : List Mark) → tempo < 16777216 → AllPlain ms → AllPlain (bridged tempo n ms)
unfolding bridged
bridged-plain zero tempo ms h p = p
bridged-plain (suc n) tempo ms h p = ((omega arith, h), tt, bridged-plain n tempo ms h p)

-- the marks of a sequence are
pub marks-plain : (es : List Entry) (end tick tempo : ℕ) → tempo < 16777216 → AllFair es → AllPlain (marks_from end tick tempo es)
marks-plain [] end tick tempo h f = rw (adds_none 0 end tick tempo).1 (bridged-plain (bridges_of (end - tick)) tempo [] h tt)
marks-plain (x ∷ xs) end tick tempo h f =
    go (marks-plain xs end tick tempo h f.1) (λ next k. marks-plain xs end x.tick next k f.1) x.item refl
  where
    fair : (i : Item) → x.item ≡ i → Fair i
    fair i p = subst (λ (y : Item). Fair y) p f.0

    gap : ℕ
    gap = x.tick - tick

    go : AllPlain (marks_from end tick tempo xs) → ((next : ℕ) → next < 16777216 → AllPlain (marks_from end x.tick next xs)) → (i : Item) → x.item ≡ i → AllPlain (marks_from end tick tempo (x ∷ xs))
    go left more Bad p = rw (adds-bad x xs 0 end tick tempo p).1 left
    go left more End p = rw (adds-end x xs 0 end tick tempo p).1 left
    go left more (Passed behind) p = rw (adds-passed x xs 0 end tick tempo behind p).1 left
    go left more (Tempo next behind) p =
        let k = fair (Tempo next behind) p in
        rw (adds-tempo x xs 0 end tick tempo next behind p).1
        (bridged-plain (bridges_of gap) tempo (Mark.Tempo (rest_of gap) next ∷ marks_from end x.tick next xs) h ((rest-small gap, k), tt, more next k))
    go left more (Channel status first second behind) p =
        let k = fair (Channel status first second behind) p in
        rw (adds-channel x xs 0 end tick tempo status first second behind p).1
        (bridged-plain (bridges_of gap) tempo (Mark.Channel (rest_of gap) status first second ∷ marks_from end x.tick tempo xs) h
        ((rest-small gap, k.0, k.1, k.2, k.3, k.4), tt, more tempo h))

-- the last delta time is a quantity
last-small : (es : List Entry) (end tick : ℕ) → last_from end tick es < 268435456
last-small [] end tick = rw (adds_none 0 end tick 0).2 (rest-small (end - tick))
last-small (x ∷ xs) end tick = go (last-small xs end tick) (last-small xs end x.tick) x.item refl
  where
    go : last_from end tick xs < 268435456 → last_from end x.tick xs < 268435456 → (i : Item) → x.item ≡ i → last_from end tick (x ∷ xs) < 268435456
    go left more Bad p = rw (adds-bad x xs 0 end tick 0 p).2 left
    go left more End p = rw (adds-end x xs 0 end tick 0 p).2 left
    go left more (Passed behind) p = rw (adds-passed x xs 0 end tick 0 behind p).2 left
    go left more (Tempo next behind) p = rw (adds-tempo x xs 0 end tick 0 next behind p).2 more
    go left more (Channel status first second behind) p = rw (adds-channel x xs 0 end tick 0 status first second behind p).2 more

-- ---- 6. The score

module _ (division : ℕ) (es : List Entry) where
  -- its parts
  pub score-plain : AllFair es → AllPlain (score_of division es).marks
  unfolding score_of
  score-plain f = marks-plain es (last_end_from 0 es) 0 500000 (omega arith) f

  -- it can be written
  pub score-good : 1 ≤ division → division ≤ 32767 → AllFair es → GoodScore (score_of division es)
  unfolding score_of
  score-good low high f =
      record { low = low; high = high; marks = plain-good (marks_from (last_end_from 0 es) 0 500000 es) (marks-plain es (last_end_from 0 es) 0 500000 (omega arith) f); last = last-small es (last_end_from 0 es) 0 }

  -- nothing is earlier than tick 0
  all-behind : (xs : List Entry) → NoneBefore 0 xs
  all-behind [] = tt
  all-behind (x ∷ xs) = (omega arith, all-behind xs)

  -- its events are those of the sequence
  pub score-rung : TicksRise es → rung (score_of division es) ≡ struck_of division es
  unfolding score_of
  score-rung r = marks-rung es division (last_end_from 0 es) 0 0 500000 0 0 (omega arith) (all-behind es) r (omega arith)

  -- it is in time where the sequence is
  pub score-in-time : TicksRise es → late_of division es ≡ None → in_time (score_of division es) ≡ true
  unfolding score_of
  score-in-time r n = marks-in-time es division 0 0 0 500000 0 0 (omega arith) (omega arith) (all-behind es) r (omega arith) (omega arith) n
