-- A refusal is of the first that is wrong, and a file in which nothing is wrong is not refused.
use Rattle.smf.specs.declared.Quantity.{Quantity}
use Rattle.std.proofs.Common.{Option, Some, None}
use mathlib.Core.Bool.{Bool, true, false, cond, not, ◌||◌}
use mathlib.Core.List.{List, []}
use mathlib.Core.Logic.{◌⊎◌, inl, inr, ⊎_elim}
use mathlib.Core.Path.{◌≡◌, refl, subst, sym, ◌∙◌, ap}
use Prim.Native.Nat.{ℕ, zero, suc, ◌+◌, ◌*◌, ◌<◌, ◌≤◌}
use native.Mathlib.Omega.{arith}
use native.Mathlib.Nat.{le_antisymm}
use borrow.Author.Tests.{ltb-true, ltb-false, eqb-true, eqb-false, not-true, not-false, lt-ltb, le-ltb}
use lib.Dec.{ltb, eqb, lit≤}
use Rattle.arith.specs.Bytes.{u8_at}
use lib.ListN.{length}
use Rattle.smf.specs.declared.Cursor.{Cursor}
use Rattle.smf.specs.declared.Event.{Event}
use Rattle.smf.specs.declared.Header.{Header}
use Rattle.smf.specs.declared.Header.TheVariants.{Track}
use Rattle.smf.specs.declared.Item.{Item}
use Rattle.smf.specs.declared.Message.{Message}
use Rattle.smf.specs.declared.Met.{Met}
use Rattle.smf.specs.declared.Met.TheVariants.{Fault, End, Passed, Given}
use Rattle.smf.specs.Quantities.{two_at, four_at, quantity_at, quantity}
use Rattle.smf.specs.Head.{chunk_end, track_from, head_of}
use Rattle.smf.specs.Items.{item_at}
use Rattle.smf.specs.Ticks.{sum_after, is_late}
use Rattle.smf.specs.Track.{Song, Events, Refused, edge_of, is_bad, acted, obeyed, meet_at, event_of, behind_event, song_from}
use Rattle.smf.specs.Songs.{start_at, turns, events_of}
use Rattle.smf.specs.Faults.{Whole, Chunked, Tracked, Arrived, DeltaAt, Wrong, First, LongRefused, RefusedFirst, FirstRefused, GoodNotWrong, NotWrongGood}
use Rattle.smf.specs.Faults.Chunked.{behind-head, behind-other}
use Rattle.smf.specs.Faults.Arrived.{begins, behind-passed, behind-given}
use Rattle.smf.proofs.QuantitiesLaws.{same-quantity, quantity-behind, quantity-edge}
use Rattle.smf.proofs.ItemsLaws.{either, neither}
use Rattle.smf.proofs.TrackLaws.{meet-passed, meet-given, further-edge, edge_in}

-- ---- steps of which each has one outcome: of two places on the way one leads to the other

-- the places on the way from x
data Along {A : Type 0} (Step : A → A → Type 0) (x : A) : A → Type 0 where
  here : Along Step x x
  on : (y z : A) → Along Step x y → Step y z → Along Step x z

-- the first step of a way
front : {A : Type 0} {Step : A → A → Type 0} {x y : A} → Along Step x y → (x ≡ y) ⊎ ((z : A) × Step x z × Along Step z y)
front here = inl refl
front {Step = Step} (on y z way step) = ⊎_elim (λ e. inr (z, subst (λ w. Step w z) (sym e) step, here)) (λ f. inr (f.0, f.1, on y z f.2 step)) (front way)

-- a place from which no step leads is the end of its way
ends : {A : Type 0} {Step : A → A → Type 0} {x y : A} → Along Step x y → ((z : A) → Step x z → ⊥) → x ≡ y
ends way stop = ⊎_elim (λ e. e) (λ f. absurd (stop f.0 f.1)) (front way)

module _ {A : Type 0} {Step : A → A → Type 0} (one : (x y z : A) → Step x y → Step x z → y ≡ z) where
  -- two places on one way
  order : {s x y : A} → Along Step s x → Along Step s y → Along Step x y ⊎ Along Step y x
  order here other = inl other
  order {y = y} (on x z way step) other = ⊎_elim (λ a. further (front a)) (λ a. inr (on x z a step)) (order way other)
    where
      further : (x ≡ y) ⊎ ((w : A) × Step x w × Along Step w y) → Along Step z y ⊎ Along Step y z
      further (inl e) = inr (on x z (subst (λ w. Along Step y w) (sym e) here) step)
      further (inr f) = inl (subst (λ w. Along Step w y) (one x f.0 z f.1 step) f.2)

  -- a way has one end
  same : {s x y : A} → Along Step s x → Along Step s y → ((z : A) → Step x z → ⊥) → ((z : A) → Step y z → ⊥) → x ≡ y
  same a b stop halt = ⊎_elim (λ w. ends w stop) (λ w. sym (ends w halt)) (order a b)

-- ---- chunks: each that is stepped over leads to one other

-- a chunk that is stepped over
record Other (b : List ℕ) (at : ℕ) : Type 0 where
  whole : Whole b at
  name : four_at b at ≡ 1297379947 → ⊥

-- from a chunk that is stepped over to the place behind it
abbrev Hop : List ℕ → ℕ → ℕ → Type 0
Hop b at next = Other b at × (chunk_end b at ≡ next)

-- there is one such place
hop-one : (b : List ℕ) (x y z : ℕ) → Hop b x y → Hop b x z → y ≡ z
hop-one b x y z h k = sym h.1 ∙ k.1

-- the chunks that are looked for are those on the way from the head on
chunk-way : {b : List ℕ} {at : ℕ} → Chunked b at → Along (Hop b) (chunk_end b 0) at
chunk-way behind-head = here
chunk-way {b} (behind-other at looked whole name) = on at (chunk_end b at) (chunk-way looked) (record { whole = whole; name = name }, refl)

-- no chunk lies in front of the head's end
chunk-low : {b : List ℕ} {at : ℕ} → Chunked b at → 8 + four_at b 4 ≤ at
unfolding chunk_end
chunk-low behind-head = omega arith
chunk-low {b} (behind-other at looked whole name) = omega (arith, chunk-low looked)

-- where the search ends is one place
chunk-same : {b : List ℕ} {x y : ℕ} → Chunked b x → Chunked b y → (Other b x → ⊥) → (Other b y → ⊥) → x ≡ y
chunk-same {b} h k stop halt = same (hop-one b) (chunk-way h) (chunk-way k) (λ z s. stop s.0) (λ z s. halt s.0)

-- a name that is cut off, a chunk that is cut off, and the track end it
cut-stops : (b : List ℕ) (at : ℕ) → length b < at + 4 → Other b at → ⊥
cut-stops b at h o = omega (arith, o.whole.name_in)

-- a chunk that goes past the file is not stepped over
long-stops : (b : List ℕ) (at : ℕ) → length b < chunk_end b at → Other b at → ⊥
long-stops b at h o = omega (arith, o.whole.body-in)

-- nor is the track
track-stops : (b : List ℕ) (at : ℕ) → Tracked b at → Other b at → ⊥
track-stops b at t o = o.name t.name

-- ---- cursors: each event that is met leads to one other

-- from a cursor to the one behind the event that is met there
abbrev Go : List ℕ → Cursor → Cursor → Type 0
Go b c further = (meet_at b c ≡ Passed further) ⊎ ((message : Message) × (meet_at b c ≡ Given message further))

-- there is one such cursor
go-one : (b : List ℕ) (x y z : Cursor) → Go b x y → Go b x z → y ≡ z
go-one b x y z (inl e) (inl f) = cc
go-one b x y z (inl e) (inr f) = let g = f.1 in let z : ◌≡◌ {A = ℕ} 0 1 = cc in absurd (omega arith)
go-one b x y z (inr e) (inl f) = let g = e.1 in let z : ◌≡◌ {A = ℕ} 0 1 = cc in absurd (omega arith)
go-one b x y z (inr e) (inr f) = let g = e.1 in let h = f.1 in cc

-- the cursor in front of the track's first delta time
abbrev start_of : List ℕ → ℕ → Cursor
start_of b at = start_at b (at + 8) (chunk_end b at)

-- how a cursor is reached
record Way (b : List ℕ) (c : Cursor) : Type 0 where
  at : ℕ
  track : Tracked b at
  way : Along (Go b) (start_of b at) c

-- each cursor that is reached is on the way from where the track begins
reached-way : {b : List ℕ} {c : Cursor} → Arrived b c → Way b c
reached-way (begins at track) = record { at = at; track = track; way = here }
reached-way (behind-passed c further r e) = let w = reached-way r in record { at = w.at; track = w.track; way = on c further w.way (inl e) }
reached-way (behind-given c message further r e) = let w = reached-way r in record { at = w.at; track = w.track; way = on c further w.way (inr (message, e)) }

-- none lies in front of the track's first
way-low : (b : List ℕ) {s c : Cursor} → Along (Go b) s c → s.at ≤ c.at
way-low b here = omega arith
way-low b (on c further way (inl e)) = omega (arith, way-low b way, (meet-passed b c further e).after)
way-low b (on c further way (inr e)) = omega (arith, way-low b way, (meet-given b c e.0 further e.1).0.after)

-- ---- what can be wrong at a cursor

-- the three cases, without how the cursor is reached
data Stuck (b : List ℕ) (c : Cursor) : ℕ → ℕ → Type 0 where
  no-delta : quantity_at b (edge_of b c) c.at ≡ None → Stuck b c 9 c.at
  bad-event : (ticks place : ℕ) → DeltaAt b c ticks place → item_at b (edge_of b c) c.running place ≡ Item.Bad → Stuck b c 9 place
  too-late : (ticks place : ℕ) → DeltaAt b c ticks place → 3600000000 * c.division < sum_after c ticks → Stuck b c 11 place

-- at a cursor that is reached each of them is wrong with the file
stuck-wrong : {b : List ℕ} {c : Cursor} {n p : ℕ} → Arrived b c → Stuck b c n p → Wrong b n p
stuck-wrong {c = c} r (no-delta e) = Wrong.delta c r e
stuck-wrong {c = c} r (bad-event ticks place e f) = Wrong.event c ticks place r e f
stuck-wrong {c = c} r (too-late ticks place e f) = Wrong.late c ticks place r e f

-- none of them lies in front of the cursor
stuck-low : {b : List ℕ} {c : Cursor} {n p : ℕ} → Stuck b c n p → (c.at ≤ p) × (9 ≤ n)
stuck-low (no-delta e) = (omega arith, omega arith)
stuck-low {b} {c} (bad-event ticks place e f) = (omega (arith, (quantity-behind b (edge_of b c) c.at ticks place e).0), omega arith)
stuck-low {b} {c} (too-late ticks place e f) = (omega (arith, (quantity-behind b (edge_of b c) c.at ticks place e).0), omega arith)

-- what is met there is a fault
abbrev Faulty : Met → Type 0
Faulty (Fault number place) = Unit {0}
Faulty End = ⊥
Faulty (Passed further) = ⊥
Faulty (Given message further) = ⊥

-- an event past an hour is a fault, by one number or the other
late-faulty : (item : Item) (c : Cursor) (sum place : ℕ) → 3600000000 * c.division < sum → Faulty (obeyed item c sum place)
unfolding obeyed
late-faulty item c sum place h = rw (lt-ltb (3600000000 * c.division) sum h) (go (is_bad item))
  where
    go : (t : Bool) → Faulty (cond t (Fault 9 place) (Fault 11 place))
    go true = tt
    go false = tt

-- where one of the three is the case a fault is met
stuck-faulty : {b : List ℕ} {c : Cursor} {n p : ℕ} → Stuck b c n p → Faulty (meet_at b c)
unfolding meet_at obeyed
stuck-faulty (no-delta e) = rw (e, meet_at) tt
stuck-faulty (bad-event ticks place e f) = rw (e, f, meet_at) tt
stuck-faulty {b} {c} (too-late ticks place e f) = rw (e, meet_at) (late-faulty (item_at b (edge_of b c) c.running place) c (sum_after c ticks) place f)

-- so no cursor comes behind it
stuck-stops : {b : List ℕ} {c : Cursor} {n p : ℕ} → Stuck b c n p → (further : Cursor) → Go b c further → ⊥
stuck-stops s further (inl e) = subst Faulty e (stuck-faulty s)
stuck-stops s further (inr e) = subst Faulty e.1 (stuck-faulty s)

-- and it is no end of track
stuck-ends : {b : List ℕ} {c : Cursor} {n p : ℕ} → Stuck b c n p → meet_at b c ≡ End → ⊥
stuck-ends s e = subst Faulty e (stuck-faulty s)

-- in file order, and by numbers at one place
abbrev Before : ℕ → ℕ → ℕ → ℕ → Type 0
Before number place n p = (place < p) ⊎ ((place ≡ p) × (number ≤ n))

-- the first that is wrong at a cursor
record Least (b : List ℕ) (c : Cursor) (number place : ℕ) : Type 0 where
  stuck : Stuck b c number place
  before : (n p : ℕ) → Stuck b c n p → Before number place n p

-- a fault that is met is the first at its cursor; of all else nothing is said
abbrev LeastMet : List ℕ → Cursor → Met → Type 0
LeastMet b c (Fault number place) = Least b c number place
LeastMet b c End = Unit {0}
LeastMet b c (Passed further) = Unit {0}
LeastMet b c (Given message further) = Unit {0}

-- a quantity that is bad is not good
bad-not-good : (q : Option Quantity) (ticks place : ℕ) → q ≡ None → q ≡ quantity ticks place → ⊥
bad-not-good q ticks place e f = let z : ◌≡◌ {A = ℕ} 0 1 = cc in omega arith

-- a good quantity ends at one place
good-places : (q : Option Quantity) (ticks place t p : ℕ) → q ≡ quantity ticks place → q ≡ quantity t p → place ≡ p
good-places q ticks place t p e f = (same-quantity ticks place t p (sym e ∙ f)).1

module _ (b : List ℕ) (c : Cursor) where
  -- a bad delta time is all that is wrong
  no-delta-first : quantity_at b (edge_of b c) c.at ≡ None → Least b c 9 c.at
  no-delta-first e = record { stuck = no-delta e; before = go }
    where
      go : (n p : ℕ) → Stuck b c n p → Before 9 c.at n p
      go n p (no-delta f) = inr (refl, omega arith)
      go n p (bad-event ticks place f g) = absurd (bad-not-good (quantity_at b (edge_of b c) c.at) ticks place e f)
      go n p (too-late ticks place f g) = absurd (bad-not-good (quantity_at b (edge_of b c) c.at) ticks place e f)

  module _ (ticks place : ℕ) (e : DeltaAt b c ticks place) where
    -- an event that is not well formed goes before one past an hour
    bad-event-first : item_at b (edge_of b c) c.running place ≡ Item.Bad → Least b c 9 place
    bad-event-first bad = record { stuck = bad-event ticks place e bad; before = go }
      where
        go : (n p : ℕ) → Stuck b c n p → Before 9 place n p
        go n p (no-delta f) = absurd (bad-not-good (quantity_at b (edge_of b c) c.at) ticks place f e)
        go n p (bad-event t k f g) = inr (good-places (quantity_at b (edge_of b c) c.at) ticks place t k e f, omega arith)
        go n p (too-late t k f g) = inr (good-places (quantity_at b (edge_of b c) c.at) ticks place t k e f, omega arith)

    -- an event past an hour comes first where it is well formed
    too-late-first : (item_at b (edge_of b c) c.running place ≡ Item.Bad → ⊥) → 3600000000 * c.division < sum_after c ticks → Least b c 11 place
    too-late-first good h = record { stuck = too-late ticks place e h; before = go }
      where
        go : (n p : ℕ) → Stuck b c n p → Before 11 place n p
        go n p (no-delta f) = absurd (bad-not-good (quantity_at b (edge_of b c) c.at) ticks place f e)
        go n p (bad-event t k f g) =
            let here' : place ≡ k = good-places (quantity_at b (edge_of b c) c.at) ticks place t k e f in
            absurd (good (subst (λ (x : ℕ). item_at b (edge_of b c) c.running x ≡ Item.Bad) (sym here') g))
        go n p (too-late t k f g) = inr (good-places (quantity_at b (edge_of b c) c.at) ticks place t k e f, omega arith)

    -- the test of the hour
    tardy : (x : Met) → (item_at b (edge_of b c) c.running place ≡ Item.Bad → ⊥) → LeastMet b c x → LeastMet b c (cond (is_late c.division (sum_after c ticks)) (Fault 11 place) x)
    tardy x good l = go (is_late c.division (sum_after c ticks)) refl
      where
        go : (t : Bool) → is_late c.division (sum_after c ticks) ≡ t → LeastMet b c (cond t (Fault 11 place) x)
        go true f = too-late-first good (ltb-true (3600000000 * c.division) (sum_after c ticks) f)
        go false f = l

    -- each kind of event
    least-obeyed : (item : Item) → item_at b (edge_of b c) c.running place ≡ item → LeastMet b c (obeyed item c (sum_after c ticks) place)
    unfolding obeyed acted
    least-obeyed Item.Bad f = bad-event-first f
    least-obeyed Item.End f = tardy End (λ g. let z : ◌≡◌ {A = ℕ} 0 1 = cc in omega arith) tt
    least-obeyed (Item.Passed behind) f = tardy (Passed _) (λ g. let z : ◌≡◌ {A = ℕ} 0 1 = cc in omega arith) tt
    least-obeyed (Item.Tempo tempo behind) f = tardy (Passed _) (λ g. let z : ◌≡◌ {A = ℕ} 0 1 = cc in omega arith) tt
    least-obeyed (Item.Channel status first second behind) f = tardy (Given _ _) (λ g. let z : ◌≡◌ {A = ℕ} 0 1 = cc in omega arith) tt

  -- a fault that is met is the first at its cursor
  least-met : LeastMet b c (meet_at b c)
  unfolding meet_at
  least-met = go (quantity_at b (edge_of b c) c.at) refl
    where
      go : (q : Option Quantity) → quantity_at b (edge_of b c) c.at ≡ q → LeastMet b c (elim q [ None ↦ Fault 9 c.at | Some q ↦ obeyed (item_at b (edge_of b c) c.running q.behind) c (sum_after c q.value) q.behind ])
      go None e = no-delta-first e
      go (Some q) e = least-obeyed q.value q.behind e (item_at b (edge_of b c) c.running q.behind) refl

  -- the same of a fault that is given
  least-fault : (number place : ℕ) → meet_at b c ≡ Fault number place → Least b c number place
  least-fault number place e = subst (λ (m : Met). LeastMet b c m) e least-met

-- ---- what is wrong: with the head, or behind it

-- what can be wrong behind the head
data Body (b : List ℕ) : ℕ → ℕ → Type 0 where
  cut : (at : ℕ) → Chunked b at → length b < at + 4 → Body b 9 at
  long : (at : ℕ) → Chunked b at → at + 4 ≤ length b → length b < chunk_end b at → Body b 9 (at + 4)
  stuck_at : {n p : ℕ} (c : Cursor) → Way b c → Stuck b c n p → Body b n p

-- no cursor lies in front of the track's body
start-low : (b : List ℕ) (at : ℕ) (c : Cursor) → Along (Go b) (start_of b at) c → at + 8 ≤ c.at
start-low b at c w = way-low b w

-- it lies behind the head's end
body-low : {b : List ℕ} {n p : ℕ} → Body b n p → (8 + four_at b 4 ≤ p) × (9 ≤ n)
body-low (cut at looked h) = (chunk-low looked, omega arith)
body-low (long at looked h k) = (omega (arith, chunk-low looked), omega arith)
body-low {b} (stuck_at c way s) =
    let l = chunk-low way.track.looked in
    let k = start-low b way.at c way.way in
    (omega (arith, (stuck-low s).0), (stuck-low s).1)

-- what is so of each case, or why it is none
record Each (b : List ℕ) (P : ℕ → ℕ → Type 0) : Type 0 where
  name : P 9 0 ⊎ (four_at b 0 ≡ 1297377380)
  size : P 9 4 ⊎ ((6 ≤ four_at b 4) × (chunk_end b 0 ≤ length b))
  format : P 10 8 ⊎ (two_at b 8 ≡ 0)
  tracks : P 9 10 ⊎ (two_at b 10 ≡ 1)
  some : P 9 12 ⊎ (two_at b 12 ≡ 0 → ⊥)
  ticks : P 10 12 ⊎ (two_at b 12 ≤ 32767)
  body : (n p : ℕ) → Body b n p → P n p

-- one of two where the other is not so
unless : {A B : Type 0} → A ⊎ B → (B → ⊥) → A
unless (inl a) none = a
unless (inr b) none = absurd (none b)

-- it is so of whatever is wrong
each : {b : List ℕ} {P : ℕ → ℕ → Type 0} {n p : ℕ} → Each b P → Wrong b n p → P n p
each e (Wrong.no-head h) = unless e.name h
each e (Wrong.short-head h) = unless e.size (λ g. omega (arith, g.0))
each e (Wrong.long-head h) = unless e.size (λ g. omega (arith, g.1))
each e (Wrong.format h) = unless e.format h
each e (Wrong.tracks h) = unless e.tracks h
each e (Wrong.no-division h) = unless e.some (λ g. g h)
each e (Wrong.smpte h) = unless e.ticks (λ g. omega arith)
each e (Wrong.no_chunk at looked h) = e.body 9 at (cut at looked h)
each e (Wrong.long-chunk at looked h k) = e.body 9 (at + 4) (long at looked h k)
each e (Wrong.delta c r f) = e.body 9 c.at (stuck_at c (reached-way r) (no-delta f))
each e (Wrong.event c ticks place r f g) = e.body 9 place (stuck_at c (reached-way r) (bad-event ticks place f g))
each e (Wrong.late c ticks place r f g) = e.body 11 place (stuck_at c (reached-way r) (too-late ticks place f g))

-- a head with which nothing is wrong
record Headed (b : List ℕ) : Type 0 where
  name : four_at b 0 ≡ 1297377380
  size : (6 ≤ four_at b 4) × (chunk_end b 0 ≤ length b)
  format : two_at b 8 ≡ 0
  tracks : two_at b 10 ≡ 1
  some : two_at b 12 ≡ 0 → ⊥
  ticks : two_at b 12 ≤ 32767

-- then something can be wrong behind it only
behind : {b : List ℕ} {P : ℕ → ℕ → Type 0} → Headed b → ((n p : ℕ) → Body b n p → P n p) → Each b P
behind h body =
    record { name = inr h.name; size = inr h.size; format = inr h.format; tracks = inr h.tracks; some = inr h.some; ticks = inr h.ticks; body = body }

-- what is so of a song: refused, it is of the first that is wrong; else nothing is
abbrev Verdict : List ℕ → Song → Type 0
Verdict b (Refused number place) = First b number place
Verdict b (Events es) = (number place : ℕ) → Wrong b number place → ⊥

-- an event in front changes none of that
behind-verdict : (b : List ℕ) (e : Event) (s : Song) → Verdict b s → Verdict b (behind_event e s)
behind-verdict b e (Refused number place) v = v
behind-verdict b e (Events es) v = v

-- ---- the track
module _ (b : List ℕ) (good : Headed b) (at : ℕ) (track : Tracked b at) where
  -- whatever is wrong is so at a cursor of this track
  in-track : {n p : ℕ} → Body b n p → (c : Cursor) × Along (Go b) (start_of b at) c × Stuck b c n p
  in-track (cut x looked h) =
      let same_place : x ≡ at = chunk-same looked track.looked (cut-stops b x h) (track-stops b at track) in
      absurd (omega (arith, track.whole.name_in))
  in-track (long x looked h k) =
      let same_place : x ≡ at = chunk-same looked track.looked (long-stops b x k) (track-stops b at track) in
      absurd (omega (arith, track.whole.body-in, ap (chunk_end b) same_place))
  in-track (stuck_at c way s) =
      let same_place : way.at ≡ at = chunk-same way.track.looked track.looked (track-stops b way.at way.track) (track-stops b at track) in
      (c, subst (λ (x : ℕ). Along (Go b) (start_of b x) c) same_place way.way, s)

  module _ (c : Cursor) (reached : Arrived b c) (way : Along (Go b) (start_of b at) c) where
    -- where the track stops, whatever is wrong is so there
    at-stop : ((further : Cursor) → Go b c further → ⊥) → {n p : ℕ} → Body b n p → Stuck b c n p
    at-stop stop {n} {p} w =
        let t = in-track w in
        subst (λ (x : Cursor). Stuck b x n p) (same (go-one b) t.1 way (stuck-stops t.2) stop) t.2

    -- the first that is wrong there is the first of the file
    stuck-first : {n p : ℕ} → Least b c n p → First b n p
    stuck-first l =
        record {
          wrong = stuck-wrong reached l.stuck;
          before = λ m q w. each (behind good (λ m q x. l.before m q (at-stop (stuck-stops l.stuck) x))) w;
        }

    -- where the track ends nothing is wrong
    ended : meet_at b c ≡ End → (n p : ℕ) → Wrong b n p → ⊥
    ended e n p w = each (behind good (λ n p x. stuck-ends (at-stop stops x) e)) w
      where
        stops : (further : Cursor) → Go b c further → ⊥
        stops further (inl f) = let z : ◌≡◌ {A = ℕ} 0 1 = cc in omega arith
        stops further (inr f) = let g = f.1 in let z : ◌≡◌ {A = ℕ} 0 1 = cc in omega arith

  -- the song of the track, event by event
  song-verdict : (n : ℕ) (c : Cursor) → Arrived b c → Along (Go b) (start_of b at) c → edge_of b c < c.at + n → Verdict b (song_from n b c)
  unfolding song_from
  song-verdict zero c r w h = stuck-first c r w (no-delta-first b c (quantity-edge b (edge_of b c) c.at (omega arith)))
  song-verdict (suc n) c r w h = go (λ further. song-verdict n further) (meet_at b c) refl
    where
      go : ((further : Cursor) → Arrived b further → Along (Go b) (start_of b at) further → edge_of b further < further.at + n → Verdict b (song_from n b further)) → (m : Met) → meet_at b c ≡ m → Verdict b (elim m [ Fault number place ↦ Refused number place | End ↦ Events [] | Passed further ↦ song_from n b further | Given message further ↦ behind_event (event_of message further) (song_from n b further) ])
      go more (Fault number place) e = stuck-first c r w (least-fault b c number place e)
      go more End e = ended c r w e
      go more (Passed further) e =
          let f = meet-passed b c further e in
          let edge = further-edge b c further f in
          more further (behind-passed c further r e) (on c further w (inl e)) (omega arith)
      go more (Given message further) e =
          let f = (meet-given b c message further e).0 in
          let edge = further-edge b c further f in
          behind-verdict b (event_of message further) (song_from n b further) (more further (behind-given c message further r e) (on c further w (inr (message, e))) (omega arith))

-- ---- the chunks
module _ (b : List ℕ) (good : Headed b) where
  -- a name that is cut off is the first
  cut-first : (x : ℕ) → Chunked b x → length b < x + 4 → First b 9 x
  cut-first x looked h = record { wrong = Wrong.no_chunk x looked h; before = λ n p w. each (behind good (λ n p v. only v)) w }
    where
      only : {n p : ℕ} → Body b n p → Before 9 x n p
      only (cut y other k) = inr (chunk-same looked other (cut-stops b x h) (cut-stops b y k), omega arith)
      only (long y other k l) =
          let at_one : y ≡ x = chunk-same other looked (long-stops b y l) (cut-stops b x h) in
          absurd (omega arith)
      only (stuck_at c way s) =
          let at_one : way.at ≡ x = chunk-same way.track.looked looked (track-stops b way.at way.track) (cut-stops b x h) in
          absurd (omega (arith, way.track.whole.name_in))

  -- a chunk that goes past the file is the first
  long-first : (x : ℕ) → Chunked b x → x + 4 ≤ length b → length b < chunk_end b x → First b 9 (x + 4)
  long-first x looked h k = record { wrong = Wrong.long-chunk x looked h k; before = λ n p w. each (behind good (λ n p v. only v)) w }
    where
      only : {n p : ℕ} → Body b n p → Before 9 (x + 4) n p
      only (cut y other l) =
          let at_one : y ≡ x = chunk-same other looked (cut-stops b y l) (long-stops b x k) in
          absurd (omega arith)
      only (long y other l m) = let at_one : x ≡ y = chunk-same looked other (long-stops b x k) (long-stops b y m) in inr (omega arith, omega arith)
      only (stuck_at c way s) =
          let at_one : way.at ≡ x = chunk-same way.track.looked looked (track-stops b way.at way.track) (long-stops b x k) in
          absurd (omega (arith, way.track.whole.body-in, ap (chunk_end b) at_one))

-- the song of the track that a head leads to
abbrev song_of : List ℕ → Header → Song
song_of b (Header.Refused number place) = Refused number place
song_of b (Track at end) = song_from (turns b) b (start_at b at end)

-- what is so of the song that a head leads to
abbrev Told : List ℕ → Header → Type 0
Told b h = Verdict b (song_of b h)

module _ (b : List ℕ) (good : Headed b) where
  -- the song of the track from its beginning on
  begun : (x : ℕ) → Tracked b x → Told b (Track (x + 8) (chunk_end b x))
  begun x t = song-verdict b good x t (turns b) (start_of b x) (begins x t) here (omega (arith, edge_in b (start_of b x)))

  -- the chunks, one after the other
  chunks-verdict : (n x : ℕ) → Chunked b x → length b < x + n → Told b (track_from n b x)
  unfolding track_from chunk_end
  chunks-verdict zero x looked h = cut-first b good x looked (omega arith)
  chunks-verdict (suc n) x looked h =
      either (Told b) (ltb (length b) (x + 4)) _ _ (λ e. cut-first b good x looked (ltb-true (length b) (x + 4) e))
      (λ e. either (Told b) (ltb (length b) (chunk_end b x)) _ _ (λ f. long-first b good x looked (ltb-false (length b) (x + 4) e) (ltb-true (length b) (chunk_end b x) f))
      (λ f. let whole : Whole b x = record { name_in = ltb-false (length b) (x + 4) e; body-in = ltb-false (length b) (chunk_end b x) f } in
      either (Told b) (eqb (four_at b x) 1297379947) _ _
      (λ g. begun x (record { looked = looked; whole = whole; name = eqb-true (four_at b x) 1297379947 g }))
      (λ g. chunks-verdict n (chunk_end b x) (behind-other x looked whole (eqb-false (four_at b x) 1297379947 g)) (omega arith))))

-- ---- the head: each fault of it is the first where those in front of it are none
later : (b : List ℕ) (number place : ℕ) → place < 8 + four_at b 4 → (n p : ℕ) → Body b n p → Before number place n p
later b number place h n p w = inl (omega (arith, (body-low w).0))

module _ (b : List ℕ) where
  -- no MThd
  name-first : (four_at b 0 ≡ 1297377380 → ⊥) → First b 9 0
  name-first v = record { wrong = Wrong.no-head v; before = λ n p w. each {P = Before 9 0} (record { name = inl (inr (refl, omega arith)); size = inl (inl (omega arith)); format = inl (inl (omega arith)); tracks = inl (inl (omega arith)); some = inl (inl (omega arith)); ticks = inl (inl (omega arith)); body = later b 9 0 (omega arith) }) w }

  -- a length below 6 or past the file
  length-first : four_at b 0 ≡ 1297377380 → (four_at b 4 < 6) ⊎ (length b < chunk_end b 0) → First b 9 4
  length-first name v = record { wrong = ⊎_elim (λ h. Wrong.short-head h) (λ h. Wrong.long-head h) v; before = λ n p w. each {P = Before 9 4} (record { name = inr name; size = inl (inr (refl, omega arith)); format = inl (inl (omega arith)); tracks = inl (inl (omega arith)); some = inl (inl (omega arith)); ticks = inl (inl (omega arith)); body = later b 9 4 (omega arith) }) w }

  -- a format other than 0
  format-first : four_at b 0 ≡ 1297377380 → ((6 ≤ four_at b 4) × (chunk_end b 0 ≤ length b)) → (two_at b 8 ≡ 0 → ⊥) → First b 10 8
  format-first name size v = record { wrong = Wrong.format v; before = λ n p w. each {P = Before 10 8} (record { name = inr name; size = inr size; format = inl (inr (refl, omega arith)); tracks = inl (inl (omega arith)); some = inl (inl (omega arith)); ticks = inl (inl (omega arith)); body = later b 10 8 (omega (arith, size.0)) }) w }

  -- a number of tracks other than 1
  tracks-first : four_at b 0 ≡ 1297377380 → ((6 ≤ four_at b 4) × (chunk_end b 0 ≤ length b)) → two_at b 8 ≡ 0 → (two_at b 10 ≡ 1 → ⊥) → First b 9 10
  tracks-first name size format v = record { wrong = Wrong.tracks v; before = λ n p w. each {P = Before 9 10} (record { name = inr name; size = inr size; format = inr format; tracks = inl (inr (refl, omega arith)); some = inl (inl (omega arith)); ticks = inl (inl (omega arith)); body = later b 9 10 (omega (arith, size.0)) }) w }

  -- a division of 0
  division-first : four_at b 0 ≡ 1297377380 → ((6 ≤ four_at b 4) × (chunk_end b 0 ≤ length b)) → two_at b 8 ≡ 0 → two_at b 10 ≡ 1 → two_at b 12 ≡ 0 → First b 9 12
  division-first name size format tracks v = record { wrong = Wrong.no-division v; before = λ n p w. each {P = Before 9 12} (record { name = inr name; size = inr size; format = inr format; tracks = inr tracks; some = inl (inr (refl, omega arith)); ticks = inl (inr (refl, omega arith)); body = later b 9 12 (omega (arith, size.0)) }) w }

  -- a division in SMPTE frames
  smpte-first : four_at b 0 ≡ 1297377380 → ((6 ≤ four_at b 4) × (chunk_end b 0 ≤ length b)) → two_at b 8 ≡ 0 → two_at b 10 ≡ 1 → (two_at b 12 ≡ 0 → ⊥) → 32767 < two_at b 12 → First b 10 12
  smpte-first name size format tracks some v = record { wrong = Wrong.smpte v; before = λ n p w. each {P = Before 10 12} (record { name = inr name; size = inr size; format = inr format; tracks = inr tracks; some = inr some; ticks = inl (inr (refl, omega arith)); body = later b 10 12 (omega (arith, size.0)) }) w }

  -- of two tests one holds
  some_holds : (s t : Bool) → (s || t) ≡ true → (s ≡ true) ⊎ (t ≡ true)
  some_holds true t e = inl refl
  some_holds false t e = inr e

  -- the head, test by test
  head-verdict : Told b (head_of b)
  unfolding head_of chunk_end
  head-verdict =
      either (Told b) (not (eqb (four_at b 0) 1297377380)) _ _ (λ e. name-first (eqb-false (four_at b 0) 1297377380 (not-true (eqb (four_at b 0) 1297377380) e)))
      (λ e. let name = eqb-true (four_at b 0) 1297377380 (not-false (eqb (four_at b 0) 1297377380) e) in
      either (Told b) (ltb (four_at b 4) 6 || ltb (length b) (chunk_end b 0)) _ _
      (λ f. length-first name (⊎_elim (λ g. inl (ltb-true (four_at b 4) 6 g)) (λ g. inr (ltb-true (length b) (chunk_end b 0) g)) (some_holds (ltb (four_at b 4) 6) (ltb (length b) (chunk_end b 0)) f)))
      (λ f. let g = neither (ltb (four_at b 4) 6) (ltb (length b) (chunk_end b 0)) f in
      let size : (6 ≤ four_at b 4) × (chunk_end b 0 ≤ length b) = (ltb-false (four_at b 4) 6 g.0, ltb-false (length b) (chunk_end b 0) g.1) in
      either (Told b) (not (eqb (two_at b 8) 0)) _ _ (λ h. format-first name size (eqb-false (two_at b 8) 0 (not-true (eqb (two_at b 8) 0) h)))
      (λ h. let format = eqb-true (two_at b 8) 0 (not-false (eqb (two_at b 8) 0) h) in
      either (Told b) (not (eqb (two_at b 10) 1)) _ _ (λ k. tracks-first name size format (eqb-false (two_at b 10) 1 (not-true (eqb (two_at b 10) 1) k)))
      (λ k. let tracks = eqb-true (two_at b 10) 1 (not-false (eqb (two_at b 10) 1) k) in
      either (Told b) (eqb (two_at b 12) 0) _ _ (λ l. division-first name size format tracks (eqb-true (two_at b 12) 0 l))
      (λ l. let some = eqb-false (two_at b 12) 0 l in
      either (Told b) (ltb 32767 (two_at b 12)) _ _ (λ m. smpte-first name size format tracks some (ltb-true 32767 (two_at b 12) m))
      (λ m. chunks-verdict b
      (record { name = name; size = size; format = format; tracks = tracks; some = some; ticks = ltb-false 32767 (two_at b 12) m })
      (length b) (chunk_end b 0) behind-head (omega arith)))))))

-- ---- the file

-- one that is not too long is told by its head
events-told : (b : List ℕ) → length b ≤ 65536 → events_of b ≡ song_of b (head_of b)
unfolding events_of
events-told b h = rw (le-ltb 65536 (length b) h) (go (head_of b))
  where
    go : (x : Header) → (elim x [ Header.Refused number place ↦ Refused number place | Track at end ↦ song_from (turns b) b (start_at b at end) ]) ≡ song_of b x
    go (Header.Refused number place) = refl
    go (Track at end) = refl

-- a refusal is of the first that is wrong, and where there is none nothing is
verdict : (b : List ℕ) → length b ≤ 65536 → Verdict b (events_of b)
verdict b h = subst (λ (s : Song). Verdict b s) (sym (events-told b h)) (head-verdict b)

-- there is one first
one-first : (b : List ℕ) (n p m q : ℕ) → First b n p → First b m q → (n ≡ m) × (p ≡ q)
one-first b n p m q f g = both (f.before m q g.wrong) (g.before n p f.wrong)
  where
    both : Before n p m q → Before m q n p → (n ≡ m) × (p ≡ q)
    both (inl h) (inl k) = absurd (omega arith)
    both (inl h) (inr k) = absurd (omega (arith, k.0))
    both (inr h) (inl k) = absurd (omega (arith, h.0))
    both (inr h) (inr k) = (le_antisymm h.1 k.1, h.0)

-- a file of more than 65,536 bytes is refused there
pub long-refused : LongRefused
unfolding events_of
long-refused b h = rw (lt-ltb 65536 (length b) h) refl

-- a refusal is of the first that is wrong
pub refused-first : RefusedFirst
refused-first b number place h e = subst (λ (s : Song). Verdict b s) e (verdict b h)

-- the first that is wrong is refused
pub first-refused : FirstRefused
first-refused b number place h f = go (events_of b) refl
  where
    go : (s : Song) → events_of b ≡ s → events_of b ≡ Refused number place
    go (Refused n p) e = let o = one-first b n p number place (refused-first b n p h e) f in let x = o.0 in let y = o.1 in cc
    go (Events es) e = absurd (subst (λ (s : Song). Verdict b s) e (verdict b h) number place f.wrong)

-- a file that is not refused is not too long, and nothing is wrong with it
pub good-not-wrong : GoodNotWrong
good-not-wrong b es e = go (ltb 65536 (length b)) refl
  where
    go : (t : Bool) → ltb 65536 (length b) ≡ t → (length b ≤ 65536) × ((number place : ℕ) → Wrong b number place → ⊥)
    go true f = let l = long-refused b (ltb-true 65536 (length b) f) in let z : ◌≡◌ {A = ℕ} 0 1 = cc in absurd (omega arith)
    go false f = let h = ltb-false 65536 (length b) f in (h, subst (λ (s : Song). Verdict b s) e (verdict b h))

-- a file with which nothing is wrong is not refused
pub not-wrong-good : NotWrongGood
not-wrong-good b h none = go (events_of b) refl
  where
    go : (s : Song) → events_of b ≡ s → (es : List Event) × (events_of b ≡ Events es)
    go (Refused n p) e = absurd (none n p (refused-first b n p h e).wrong)
    go (Events es) e = (es, e)

-- an empty file: what is wrong first is its name, though there is no track either
pub empty-refused : First [] 9 0
unfolding events_of head_of four_at two_at u8_at
empty-refused = refused-first [] 9 0 (lit≤ tt) refl
