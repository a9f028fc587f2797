-- What the two walks through the sequence find is what the definitions say: what is late, how long the file is, and its bytes.
use Rattle.std.proofs.Common.{Option, Some, None}
use mathlib.Core.Bool.{Bool, true, false, cond}
use mathlib.Core.List.{List, [], ◌∷◌, ◌++◌, append_assoc, append-nil}
use mathlib.Core.Path.{◌≡◌, refl, sym, ap, ap₂, ◌∙◌}
use Prim.Native.Nat.{ℕ, zero, suc, ◌+◌, ◌*◌, ◌-◌, ◌<◌, ◌≤◌, min}
use native.Mathlib.Omega.{arith}
use borrow.Author.Tests.{ltb-true, ltb-false, lt-ltb, le-ltb, eq-eqb, ne_eqb}
use lib.Dec.{ltb, eqb}
use lib.ListN.{length, drop, length-append}
use Rattle.smf.specs.declared.Item.{Item}
use Rattle.smf.specs.declared.Item.TheVariants.{Bad, End, Passed, Tempo, Channel}
use Rattle.smf.specs.Spelling.{Mark, Score, ticks_of, running_behind, quantity_bytes, status_bytes, data_bytes, event_bytes, track_bytes, track_of, file_bytes, two_bytes, four_bytes}
use Rattle.merge.specs.declared.Entry.{Entry}
use Rattle.merge.specs.declared.Hour.{Hour}
use Rattle.merge.specs.declared.Line.{Line}
use Rattle.merge.specs.declared.Tally.{Tally}
use Rattle.merge.specs.Lateness.{tempo_after, sum_at, nearer, late_from, late_of}
use Rattle.merge.specs.Bridges.{longest_delta, bridges_of, rest_of, bridged}
use Rattle.merge.specs.Marks.{last_end_from, marks_from, last_from, score_of}
use Rattle.merge.specs.declared.Front.{Front}
use Rattle.merge.specs.Fronts.{front_of}
use Rattle.merge.specs.Lanes.{flaw_in}
use Rattle.merge.specs.Merging.{Declined, Issued, sequence_of, joined_file, fitted, joined_of, merged_of}
use Rattle.merge.specs.Internal.Lines.{laid_over, bridge_bytes, gap_bytes, running_after, entry_bytes, line_after, closing_bytes, line_bytes, line_start, head_bytes, held_count}
use Rattle.merge.specs.Internal.Order.{hour_after, told_of, tally_start, tally_of}

-- ---- 1. What is late

-- the smaller of two places, where there are any
abbrev either-spot : Option ℕ → Option ℕ → Option ℕ
either-spot None s = s
either-spot (Some place) s = nearer place s

-- a place told now or later
spot-moves : (place : ℕ) (s t : Option ℕ) → either-spot (nearer place s) t ≡ either-spot s (nearer place t)
spot-moves place None t = refl
spot-moves place (Some other) None = ap Some (omega arith)
spot-moves place (Some other) (Some third) = ap Some (omega arith)

-- nothing is told of nothing
spot-none : (s : Option ℕ) → either-spot s None ≡ s
spot-none None = refl
spot-none (Some place) = refl

-- U, held at one past the limit: the next U is the same
held-sum : (limit sum gap tempo : ℕ) → min (min sum (limit + 1) + gap * tempo) (limit + 1) ≡ min (sum + gap * tempo) (limit + 1)
held-sum limit sum gap tempo = omega arith

-- it is past the limit where U is
held-late : (limit sum : ℕ) → ltb limit (min sum (limit + 1)) ≡ ltb limit sum
held-late limit sum = go (ltb limit sum) refl
  where
    go : (t : Bool) → ltb limit sum ≡ t → ltb limit (min sum (limit + 1)) ≡ t
    go true e = let h = ltb-true limit sum e in lt-ltb limit (min sum (limit + 1)) (omega arith)
    go false e = let h = ltb-false limit sum e in le-ltb limit (min sum (limit + 1)) (omega arith)

-- the walk tells the smallest place of what is late
tally-late : (es : List Entry) (t : Tally) (division sum : ℕ) → t.hour.sum ≡ min sum (3600000000 * division + 1)
    → (tally_of t es (3600000000 * division)).hour.late ≡ either-spot t.hour.late (late_from division t.hour.tick t.hour.tempo sum es)
unfolding tally_of late_from told_of hour_after
tally-late [] t division sum h = sym (spot-none t.hour.late)
tally-late (e ∷ es) t division sum h =
    let limit = 3600000000 * division in
    let next = sum_at t.hour.tick t.hour.tempo sum e in
    let same : (told_of t e limit).hour.sum ≡ min next (limit + 1) =
    ap (λ (x : ℕ). min (x + (e.tick - t.hour.tick) * t.hour.tempo) (limit + 1)) h ∙ held-sum limit sum (e.tick - t.hour.tick) t.hour.tempo in
    let more = tally-late es (told_of t e limit) division next same in
    let late = ap (λ (x : ℕ). ltb limit x) same ∙ held-late limit next in
    more ∙ told (late_from division e.tick (tempo_after t.hour.tempo e.item) next es) (ltb limit (told_of t e limit).hour.sum) (ltb limit next) late
  where
    told : (rest : Option ℕ) (u v : Bool) → u ≡ v → either-spot (cond u (nearer e.place t.hour.late) t.hour.late) rest ≡ either-spot t.hour.late (cond v (nearer e.place rest) rest)
    told rest u v g = ap (λ (x : Bool). either-spot (cond x (nearer e.place t.hour.late) t.hour.late) rest) g ∙ by v
      where
        by : (v : Bool) → either-spot (cond v (nearer e.place t.hour.late) t.hour.late) rest ≡ either-spot t.hour.late (cond v (nearer e.place rest) rest)
        by true = spot-moves e.place t.hour.late rest
        by false = refl

-- of a whole sequence
pub all-late : (es : List Entry) (division : ℕ) → (tally_of tally_start es (3600000000 * division)).hour.late ≡ late_of division es
all-late es division = tally-late es tally_start division 0 (omega arith)

-- ---- 2. How long the file is

-- a held count grows as the count does
held_more : (a b : ℕ) → held_count (held_count a + b) ≡ held_count (a + b)
held_more a b = omega arith

tally-size : (es : List Entry) (t : Tally) (limit : ℕ)
    → held_count ((tally_of t es limit).size + length (closing_bytes (tally_of t es limit).line)) ≡ held_count (t.size + length (line_bytes t.line es))
unfolding tally_of line_bytes told_of
tally-size [] t limit = refl
tally-size (e ∷ es) t limit =
    let rest = length (line_bytes (line_after t.line e) es) in
    tally-size es (told_of t e limit) limit ∙ held_more (t.size + length (entry_bytes t.line e)) rest
    ∙ ap held_count (omega (arith, length-append (entry_bytes t.line e) (line_bytes (line_after t.line e) es)))

-- the count stays held
pub tally-held : (es : List Entry) (t : Tally) (limit : ℕ) → t.size ≤ 4294967318 → (tally_of t es limit).size ≤ 4294967318
unfolding tally_of told_of
tally-held [] t limit h = h
tally-held (e ∷ es) t limit h = tally-held es (told_of t e limit) limit (omega arith)

-- of a whole sequence
pub all-size : (es : List Entry) (limit : ℕ)
    → held_count ((tally_of tally_start es limit).size + length (closing_bytes (tally_of tally_start es limit).line)) ≡ held_count (22 + length (line_bytes line_start es))
all-size es limit = tally-size es tally_start limit

-- ---- 3. Its bytes

-- a bridge in front of others
bridge-front : (tempo n : ℕ) → bridge_bytes tempo (suc n) ≡ (quantity_bytes longest_delta ++ event_bytes true 0 (Mark.Tempo longest_delta tempo)) ++ bridge_bytes tempo n
unfolding bridge_bytes
bridge-front tempo zero = sym (append-nil (quantity_bytes longest_delta ++ event_bytes true 0 (Mark.Tempo longest_delta tempo)))
bridge-front tempo (suc n) =
    let one = quantity_bytes longest_delta ++ event_bytes true 0 (Mark.Tempo longest_delta tempo) in
    ap (λ (xs : List ℕ). xs ++ one) (bridge-front tempo n) ∙ append_assoc one (bridge_bytes tempo n) one

-- behind a bridge no status runs
no_run : (n : ℕ) → ◌≡◌ {A = ℕ} (cond (eqb n 0) 0 0) 0
no_run n = go (eqb n 0)
  where
    go : (t : Bool) → ◌≡◌ {A = ℕ} (cond t 0 0) 0
    go true = refl
    go false = refl

-- bridges in front of some marks
bridges-written : (n k tempo running : ℕ) (ms : List Mark) (last : ℕ)
    → track_bytes (λ i. true) k running (bridged tempo n ms) last ≡ bridge_bytes tempo n ++ track_bytes (λ i. true) (k + n) (cond (eqb n 0) running 0) ms last
unfolding bridged track_bytes bridge_bytes event_bytes
bridges-written zero k tempo running ms last = let z : k ≡ k + 0 = omega arith in ap (λ (i : ℕ). track_bytes (λ i. true) i running ms last) z
bridges-written (suc n) k tempo running ms last =
    let one = quantity_bytes longest_delta ++ event_bytes true 0 (Mark.Tempo longest_delta tempo) in
    let z : suc k + n ≡ k + suc n = omega arith in
    let some : (suc n ≡ 0 → ⊥) = λ e. absurd (omega (arith, e)) in
    let none : cond (eqb n 0) 0 0 ≡ cond (eqb (suc n) 0) running 0 = no_run n ∙ sym (rw (ne_eqb (suc n) 0 some) refl) in
    let delta = quantity_bytes longest_delta in
    let change = event_bytes true 0 (Mark.Tempo longest_delta tempo) in
    let behind = track_bytes (λ i. true) (k + suc n) (cond (eqb (suc n) 0) running 0) ms last in
    let more = bridges-written n (suc k) tempo 0 ms last ∙ ap₂ (λ (i r : ℕ). bridge_bytes tempo n ++ track_bytes (λ i. true) i r ms last) z none in
    ap (λ (xs : List ℕ). delta ++ (change ++ xs)) more ∙ sym (append_assoc delta change (bridge_bytes tempo n ++ behind))
    ∙ sym (append_assoc (delta ++ change) (bridge_bytes tempo n) behind) ∙ ap (λ (xs : List ℕ). xs ++ behind) (sym (bridge-front tempo n))

-- the definitions of a score, one event on
module _ (e : Entry) (es : List Entry) where
  -- an event that is left out
  record Skipped : Type 0 where
    ends : (end : ℕ) → last_end_from end (e ∷ es) ≡ last_end_from end es
    marks : (end tick tempo : ℕ) → marks_from end tick tempo (e ∷ es) ≡ marks_from end tick tempo es
    lasts : (end tick : ℕ) → last_from end tick (e ∷ es) ≡ last_from end tick es
    line : (l : Line) → line_bytes l (e ∷ es) ≡ line_bytes l es

  skip-bad : e.item ≡ Bad → Skipped
  unfolding last_end_from marks_from last_from line_bytes entry_bytes
  skip-bad p =
      record {
        ends = λ end. rw (p, last_end_from) refl;
        marks = λ end tick tempo. rw (p, marks_from) refl;
        lasts = λ end tick. rw (p, last_from) refl;
        line = λ l. rw p refl;
      }

  skip-passed : (behind : ℕ) → e.item ≡ Passed behind → Skipped
  unfolding last_end_from marks_from last_from line_bytes entry_bytes
  skip-passed behind p =
      record {
        ends = λ end. rw (p, last_end_from) refl;
        marks = λ end tick tempo. rw (p, marks_from) refl;
        lasts = λ end tick. rw (p, last_from) refl;
        line = λ l. rw p refl;
      }

  -- an end of track
  record Ended : Type 0 where
    ends : (end : ℕ) → last_end_from end (e ∷ es) ≡ last_end_from e.tick es
    marks : (end tick tempo : ℕ) → marks_from end tick tempo (e ∷ es) ≡ marks_from end tick tempo es
    lasts : (end tick : ℕ) → last_from end tick (e ∷ es) ≡ last_from end tick es
    line : (l : Line) → line_bytes l (e ∷ es) ≡ line_bytes (record { tick = l.tick; tempo = l.tempo; running = l.running; end = e.tick }) es

  track-ends : e.item ≡ End → Ended
  unfolding last_end_from marks_from last_from line_bytes entry_bytes
  track-ends p =
      record {
        ends = λ end. rw (p, last_end_from) refl;
        marks = λ end tick tempo. rw (p, marks_from) refl;
        lasts = λ end tick. rw (p, last_from) refl;
        line = λ l. rw p refl;
      }

  -- an event that is kept as a mark behind its gap
  record Marked (mark : ℕ → Mark) (running : ℕ) (tempo : ℕ → ℕ) : Type 0 where
    ends : (end : ℕ) → last_end_from end (e ∷ es) ≡ last_end_from end es
    marks : (end tick t : ℕ) → marks_from end tick t (e ∷ es) ≡ bridged t (bridges_of (e.tick - tick)) (mark (rest_of (e.tick - tick)) ∷ marks_from end e.tick (tempo t) es)
    lasts : (end tick : ℕ) → last_from end tick (e ∷ es) ≡ last_from end e.tick es
    line : (l : Line) → line_bytes l (e ∷ es) ≡ (gap_bytes l.tempo (e.tick - l.tick) ++ event_bytes true (running_after l.running (e.tick - l.tick)) (mark 0))
        ++ line_bytes (record { tick = e.tick; tempo = tempo l.tempo; running = running; end = l.end }) es

  mark-tempo : (next behind : ℕ) → e.item ≡ Tempo next behind → Marked (λ ticks. Mark.Tempo ticks next) 0 (λ t. next)
  unfolding last_end_from marks_from last_from line_bytes entry_bytes
  mark-tempo next behind p =
      record {
        ends = λ end. rw (p, last_end_from) refl;
        marks = λ end tick t. rw (p, marks_from) refl;
        lasts = λ end tick. rw (p, last_from) refl;
        line = λ l. rw p refl;
      }

  mark-channel : (status first second behind : ℕ) → e.item ≡ Channel status first second behind → Marked (λ ticks. Mark.Channel ticks status first second) status (λ t. t)
  unfolding last_end_from marks_from last_from line_bytes entry_bytes
  mark-channel status first second behind p =
      record {
        ends = λ end. rw (p, last_end_from) refl;
        marks = λ end tick t. rw (p, marks_from) refl;
        lasts = λ end tick. rw (p, last_from) refl;
        line = λ l. rw p refl;
      }

-- the bytes of the score from a line on
abbrev score_from : ℕ → Line → List Entry → List ℕ
score_from k l es = track_bytes (λ i. true) k l.running (marks_from (last_end_from l.end es) l.tick l.tempo es) (last_from (last_end_from l.end es) l.tick es)

-- a mark behind its gap, in front of the others
mark-written : (k n rest running tempo : ℕ) (mark : ℕ → Mark) (ms : List Mark) (last : ℕ) → ((ticks : ℕ) → ticks_of (mark ticks) ≡ ticks)
    → ((r ticks : ℕ) → event_bytes true r (mark ticks) ≡ event_bytes true r (mark 0))
    → track_bytes (λ i. true) k running (bridged tempo n (mark rest ∷ ms)) last
    ≡ ((bridge_bytes tempo n ++ quantity_bytes rest) ++ event_bytes true (cond (eqb n 0) running 0) (mark 0)) ++ track_bytes (λ i. true) (suc (k + n)) (running_behind (mark rest)) ms last
unfolding track_bytes
mark-written k n rest running tempo mark ms last t e =
    let r = cond (eqb n 0) running 0 in
    let event = event_bytes true r (mark 0) in
    let behind = track_bytes (λ i. true) (suc (k + n)) (running_behind (mark rest)) ms last in
    bridges-written n k tempo running (mark rest ∷ ms) last
    ∙ ap (λ (x : ℕ). bridge_bytes tempo n ++ (quantity_bytes x ++ (event_bytes true r (mark rest) ++ behind))) (t rest)
    ∙ ap (λ (xs : List ℕ). bridge_bytes tempo n ++ (quantity_bytes rest ++ (xs ++ behind))) (e r rest)
    ∙ sym (append_assoc (bridge_bytes tempo n) (quantity_bytes rest) (event ++ behind))
    ∙ sym (append_assoc (bridge_bytes tempo n ++ quantity_bytes rest) event behind)

-- the end of track behind its gap
closing-written : (l : Line) (k : ℕ) → score_from k l [] ≡ line_bytes l []
unfolding last_end_from marks_from last_from line_bytes closing_bytes gap_bytes track_bytes
closing-written l k =
    let gap = l.end - l.tick in
    bridges-written (bridges_of gap) k l.tempo l.running [] (rest_of gap) ∙ sym (append_assoc (bridge_bytes l.tempo (bridges_of gap)) (quantity_bytes (rest_of gap)) (255 ∷ 47 ∷ 0 ∷ []))

-- an event whose score is known
module _ (e : Entry) (es : List Entry) (l : Line) (k : ℕ) (more : (l : Line) (k : ℕ) → score_from k l es ≡ line_bytes l es) where
  by_parts : (end : ℕ) (ms : List Mark) (last : ℕ) → last_end_from l.end (e ∷ es) ≡ end → marks_from end l.tick l.tempo (e ∷ es) ≡ ms → last_from end l.tick (e ∷ es) ≡ last
      → score_from k l (e ∷ es) ≡ track_bytes (λ i. true) k l.running ms last
  by_parts end ms last p q r =
      ap (λ (x : ℕ). track_bytes (λ i. true) k l.running (marks_from x l.tick l.tempo (e ∷ es)) (last_from x l.tick (e ∷ es))) p
      ∙ ap₂ (λ (xs : List Mark) (x : ℕ). track_bytes (λ i. true) k l.running xs x) q r

  one-skipped : Skipped e es → score_from k l (e ∷ es) ≡ line_bytes l (e ∷ es)
  one-skipped s =
      let end = last_end_from l.end es in
      by_parts end (marks_from end l.tick l.tempo es) (last_from end l.tick es) (s.ends l.end) (s.marks end l.tick l.tempo) (s.lasts end l.tick)
      ∙ more l k ∙ sym (s.line l)

  one_ended : Ended e es → score_from k l (e ∷ es) ≡ line_bytes l (e ∷ es)
  one_ended s =
      let end = last_end_from e.tick es in
      by_parts end (marks_from end l.tick l.tempo es) (last_from end l.tick es) (s.ends l.end) (s.marks end l.tick l.tempo) (s.lasts end l.tick)
      ∙ more (record { tick = l.tick; tempo = l.tempo; running = l.running; end = e.tick }) k ∙ sym (s.line l)

  one-marked : (mark : ℕ → Mark) (running : ℕ) (tempo : ℕ → ℕ) → Marked e es mark running tempo → ((ticks : ℕ) → ticks_of (mark ticks) ≡ ticks) → ((ticks : ℕ) → running_behind (mark ticks) ≡ running)
      → ((r ticks : ℕ) → event_bytes true r (mark ticks) ≡ event_bytes true r (mark 0)) → score_from k l (e ∷ es) ≡ line_bytes l (e ∷ es)
  unfolding gap_bytes running_after
  one-marked mark running tempo s t r v =
      let end = last_end_from l.end es in
      let gap = e.tick - l.tick in
      let n = bridges_of gap in
      let ms = marks_from end e.tick (tempo l.tempo) es in
      let last = last_from end e.tick es in
      let front = (bridge_bytes l.tempo n ++ quantity_bytes (rest_of gap)) ++ event_bytes true (cond (eqb n 0) l.running 0) (mark 0) in
      by_parts end (bridged l.tempo n (mark (rest_of gap) ∷ ms)) last (s.ends l.end) (s.marks end l.tick l.tempo) (s.lasts end l.tick)
      ∙ mark-written k n (rest_of gap) l.running l.tempo mark ms last t v
      ∙ ap (λ (x : ℕ). front ++ track_bytes (λ i. true) (suc (k + n)) x ms last) (r (rest_of gap))
      ∙ ap (λ (xs : List ℕ). front ++ xs) (more (record { tick = e.tick; tempo = tempo l.tempo; running = running; end = l.end }) (suc (k + n)))
      ∙ sym (s.line l)

-- each event's bytes are those of the line
score-written : (es : List Entry) (l : Line) (k : ℕ) → score_from k l es ≡ line_bytes l es
unfolding event_bytes
score-written [] l k = closing-written l k
score-written (e ∷ es) l k = go (λ l k. score-written es l k) e.item refl
  where
    go : ((l : Line) (k : ℕ) → score_from k l es ≡ line_bytes l es) → (i : Item) → e.item ≡ i → score_from k l (e ∷ es) ≡ line_bytes l (e ∷ es)
    go more Bad p = one-skipped e es l k more (skip-bad e es p)
    go more End p = one_ended e es l k more (track-ends e es p)
    go more (Passed behind) p = one-skipped e es l k more (skip-passed e es behind p)
    go more (Tempo next behind) p =
        one-marked e es l k more (λ ticks. Mark.Tempo ticks next) 0 (λ t. next) (mark-tempo e es next behind p) (λ ticks. refl) (λ ticks. refl) (λ r ticks. refl)
    go more (Channel status first second behind) p =
        one-marked e es l k more (λ ticks. Mark.Channel ticks status first second) status (λ t. t) (mark-channel e es status first second behind p) (λ ticks. refl) (λ ticks. refl) (λ r ticks. refl)

-- so the track is the line
pub track-is : (division : ℕ) (es : List Entry) → track_of (λ i. true) (score_of division es) ≡ line_bytes line_start es
unfolding score_of
track-is division es = score-written es line_start 0

-- and the file the head and the line
pub file-is : (division : ℕ) (es : List Entry) → joined_file division es ≡ head_bytes division (length (line_bytes line_start es)) ++ line_bytes line_start es
unfolding joined_file file_bytes score_of two_bytes four_bytes
file-is division es = ap (λ (xs : List ℕ). head_bytes division (length xs) ++ xs) (track-is division es)

-- it has 22 bytes more
pub file-length : (division : ℕ) (es : List Entry) → length (joined_file division es) ≡ 22 + length (line_bytes line_start es)
unfolding two_bytes four_bytes
file-length division es = ap length (file-is division es) ∙ length-append (head_bytes division (length (line_bytes line_start es))) (line_bytes line_start es)

-- ---- 4. The outcome

module _ (b : List ℕ) (n division at room : ℕ) where
  -- something is past an hour
  pub joined-late : (place : ℕ) → late_of division (sequence_of n b at) ≡ Some place → joined_of b n division at room ≡ Declined 11 place
  unfolding joined_of
  joined-late place e = rw e refl

  -- something is not well formed
  pub joined-flaw : (place : ℕ) → late_of division (sequence_of n b at) ≡ None → flaw_in n b at ≡ Some place → joined_of b n division at room ≡ Declined 9 place
  unfolding joined_of
  joined-flaw place e f = rw (e, f) refl

  -- nothing is
  pub joined-good : late_of division (sequence_of n b at) ≡ None → flaw_in n b at ≡ None → joined_of b n division at room ≡ fitted room (joined_file division (sequence_of n b at))
  unfolding joined_of
  joined-good e f = rw (e, f) refl

-- a file that does not fit
pub fitted-long : (room : ℕ) (bytes : List ℕ) → room < length bytes → fitted room bytes ≡ Declined 43 0
unfolding fitted
fitted-long room bytes h = rw (lt-ltb room (length bytes) h) refl

-- one that does
pub fitted-in : (room : ℕ) (bytes : List ℕ) → length bytes ≤ room → fitted room bytes ≡ Issued bytes
unfolding fitted
fitted-in room bytes h = rw (le-ltb room (length bytes) h) refl

-- a refused head, and a good one
pub merged-long : (b : List ℕ) (room : ℕ) → 16777216 < length b → merged_of b room ≡ Declined 9 16777216
unfolding merged_of
merged-long b room h = rw (lt-ltb 16777216 (length b) h) refl

pub merged-front : (b : List ℕ) (room number place : ℕ) → length b ≤ 16777216 → front_of b ≡ Front.Refused number place → merged_of b room ≡ Declined number place
unfolding merged_of
merged-front b room number place h e = rw (le-ltb 16777216 (length b) h) (rw (e, merged_of) refl)

pub merged-song : (b : List ℕ) (room count division at : ℕ) → length b ≤ 16777216 → front_of b ≡ Front.Song count division at → merged_of b room ≡ joined_of b count division at room
unfolding merged_of
merged-song b room count division at h e = rw (le-ltb 16777216 (length b) h) (rw (e, merged_of) refl)

-- the file at the beginning of the output
pub laid-file : (out exit : List ℕ) (division size : ℕ) (es : List Entry) → size ≡ length (line_bytes line_start es) → exit ≡ laid_over out 0 (head_bytes division size ++ line_bytes line_start es)
    → exit ≡ joined_file division es ++ drop (length (joined_file division es)) out
laid-file out exit division size es h e =
    let line = line_bytes line_start es in
    let whole = ap (λ (n : ℕ). head_bytes division n ++ line) h ∙ sym (file-is division es) in
    let none : 0 + length (joined_file division es) ≡ length (joined_file division es) = omega arith in
    e ∙ ap (laid_over out 0) whole ∙ ap (λ (k : ℕ). joined_file division es ++ drop k out) none
