-- What was written is read back as the sequence of its own marks, so that merging it again changes no byte.
use Rattle.std.proofs.Common.{None}
use mathlib.Core.Bool.{Bool, true, false, not, ◌&&◌}
use mathlib.Core.List.{List, [], ◌∷◌, ◌++◌, append-nil}
use mathlib.Core.Path.{◌≡◌, refl, sym, ap, ap₂, subst, ◌∙◌}
use Prim.Native.Nat.{ℕ, zero, suc, ◌+◌, ◌*◌, ◌-◌, ◌<◌, ◌≤◌}
use native.Mathlib.Nat.{not-suc-le-zero, le_of_suc-le-suc}
use native.Mathlib.Omega.{arith}
use borrow.Author.Tests.{le-ltb, not-true}
use lib.ListN.{length, drop}
use Rattle.smf.specs.declared.Header.{Header}
use Rattle.smf.specs.declared.Item.{Item}
use Rattle.smf.specs.declared.Item.TheVariants.{End, Tempo, Channel}
use Rattle.smf.specs.Head.{chunk_end, track_from}
use Rattle.smf.specs.Ticks.{is_late}
use Rattle.smf.specs.Track.{is_bad}
use Rattle.smf.specs.Songs.{turns}
use Rattle.smf.specs.Spelling.{Mark, Score, GoodMarks, GoodScore, ticks_of, tempo_behind, running_behind, in_time_from, in_time, event_bytes, track_bytes, track_of, file_bytes}
use Rattle.smf.proofs.HeadLaws.{Held, track-found, track-turn}
use Rattle.smf.proofs.SpellingLaws.{read-quantity, end_read, item_of, mark-read, mark-good, ticks-good, marks-fit, Written, written}
use Rattle.merge.specs.declared.Entry.{Entry}
use Rattle.merge.specs.declared.Front.{Front}
use Rattle.merge.specs.Fronts.{count_number, front_of}
use Rattle.merge.specs.Entries.{noted, settled_at, advanced_of, entries_from, flaw_from}
use Rattle.merge.specs.Lanes.{first_entry, flaw_of, lanes_from, flaw_in, entries_of}
use Rattle.merge.specs.Lateness.{tempo_after, sum_at, late_from}
use Rattle.merge.specs.Bridges.{bridges_of, rest_of, bridged}
use Rattle.merge.specs.Order.{in_order}
use Rattle.merge.specs.Marks.{last_end_from, marks_from, last_from, score_of}
use Rattle.merge.specs.Merging.{Joined, sequence_of, joined_file, fitted, joined_of, merged_of}
use Rattle.merge.specs.Kept.{NoneBefore, TicksRise, MergedAgain}
use Rattle.merge.proofs.BridgesLaws.{no-bridges, rest-whole}
use Rattle.merge.proofs.FrontsLaws.{Counted, front-good}
use Rattle.merge.proofs.EntriesLaws.{settled-good}
use Rattle.merge.proofs.LanesLaws.{lanes_on}
use Rattle.merge.proofs.KeptOrderLaws.{none_before, order-rises, order-stays}
use Rattle.merge.proofs.KeptScoreLaws.{adds-tempo, adds-channel, adds-end, adds_none, AllPlain, score-plain, score-in-time}
use Rattle.merge.proofs.KeptItemsLaws.{sequence-fair}
use Rattle.merge.proofs.KeptLaws.{never-written, joined_by, merged-short, song-good}
use Rattle.merge.proofs.MergingLaws.{merged-front, merged-song}

-- ---- 1. Events that are marks

-- an event that is a mark, so many ticks behind a tick
record Marked (tick : ℕ) (m : Mark) (e : Entry) : Type 0 where
  place : ℕ
  item : e.item ≡ item_of m place
  there : e.tick ≡ tick + ticks_of m

-- an end of track, so many ticks behind a tick
record Ended (tick last : ℕ) (e : Entry) : Type 0 where
  item : e.item ≡ End
  there : e.tick ≡ tick + last

-- events that are some marks, one behind the other from a tick on, and an end of track
abbrev ReadAs : ℕ → List Mark → ℕ → List Entry → Type 0
ReadAs tick [] last [] = ⊥
ReadAs tick [] last (e ∷ es) = Ended tick last e × (es ≡ [])
ReadAs tick (m ∷ ms) last [] = ⊥
ReadAs tick (m ∷ ms) last (e ∷ es) = Marked tick m e × ReadAs (tick + ticks_of m) ms last es

-- the tick of the end
total_of : ℕ → List Mark → ℕ → ℕ
total_of tick [] last = tick + last
total_of tick (m ∷ ms) last = total_of (tick + ticks_of m) ms last

-- ---- 2. Their score

module _ (last : ℕ) (small : last < 268435456) where
  -- the last end of track is theirs
  read-end : (ms : List Mark) (begun tick : ℕ) (es : List Entry) → AllPlain ms → ReadAs tick ms last es → last_end_from begun es ≡ total_of tick ms last
  unfolding total_of
  read-end [] begun tick [] p r = absurd r
  read-end [] begun tick (e ∷ es) p r =
      (adds-end e es begun 0 0 0 r.0.item).0 ∙ ap (last_end_from e.tick) r.1 ∙ (adds_none e.tick 0 0 0).0 ∙ r.0.there
  read-end (m ∷ ms) begun tick [] p r = absurd r
  read-end (Mark.Channel ticks status first second ∷ ms) begun tick (e ∷ es) p r =
      (adds-channel e es begun 0 0 0 status first second r.0.place r.0.item).0 ∙ read-end ms begun (tick + ticks) es p.2 r.1
  read-end (Mark.Tempo ticks tempo ∷ ms) begun tick (e ∷ es) p r =
      (adds-tempo e es begun 0 0 0 tempo r.0.place r.0.item).0 ∙ read-end ms begun (tick + ticks) es p.2 r.1
  read-end (Mark.Meta ticks kind bytes ∷ ms) begun tick (e ∷ es) p r = absurd p.1
  read-end (Mark.Exclusive ticks status bytes ∷ ms) begun tick (e ∷ es) p r = absurd p.1

  -- a gap that is one delta time has no bridges
  no_gap : (from to ticks tempo : ℕ) (ms : List Mark) → ticks < 268435456 → to ≡ from + ticks → (bridged tempo (bridges_of (to - from)) ms ≡ ms) × (rest_of (to - from) ≡ ticks)
  unfolding bridged
  no_gap from to ticks tempo ms h e =
      let z : to - from ≡ ticks = omega (arith, e) in
      (ap (λ (n : ℕ). bridged tempo n ms) (no-bridges (to - from) (omega (arith, h, z))), rest-whole (to - from) (omega (arith, h, z)) ∙ z)

  -- their marks are the marks
  read-marks : (ms : List Mark) (tick tempo : ℕ) (es : List Entry) → AllPlain ms → ReadAs tick ms last es → marks_from (total_of tick ms last) tick tempo es ≡ ms
  unfolding total_of
  read-marks [] tick tempo [] p r = absurd r
  read-marks [] tick tempo (e ∷ es) p r =
      (adds-end e es 0 (tick + last) tick tempo r.0.item).1
      ∙ ap (marks_from (tick + last) tick tempo) r.1
      ∙ (adds_none 0 (tick + last) tick tempo).1
      ∙ (no_gap tick (tick + last) last tempo [] small refl).0
  read-marks (m ∷ ms) tick tempo [] p r = absurd r
  read-marks (Mark.Channel ticks status first second ∷ ms) tick tempo (e ∷ es) p r =
      let t = total_of (tick + ticks) ms last in
      let there = r.0.there in
      let n = no_gap tick e.tick ticks tempo (Mark.Channel (rest_of (e.tick - tick)) status first second ∷ marks_from t e.tick tempo es) p.0.0 there in
      (adds-channel e es 0 t tick tempo status first second r.0.place r.0.item).1
      ∙ n.0
      ∙ ap₂ (λ (x : ℕ) (xs : List Mark). Mark.Channel x status first second ∷ xs) n.1 (ap (λ (x : ℕ). marks_from t x tempo es) there ∙ read-marks ms (tick + ticks) tempo es p.2 r.1)
  read-marks (Mark.Tempo ticks next ∷ ms) tick tempo (e ∷ es) p r =
      let t = total_of (tick + ticks) ms last in
      let there = r.0.there in
      let n = no_gap tick e.tick ticks tempo (Mark.Tempo (rest_of (e.tick - tick)) next ∷ marks_from t e.tick next es) p.0.0 there in
      (adds-tempo e es 0 t tick tempo next r.0.place r.0.item).1
      ∙ n.0
      ∙ ap₂ (λ (x : ℕ) (xs : List Mark). Mark.Tempo x next ∷ xs) n.1 (ap (λ (x : ℕ). marks_from t x next es) there ∙ read-marks ms (tick + ticks) next es p.2 r.1)
  read-marks (Mark.Meta ticks kind bytes ∷ ms) tick tempo (e ∷ es) p r = absurd p.1
  read-marks (Mark.Exclusive ticks status bytes ∷ ms) tick tempo (e ∷ es) p r = absurd p.1

  -- and the ticks behind the last mark are the same
  read-last : (ms : List Mark) (tick : ℕ) (es : List Entry) → AllPlain ms → ReadAs tick ms last es → last_from (total_of tick ms last) tick es ≡ last
  unfolding total_of
  read-last [] tick [] p r = absurd r
  read-last [] tick (e ∷ es) p r =
      (adds-end e es 0 (tick + last) tick 0 r.0.item).2
      ∙ ap (last_from (tick + last) tick) r.1
      ∙ (adds_none 0 (tick + last) tick 0).2
      ∙ (no_gap tick (tick + last) last 0 [] small refl).1
  read-last (m ∷ ms) tick [] p r = absurd r
  read-last (Mark.Channel ticks status first second ∷ ms) tick (e ∷ es) p r =
      let t = total_of (tick + ticks) ms last in
      (adds-channel e es 0 t tick 0 status first second r.0.place r.0.item).2 ∙ ap (λ (x : ℕ). last_from t x es) r.0.there ∙ read-last ms (tick + ticks) es p.2 r.1
  read-last (Mark.Tempo ticks next ∷ ms) tick (e ∷ es) p r =
      let t = total_of (tick + ticks) ms last in
      (adds-tempo e es 0 t tick 0 next r.0.place r.0.item).2 ∙ ap (λ (x : ℕ). last_from t x es) r.0.there ∙ read-last ms (tick + ticks) es p.2 r.1
  read-last (Mark.Meta ticks kind bytes ∷ ms) tick (e ∷ es) p r = absurd p.1
  read-last (Mark.Exclusive ticks status bytes ∷ ms) tick (e ∷ es) p r = absurd p.1

-- so their score is the score
read-score : (s : Score) (es : List Entry) → AllPlain s.marks → s.last < 268435456 → ReadAs 0 s.marks s.last es → score_of s.division es ≡ s
unfolding score_of
read-score s es p small r =
    let end = read-end s.last small s.marks 0 0 es p r in
    rw end
    (ap₂ (λ (ms : List Mark) (last : ℕ). let x : Score = record { division = s.division; marks = ms; last = last } in x)
    (read-marks s.last small s.marks 0 500000 es p r) (read-last s.last small s.marks 0 es p r))

-- ---- 3. Their time

-- two tests that both hold
and_both : (s t : Bool) → (s && t) ≡ true → (s ≡ true) × (t ≡ true)
and_both true t e = (refl, e)
and_both false t e = let z : ◌≡◌ {A = ℕ} 0 1 = cc in absurd (omega arith)

-- an event that is not past an hour, in front of others
late-on : (division tick tempo sum u next : ℕ) (e : Entry) (es : List Entry) → sum_at tick tempo sum e ≡ u → not (is_late division u) ≡ true → tempo_after tempo e.item ≡ next
    → late_from division e.tick next u es ≡ None → late_from division tick tempo sum (e ∷ es) ≡ None
unfolding late_from
late-on division tick tempo sum u next e es s l t n = let f = not-true (is_late division u) l in rw (s, f, t) n

-- U at an event that is so many ticks behind a tick
pub sum-on : (tick ticks tempo sum : ℕ) (e : Entry) → e.tick ≡ tick + ticks → sum_at tick tempo sum e ≡ sum + ticks * tempo
sum-on tick ticks tempo sum e t =
    let z : e.tick - tick ≡ ticks = omega (arith, t) in
    ap (λ (n : ℕ). sum + n * tempo) z

-- the tempo behind a mark
mark-tempo : (m : Mark) (place tempo : ℕ) → tempo_after tempo (item_of m place) ≡ tempo_behind tempo m
mark-tempo (Mark.Channel ticks status first second) place tempo = refl
mark-tempo (Mark.Tempo ticks next) place tempo = refl
mark-tempo (Mark.Meta ticks kind bytes) place tempo = refl
mark-tempo (Mark.Exclusive ticks status bytes) place tempo = refl

-- nothing is not late
pub late-empty : (division tick tempo sum : ℕ) → late_from division tick tempo sum [] ≡ None
unfolding late_from
late-empty division tick tempo sum = refl

-- none is past an hour where the marks are in time
read-late : (ms : List Mark) (division last tick tempo sum : ℕ) (es : List Entry) → ReadAs tick ms last es → in_time_from division tempo sum ms last ≡ true → late_from division tick tempo sum es ≡ None
unfolding in_time_from
read-late [] division last tick tempo sum [] r t = absurd r
read-late [] division last tick tempo sum (e ∷ es) r t =
    let x = r.0 in
    let none : late_from division e.tick tempo (sum + last * tempo) es ≡ None = rw r.1 (late-empty division e.tick tempo (sum + last * tempo)) in
    late-on division tick tempo sum (sum + last * tempo) tempo e es (sum-on tick last tempo sum e x.there) t (ap (tempo_after tempo) x.item) none
read-late (m ∷ ms) division last tick tempo sum [] r t = absurd r
read-late (m ∷ ms) division last tick tempo sum (e ∷ es) r t =
    let x = r.0 in
    let u = sum + ticks_of m * tempo in
    let next = tempo_behind tempo m in
    let h = and_both (not (is_late division u)) (in_time_from division next u ms last) t in
    let more = read-late ms division last (tick + ticks_of m) next u es r.1 h.1 in
    late-on division tick tempo sum u next e es (sum-on tick (ticks_of m) tempo sum e x.there) h.0 (ap (tempo_after tempo) x.item ∙ mark-tempo m x.place tempo)
    (ap (λ (n : ℕ). late_from division n next u es) x.there ∙ more)

-- their ticks never fall
read-rise : (ms : List Mark) (last tick : ℕ) (es : List Entry) → ReadAs tick ms last es → NoneBefore tick es × TicksRise es
read-rise [] last tick [] r = absurd r
read-rise [] last tick (e ∷ es) r =
    let there = r.0.there in
    ((omega (arith, there), rw r.1 tt), (rw r.1 tt, rw r.1 tt))
read-rise (m ∷ ms) last tick [] r = absurd r
read-rise (m ∷ ms) last tick (e ∷ es) r =
    let there = r.0.there in
    let more = read-rise ms last (tick + ticks_of m) es r.1 in
    ((omega (arith, there), none_before tick (tick + ticks_of m) es (omega arith) more.0), (none_before e.tick (tick + ticks_of m) es (omega (arith, there)) more.0, more.1))

-- ---- 4. The track is read back

-- a fault has nothing behind it
pub entries-gone : (n : ℕ) (b : List ℕ) (e : Entry) → is_bad e.item ≡ true → entries_from n b e ≡ []
unfolding entries_from
entries-gone zero b e i = refl
entries-gone (suc n) b e i = rw i refl

-- an event that is none has others behind it
entries-step : (n : ℕ) (b : List ℕ) (e : Entry) → is_bad e.item ≡ false → entries_from (suc n) b e ≡ e ∷ entries_from n b (advanced_of b e)
unfolding entries_from
entries-step n b e i = rw i refl

-- behind a mark
advanced-mark : (b : List ℕ) (m : Mark) (behind tick place end : ℕ) → advanced_of b (noted (item_of m behind) tick place end) ≡ settled_at b end (running_behind m) behind tick
unfolding advanced_of
advanced-mark b (Mark.Channel ticks status first second) behind tick place end = refl
advanced-mark b (Mark.Tempo ticks tempo) behind tick place end = refl
advanced-mark b (Mark.Meta ticks kind bytes) behind tick place end = refl
advanced-mark b (Mark.Exclusive ticks status bytes) behind tick place end = refl

-- a mark is no fault
flaw-mark : (n : ℕ) (b : List ℕ) (m : Mark) (behind tick place end : ℕ)
    → flaw_from (suc n) b (noted (item_of m behind) tick place end) ≡ flaw_from n b (advanced_of b (noted (item_of m behind) tick place end))
unfolding flaw_from
flaw-mark n b (Mark.Channel ticks status first second) behind tick place end = refl
flaw-mark n b (Mark.Tempo ticks tempo) behind tick place end = refl
flaw-mark n b (Mark.Meta ticks kind bytes) behind tick place end = refl
flaw-mark n b (Mark.Exclusive ticks status bytes) behind tick place end = refl

-- nor is an end of track
pub flaw-end : (n : ℕ) (b : List ℕ) (tick place end : ℕ) → flaw_from (suc n) b (noted End tick place end) ≡ None
unfolding flaw_from
flaw-end n b tick place end = refl

-- nothing is behind it
pub end-last : (n : ℕ) (b : List ℕ) (tick place end : ℕ) → entries_from n b (advanced_of b (noted End tick place end)) ≡ []
unfolding advanced_of
end-last n b tick place end = entries-gone n b (advanced_of b (noted End tick place end)) refl

-- the events of a track that is written are its marks, and it has no fault
read_as : (ms : List Mark) (k running last n : ℕ) (b : List ℕ) (at tick : ℕ) → drop at b ≡ track_bytes (λ i. true) k running ms last → GoodMarks ms → last < 268435456 → length ms < n
    → ReadAs tick ms last (entries_from n b (settled_at b (length b) running at tick)) × (flaw_from n b (settled_at b (length b) running at tick) ≡ None)
unfolding track_bytes
read_as [] k running last zero b at tick e g l h = absurd (not-suc-le-zero h)
read_as [] k running last (suc n) b at tick e g l h =
    let q = read-quantity b at last (255 ∷ 47 ∷ 0 ∷ []) e l in
    let x = end_read b running q.place q.behind in
    let end = noted End (tick + last) q.place (length b) in
    let same : settled_at b (length b) running at tick ≡ end =
    settled-good b (length b) running at tick last q.place q.reads ∙ ap (λ (i : Item). noted i (tick + last) q.place (length b)) x in
    (rw (same, entries-step n b end refl) (record { item = refl; there = refl }, end-last n b (tick + last) q.place (length b)), ap (flaw_from (suc n) b) same ∙ flaw-end n b (tick + last) q.place (length b))
read_as (m ∷ ms) k running last zero b at tick e g l h = absurd (not-suc-le-zero h)
read_as (m ∷ ms) k running last (suc n) b at tick e g l h =
    let track = track_bytes (λ i. true) (suc k) (running_behind m) ms last in
    let rest = event_bytes true running m ++ track in
    let some : 1 ≤ length track = omega (arith, marks-fit ms (λ i. true) (suc k) (running_behind m) last) in
    let q = read-quantity b at (ticks_of m) rest e (ticks-good m g.0) in
    let r = mark-read b true running q.place m track g.0 some q.behind in
    let mark = noted (item_of m r.place) (tick + ticks_of m) q.place (length b) in
    let same : settled_at b (length b) running at tick ≡ mark =
    settled-good b (length b) running at tick (ticks_of m) q.place q.reads ∙ ap (λ (i : Item). noted i (tick + ticks_of m) q.place (length b)) r.reads in
    let on = advanced-mark b m r.place (tick + ticks_of m) q.place (length b) in
    let more = read_as ms (suc k) (running_behind m) last n b r.place (tick + ticks_of m) r.behind g.1 l (le_of_suc-le-suc h) in
    let good = mark-good m r.place in (
      rw (same, entries-step n b mark good, on) (record { place = r.place; item = refl; there = rw good refl }, more.0),
      ap (flaw_from (suc n) b) same ∙ flaw-mark n b m r.place (tick + ticks_of m) q.place (length b) ∙ ap (flaw_from n b) on ∙ more.1,
    )

-- ---- 5. The file

module _ (s : Score) (g : GoodScore s) where
  -- the file of a score
  abbrev file : List ℕ
  file = file_bytes (λ i. true) s

  -- what its head says
  whole : Written file s (track_of (λ i. true) s)
  whole = written (λ i. true) s

  -- its head
  file-front : front_of file ≡ Front.Song 1 s.division 14
  unfolding chunk_end count_number
  file-front =
      let w = whole in
      let head : chunk_end file 0 ≡ 14 = rw w.six refl in
      let held : Held file = record { named = record { name = w.name }; six = omega (arith, w.six); in-file = omega (arith, head, w.size) } in
      let counted : Counted file = record { formed = record { held = held; format = omega (arith, w.format) }; none = rw (w.format, w.one) refl } in
      front-good file counted (λ z. absurd (omega (arith, z, w.division, g.low))) (omega (arith, w.division, g.high)) ∙ rw (w.one, w.division, head) refl

  -- its track
  file-track : track_from (length file) file 14 ≡ Header.Track 22 (length file)
  unfolding chunk_end
  file-track =
      let w = whole in
      let end : chunk_end file 14 ≡ length file = rw w.track-size (omega (arith, w.size)) in
      track-turn file 14 (Header.Track 22 (chunk_end file 14)) (omega (arith, w.size)) (λ n. track-found file 14 n (omega (arith, w.size)) (omega (arith, end)) w.track-name)
      ∙ ap (Header.Track 22) end

  -- its events
  abbrev events : List Entry
  events = entries_from (turns file) file (first_entry file 22 (length file))

  -- they are its marks, and its track has no fault
  file-read : ReadAs 0 s.marks s.last events × (flaw_of file (first_entry file 22 (length file)) ≡ None)
  file-read =
      let w = whole in
      let few = marks-fit s.marks (λ i. true) 0 0 s.last in
      read_as s.marks 0 0 s.last (turns file) file 22 0 w.behind g.marks g.last (omega (arith, few, w.size))

  -- they are its one sequence
  file-sequence : (sequence_of 1 file 14 ≡ events) × (flaw_in 1 file 14 ≡ None)
  unfolding entries_of lanes_from flaw_in
  file-sequence =
      let r = file-read in
      let l = lanes_on file 0 14 22 (length file) file-track r.1 in
      let rise = (read-rise s.marks s.last 0 events r.0).1 in
      (ap (λ (es : List Entry). in_order (entries_of file es)) l.0 ∙ ap in_order (append-nil events) ∙ order-stays events rise, l.1)

  -- so that merging it changes no byte
  file-again : (room : ℕ) → AllPlain s.marks → in_time s ≡ true → length file ≤ 16777216 → length file ≤ room → merged_of file room ≡ Joined.Issued file
  unfolding joined_of joined_file fitted
  file-again room p t short fits =
      let q = file-sequence in
      let r = file-read.0 in
      let late = read-late s.marks s.division s.last 0 500000 0 events r t in
      let score = read-score s events p g.last r in
      merged-song file room 1 s.division 14 short file-front ∙ rw (q.0, q.1, late, score, le-ltb _ _ fits) refl

-- ---- 6. Merging again

-- what was merged has a good head
good-front : (b w : List ℕ) (room : ℕ) → merged_of b room ≡ Joined.Issued w → (f : Front) → front_of b ≡ f
    → (count : ℕ) × (division : ℕ) × (at : ℕ) × (front_of b ≡ Front.Song count division at)
good-front b w room e (Front.Refused number place) f =
    absurd (never-written number place w (sym (merged-front b room number place (merged-short b w room e) f) ∙ e))
good-front b w room e (Front.Song count division at) f = (count, division, at, f)

-- merging again what was written changes no byte
pub merged-again : MergedAgain
unfolding joined_file
merged-again b w room again a e short fits =
    let f = good-front b w room e (front_of b) refl in
    let count = f.0 in
    let division = f.1 in
    let at = f.2 in
    let es = sequence_of count b at in
    let j = joined_by b w room count division at f.3 e in
    let rise = order-rises (entries_of b (lanes_from count b at)) in
    let s = score_of division es in
    let same : file_bytes (λ k. true) s ≡ w = j.bytes in
    let x = file-again s (song-good b count division at a f.3) again (score-plain division es (sequence-fair b a count at)) (score-in-time division es rise j.in-time) (rw same short) (rw same fits) in
    subst (λ (y : List ℕ). merged_of y again ≡ Joined.Issued y) same x
