-- What is promised of merging: the events are kept.
use Rattle.std.proofs.Common.{Option, Some, None}
use mathlib.Core.Bool.{Bool, true, false, cond}
use mathlib.Core.List.{List}
use mathlib.Core.Path.{◌≡◌, refl, sym, ap, subst, ◌∙◌}
use Prim.Native.Nat.{ℕ, ◌≤◌}
use native.Mathlib.Omega.{arith}
use borrow.Author.Tests.{ltb-false}
use lib.Dec.{ltb}
use lib.ListN.{length}
use Rattle.arith.specs.Bytes.{AllBytes}
use Rattle.smf.specs.Track.{Song, Events}
use Rattle.smf.specs.Songs.{events_of}
use Rattle.smf.specs.Spelling.{GoodScore, file_bytes}
use Rattle.smf.proofs.SpellingLaws.{written-is-rung}
use Rattle.merge.specs.declared.Front.{Front}
use Rattle.merge.specs.Fronts.{front_of}
use Rattle.merge.specs.Lanes.{lanes_from, flaw_in, entries_of}
use Rattle.merge.specs.Lateness.{late_of, struck_of}
use Rattle.merge.specs.Marks.{score_of}
use Rattle.merge.specs.Merging.{Joined, Declined, Issued, sequence_of, joined_file, fitted, judged, joined_of, merged_of}
use Rattle.merge.specs.Kept.{EventsKept}
use Rattle.merge.proofs.FrontsLaws.{FrontIn, front-in}
use Rattle.merge.proofs.MergingLaws.{merged-song}
use Rattle.merge.proofs.KeptOrderLaws.{order-rises}
use Rattle.merge.proofs.KeptScoreLaws.{score-good, score-rung, score-in-time}
use Rattle.merge.proofs.KeptItemsLaws.{sequence-fair}

-- ---- 1. What is known where something is written

-- nothing is written on a refusal
pub never-written : (number place : ℕ) (w : List ℕ) → Declined number place ≡ Issued w → ⊥
never-written number place w e = let z : ◌≡◌ {A = ℕ} 0 1 = cc in omega arith

-- the file of a sequence that is not late, of tracks without a fault
pub record JoinedBy (b w : List ℕ) (count division at : ℕ) : Type 0 where
  pub short : length b ≤ 16777216
  pub in-time : late_of division (sequence_of count b at) ≡ None
  pub faultless : flaw_in count b at ≡ None
  pub bytes : joined_file division (sequence_of count b at) ≡ w

-- what is judged good
judged-good : (late flaw : Option ℕ) (o : Joined) (w : List ℕ) → judged late flaw o ≡ Issued w → (late ≡ None) × (flaw ≡ None) × (o ≡ Issued w)
judged-good (Some place) flaw o w e = absurd (never-written 11 place w e)
judged-good None (Some place) o w e = absurd (never-written 9 place w e)
judged-good None None o w e = (refl, refl, e)

-- what fits
fitted-good : (room : ℕ) (bytes w : List ℕ) → fitted room bytes ≡ Issued w → bytes ≡ w
unfolding fitted
fitted-good room bytes w e = go (ltb room (length bytes)) e
  where
    go : (t : Bool) → cond t (Declined 43 0) (Issued bytes) ≡ Issued w → bytes ≡ w
    go true e = absurd (never-written 43 0 w e)
    go false e = cc

-- what is written is of a file that is not too long
pub merged-short : (b w : List ℕ) (room : ℕ) → merged_of b room ≡ Issued w → length b ≤ 16777216
unfolding merged_of
merged-short b w room e = go (ltb 16777216 (length b)) refl e
  where
    rest : Joined
    rest = elim (front_of b) [ Front.Refused number place ↦ Declined number place | Front.Song count division at ↦ joined_of b count division at room ]

    go : (t : Bool) → ltb 16777216 (length b) ≡ t → cond t (Declined 9 16777216) rest ≡ Issued w → length b ≤ 16777216
    go true t e = absurd (never-written 9 16777216 w e)
    go false t e = ltb-false _ _ t

-- so it is of all that is written
pub joined_by : (b w : List ℕ) (room count division at : ℕ) → front_of b ≡ Front.Song count division at → merged_of b room ≡ Issued w → JoinedBy b w count division at
unfolding joined_of
joined_by b w room count division at f e =
    let short = merged-short b w room e in
    let j = judged-good (late_of division (sequence_of count b at)) (flaw_in count b at) (fitted room (joined_file division (sequence_of count b at))) w (sym (merged-song b room count division at short f) ∙ e) in
    record { short = short; in-time = j.0; faultless = j.1; bytes = fitted-good room (joined_file division (sequence_of count b at)) w j.2 }

-- ---- 2. The events are kept

-- the division of a good head
front-division : (b : List ℕ) (count division at : ℕ) → front_of b ≡ Front.Song count division at → (1 ≤ division) × (division ≤ 32767)
front-division b count division at f = let i : FrontIn b (Front.Song count division at) = subst (λ (x : Front). FrontIn b x) f (front-in b) in (i.2, i.3)

-- the score of a song
pub song-good : (b : List ℕ) (count division at : ℕ) → AllBytes b → front_of b ≡ Front.Song count division at → GoodScore (score_of division (sequence_of count b at))
song-good b count division at a f =
    let d = front-division b count division at f in
    score-good division (sequence_of count b at) d.0 d.1 (sequence-fair b a count at)

-- M-101 reads the events of the sequence
pub song-kept : (b w : List ℕ) (count division at : ℕ) → AllBytes b → front_of b ≡ Front.Song count division at → JoinedBy b w count division at → length w ≤ 65536
    → events_of w ≡ Events (struck_of division (sequence_of count b at))
unfolding joined_file
song-kept b w count division at a f j short =
    let es = sequence_of count b at in
    let rise = order-rises (entries_of b (lanes_from count b at)) in
    let same : file_bytes (λ k. true) (score_of division es) ≡ w = j.bytes in
    let few : length (file_bytes (λ k. true) (score_of division es)) ≤ 65536 = rw same short in
    sym (ap events_of same)
    ∙ written-is-rung (λ k. true) (score_of division es) (song-good b count division at a f) few (score-in-time division es rise j.in-time)
    ∙ ap Events (score-rung division es rise)

-- the events are kept
pub events-kept : EventsKept
events-kept b w room count division at a f e short = song-kept b w count division at a f (joined_by b w room count division at f e) short
