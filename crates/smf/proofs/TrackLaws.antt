-- Laws of a track from a cursor on: each event leads further, so the turns are enough, and what a turn of a loop may use.
use Rattle.smf.specs.declared.Quantity.{Quantity}
use Rattle.smf.specs.declared.Event.{Event}
use Rattle.std.proofs.Common.{Option, Some, None}
use mathlib.Core.Bool.{Bool, true, false, cond}
use mathlib.Core.List.{List, []}
use mathlib.Core.Path.{◌≡◌, refl, subst, sym, ◌∙◌, ap}
use Prim.Native.Nat.{ℕ, zero, suc, ◌+◌, ◌*◌, ◌<◌, ◌≤◌, min}
use native.Mathlib.Nat.{min-le_right}
use native.Mathlib.Numerals.{add-one}
use native.Mathlib.Omega.{arith}
use borrow.Author.Tests.{ltb-false}
use lib.ListN.{length}
use Rattle.smf.specs.declared.Cursor.{Cursor}
use Rattle.smf.specs.declared.Item.{Item}
use Rattle.smf.specs.declared.Message.{Message}
use Rattle.smf.specs.declared.Met.{Met}
use Rattle.smf.specs.declared.Met.TheVariants.{Fault, End, Passed, Given}
use Rattle.smf.specs.Quantities.{quantity_at}
use Rattle.smf.specs.Items.{is_short, item_at}
use Rattle.smf.specs.Ticks.{sum_after, is_late}
use Rattle.smf.specs.Track.{Song, Events, Refused, edge_of, carried, event_of, acted, obeyed, meet_at, behind_event, song_from, next_from, nothing}
use Rattle.smf.specs.Songs.{turns, handed_of}
use Rattle.smf.proofs.MeetingLaws.{meet-bad}
use Rattle.smf.proofs.QuantitiesLaws.{quantity-behind, quantity-edge}
use Rattle.smf.proofs.ItemsLaws.{Placed, item-placed}

-- the cursor behind an event: two bytes or more further on, in the same track, with no smaller U, which is not past an hour
pub record Further (b : List ℕ) (c further : Cursor) : Type 0 where
  pub after : c.at + 2 ≤ further.at
  pub before : further.at ≤ edge_of b c
  pub same_end : further.end ≡ c.end
  pub same-division : further.division ≡ c.division
  pub rises : c.sum ≤ further.sum
  pub early : further.sum ≤ 3600000000 * c.division

-- a message that is given: its bytes are in their ranges
pub record Sounds (message : Message) : Type 0 where
  pub low : 128 ≤ message.status
  pub high : message.status ≤ 239
  pub first-in : message.first < 128
  pub second-in : message.second < 128
  pub short : is_short message.status ≡ true → message.second ≡ 0

-- what holds of what is met at a cursor
abbrev pub Led : List ℕ → Cursor → Met → Type 0
Led b c (Fault number place) = c.at ≤ place
Led b c End = c.at < edge_of b c
Led b c (Passed further) = Further b c further
Led b c (Given message further) = Further b c further × Sounds message

-- a song of one turn more, by what is met
abbrev pub song_by : ℕ → List ℕ → Met → Song
song_by n b m =
    elim m [
      | Fault number place ↦ Refused number place
      | End ↦ Events []
      | Passed further ↦ song_from n b further
      | Given message further ↦ behind_event (event_of message further) (song_from n b further)
    ]

module _ (b : List ℕ) (c : Cursor) where
  -- the test of the hour
  late-or : (sum place : ℕ) (x : Met) → c.at ≤ place → (sum ≤ 3600000000 * c.division → Led b c x) → Led b c (cond (is_late c.division sum) (Fault 11 place) x)
  late-or sum place x h led = go (is_late c.division sum) refl
    where
      go : (t : Bool) → is_late c.division sum ≡ t → Led b c (cond t (Fault 11 place) x)
      go true e = h
      go false e = led (ltb-false (3600000000 * c.division) sum e)

  -- each kind of event
  obeyed-led : (item : Item) (sum place : ℕ) → c.at < place → c.sum ≤ sum → Placed (edge_of b c) place item → Led b c (obeyed item c sum place)
  unfolding obeyed acted
  obeyed-led Item.Bad sum place h r p = omega arith
  obeyed-led Item.End sum place h r p = late-or sum place End (omega arith) (λ early. omega arith)
  obeyed-led (Item.Passed behind) sum place h r p =
      late-or sum place (Passed (carried c sum behind 0 c.tempo)) (omega arith)
      (λ early. record { after = omega arith; before = p.1; same_end = refl; same-division = refl; rises = r; early = early })
  obeyed-led (Item.Tempo tempo behind) sum place h r p =
      late-or sum place (Passed (carried c sum behind 0 tempo)) (omega arith)
      (λ early. record { after = omega arith; before = p.1; same_end = refl; same-division = refl; rises = r; early = early })
  obeyed-led (Item.Channel status first second behind) sum place h r p =
      late-or sum place (Given (record { status = status; first = first; second = second }) (carried c sum behind status c.tempo)) (omega arith)
      (λ early. (
        record { after = omega arith; before = p.before; same_end = refl; same-division = refl; rises = r; early = early },
        record { low = p.low; high = p.high; first-in = p.first-in; second-in = p.second-in; short = p.short },
      ))

  -- what is met at a cursor leads further, and no event is past an hour
  pub meet-led : Led b c (meet_at b c)
  unfolding meet_at
  meet-led = go (quantity_at b (edge_of b c) c.at) refl
    where
      go : (q : Option Quantity) → quantity_at b (edge_of b c) c.at ≡ q → Led b c (elim q [ None ↦ Fault 9 c.at | Some q ↦ obeyed (item_at b (edge_of b c) c.running q.behind) c (sum_after c q.value) q.behind ])
      go None e = omega arith
      go (Some q) e =
          obeyed-led (item_at b (edge_of b c) c.running q.behind) (sum_after c q.value) q.behind (quantity-behind b (edge_of b c) c.at q.value q.behind e).0 (omega arith)
          (item-placed b (edge_of b c) c.running q.behind)

  -- an event that gives none
  pub meet-passed : (further : Cursor) → meet_at b c ≡ Passed further → Further b c further
  meet-passed further e = subst (λ (m : Met). Led b c m) e meet-led

  -- an event that is given
  pub meet-given : (message : Message) (further : Cursor) → meet_at b c ≡ Given message further → Further b c further × Sounds message
  meet-given message further e = subst (λ (m : Met). Led b c m) e meet-led

  -- a fault does not lie in front of the cursor
  pub meet-fault : (number place : ℕ) → meet_at b c ≡ Fault number place → c.at ≤ place
  meet-fault number place e = subst (λ (m : Met). Led b c m) e meet-led

  -- where no byte is left there is no end of track
  pub meet-edge : edge_of b c ≤ c.at → meet_at b c ≡ Fault 9 c.at
  meet-edge h = meet-bad b c (quantity-edge b (edge_of b c) c.at h)

  -- the edge lies in the file
  pub edge_in : edge_of b c ≤ length b
  edge_in = min-le_right c.end (length b)

  -- one turn of a song, where it is known what is met
  pub song-is : (n : ℕ) (m : Met) → meet_at b c ≡ m → song_from (suc n) b c ≡ song_by n b m
  unfolding song_from
  song-is n m e = ap (song_by n b) e

  -- one look for the next event: a fault
  look-fault : (n number place : ℕ) → meet_at b c ≡ Fault number place → next_from (suc n) b c ≡ nothing
  unfolding next_from
  look-fault n number place e = rw (e, next_from) refl

  -- an end of track
  look-end : (n : ℕ) → meet_at b c ≡ End → next_from (suc n) b c ≡ nothing
  unfolding next_from
  look-end n e = rw (e, next_from) refl

  -- an event that gives none
  look-passed : (n : ℕ) (further : Cursor) → meet_at b c ≡ Passed further → next_from (suc n) b c ≡ next_from n b further
  unfolding next_from
  look-passed n further e = rw (e, next_from) refl

  -- a channel event
  look-given : (n : ℕ) (message : Message) (further : Cursor) → meet_at b c ≡ Given message further → next_from (suc n) b c ≡ record { event = Some (event_of message further); cursor = further }
  unfolding next_from
  look-given n message further e = rw (e, next_from) refl

  -- no byte is left: any number of turns refuses
  pub song-out : (n : ℕ) → edge_of b c ≤ c.at → song_from n b c ≡ Refused 9 c.at
  unfolding song_from
  song-out zero h = refl
  song-out (suc n) h = rw (meet-edge h, song_from) refl

  -- and any number of looks finds nothing
  pub next-out : (n : ℕ) → edge_of b c ≤ c.at → next_from n b c ≡ nothing
  unfolding next_from
  next-out zero h = refl
  next-out (suc n) h = rw (meet-edge h, next_from) refl

-- the edge behind an event is the same
pub further-edge : (b : List ℕ) (c further : Cursor) → Further b c further → edge_of b further ≡ edge_of b c
further-edge b c further f = ap (λ (end : ℕ). min end (length b)) f.same_end

-- what a song of two numbers of turns has in common where both are enough
pub song-enough : (n m : ℕ) (b : List ℕ) (c : Cursor) → edge_of b c < c.at + n → edge_of b c < c.at + m → song_from n b c ≡ song_from m b c
song-enough zero m b c h k = song-out b c zero (omega arith) ∙ sym (song-out b c m (omega arith))
song-enough (suc n) zero b c h k = song-out b c (suc n) (omega arith) ∙ sym (song-out b c zero (omega arith))
song-enough (suc n) (suc m) b c h k = go (λ further. song-enough n m b further) (meet_at b c) refl
  where
    go : ((further : Cursor) → edge_of b further < further.at + n → edge_of b further < further.at + m → song_from n b further ≡ song_from m b further) → (met : Met) → meet_at b c ≡ met → song_from (suc n) b c ≡ song_from (suc m) b c
    go more (Fault number place) e = song-is b c n (Fault number place) e ∙ sym (song-is b c m (Fault number place) e)
    go more End e = song-is b c n End e ∙ sym (song-is b c m End e)
    go more (Passed further) e =
        let f = meet-passed b c further e in
        let same = further-edge b c further f in
        song-is b c n (Passed further) e ∙ more further (omega arith) (omega arith) ∙ sym (song-is b c m (Passed further) e)
    go more (Given message further) e =
        let f = (meet-given b c message further e).0 in
        let same = further-edge b c further f in
        song-is b c n (Given message further) e ∙ ap (behind_event (event_of message further)) (more further (omega arith) (omega arith)) ∙ sym (song-is b c m (Given message further) e)

-- the same of the next event
pub next-enough : (n m : ℕ) (b : List ℕ) (c : Cursor) → edge_of b c < c.at + n → edge_of b c < c.at + m → next_from n b c ≡ next_from m b c
next-enough zero m b c h k = next-out b c zero (omega arith) ∙ sym (next-out b c m (omega arith))
next-enough (suc n) zero b c h k = next-out b c (suc n) (omega arith) ∙ sym (next-out b c zero (omega arith))
next-enough (suc n) (suc m) b c h k = go (λ further. next-enough n m b further) (meet_at b c) refl
  where
    go : ((further : Cursor) → edge_of b further < further.at + n → edge_of b further < further.at + m → next_from n b further ≡ next_from m b further) → (met : Met) → meet_at b c ≡ met → next_from (suc n) b c ≡ next_from (suc m) b c
    go more (Fault number place) e = look-fault b c n number place e ∙ sym (look-fault b c m number place e)
    go more End e = look-end b c n e ∙ sym (look-end b c m e)
    go more (Passed further) e =
        let f = meet-passed b c further e in
        let same = further-edge b c further f in
        look-passed b c n further e ∙ more further (omega arith) (omega arith) ∙ sym (look-passed b c m further e)
    go more (Given message further) e = look-given b c n message further e ∙ sym (look-given b c m message further e)

module _ (b : List ℕ) (c : Cursor) where
  -- behind an event a turn less is enough
  less : (further : Cursor) → Further b c further → song_from (length b) b further ≡ song_from (turns b) b further
  less further f =
      let room = edge_in b further in
      song-enough (length b) (turns b) b further (omega (arith, f.after)) (omega arith)

  -- the same of the next event
  less-next : (further : Cursor) → Further b c further → next_from (length b) b further ≡ next_from (turns b) b further
  less-next further f =
      let room = edge_in b further in
      next-enough (length b) (turns b) b further (omega (arith, f.after)) (omega arith)

  -- the song from a cursor on: a fault refuses it
  pub song-fault : (number place : ℕ) → meet_at b c ≡ Fault number place → song_from (turns b) b c ≡ Refused number place
  song-fault number place e = rw add-one (song-is b c (length b) (Fault number place) e)

  -- an end of track ends it
  pub song-end : meet_at b c ≡ End → song_from (turns b) b c ≡ Events []
  song-end e = rw add-one (song-is b c (length b) End e)

  -- an event that gives none is stepped over
  pub song-passed : (further : Cursor) → meet_at b c ≡ Passed further → song_from (turns b) b c ≡ song_from (turns b) b further
  song-passed further e = (rw add-one (song-is b c (length b) (Passed further) e)) ∙ less further (meet-passed b c further e)

  -- a channel event stands in front of the rest
  pub song-given : (message : Message) (further : Cursor) → meet_at b c ≡ Given message further → song_from (turns b) b c ≡ behind_event (event_of message further) (song_from (turns b) b further)
  song-given message further e =
      (rw add-one (song-is b c (length b) (Given message further) e)) ∙ ap (behind_event (event_of message further)) (less further (meet-given b c message further e).0)

  -- where no byte is left it is refused
  pub song-edge : edge_of b c ≤ c.at → song_from (turns b) b c ≡ Refused 9 c.at
  song-edge h = song-out b c (turns b) h

  -- the next event from a cursor on: a fault gives none
  pub next-fault : (number place : ℕ) → meet_at b c ≡ Fault number place → next_from (turns b) b c ≡ nothing
  next-fault number place e = rw add-one (look-fault b c (length b) number place e)

  -- nor does an end of track
  pub next-end : meet_at b c ≡ End → next_from (turns b) b c ≡ nothing
  next-end e = rw add-one (look-end b c (length b) e)

  -- an event that gives none is stepped over
  pub next-passed : (further : Cursor) → meet_at b c ≡ Passed further → next_from (turns b) b c ≡ next_from (turns b) b further
  next-passed further e = (rw add-one (look-passed b c (length b) further e)) ∙ less-next further (meet-passed b c further e)

  -- a channel event is given, with the cursor behind it
  pub next-given : (message : Message) (further : Cursor) → meet_at b c ≡ Given message further → next_from (turns b) b c ≡ record { event = Some (event_of message further); cursor = further }
  next-given message further e = rw add-one (look-given b c (length b) message further e)

  -- where no byte is left there is none
  pub next_edge : edge_of b c ≤ c.at → next_from (turns b) b c ≡ nothing
  next_edge h = next-out b c (turns b) h

-- the cursor behind what the next look finds leads further too, over all events that give none
abbrev pub LedTo : List ℕ → Cursor → Cursor → Option Event → Type 0
LedTo b c behind None = Unit {0}
LedTo b c behind (Some event) = Further b c behind

-- over any number of turns
next-led : (n : ℕ) (b : List ℕ) (c : Cursor) → LedTo b c (next_from n b c).cursor (next_from n b c).event
unfolding next_from
next-led zero b c = tt
next-led (suc n) b c = go (λ further. next-led n b further) (meet_at b c) refl
  where
    farther : (further behind : Cursor) (o : Option Event) → Further b c further → LedTo b further behind o → LedTo b c behind o
    farther further behind None f l = tt
    farther further behind (Some event) f l =
        let same = further-edge b c further f in
        record {
          after = omega (arith, f.after, l.after);
          before = omega (arith, l.before);
          same_end = l.same_end ∙ f.same_end;
          same-division = l.same-division ∙ f.same-division;
          rises = omega (arith, f.rises, l.rises);
          early = subst (λ (d : ℕ). behind.sum ≤ 3600000000 * d) f.same-division l.early;
        }

    go : ((further : Cursor) → LedTo b further (next_from n b further).cursor (next_from n b further).event) → (m : Met) → meet_at b c ≡ m → LedTo b c (next_from (suc n) b c).cursor (next_from (suc n) b c).event
    go more (Fault number place) e = rw (look-fault b c n number place e) tt
    go more End e = rw (look-end b c n e) tt
    go more (Passed further) e = rw (look-passed b c n further e) (farther further (next_from n b further).cursor (next_from n b further).event (meet-passed b c further e) (more further))
    go more (Given message further) e = rw (look-given b c n message further e) (meet-given b c message further e).0

-- what is handed out leads further
pub handed-led : (b : List ℕ) (c : Cursor) → LedTo b c (handed_of b c).cursor (handed_of b c).event
unfolding handed_of
handed-led b c = next-led (turns b) b c
