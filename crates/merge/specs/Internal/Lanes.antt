-- The tracks as the code holds them, and which of them is next.
use Rattle.std.specs.Prelude.{cond, List, [], ◌∷◌, map, ◌≡◌, ℕ, ◌<◌, ◌≤◌, ltb, length, take, get_or}
use Rattle.smf.specs.declared.Item.TheVariants.{Bad}
use Rattle.merge.specs.declared.Best.{Best}
use Rattle.merge.specs.declared.Entry.{Entry}
use Rattle.merge.specs.declared.Tracks.{Tracks}
use Rattle.merge.specs.Entries.{no_tick}
use Rattle.merge.specs.Lanes.{entries_of}
use Rattle.merge.specs.Order.{in_order}
use Rattle.merge.specs.Internal.Entries.{Settled}

-- each of some entries is one of a file
abbrev pub AllSettled : List ℕ → List Entry → Type 0
AllSettled b [] = Unit {0}
AllSettled b (e ∷ es) = Settled b e × AllSettled b es

-- no track
abbrev pub no_lane : Entry
no_lane = record { tick = no_tick; place = 0; end = 0; item = Bad }

-- the tick of an entry
abbrev pub tick_of : Entry → ℕ
tick_of e = e.tick

-- the tracks that are there
abbrev pub lanes_of : Tracks → List Entry
lanes_of l = take l.count l.entries

-- there is room for them, their ticks are their own, and each is at an entry of a file
pub record Lined (b : List ℕ) (l : Tracks) : Type 0 where
  pub room : l.count ≤ 256
  pub whole : length l.entries ≡ 256
  pub ticks : l.ticks ≡ map tick_of l.entries
  pub settled : AllSettled b (lanes_of l)

-- the one sequence of their events
abbrev pub lane_sequence : List ℕ → Tracks → List Entry
lane_sequence b l = in_order (entries_of b (lanes_of l))

-- the smaller of two ticks; the first of two that are the same
unfoldable pub better_of : Best → ℕ → ℕ → Best
better_of best tick lane = cond (ltb tick best.tick) (record { tick = tick; lane = lane }) best

-- tick i
abbrev pub tick_at : List ℕ → ℕ → ℕ
tick_at ts i = get_or ts i 0

-- tick j is the first of the smallest among the first n; j is n where none is there
pub record Earliest (ts : List ℕ) (n j : ℕ) : Type 0 where
  pub in-lanes : j ≤ n
  pub earlier : (i : ℕ) → i < j → i < n → j < n → tick_at ts j < tick_at ts i
  pub later : (i : ℕ) → i < n → j < n → tick_at ts j ≤ tick_at ts i
  pub found : j < n → tick_at ts j < no_tick
  pub over : j ≡ n → (i : ℕ) → i < n → no_tick ≤ tick_at ts i
