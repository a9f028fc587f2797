-- Laws of the line that is written: how long its parts are.
use mathlib.Core.Bool.{true}
use mathlib.Core.List.{List, [], ◌∷◌, ◌++◌}
use mathlib.Core.Path.{◌≡◌, refl, ap, ◌∙◌}
use Prim.Native.Nat.{ℕ, zero, suc, ◌+◌, ◌*◌, ◌-◌}
use native.Mathlib.Omega.{arith}
use lib.ListN.{length, length-append}
use Rattle.smf.specs.Spelling.{Mark, quantity_bytes, event_bytes, three_bytes}
use Rattle.smf.specs.declared.Item.{Item}
use Rattle.merge.specs.declared.Entry.{Entry}
use Rattle.merge.specs.declared.Line.{Line}
use Rattle.merge.specs.Bridges.{longest_delta, bridges_of, rest_of}
use Rattle.merge.specs.Internal.Lines.{bridge_bytes, gap_bytes, running_after, entry_bytes, closing_bytes}

-- a bridge has ten bytes
pub bridge-ten : (tempo : ℕ) → length (quantity_bytes longest_delta ++ event_bytes true 0 (Mark.Tempo longest_delta tempo)) ≡ 10
unfolding quantity_bytes event_bytes three_bytes
bridge-ten tempo = refl

-- n bridges
pub bridges-length : (tempo n : ℕ) → length (bridge_bytes tempo n) ≡ n * 10
unfolding bridge_bytes
bridges-length tempo zero = refl
bridges-length tempo (suc n) =
    length-append (bridge_bytes tempo n) (quantity_bytes longest_delta ++ event_bytes true 0 (Mark.Tempo longest_delta tempo))
    ∙ omega (arith, bridges-length tempo n, bridge-ten tempo)

-- a gap, whatever the tempo
pub gap_length : (tempo gap : ℕ) → length (gap_bytes tempo gap) ≡ bridges_of gap * 10 + length (quantity_bytes (rest_of gap))
unfolding gap_bytes
gap_length tempo gap =
    length-append (bridge_bytes tempo (bridges_of gap)) (quantity_bytes (rest_of gap))
    ∙ omega (arith, bridges-length tempo (bridges_of gap))

module _ (l : Line) (e : Entry) where
  -- a tempo change and its gap
  pub entry-tempo : (next behind : ℕ) → e.item ≡ Item.Tempo next behind → entry_bytes l e ≡ gap_bytes l.tempo (e.tick - l.tick) ++ (255 ∷ 81 ∷ 3 ∷ three_bytes next)
  unfolding entry_bytes event_bytes
  entry-tempo next behind i = rw i refl

  -- a channel event and its gap
  pub entry-channel : (status first second behind : ℕ) → e.item ≡ Item.Channel status first second behind
      → entry_bytes l e ≡ gap_bytes l.tempo (e.tick - l.tick) ++ event_bytes true (running_after l.running (e.tick - l.tick)) (Mark.Channel 0 status first second)
  unfolding entry_bytes
  entry-channel status first second behind i = rw i refl

  -- what is left out
  pub entry-bad : e.item ≡ Item.Bad → entry_bytes l e ≡ []
  unfolding entry_bytes
  entry-bad i = rw i refl

  pub entry-end : e.item ≡ Item.End → entry_bytes l e ≡ []
  unfolding entry_bytes
  entry-end i = rw i refl

  pub entry-passed : (behind : ℕ) → e.item ≡ Item.Passed behind → entry_bytes l e ≡ []
  unfolding entry_bytes
  entry-passed behind i = rw i refl

  -- how long a tempo change is
  pub tempo-length : (next behind n : ℕ) → e.item ≡ Item.Tempo next behind → n ≡ length (gap_bytes l.tempo (e.tick - l.tick)) → n + 6 ≡ length (entry_bytes l e)
  unfolding three_bytes
  tempo-length next behind n i h =
      omega (arith, h, ap length (entry-tempo next behind i), length-append (gap_bytes l.tempo (e.tick - l.tick)) (255 ∷ 81 ∷ 3 ∷ three_bytes next))

  -- how long a channel event is
  pub channel-length : (status first second behind running n m : ℕ) → e.item ≡ Item.Channel status first second behind → running ≡ running_after l.running (e.tick - l.tick)
      → n ≡ length (gap_bytes l.tempo (e.tick - l.tick)) → ((x y : ℕ) → m ≡ length (event_bytes true running (Mark.Channel 0 status x y))) → n + m ≡ length (entry_bytes l e)
  channel-length status first second behind running n m i r h k =
      let s = rw r at (k first second) in
      let d = event_bytes true (running_after l.running (e.tick - l.tick)) (Mark.Channel 0 status first second) in
      omega (arith, h, s, ap length (entry-channel status first second behind i), length-append (gap_bytes l.tempo (e.tick - l.tick)) d)

-- the end of track
pub closing-length : (l : Line) → length (closing_bytes l) ≡ length (gap_bytes l.tempo (l.end - l.tick)) + 3
unfolding closing_bytes
closing-length l = length-append (gap_bytes l.tempo (l.end - l.tick)) (255 ∷ 47 ∷ 0 ∷ [])
