-- Standard MIDI Files: one event of the track behind its delta time. The edge is where the track ends.
use Rattle.std.specs.Prelude.{cond, Bool, ◌||◌, List, ℕ, ◌+◌, ltb, leb, eqb, Some, None}
use Rattle.arith.specs.Bytes.{u8_at}
use Rattle.arith.specs.Holds.{between}
use Rattle.smf.specs.declared.Item.{Item}
use Rattle.smf.specs.declared.Item.TheVariants.{Bad, End, Passed, Tempo, Channel}
use Rattle.smf.specs.Quantities.{three_at, quantity_at}

-- a status of a channel event, 80 to EF
abbrev pub is_channel : ℕ → Bool
is_channel status = between 128 239 status

-- a status with one data byte, C0 to DF: program change and channel pressure
abbrev pub is_short : ℕ → Bool
is_short status = between 192 223 status

-- a first byte of a system exclusive event, F0 or F7
abbrev pub is_exclusive : ℕ → Bool
is_exclusive x = eqb x 240 || eqb x 247

-- one data byte at a place
unfoldable pub short_at : List ℕ → ℕ → ℕ → ℕ → Item
short_at b edge status at = cond (ltb edge (at + 1) || ltb 127 (u8_at b at)) Bad (Channel status (u8_at b at) 0 (at + 1))

-- two data bytes at a place
unfoldable pub long_at : List ℕ → ℕ → ℕ → ℕ → Item
long_at b edge status at =
    cond (ltb edge (at + 2) || ltb 127 (u8_at b at) || ltb 127 (u8_at b (at + 1))) Bad (Channel status (u8_at b at) (u8_at b (at + 1)) (at + 2))

-- a channel event: its status, and the data bytes that stand at a place
unfoldable pub spoken_at : List ℕ → ℕ → ℕ → ℕ → Item
spoken_at b edge status at = cond (is_short status) (short_at b edge status at) (long_at b edge status at)

-- a system exclusive event: the length at a place, and so many bytes
unfoldable pub exclusive_at : List ℕ → ℕ → ℕ → Item
exclusive_at b edge at = elim (quantity_at b edge at) [ None ↦ Bad | Some q ↦ cond (ltb edge (q.behind + q.value)) Bad (Passed (q.behind + q.value)) ]

-- a meta event of a type, with n bytes at a place: 2F ends the track, 51 sets the tempo by its first three bytes, all others are stepped over
unfoldable pub meta_of : List ℕ → ℕ → ℕ → ℕ → Item
meta_of b kind n at =
    cond (eqb kind 47) End
    (cond (eqb kind 81) (cond (ltb n 3) Bad (Tempo (three_at b at) (at + n)))
    (Passed (at + n)))

-- a meta event: the type at a place, which is below 128, its length, and so many bytes
unfoldable pub meta_at : List ℕ → ℕ → ℕ → Item
meta_at b edge at =
    elim (quantity_at b edge (at + 1)) [ None ↦ Bad | Some q ↦ cond (ltb 127 (u8_at b at) || ltb edge (q.behind + q.value)) Bad (meta_of b (u8_at b at) q.value q.behind) ]

-- the event at a place, where a status runs (0: none): a data byte takes the running status; FF is a meta event
unfoldable pub item_at : List ℕ → ℕ → ℕ → ℕ → Item
item_at b edge running at =
    let x = u8_at b at in
    cond (leb edge at) Bad
    (cond (ltb x 128) (cond (is_channel running) (spoken_at b edge running at) Bad)
    (cond (ltb x 240) (spoken_at b edge x (at + 1))
    (cond (eqb x 255) (meta_at b edge (at + 1))
    (cond (is_exclusive x) (exclusive_at b edge (at + 1))
    Bad))))
