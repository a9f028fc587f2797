-- Standard MIDI Files: the head chunk, field by field, and the chunks up to the track.
use Rattle.std.specs.Prelude.{cond, not, ◌||◌, List, ℕ, zero, suc, ◌+◌, ltb, eqb, length}
use Rattle.smf.specs.declared.Header.{Header}
use Rattle.smf.specs.declared.Header.TheVariants.{Refused, Track}
use Rattle.smf.specs.Quantities.{two_at, four_at}

-- where the chunk at a place ends, by its length field
unfoldable pub chunk_end : List ℕ → ℕ → ℕ
chunk_end b at = at + 8 + four_at b (at + 4)

-- the names of the two chunks, each as a number of four bytes: MThd, 4D 54 68 64
abbrev pub head_name : ℕ
head_name = 1297377380

-- MTrk, 4D 54 72 6B
abbrev pub track_name : ℕ
track_name = 1297379947

-- the first of the next n chunks that is named MTrk. Others are stepped over; a name that is cut off, or a chunk longer than the file, is at fault
unfoldable pub track_from : ℕ → List ℕ → ℕ → Header
track_from zero b at = Refused 9 at
track_from (suc n) b at =
    cond (ltb (length b) (at + 4)) (Refused 9 at)
    (cond (ltb (length b) (chunk_end b at)) (Refused 9 (at + 4))
    (cond (eqb (four_at b at) track_name) (Track (at + 8) (chunk_end b at))
    (track_from n b (chunk_end b at))))

-- MThd, its length of six or more, format 0, one track, a division in ticks of a quarter note; then the chunks behind it, of which there are fewer than bytes
unfoldable pub head_of : List ℕ → Header
head_of b =
    cond (not (eqb (four_at b 0) head_name)) (Refused 9 0)
    (cond (ltb (four_at b 4) 6 || ltb (length b) (chunk_end b 0)) (Refused 9 4)
    (cond (not (eqb (two_at b 8) 0)) (Refused 10 8)
    (cond (not (eqb (two_at b 10) 1)) (Refused 9 10)
    (cond (eqb (two_at b 12) 0) (Refused 9 12)
    (cond (ltb 32767 (two_at b 12)) (Refused 10 12)
    (track_from (length b) b (chunk_end b 0)))))))
