-- Songs of several tracks: the head of a file of format 0 or 1.
use Rattle.std.specs.Prelude.{cond, not, ◌||◌, List, ℕ, ltb, eqb, length}
use Rattle.smf.specs.Quantities.{two_at, four_at}
use Rattle.smf.specs.Head.{head_name, chunk_end}
use Rattle.merge.specs.declared.Front.{Front}
use Rattle.merge.specs.declared.Front.TheVariants.{Refused, Song}

-- what is wrong with a number of tracks, 0 for nothing: format 0 has one, format 1 has one to 256
unfoldable pub count_number : ℕ → ℕ → ℕ
count_number format count =
    cond (eqb format 0) (cond (eqb count 1) 0 9)
    (cond (eqb count 0) 9
    (cond (ltb 256 count) 44 0))

-- MThd, its length of six or more, format 0 or 1, the tracks, and a division in ticks of a quarter note; the chunks stand behind
unfoldable pub front_of : List ℕ → Front
front_of b =
    cond (not (eqb (four_at b 0) head_name)) (Refused 9 0)
    (cond (ltb (four_at b 4) 6 || ltb (length b) (chunk_end b 0)) (Refused 9 4)
    (cond (ltb 1 (two_at b 8)) (Refused 10 8)
    (cond (not (eqb (count_number (two_at b 8) (two_at b 10)) 0)) (Refused (count_number (two_at b 8) (two_at b 10)) 10)
    (cond (eqb (two_at b 12) 0) (Refused 9 12)
    (cond (ltb 32767 (two_at b 12)) (Refused 10 12)
    (Song (two_at b 10) (two_at b 12) (chunk_end b 0)))))))
