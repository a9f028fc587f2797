-- Songs of several tracks: the score that is written. Channel events and tempo changes are kept, and one end of track.
use Rattle.std.specs.Prelude.{List, [], ◌∷◌, ℕ, ◌-◌}
use Rattle.smf.specs.declared.Item.{Item}
use Rattle.smf.specs.declared.Item.TheVariants.{Bad, End, Passed, Tempo, Channel}
use Rattle.smf.specs.Spelling.{Mark, Score}
use Rattle.merge.specs.declared.Entry.{Entry}
use Rattle.merge.specs.Bridges.{bridges_of, rest_of, bridged}

-- the tick of the last end of track, where none is found a given one
unfoldable pub last_end_from : ℕ → List Entry → ℕ
last_end_from end [] = end
last_end_from end (e ∷ es) =
    elim e.item [
      | Bad ↦ last_end_from end es
      | End ↦ last_end_from e.tick es
      | Passed behind ↦ last_end_from end es
      | Tempo tempo behind ↦ last_end_from end es
      | Channel status first second behind ↦ last_end_from end es
    ]

-- the marks of a sequence that ends at a tick, from a written tick and the tempo in force on
unfoldable pub marks_from : ℕ → ℕ → ℕ → List Entry → List Mark
marks_from end tick tempo [] = bridged tempo (bridges_of (end - tick)) []
marks_from end tick tempo (e ∷ es) =
    let gap = e.tick - tick in
    elim e.item [
      | Bad ↦ marks_from end tick tempo es
      | End ↦ marks_from end tick tempo es
      | Passed behind ↦ marks_from end tick tempo es
      | Tempo next behind ↦ bridged tempo (bridges_of gap) (Mark.Tempo (rest_of gap) next ∷ marks_from end e.tick next es)
      | Channel status first second behind ↦ bridged tempo (bridges_of gap) (Mark.Channel (rest_of gap) status first second ∷ marks_from end e.tick tempo es)
    ]

-- the ticks from the last mark to the end
unfoldable pub last_from : ℕ → ℕ → List Entry → ℕ
last_from end tick [] = rest_of (end - tick)
last_from end tick (e ∷ es) =
    elim e.item [
      | Bad ↦ last_from end tick es
      | End ↦ last_from end tick es
      | Passed behind ↦ last_from end tick es
      | Tempo next behind ↦ last_from end e.tick es
      | Channel status first second behind ↦ last_from end e.tick es
    ]

-- the score of a sequence: it ends at the last end of track
unfoldable pub score_of : ℕ → List Entry → Score
score_of division es =
    record { division = division; marks = marks_from (last_end_from 0 es) 0 500000 es; last = last_from (last_end_from 0 es) 0 es }
