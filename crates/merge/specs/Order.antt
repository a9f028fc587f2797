-- Songs of several tracks: one sequence of all events, by tick, then by track, then in the track's own order.
use Rattle.std.specs.Prelude.{cond, List, [], ◌∷◌, leb}
use Rattle.merge.specs.declared.Entry.{Entry}

-- an event in front of the first that is not earlier
unfoldable pub inserted : Entry → List Entry → List Entry
inserted e [] = e ∷ []
inserted e (x ∷ xs) = cond (leb e.tick x.tick) (e ∷ x ∷ xs) (x ∷ inserted e xs)

-- events by their ticks. Of events on one tick those that are in front stay in front: those of earlier tracks, and earlier ones of their own
unfoldable pub in_order : List Entry → List Entry
in_order [] = []
in_order (e ∷ es) = inserted e (in_order es)
