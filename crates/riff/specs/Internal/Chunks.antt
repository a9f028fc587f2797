-- The first chunk of a name and a type as an Option.
use Rattle.std.specs.Prelude.{cond, List, ℕ, eqb, Option, Some, None}
use Rattle.riff.specs.Chunks.{first_at}

-- the place of the first that is named, if there is one
unfoldable pub sought_at : List ℕ → ℕ → ℕ → ℕ → ℕ → Option ℕ
sought_at b end name kind at = cond (eqb (first_at b end name kind at) end) None (Some (first_at b end name kind at))
