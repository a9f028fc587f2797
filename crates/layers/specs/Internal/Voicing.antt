-- The voices of a note-on as an array of 32, and how many.
use Rattle.std.specs.Prelude.{cond, List, ◌++◌, ◌-◌, leb, length, replicate}
use Rattle.voice.specs.Changes.{blank}
use Rattle.voice.specs.declared.Voice.{Voice}
use Rattle.layers.specs.declared.Struck.{Struck}

-- at most 32 voices in an array, the rest blank, and their number; of 33 the number alone
unfoldable pub struck_of : List Voice → Struck
struck_of vs =
    record {
      count = length vs;
      voices = cond (leb (length vs) 32) (vs ++ replicate (32 - length vs) blank) (replicate 32 blank);
    }
