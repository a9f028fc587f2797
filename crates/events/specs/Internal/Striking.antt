-- A note-on's answer from the bank on, and from its layers on.
use Rattle.std.specs.Prelude.{ℕ, cond, List, ltb, ℤ, length}
use Rattle.voice.specs.declared.Voice.{Voice}
use Rattle.state.specs.declared.Engine.{Engine}
use Rattle.state.specs.Answers.{Answered}
use Rattle.state.specs.Answers.{done, refused, answer}
use Rattle.events.specs.Starting.{any_past, struck}
use Rattle.events.specs.Striking.{Bank, layer_voices, note_on_number}

-- the answer of layers that were found: 4, 8, then done
unfoldable pub layers_answer : List ℤ → List ℤ → ℕ → List Voice → Engine → Answered
layers_answer ram rom channel vs e =
    cond (ltb 32 (length vs)) (refused 4 e)
    (cond (any_past ram rom vs) (refused 8 e) (done (length vs) (struck channel vs e).engine))

-- the answer behind the test of ranges, of a velocity that is not 0
unfoldable pub bank_answer : Bank → List ℤ → List ℤ → ℕ → ℕ → ℕ → Engine → Answered
bank_answer b ram rom channel key velocity e =
    answer (note_on_number b ram rom channel key velocity e) e
    (done (length (layer_voices b channel key velocity e)) (struck channel (layer_voices b channel key velocity e) e).engine)
