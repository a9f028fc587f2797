-- One of the voices, found by the library.
use Rattle.std.proofs.Common.{◌≡◌, ◌∙◌, rules}
use Rattle.std.proofs.lemmas.Iterator.{YieldsList-from_slice}
use Rattle.std.proofs.lemmas.Iterator.Search.{any_from_yields_List}
use borrow.Author.Tests.{tests}
use Rattle.std.specs.List.{list_any}
use Rattle.state.specs.Reach.{ends_past}
use Rattle.events.specs.Starting.{any_past}
use Rattle.events.proofs.StartingLaws.{any_found}
use Rattle.events.proofs.starting.any_past.Goals as goal

pub returns : goal.returns
unfolding any_past
returns c = let a = c.args in
    let found : c.any.result ≡ list_any (ends_past a.ram.now a.rom.now) a.voices.now = any_from_yields_List (ends_past a.ram.now a.rom.now) _ _ c.any.result c.any.ensures.ran (YieldsList-from_slice a.voices.now cc) (λ x b q k. search (rules, tests)) in
    found ∙ any_found (ends_past a.ram.now a.rom.now) a.voices.now
