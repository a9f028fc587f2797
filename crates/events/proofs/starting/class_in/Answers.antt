-- One of the voices, found by the library.
use Rattle.std.proofs.Common.{◌≡◌, ◌∙◌, rules}
use Rattle.std.proofs.lemmas.Iterator.{YieldsList-from_slice}
use Rattle.std.proofs.lemmas.Iterator.Search.{any_from_yields_List}
use borrow.Author.Tests.{tests}
use Rattle.std.specs.List.{list_any}
use Rattle.events.specs.Starting.{class_in, same_class}
use Rattle.events.proofs.StartingLaws.{any_found}
use Rattle.events.proofs.starting.class_in.Goals as goal

pub returns : goal.returns
unfolding class_in
returns c = let a = c.args in
    let found : c.any.result ≡ list_any (same_class a.class) a.voices.now = any_from_yields_List (same_class a.class) _ _ c.any.result c.any.ensures.ran (YieldsList-from_slice a.voices.now cc) (λ x b q k. search (rules, tests)) in
    found ∙ any_found (same_class a.class) a.voices.now
