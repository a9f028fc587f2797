-- The output is cleared, and all slots are added to its zeros.
use Rattle.std.proofs.Common.{ℕ, length, replicate, pos, sym, ap, ◌∙◌, subst, arith, rules, ◌≡◌}
use Rattle.std.proofs.lemmas.Slice.{overwrites}
use lib.ListN.{length-replicate}
use Rattle.state.specs.Slots.{slots_of}
use Rattle.voice.specs.Internal.Sums.{Small}
use Rattle.voice.proofs.SumsLaws.{zeros-small}
use Rattle.engine.specs.Internal.Sums.{add_all, slot_heard}
use Rattle.engine.proofs.SummingLaws.{all-summed}
use Rattle.engine.proofs.summing.add_up.Goals as goal

pub returns : goal.returns
returns c = let a = c.args in
    let zeros : c.fill.new.self ≡ replicate (length a.acc.now) (pos 0) = search (rules, overwrites) in
    let f = slot_heard a.ram.now a.rom.now a.e a.n in
    record {
      state = c.run_all.ensures.state;
      output = c.run_all.ensures.sums
          ∙ ap (add_all f (slots_of a.e)) zeros
          ∙ ap (λ (m : ℕ). add_all f (slots_of a.e) (replicate m (pos 0))) (sym c.requires)
          ∙ all-summed a.ram.now a.rom.now a.e a.n;
    }
