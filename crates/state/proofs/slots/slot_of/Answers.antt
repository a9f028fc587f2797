-- A slot is its bit and its record.
use mathlib.Core.Path.{◌≡◌, sym, ap, ◌∙◌}
use native.Mathlib.Omega.{arith}
use mathlib.Core.Bool.{Bool}
use borrow.Author.Rules.{rules}
use lib.ListN.{length, get_or, length-map}
use Rattle.voice.specs.declared.Slot.{Slot}
use Rattle.voice.specs.declared.Voice.{Voice}
use Rattle.voice.specs.Changes.{blank}
use Rattle.state.proofs.SlotLoopLaws.{paired_at}
use Rattle.state.proofs.slots.slot_of.Goals as goal

pub returns : goal.returns
returns c = let e = c.args.e in
    let n : length e.voices ≡ 32 = search rules in
    ap (slot (get_or e.voices c.args.i blank)) c.has.ensures ∙ sym (paired_at e.sounding e.voices c.args.i (omega arith))
  where
    slot : Voice → Bool → Slot
    slot v b = record { sounding = b; voice = v }
