-- A turn looks at slot i.
use Rattle.std.proofs.Common.{◌≡◌, Bool, true, false, ◌||◌, List, length, get_or, sym, ap, ◌∙◌, ap₂, arith, take_all, rules}
use Rattle.voice.specs.declared.Slot.{Slot}
use Rattle.state.specs.Slots.{slots_of}
use Rattle.engine.specs.Rendering.{lacking, lacks as lacking_in}
use Rattle.state.proofs.SlotLoopLaws.{paired-length}
use Rattle.arith.proofs.Loops.{any_none, any-turn}
use Rattle.voice.specs.Changes.{blank, free}
use Rattle.engine.proofs.RenderingLaws.{lacks_at}
use Rattle.engine.proofs.rendering.lacks.Goals as goal

pub loop-i-init : goal.loop-i-init
unfolding lacking
loop-i-init c = let a = c.args in
    (paired-length a.e.sounding a.e.voices ∙ c.well_formed.0.1.1.0.1.0.1, sym (any_none (lacking_in a.ram.now a.rom.now) (slots_of a.e)))

pub returns-then-lacks_window : goal.returns-then-lacks_window
unfolding lacking
returns-then-lacks_window c = let a = c.args in
    let p = lacking_in a.ram.now a.rom.now in
    sym (lacks_at p (slots_of a.e) c.loop-i.i (free blank) (omega (arith, c.loop-i.invariant.0))
    (sym (c.lacks_window.ensures ∙ ap p c.slot_of.ensures) ∙ c.if-lacks_window.true))

pub loop-i-preserved : goal.loop-i-preserved
unfolding lacking
loop-i-preserved c = let a = c.args in
    let p = lacking_in a.ram.now a.rom.now in
    let no = sym (c.lacks_window.ensures ∙ ap p c.slot_of.ensures) ∙ c.if-lacks_window.false in (
      c.loop-i.invariant.0,
      ap₂ (λ (b t : Bool). b || t) c.loop-i.invariant.1 (sym no) ∙ sym (any-turn p (slots_of a.e) c.loop-i.i (free blank) (omega (arith, c.loop-i.invariant.0))),
    )
