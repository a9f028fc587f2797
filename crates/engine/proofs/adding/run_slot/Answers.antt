-- A free slot is skipped; any other runs with its channel and its window.
use Rattle.std.proofs.Common.{List, ℤ, sym, ap, ◌∙◌, subst, ap₂}
use borrow.Author.Tests.{not-true}
use Rattle.voice.specs.declared.Channel.{Channel}
use Rattle.voice.specs.Frames.{after}
use Rattle.voice.specs.Internal.Frames.{heard}
use Rattle.voice.specs.Internal.Sums.{add_to, Small}
use Rattle.state.specs.Channels.{channel_at}
use Rattle.engine.specs.Rendering.{window}
use Rattle.engine.proofs.RenderingLaws.{window-part, free-after, free-adds, free-small}
use Rattle.engine.proofs.adding.run_slot.Goals as goal

pub returns-then-not-s : goal.returns-then-not-s
returns-then-not-s c = let a = c.args in
    let s = a.s in
    let h = not-true s.sounding c.if-not-s.true in
    let ch = channel_at a.e s.voice.channel in
    let w = window a.ram.now a.rom.now s.voice in
    record { slot = sym (free-after ch w a.n s h); sums = sym (free-adds ch w a.n s h a.acc.now); small = free-small ch w a.n s h }

pub returns : goal.returns
returns c = let a = c.args in
    let s = a.s in
    let ch = c.channel_of-c.ensures in
    let w = c.window_of-w.ensures ∙ sym (window-part a.ram.now a.rom.now s.voice) in
    let hd = ap₂ (λ (x : Channel) (y : List ℤ). heard x y a.n s) ch w in
    record { slot = c.run.ensures.0 ∙ ap₂ (λ (x : Channel) (y : List ℤ). after x y a.n s) ch w; sums = c.run.ensures.1 ∙ ap (λ (xs : List ℤ). add_to xs a.acc.now) hd; small = subst (Small 1) hd c.run.ensures.2 }
