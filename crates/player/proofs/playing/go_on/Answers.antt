-- No frame, or so many by the engine, into the part of the output.
use Rattle.std.proofs.Common.{ℕ, ◌-◌, ◌*◌, length, sym, ap, ◌∙◌, arith}
use borrow.Rule.Slice.PartMut.{put_mid, mid_len}
use Rattle.engine.specs.Rendering.{output}
use Rattle.player.specs.Playing.{forward}
use Rattle.player.proofs.PlayingLaws.{written_none, part-put, ticked-some, forward-none}
use Rattle.player.proofs.playing.go_on.Goals as goal

pub returns-then-m-eq0 : goal.returns-then-m-eq0
returns-then-m-eq0 c = let a = c.args in
    record { tally = sym (forward-none a.ram.now a.rom.now a.x) ∙ ap (λ (n : ℕ). forward a.ram.now a.rom.now n a.x) (sym c.if-m-eq0.true); output = written_none a.ram.now a.rom.now a.x.player.engine a.at a.m a.out.now c.if-m-eq0.true }

pub play-y-requires : goal.play-y-requires
play-y-requires c = let a = c.args in
    (c.requires.0, omega (arith, c.requires.1, mid_len a.at (length a.out.now) a.out.now (omega arith)))

pub returns : goal.returns
unfolding forward
returns c = let a = c.args in
    let e = a.x.player.engine in
    record {
      tally = simp (c.with_engine.ensures, c.play-y.ensures.state, ticked-some a.ram.now a.rom.now a.m e c.if-m-eq0.false);
      output = ap (put_mid a.at (length a.out.now - a.at) a.out.now) c.play-y.ensures.output
          ∙ part-put a.at (2 * a.m) a.out.now (output a.ram.now a.rom.now e a.m) (omega (arith, c.requires.1));
    }
