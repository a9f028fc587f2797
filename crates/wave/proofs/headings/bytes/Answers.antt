-- Each byte is the heading's; the lowest byte of a number is worth 1.
use mathlib.Core.Path.{refl}
use Prim.Native.Nat.{◌+◌, ◌*◌}
use native.Mathlib.Nat.{div-one}
use Rattle.wave.specs.Headings.{heading_of}
use Rattle.wave.proofs.headings.bytes.Goals as goal

pub returns : goal.returns
unfolding heading_of
returns c = let n = c.args.frames in
    rw (c.byte.ensures, c.byte-2.ensures, c.byte-3.ensures, c.byte-4.ensures, c.byte-5.ensures, c.byte-6.ensures, c.byte-7.ensures, c.byte-8.ensures, div-one (36 + 4 * n), div-one (4 * n)) refl
