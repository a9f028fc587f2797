-- The tests are those of the definition, in its order; then the heading, and the numbers behind it.
use mathlib.Core.List.{List, ◌++◌}
use mathlib.Core.Path.{ap, sym, ◌∙◌}
use Prim.Native.Nat.{ℕ}
use lib.ListN.{drop}
use Rattle.wave.proofs.RecordingLaws.{write-broken, write_done, write-long, room-left, write-short}
use Rattle.wave.proofs.recording.write.Goals as goal

pub returns-then-is_broken : goal.returns-then-is_broken
returns-then-is_broken c = let answer = write-broken c.args.numbers.now c.args.out.now (sym c.is_broken.ensures ∙ c.if-is_broken.true) in
    record { value = answer.0; output = answer.1 }

pub returns-then-frames-gt1073741814 : goal.returns-then-frames-gt1073741814
returns-then-frames-gt1073741814 c = let answer = write-long c.args.numbers.now c.args.out.now (sym c.is_broken.ensures ∙ c.if-is_broken.false) c.if-frames-gt1073741814.true in
    record { value = answer.0; output = answer.1 }

pub returns-then-out-frames : goal.returns-then-out-frames
returns-then-out-frames c = let answer = write-short c.args.numbers.now c.args.out.now (sym c.is_broken.ensures ∙ c.if-is_broken.false) c.if-frames-gt1073741814.false c.if-out-frames.true in
    record { value = answer.0; output = answer.1 }

pub fill-requires : goal.fill-requires
fill-requires c = let xs = c.args.numbers.now in let out = c.args.out.now in
    let whole = sym c.is_broken.ensures ∙ c.if-is_broken.false in
    record {
      numbers_value = whole;
      room = room-left xs out c.put.new.out whole c.if-out-frames.false
          (c.put.ensures ∙ ap (λ (h : List ℕ). h ++ drop 44 out) c.bytes-head.ensures);
    }

pub returns : goal.returns
returns c = let xs = c.args.numbers.now in let out = c.args.out.now in
    let answer = write_done xs out c.put.new.out c.fill.new.out
    (sym c.is_broken.ensures ∙ c.if-is_broken.false) c.if-frames-gt1073741814.false c.if-out-frames.false
    (c.put.ensures ∙ ap (λ (h : List ℕ). h ++ drop 44 out) c.bytes-head.ensures)
    c.fill.ensures in
    record { value = answer.0; output = answer.1 }
