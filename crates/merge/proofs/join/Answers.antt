-- `join` meets its contract.
use mathlib.Core.List.{List}
use mathlib.Core.Path.{◌≡◌, refl, sym, ap, ◌∙◌}
use Prim.Native.Nat.{ℕ, ◌+◌, ◌*◌, ◌-◌, ◌<◌, ◌≤◌}
use native.Mathlib.Omega.{arith}
use lib.ListN.{length}
use Rattle.merge.specs.declared.Entry.{Entry}
use Rattle.merge.specs.declared.Merged.{Merged}
use Rattle.merge.specs.declared.Tally.{Tally}
use Rattle.merge.specs.Lanes.{entries_of}
use Rattle.merge.specs.Order.{in_order}
use Rattle.merge.specs.Lateness.{late_of}
use Rattle.merge.specs.Merging.{sequence_of, joined_file, fitted, joined_of, room_of}
use Rattle.merge.specs.Internal.Lanes.{lane_sequence}
use Rattle.merge.specs.Internal.Lines.{closing_bytes, line_bytes, line_start, held_count}
use Rattle.merge.specs.Internal.Order.{tally_start, tally_of}
use Rattle.merge.proofs.MergingLaws.{all-late, all-size, tally-held, file-length, laid-file, joined-late, joined-flaw, joined-good, fitted-long, fitted-in}
use Rattle.merge.proofs.join.Goals as goal

pub returns-in-Some : goal.returns-in-Some
returns-in-Some c = let sequence : List Entry = sequence_of c.args.count c.args.file.now c.args.at in
    let same-sequence : lane_sequence c.args.file.now c.lanes-l.result ≡ sequence = ap (λ (es : List Entry). in_order (entries_of c.args.file.now es)) c.lanes-l.ensures.result_value in
    let tally-is : c.tally-t.result ≡ tally_of tally_start sequence (3600000000 * c.args.division) = c.tally-t.ensures ∙ ap (λ (es : List Entry). tally_of tally_start es (3600000000 * c.args.division)) same-sequence in
    let late_is : c.tally-t.result.hour.late ≡ late_of c.args.division sequence = ap (λ (t : Tally). t.hour.late) tally-is ∙ all-late sequence c.args.division in
    let a = c.args in
    let e = joined-late a.file.now a.count a.division a.at (room_of a.out.now) _ (sym (late_is) ∙ c.in-Some.is) in
    rw e (record { value = c.refused.ensures; output = refl })

pub returns-in-Some-flaw : goal.returns-in-Some-flaw
returns-in-Some-flaw c = let sequence : List Entry = sequence_of c.args.count c.args.file.now c.args.at in
    let same-sequence : lane_sequence c.args.file.now c.lanes-l.result ≡ sequence = ap (λ (es : List Entry). in_order (entries_of c.args.file.now es)) c.lanes-l.ensures.result_value in
    let tally-is : c.tally-t.result ≡ tally_of tally_start sequence (3600000000 * c.args.division) = c.tally-t.ensures ∙ ap (λ (es : List Entry). tally_of tally_start es (3600000000 * c.args.division)) same-sequence in
    let late_is : c.tally-t.result.hour.late ≡ late_of c.args.division sequence = ap (λ (t : Tally). t.hour.late) tally-is ∙ all-late sequence c.args.division in
    let a = c.args in
    let f = sym c.lanes-l.ensures.flaw ∙ c.in-Some-flaw.is in
    let e = joined-flaw a.file.now a.count a.division a.at (room_of a.out.now) _ (sym (late_is) ∙ c.in_default.is) f in
    rw e (record { value = c.refused-in-Some-flaw.ensures; output = refl })

pub whole_size-size-requires : goal.whole_size-size-requires
whole_size-size-requires c = let sequence : List Entry = sequence_of c.args.count c.args.file.now c.args.at in
    let same-sequence : lane_sequence c.args.file.now c.lanes-l.result ≡ sequence = ap (λ (es : List Entry). in_order (entries_of c.args.file.now es)) c.lanes-l.ensures.result_value in
    let tally-is : c.tally-t.result ≡ tally_of tally_start sequence (3600000000 * c.args.division) = c.tally-t.ensures ∙ ap (λ (es : List Entry). tally_of tally_start es (3600000000 * c.args.division)) same-sequence in
    rw (tally-is) (tally-held (sequence) tally_start (3600000000 * c.args.division) (omega arith))

pub returns-then-room-size : goal.returns-then-room-size
returns-then-room-size c = let sequence : List Entry = sequence_of c.args.count c.args.file.now c.args.at in
    let file : List ℕ = joined_file c.args.division (sequence) in
    let same-sequence : lane_sequence c.args.file.now c.lanes-l.result ≡ sequence = ap (λ (es : List Entry). in_order (entries_of c.args.file.now es)) c.lanes-l.ensures.result_value in
    let tally-is : c.tally-t.result ≡ tally_of tally_start sequence (3600000000 * c.args.division) = c.tally-t.ensures ∙ ap (λ (es : List Entry). tally_of tally_start es (3600000000 * c.args.division)) same-sequence in
    let size_is : c.whole_size-size.result ≡ held_count (length file) = c.whole_size-size.ensures ∙ ap (λ (t : Tally). held_count (t.size + length (closing_bytes t.line))) (tally-is)
    ∙ all-size (sequence) (3600000000 * c.args.division) ∙ ap held_count (sym (file-length c.args.division (sequence))) in
    let late_is : c.tally-t.result.hour.late ≡ late_of c.args.division sequence = ap (λ (t : Tally). t.hour.late) tally-is ∙ all-late sequence c.args.division in
    let outcome : (room : ℕ) → joined_of c.args.file.now c.args.count c.args.division c.args.at room ≡ fitted room file = λ room. joined-good c.args.file.now c.args.count c.args.division c.args.at room (sym (late_is) ∙ c.in_default.is)
    (sym c.lanes-l.ensures.flaw ∙ c.in_default-flaw.is) in
    let a = c.args in
    let z = size_is in
    let r = c.room.ensures in
    let long : room_of a.out.now < length (file) = omega (arith, z, r, c.if-room-size.true) in
    rw (outcome (room_of a.out.now) ∙ fitted-long (room_of a.out.now) (file) long) (record { value = c.refused-then-room-size.ensures; output = refl })

pub overflow_sub-size : goal.overflow_sub-size
overflow_sub-size c = let sequence : List Entry = sequence_of c.args.count c.args.file.now c.args.at in
    let same-sequence : lane_sequence c.args.file.now c.lanes-l.result ≡ sequence = ap (λ (es : List Entry). in_order (entries_of c.args.file.now es)) c.lanes-l.ensures.result_value in
    let tally-is : c.tally-t.result ≡ tally_of tally_start sequence (3600000000 * c.args.division) = c.tally-t.ensures ∙ ap (λ (es : List Entry). tally_of tally_start es (3600000000 * c.args.division)) same-sequence in
    let file : List ℕ = joined_file c.args.division (sequence) in
    let size_is : c.whole_size-size.result ≡ held_count (length file) = c.whole_size-size.ensures ∙ ap (λ (t : Tally). held_count (t.size + length (closing_bytes t.line))) (tally-is)
    ∙ all-size (sequence) (3600000000 * c.args.division) ∙ ap held_count (sym (file-length c.args.division (sequence))) in
    omega (arith, size_is, file-length c.args.division (sequence))

pub write-requires : goal.write-requires
write-requires c = let sequence : List Entry = sequence_of c.args.count c.args.file.now c.args.at in
    let same-sequence : lane_sequence c.args.file.now c.lanes-l.result ≡ sequence = ap (λ (es : List Entry). in_order (entries_of c.args.file.now es)) c.lanes-l.ensures.result_value in
    let tally-is : c.tally-t.result ≡ tally_of tally_start sequence (3600000000 * c.args.division) = c.tally-t.ensures ∙ ap (λ (es : List Entry). tally_of tally_start es (3600000000 * c.args.division)) same-sequence in
    let file : List ℕ = joined_file c.args.division (sequence) in
    let size_is : c.whole_size-size.result ≡ held_count (length file) = c.whole_size-size.ensures ∙ ap (λ (t : Tally). held_count (t.size + length (closing_bytes t.line))) (tally-is)
    ∙ all-size (sequence) (3600000000 * c.args.division) ∙ ap held_count (sym (file-length c.args.division (sequence))) in
    let a = c.args in
    let z = size_is in
    let r = c.room.ensures in
    let n = file-length a.division (sequence) in
    record { lined = c.lanes-l.ensures.lined; room = rw (same-sequence) (omega (arith, z, r, n, c.if-room-size.false)) }

pub returns : goal.returns
returns c = let sequence : List Entry = sequence_of c.args.count c.args.file.now c.args.at in
    let same-sequence : lane_sequence c.args.file.now c.lanes-l.result ≡ sequence = ap (λ (es : List Entry). in_order (entries_of c.args.file.now es)) c.lanes-l.ensures.result_value in
    let file : List ℕ = joined_file c.args.division (sequence) in
    let tally-is : c.tally-t.result ≡ tally_of tally_start sequence (3600000000 * c.args.division) = c.tally-t.ensures ∙ ap (λ (es : List Entry). tally_of tally_start es (3600000000 * c.args.division)) same-sequence in
    let size_is : c.whole_size-size.result ≡ held_count (length file) = c.whole_size-size.ensures ∙ ap (λ (t : Tally). held_count (t.size + length (closing_bytes t.line))) (tally-is)
    ∙ all-size (sequence) (3600000000 * c.args.division) ∙ ap held_count (sym (file-length c.args.division (sequence))) in
    let late_is : c.tally-t.result.hour.late ≡ late_of c.args.division sequence = ap (λ (t : Tally). t.hour.late) tally-is ∙ all-late sequence c.args.division in
    let outcome : (room : ℕ) → joined_of c.args.file.now c.args.count c.args.division c.args.at room ≡ fitted room file = λ room. joined-good c.args.file.now c.args.count c.args.division c.args.at room (sym (late_is) ∙ c.in_default.is)
    (sym c.lanes-l.ensures.flaw ∙ c.in_default-flaw.is) in
    let a = c.args in
    let z = size_is in
    let r = c.room.ensures in
    let n = file-length a.division (sequence) in
    let small : length (file) ≤ room_of a.out.now = omega (arith, z, r, c.if-room-size.false) in
    let same : c.whole_size-size.result ≡ length (file) = omega (arith, z, small) in
    let put = rw (same-sequence) at c.write.ensures.output in
    let track : c.whole_size-size.result - 22 ≡ length (line_bytes line_start (sequence)) = omega (arith, same, n) in
    let done = laid-file a.out.now _ a.division (c.whole_size-size.result - 22) (sequence) track put in
    let answer : ◌≡◌ {A = Merged} (record { number = 0; place = 0; size = c.whole_size-size.result }) (record { number = 0; place = 0; size = length (file) }) = ap (λ (x : ℕ). record { number = 0; place = 0; size = x }) same in
    rw (outcome (room_of a.out.now) ∙ fitted-in (room_of a.out.now) (file) small) (record { value = answer; output = done })
