-- `put_quantity` meets its contract.
use Rattle.smf.proofs.SpellingLaws.{one_byte, two_bytes_lem, three-bytes, four_bytes_lem}
use Rattle.merge.proofs.pages.put_quantity.Goals as goal

pub put-requires : goal.put-requires
put-requires c = let e = one_byte c.args.n c.if-n-lt128.true in
    rw e at c.requires.0

pub returns-then-n-lt128 : goal.returns-then-n-lt128
returns-then-n-lt128 c = let e = one_byte c.args.n c.if-n-lt128.true in
    rw e (record { value = c.put.ensures.value; output = c.put.ensures.output })

pub put-requires-then-n-lt16384 : goal.put-requires-then-n-lt16384
put-requires-then-n-lt16384 c = let e = two_bytes_lem c.args.n c.if-n-lt128.false c.if-n-lt16384.true in
    rw e at c.requires.0

pub returns-then-n-lt16384 : goal.returns-then-n-lt16384
returns-then-n-lt16384 c = let e = two_bytes_lem c.args.n c.if-n-lt128.false c.if-n-lt16384.true in
    rw e (record { value = c.put-then-n-lt16384.ensures.value; output = c.put-then-n-lt16384.ensures.output })

pub put-requires-then-n-lt2097152 : goal.put-requires-then-n-lt2097152
put-requires-then-n-lt2097152 c = let e = three-bytes c.args.n c.if-n-lt16384.false c.if-n-lt2097152.true in
    rw e at c.requires.0

pub returns-then-n-lt2097152 : goal.returns-then-n-lt2097152
returns-then-n-lt2097152 c = let e = three-bytes c.args.n c.if-n-lt16384.false c.if-n-lt2097152.true in
    rw e (record { value = c.put-then-n-lt2097152.ensures.value; output = c.put-then-n-lt2097152.ensures.output })

pub put-requires-2 : goal.put-requires-2
put-requires-2 c = let e = four_bytes_lem c.args.n c.if-n-lt2097152.false in
    rw e at c.requires.0

pub returns : goal.returns
returns c = let e = four_bytes_lem c.args.n c.if-n-lt2097152.false in
    rw e (record { value = c.put-2.ensures.value; output = c.put-2.ensures.output })
