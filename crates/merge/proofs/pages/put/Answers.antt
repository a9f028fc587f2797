-- `put` meets its contract.
use Rattle.std.proofs.Common.{refl, ◌∙◌, ◌+◌, length, arith}
use Rattle.std.proofs.lemmas.Slice.{put_mid-paste}
use Rattle.merge.proofs.PagesLaws.{laid-is}
use Rattle.merge.proofs.pages.put.Goals as goal

pub returns : goal.returns
returns c = let a = c.args in
    let n = a.bytes.now in
    record { value = refl; output = put_mid-paste a.at _ a.out.now _ n (length n) c.copy_from_slice.ensures.after (omega arith) refl ∙ laid-is a.out.now a.at n }
