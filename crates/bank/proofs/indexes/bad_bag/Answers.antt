-- `bad_bag` meets its contract.
use Prim.Native.Nat.{◌-◌}
use mathlib.Core.Path.{◌≡◌, refl, sym, ◌∙◌}
use Rattle.records.specs.Sides.{gen_of, mod_of}
use Rattle.bank.specs.Indexes.{bad_at, bad_bag}
use Rattle.bank.proofs.IndexesLaws.{index_read}
use Rattle.bank.proofs.indexes.bad_bag.Goals as goal

pub returns-then-bad_index : goal.returns-then-bad_index
unfolding bad_bag
returns-then-bad_index c = let generators : c.bad_index.result ≡ bad_at (gen_of c.args.b.now c.args.s (c.args.z - 1)) (gen_of c.args.b.now c.args.s c.args.z) c.args.z c.args.s.nbags c.args.s.ngens = index_read (gen_of c.args.b.now c.args.s) c.args.z c.args.s.nbags c.args.s.ngens c.less.ensures c.gen_of.ensures c.gen_of-2.ensures c.bad_index.ensures in
    rw (sym (generators) ∙ c.if-bad_index.true) refl

pub returns : goal.returns
unfolding bad_bag
returns c = let generators : c.bad_index.result ≡ bad_at (gen_of c.args.b.now c.args.s (c.args.z - 1)) (gen_of c.args.b.now c.args.s c.args.z) c.args.z c.args.s.nbags c.args.s.ngens = index_read (gen_of c.args.b.now c.args.s) c.args.z c.args.s.nbags c.args.s.ngens c.less.ensures c.gen_of.ensures c.gen_of-2.ensures c.bad_index.ensures in
    let a = c.args in
    let e = index_read (mod_of a.b.now a.s) a.z a.s.nbags a.s.nmods c.less-2.ensures c.mod_of.ensures c.mod_of-2.ensures c.bad_index-2.ensures in
    rw (sym (generators) ∙ c.if-bad_index.false) e
