-- `put_data` meets its contract.
use mathlib.Core.Path.{◌≡◌, refl, sym, ◌∙◌}
use Rattle.smf.specs.Spelling.{data_bytes}
use mathlib.Core.List.{[], ◌∷◌}
use mathlib.Core.Bool.{true, false}
use Prim.Native.Nat.{ℕ}
use Rattle.smf.specs.Items.{is_short}
use Rattle.merge.proofs.lines.put_data.Goals as goal

-- one data byte
short-data : (status first second : ℕ) → is_short status ≡ true → data_bytes status first second ≡ first ∷ []
unfolding data_bytes
short-data status first second e = rw e refl

-- two data bytes
long-data : (status first second : ℕ) → is_short status ≡ false → data_bytes status first second ≡ first ∷ second ∷ []
unfolding data_bytes
long-data status first second e = rw e refl

pub put-requires : goal.put-requires
put-requires c = rw (short-data _ _ _ (sym c.is_short.ensures ∙ c.if-is_short.true)) at c.requires

pub returns-then-is_short : goal.returns-then-is_short
returns-then-is_short c = let a = c.args in
    let e = short-data a.status a.first a.second (sym c.is_short.ensures ∙ c.if-is_short.true) in
    rw e (record { value = c.put.ensures.value; output = c.put.ensures.output })

pub put-requires-2 : goal.put-requires-2
put-requires-2 c = rw (long-data _ _ _ (sym c.is_short.ensures ∙ c.if-is_short.false)) at c.requires

pub returns : goal.returns
returns c = let a = c.args in
    let e = long-data a.status a.first a.second (sym c.is_short.ensures ∙ c.if-is_short.false) in
    rw e (record { value = c.put-2.ensures.value; output = c.put-2.ensures.output })
