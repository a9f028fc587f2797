-- `put_bridges` meets its contract.
use mathlib.Core.List.{List, ◌∷◌, ◌++◌, append_assoc}
use mathlib.Core.Path.{◌≡◌, refl, sym, ap, ◌∙◌}
use Prim.Native.Nat.{ℕ, suc, ◌+◌, ◌-◌, ◌<◌, ◌≤◌}
use native.Mathlib.Omega.{arith}
use native.Mathlib.Numerals.{add-one}
use lib.ListN.{length, length-append}
use Rattle.smf.specs.Spelling.{quantity_bytes, event_bytes, three_bytes}
use Rattle.merge.specs.Internal.Lines.{laid_over, bridge_bytes}
use Rattle.merge.proofs.LinesLaws.{bridges-length}
use Rattle.merge.proofs.PagesLaws.{laid_none, laid-length, room-then, laid_then}
use Rattle.merge.proofs.pages.put_bridges.Goals as goal

-- a bridge's delta time and its tempo change
abbrev delta : List ℕ
delta = quantity_bytes 268435455

abbrev change : ℕ → List ℕ
change tempo = 255 ∷ 81 ∷ 3 ∷ three_bytes tempo

-- one bridge more
one_more : (tempo k : ℕ) → bridge_bytes tempo k ++ delta ++ change tempo ≡ bridge_bytes tempo (suc k)
unfolding bridge_bytes event_bytes
one_more tempo k = append_assoc (bridge_bytes tempo k) delta (change tempo)

-- there is room for it
room_for : (out : List ℕ) (at tempo n k : ℕ) → k < n → at + length (bridge_bytes tempo n) ≤ length out → at + length (bridge_bytes tempo k ++ delta ++ change tempo) ≤ length out
room_for out at tempo n k h r = rw (one_more tempo k) (omega (arith, bridges-length tempo (suc k), bridges-length tempo n))

-- .. and for its delta time
room-front : (out : List ℕ) (at tempo n k : ℕ) → k < n → at + length (bridge_bytes tempo n) ≤ length out → at + length (bridge_bytes tempo k ++ delta) ≤ length out
room-front out at tempo n k h r = omega (arith, room_for out at tempo n k h r, length-append (bridge_bytes tempo k ++ delta) (change tempo))

pub loop-k-init : goal.loop-k-init
unfolding bridge_bytes
loop-k-init c = let a = c.args in (sym (laid_none a.out.now a.at), omega arith, refl)

pub put_quantity-p-requires : goal.put_quantity-p-requires
put_quantity-p-requires c = let i = c.loop-k.invariant in
    let a = c.args in
    let r = room-front a.out.now a.at a.tempo a.n c.loop-k.k (omega arith) c.requires in
    (room-then a.out.now a.at (bridge_bytes a.tempo c.loop-k.k) delta r _ _ i.1 i.0, omega arith)

pub put_tempo-p-requires : goal.put_tempo-p-requires
unfolding three_bytes
put_tempo-p-requires c = let behind : (c.put_quantity-p.result ≡ c.args.at + length (bridge_bytes c.args.tempo c.loop-k.k ++ delta))
    × (c.put_quantity-p.new.out ≡ laid_over c.args.out.now c.args.at (bridge_bytes c.args.tempo c.loop-k.k ++ delta)) = let i = c.loop-k.invariant in
    let a = c.args in
    let r = room-front a.out.now a.at a.tempo a.n c.loop-k.k (omega arith) c.requires in
    laid_then a.out.now a.at (bridge_bytes a.tempo c.loop-k.k) delta r _ _ i.1 i.0 _ _ c.put_quantity-p.ensures.value c.put_quantity-p.ensures.output in
    let a = c.args in
    let r = room_for a.out.now a.at a.tempo a.n c.loop-k.k (omega arith) c.requires in
    let w = behind in
    room-then a.out.now a.at (bridge_bytes a.tempo c.loop-k.k ++ delta) (change a.tempo) r _ _ w.0 w.1

pub loop-k-preserved : goal.loop-k-preserved
unfolding three_bytes
loop-k-preserved c = let behind : (c.put_quantity-p.result ≡ c.args.at + length (bridge_bytes c.args.tempo c.loop-k.k ++ delta))
    × (c.put_quantity-p.new.out ≡ laid_over c.args.out.now c.args.at (bridge_bytes c.args.tempo c.loop-k.k ++ delta)) = let i = c.loop-k.invariant in
    let a = c.args in
    let r = room-front a.out.now a.at a.tempo a.n c.loop-k.k (omega arith) c.requires in
    laid_then a.out.now a.at (bridge_bytes a.tempo c.loop-k.k) delta r _ _ i.1 i.0 _ _ c.put_quantity-p.ensures.value c.put_quantity-p.ensures.output in
    let a = c.args in
    let r = room_for a.out.now a.at a.tempo a.n c.loop-k.k (omega arith) c.requires in
    let w = behind in
    let both = laid_then a.out.now a.at (bridge_bytes a.tempo c.loop-k.k ++ delta) (change a.tempo) r _ _ w.0 w.1 _ _ c.put_tempo-p.ensures.value c.put_tempo-p.ensures.output in
    let e = one_more a.tempo c.loop-k.k in
    let x = rw e at both.1 in
    let y = rw e at both.0 in
    (rw (add-one) x, rw (add-one) y, ap length both.1 ∙ laid-length a.out.now a.at (bridge_bytes a.tempo c.loop-k.k ++ delta ++ change a.tempo) r)

pub returns : goal.returns
returns c = let l = c.loop-k in
    let a = c.args in
    let all : l.k ≡ a.n = omega arith in
    record { value = l.invariant.1 ∙ ap (λ (k : ℕ). a.at + length (bridge_bytes a.tempo k)) all; output = l.invariant.0 ∙ ap (λ (k : ℕ). laid_over a.out.now a.at (bridge_bytes a.tempo k)) all }
