-- `voices_for` meets its contract.
use borrow.Author.Rules.{rules}
use mathlib.Core.Path.{◌≡◌, ap, ◌∙◌}
use native.Mathlib.Omega.{arith}
use Prim.Native.Nat.{◌≤◌, ◌<◌}
use lib.ListN.{replicate}
use Rattle.voice.specs.declared.Voice.{Voice}
use Rattle.layers.specs.LayerSearch.{layers_of}
use Rattle.layers.specs.Internal.LayerSearch.{up_to33, searched}
use Rattle.layers.proofs.StruckLaws.{struck_by, filled_none, filled-set, found-length, found_at, struck-few, struck-many}
use Rattle.layers.specs.Voicing.{voice_by, voice_of, voices_of}
use Rattle.totals.specs.declared.Layer.{Layer}
use Rattle.layers.specs.declared.Layers.{Layers}
use Rattle.layers.proofs.voicing.voices_for.Goals as goal

pub returns-then-count-gt32 : goal.returns-then-count-gt32
unfolding voices_of searched up_to33
returns-then-count-gt32 c = let a = c.args in
    ap (λ (v : Voice). struck_by c.search-found.result.count (replicate 32 v)) c.no_voice-none.ensures
    ∙ struck-many
    (voice_of a.b.now a.m a.h a.channel a.key a.velocity)
    (layers_of a.b.now a.m a.key a.velocity a.h)
    c.search-found.result.count
    (ap (λ (x : Layers). x.count) c.search-found.ensures)
    c.if-count-gt32.true

pub loop-i-init : goal.loop-i-init
loop-i-init c = let a = c.args in (
  ap (replicate 32) c.no_voice-none.ensures
      ∙ filled_none (voice_of a.b.now a.m a.h a.channel a.key a.velocity) (layers_of a.b.now a.m a.key a.velocity a.h),
  omega (arith, c.if-count-gt32.false),
)

pub loop-i-preserved : goal.loop-i-preserved
unfolding voice_of searched
loop-i-preserved c = let a = c.args in
    let b = a.b.now in
    let found = c.search-found.result in
    let f = voice_of b a.m a.h a.channel a.key a.velocity in
    let all = layers_of b a.m a.key a.velocity a.h in
    let i = c.loop-i.i in
    let few : found.count ≤ 32 = omega (arith, c.if-count-gt32.false) in
    let size = found-length all found c.search-found.ensures few in
    let less : i < found.count = omega arith in
    let at = found_at all found c.search-found.ensures few i less in
    let v = c.voice_by-v.ensures ∙ ap (λ (x : Layer). voice_by b a.m x a.channel a.key a.velocity) c.layer_of-l.ensures in (
      rw c.loop-i.invariant.0 (filled-set f all i _ _ (omega arith) (omega arith) at v),
      c.loop-i.invariant.1,
    )

pub returns : goal.returns
unfolding voices_of searched
returns c = let a = c.args in
    let found = c.search-found.result in
    let f = voice_of a.b.now a.m a.h a.channel a.key a.velocity in
    let all = layers_of a.b.now a.m a.key a.velocity a.h in
    let few : found.count ≤ 32 = omega (arith, c.if-count-gt32.false) in
    let size = found-length all found c.search-found.ensures few in
    let e : c.loop-i.i ≡ found.count = omega arith in
    rw (c.loop-i.invariant.0, e) (struck-few f all found.count size (omega arith))
