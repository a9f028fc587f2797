-- `put_channel` meets its contract.
use native.Mathlib.Omega.{arith}
use mathlib.Core.Bool.{true}
use mathlib.Core.List.{[], ◌∷◌, ◌++◌}
use mathlib.Core.Path.{◌≡◌, refl}
use Prim.Native.Nat.{ℕ}
use borrow.Author.Tests.{eq-eqb, ne_eqb}
use Rattle.smf.specs.Spelling.{Mark, event_bytes, status_bytes, data_bytes}
use Rattle.merge.proofs.PagesLaws.{room-then, laid_then}
use Rattle.merge.proofs.lines.put_channel.Goals as goal

-- a status that runs is left out
runs : (running status first second : ℕ) → status ≡ running → event_bytes true running (Mark.Channel 0 status first second) ≡ data_bytes status first second
unfolding event_bytes status_bytes
runs running status first second e = rw (eq-eqb _ _ e) refl

-- another is written
spoken : (running status first second : ℕ) → (status ≡ running → ⊥) → event_bytes true running (Mark.Channel 0 status first second) ≡ (status ∷ []) ++ data_bytes status first second
unfolding event_bytes status_bytes
spoken running status first second e = rw (ne_eqb _ _ e) refl

pub put_data-requires : goal.put_data-requires
put_data-requires c = rw (runs _ _ _ _ c.if-status-running.true) at c.requires

pub returns-then-status-running : goal.returns-then-status-running
returns-then-status-running c = let a = c.args in
    rw (runs a.running a.status a.first a.second c.if-status-running.true) (record { value = c.put_data.ensures.value; output = c.put_data.ensures.output })

pub put-p-requires : goal.put-p-requires
put-p-requires c = let a = c.args in
    let p = rw (spoken a.running a.status a.first a.second c.if-status-running.false) at c.requires in
    omega (arith, p)

pub put_data-requires-2 : goal.put_data-requires-2
put_data-requires-2 c = let a = c.args in
    let p = rw (spoken a.running a.status a.first a.second c.if-status-running.false) at c.requires in
    room-then a.out.now a.at (a.status ∷ []) (data_bytes a.status a.first a.second) p _ _ c.put-p.ensures.value c.put-p.ensures.output

pub returns : goal.returns
returns c = let a = c.args in
    let s = spoken a.running a.status a.first a.second c.if-status-running.false in
    let p = rw s at c.requires in
    let answer = laid_then a.out.now a.at (a.status ∷ []) (data_bytes a.status a.first a.second) p _ _ c.put-p.ensures.value c.put-p.ensures.output _ _ c.put_data-2.ensures.value c.put_data-2.ensures.output in
    rw s (record { value = answer.0; output = answer.1 })
