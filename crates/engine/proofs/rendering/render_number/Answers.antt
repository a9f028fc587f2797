-- The tests in the table's order.
use Rattle.std.proofs.Common.{◌≡◌, ℕ, ◌*◌, cond, ltb, leb, sym, ap, ◌∙◌, le-ltb, lt-ltb, le-leb}
use borrow.Author.Tests.{lt-leb}
use Rattle.state.specs.Slots.{slots_of}
use Rattle.engine.specs.Rendering.{lacking, render_number}
use Rattle.engine.proofs.rendering.render_number.Goals as goal

pub returns-then-n-ge2147483648 : goal.returns-then-n-ge2147483648
unfolding render_number
returns-then-n-ge2147483648 c = let number : render_number c.args.to c.args.ram.now c.args.rom.now c.args.room c.args.e
    ≡ cond (leb 2147483648 c.distance_to-n.result) 5
    (cond (ltb 4096 c.distance_to-n.result) 6
    (cond (ltb c.args.room (2 * c.distance_to-n.result)) 7
    (cond (lacking c.args.ram.now c.args.rom.now (slots_of c.args.e)) 8 0))) = let a = c.args in
    ap (λ (n : ℕ). cond (leb 2147483648 n) 5 (cond (ltb 4096 n) 6 (cond (ltb a.room (2 * n)) 7 (cond (lacking a.ram.now a.rom.now (slots_of a.e)) 8 0))))
    (sym c.distance_to-n.ensures) in
    sym (number ∙ simp (le-leb _ _ c.if-n-ge2147483648.true))

pub returns-then-n-gt4096 : goal.returns-then-n-gt4096
unfolding render_number
returns-then-n-gt4096 c = let number : render_number c.args.to c.args.ram.now c.args.rom.now c.args.room c.args.e
    ≡ cond (leb 2147483648 c.distance_to-n.result) 5
    (cond (ltb 4096 c.distance_to-n.result) 6
    (cond (ltb c.args.room (2 * c.distance_to-n.result)) 7
    (cond (lacking c.args.ram.now c.args.rom.now (slots_of c.args.e)) 8 0))) = let a = c.args in
    ap (λ (n : ℕ). cond (leb 2147483648 n) 5 (cond (ltb 4096 n) 6 (cond (ltb a.room (2 * n)) 7 (cond (lacking a.ram.now a.rom.now (slots_of a.e)) 8 0))))
    (sym c.distance_to-n.ensures) in
    sym (number ∙ simp (lt-leb _ _ c.if-n-ge2147483648.false, lt-ltb _ _ c.if-n-gt4096.true))

pub returns-then-room-n : goal.returns-then-room-n
unfolding render_number
returns-then-room-n c = let number : render_number c.args.to c.args.ram.now c.args.rom.now c.args.room c.args.e
    ≡ cond (leb 2147483648 c.distance_to-n.result) 5
    (cond (ltb 4096 c.distance_to-n.result) 6
    (cond (ltb c.args.room (2 * c.distance_to-n.result)) 7
    (cond (lacking c.args.ram.now c.args.rom.now (slots_of c.args.e)) 8 0))) = let a = c.args in
    ap (λ (n : ℕ). cond (leb 2147483648 n) 5 (cond (ltb 4096 n) 6 (cond (ltb a.room (2 * n)) 7 (cond (lacking a.ram.now a.rom.now (slots_of a.e)) 8 0))))
    (sym c.distance_to-n.ensures) in
    sym (number ∙ simp (lt-leb _ _ c.if-n-ge2147483648.false, le-ltb _ _ c.if-n-gt4096.false, lt-ltb _ _ c.if-room-n.true))

pub returns-then-lacks : goal.returns-then-lacks
unfolding render_number
returns-then-lacks c = let number : render_number c.args.to c.args.ram.now c.args.rom.now c.args.room c.args.e
    ≡ cond (leb 2147483648 c.distance_to-n.result) 5
    (cond (ltb 4096 c.distance_to-n.result) 6
    (cond (ltb c.args.room (2 * c.distance_to-n.result)) 7
    (cond (lacking c.args.ram.now c.args.rom.now (slots_of c.args.e)) 8 0))) = let a = c.args in
    ap (λ (n : ℕ). cond (leb 2147483648 n) 5 (cond (ltb 4096 n) 6 (cond (ltb a.room (2 * n)) 7 (cond (lacking a.ram.now a.rom.now (slots_of a.e)) 8 0))))
    (sym c.distance_to-n.ensures) in
    let l = sym c.lacks.ensures ∙ c.if-lacks.true in
    sym (number ∙ simp (lt-leb _ _ c.if-n-ge2147483648.false, le-ltb _ _ c.if-n-gt4096.false, le-ltb _ _ c.if-room-n.false, l))

pub returns : goal.returns
unfolding render_number
returns c = let number : render_number c.args.to c.args.ram.now c.args.rom.now c.args.room c.args.e
    ≡ cond (leb 2147483648 c.distance_to-n.result) 5
    (cond (ltb 4096 c.distance_to-n.result) 6
    (cond (ltb c.args.room (2 * c.distance_to-n.result)) 7
    (cond (lacking c.args.ram.now c.args.rom.now (slots_of c.args.e)) 8 0))) = let a = c.args in
    ap (λ (n : ℕ). cond (leb 2147483648 n) 5 (cond (ltb 4096 n) 6 (cond (ltb a.room (2 * n)) 7 (cond (lacking a.ram.now a.rom.now (slots_of a.e)) 8 0))))
    (sym c.distance_to-n.ensures) in
    let l = sym c.lacks.ensures ∙ c.if-lacks.false in
    sym (number ∙ simp (lt-leb _ _ c.if-n-ge2147483648.false, le-ltb _ _ c.if-n-gt4096.false, le-ltb _ _ c.if-room-n.false, l))
