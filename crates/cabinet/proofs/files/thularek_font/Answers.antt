-- Each number beside the answer is the one that is told of the file.
use Rattle.std.proofs.Common.{rules, refl}
use Rattle.riff.specs.Form.{refused_by}
use Rattle.cabinet.proofs.files.thularek_font.Goals.{in-Ok, in-Err}
use Rattle.cabinet.proofs.files.thularek_font.Goals as goal

pub returns : goal.returns
unfolding refused_by
returns c = elim c.match-find.branch [
  | in-Ok w ↦ let e = rw w.in-Ok.is at c.find.ensures in rw (w.fault_at-is, ← e) (refl, refl, refl, refl, refl, refl)
  | in-Err w ↦
      let e = rw w.in-Err.is at c.find.ensures in
      let none = w.default.ensures in
      rw (w.fault_at-is, ← e) (search rules, none.0.0, none.0.1, none.1.0, none.1.1, refl)
]
