-- `first_cursor` meets its contract.
use mathlib.Core.Path.{sym, ap, ◌∙◌}
use Rattle.smf.specs.declared.Header.{Header}
use Rattle.smf.specs.Songs.{track_cursor}
use Rattle.smf.proofs.first_cursor.Goals as goal

pub returns-in-Refused : goal.returns-in-Refused
returns-in-Refused c = c.no_cursor.ensures ∙ sym (ap (λ (x : Header). track_cursor x c.args.file.now) (sym c.head-h.ensures ∙ c.in-Refused.is))

pub returns-in-Track : goal.returns-in-Track
returns-in-Track c = c.start.ensures ∙ sym (ap (λ (x : Header). track_cursor x c.args.file.now) (sym c.head-h.ensures ∙ c.in-Track.is))
