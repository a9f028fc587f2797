-- A NaN is no output number; every other number is tested by its bits.
use mathlib.Core.Path.{sym, ◌∙◌}
use Rattle.wave.proofs.PcmLaws.{nan_no-output, output-bits}
use Rattle.wave.proofs.pcm.is_output.Goals as goal

pub returns-then-is_nan : goal.returns-then-is_nan
returns-then-is_nan c = nan_no-output c.args.x (sym c.is_nan.ensures.value ∙ c.if-is_nan.true)

pub returns : goal.returns
returns c = c.is_output_bits.ensures ∙ sym (output-bits c.args.x c.well_formed.0.1)
