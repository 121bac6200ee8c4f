use Rattle.std.proofs.Common.{◌∙◌, sym}
use Rattle.dia_cli.proofs.OptionsApart.{is_masked_apart}
use Rattle.dia_cli.proofs.arguments.masking.mask_of.Goals as goal

pub returns-in-Some-masked_apart_in-clause-wanting : goal.returns-in-Some-masked_apart_in-clause-wanting
returns-in-Some-masked_apart_in-clause-wanting c = is_masked_apart _ c.in-Some-masked_apart_in.apart (sym c.masked_apart_in.ensures ∙ c.in-Some-masked_apart_in.is)
