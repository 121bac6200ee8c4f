use Rattle.std.proofs.Common.{◌∙◌, sym}
use Rattle.dia_cli.proofs.OptionsApart.{is_apart}
use Rattle.dia_cli.proofs.arguments.showing.show_of.Goals as goal

pub returns-in-Some-apart_in-clause-wanting : goal.returns-in-Some-apart_in-clause-wanting
returns-in-Some-apart_in-clause-wanting c = is_apart _ c.in-Some-apart_in.apart (sym c.apart_in.ensures ∙ c.in-Some-apart_in.is)
