use Rattle.std.proofs.Common.{sym, ap, ◌∙◌, inl}
use Rattle.dia_data.specs.Plain.{plain_format}
use Rattle.dia_breaking_avps.proofs.KindsOfLeaves.{any_leaf, eight_leaf, is_of_others, one_of_others, others_refuse}
use Rattle.dia_breaking_avps.proofs.forms.level_as_leaf.Goals as goal

pub returns-in-AnyBytes : goal.returns-in-AnyBytes
returns-in-AnyBytes g c = inl (any_leaf (plain_format c.args.format.now) (sym c.kind.ensures ∙ c.in-AnyBytes.is))

pub returns-in-EightBytes : goal.returns-in-EightBytes
returns-in-EightBytes g c = eight_leaf (plain_format c.args.format.now) _ (sym c.kind.ensures ∙ c.in-EightBytes.is)

pub returns-in-FourBytes : goal.returns-in-FourBytes
returns-in-FourBytes g c = others_refuse c.args.rules.now (plain_format c.args.format.now) (ap is_of_others (sym c.kind.ensures) ∙ one_of_others c.kind.result c.in-FourBytes.is)
