use Rattle.std.proofs.Common.{sym, ◌∙◌, arith}
use Rattle.dia_check.proofs.OneKeyMore.{leads_fixed, leads_past, leads_loose, leads_unlisted}
use Rattle.dia_check.proofs.open_levels.lead.Goals as goal

pub returns-in-Fixed : goal.returns-in-Fixed
returns-in-Fixed c rules keys key are shaped ends is = leads_fixed rules are keys key c.args.run ends c.args.shape.now shaped c.in-Fixed.rule (omega arith) (sym c.in-Fixed.is ∙ is)

pub returns-in-Fixed-2 : goal.returns-in-Fixed-2
returns-in-Fixed-2 c rules keys key are shaped ends is = leads_past rules are keys key c.args.run ends c.args.shape.now shaped c.in-Fixed.rule (omega arith) (sym c.in-Fixed.is ∙ is)

pub returns-in-Loose : goal.returns-in-Loose
returns-in-Loose c rules keys key are shaped ends is = leads_loose rules are keys key c.args.run ends c.args.shape.now shaped c.in-Loose.rule (sym c.in-Loose.is ∙ is)

pub returns-in-Unlisted : goal.returns-in-Unlisted
returns-in-Unlisted c rules keys key are shaped ends is = leads_unlisted rules are keys key c.args.run ends c.args.shape.now shaped (sym c.in-Unlisted.is ∙ is)
