use Rattle.std.proofs.Common.{◌∙◌}
use Rattle.dia_check.proofs.KeptLevels.{kept_many}
use Rattle.dia_check.proofs.open_levels.OpenLevels.depth.Goals as goal

pub returns : goal.returns
returns c defs outer level now = c.len.ensures ∙ c.args.self.now.outer.ok.0 ∙ kept_many defs 0 c.args.self.now.outer.items now.before outer now.are_outer
