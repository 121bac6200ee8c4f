use Rattle.std.proofs.Common.{List, ◌++◌, ap, ◌∙◌, arith}
use Rattle.dia_check.specs.declared.open_levels.OpenLevels.{OpenLevels}
use Rattle.dia_check.specs.declared.open_levels.tally.Met.{Met}
use Rattle.dia_check.specs.Tallies.{unmet}
use Rattle.dia_check.proofs.KeptLevels.{body_opened}
use Rattle.dia_check.proofs.open_levels.OpenLevels.begin.Goals as goal

pub returns : goal.returns
returns c defs definition is_definition is_rules =
    let after : OpenLevels = record { innermost = c.new-self.result; outer = c.clear.new.self; tallies = c.lay_out.new.tallies } in
    body_opened defs definition after c.args.rules.now c.args.def c.args.end c.min.result c.first_wanted.result is_definition is_rules (omega (arith, c.min.ensures)) c.first_wanted.ensures c.new-self.ensures c.clear.ensures.items
    (c.lay_out.ensures.items ∙ ap (λ (t : List Met). t ++ unmet 0 c.min.result) (c.reserve.ensures.items ∙ c.clear-2.ensures.items))
    (omega (arith, c.in_ok-reserve.ensures.ok, c.clear-2.ensures.len, c.reserve.ensures.len, c.lay_out.ensures.capacity))
