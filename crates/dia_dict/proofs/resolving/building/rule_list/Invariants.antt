use Rattle.std.proofs.Common.{◌≡◌, map, take}
use Rattle.dia_ccf.specs.Plain.{plain_source, plain_rule}
use Rattle.dia_dict.specs.Resolution.{rule_of}
use Rattle.dia_dict.proofs.resolving.building.rule_list.Given as goal

abbrev pub invariant-loop-rule : goal.invariant-loop-rule
invariant-loop-rule l = l.list.items ≡ map (rule_of (plain_source l.names.source.now)) (map plain_rule (take l.rule-index l.rules))
