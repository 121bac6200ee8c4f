use Rattle.std.proofs.Common.{◌≡◌, ◌++◌, map, string_bytes, take}
use Rattle.std.specs.List.{flat_map}
use Rattle.dia_ccf.specs.Plain.{plain_rule}
use Rattle.dia_ccf.specs.CanonicalText.{rule_line}
use Rattle.dia_ccf.proofs.rendering.put_rules.Given as goal

abbrev pub invariant-loop-rule : goal.invariant-loop-rule
invariant-loop-rule l =
    string_bytes l.text ≡ string_bytes l.initial.text ++ flat_map rule_line (map plain_rule (take l.rule-index l.rules))
