use Rattle.std.proofs.Common.{◌≡◌, take}
use Rattle.std.specs.List.{filter_map}
use Rattle.dia_breaking.specs.Exits.{exit_by}
use Rattle.dia_breaking.specs.Sender.{costs_of}
use Rattle.dia_breaking.proofs.exits.exits_by.Given as goal

abbrev pub invariant-loop-rule : goal.invariant-loop-rule
invariant-loop-rule g l =
    l.listed.items ≡ filter_map (exit_by l.recording (costs_of l.lengths).listed l.cost) (take l.rule-index l.rules)
