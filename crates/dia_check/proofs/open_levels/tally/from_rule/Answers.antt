use Rattle.dia_check.proofs.Tallies.{same_from, rising_from}
use Rattle.dia_check.proofs.open_levels.tally.from_rule.Goals as goal

pub returns-clause-same : goal.returns-clause-same
returns-clause-same c i le = same_from c.args.tally.now c.args.rule c.place_of.result i c.place_of.ensures le

pub returns-clause-rising : goal.returns-clause-rising
returns-clause-rising c = rising_from c.args.tally.now c.place_of.result c.requires
