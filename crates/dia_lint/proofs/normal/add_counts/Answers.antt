use Rattle.dia_lint.proofs.NormalSets.{set_more}
use Rattle.dia_lint.proofs.normal.add_counts.Goals as goal

pub returns-in_ok-insert-clause-more : goal.returns-in_ok-insert-clause-more
returns-in_ok-insert-clause-more c = set_more c.args.set.now c.insert.new.self c.in-Some.counts c.args.counts c.in_ok-insert.ensures.updates c.in-Some.is
