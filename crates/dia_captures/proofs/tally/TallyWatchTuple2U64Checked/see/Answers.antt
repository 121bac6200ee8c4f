use Rattle.dia_captures.proofs.Tallies.{placed_seen}
use Rattle.dia_captures.proofs.tally.TallyWatchTuple2U64Checked.see.Goals as goal

pub returns : goal.returns
returns c = λ before h. placed_seen c.args.self.now c.count.new.self before c.args.verdict c.exit.result c.flaw.result c.exit.ensures c.flaw.ensures c.count.ensures h
