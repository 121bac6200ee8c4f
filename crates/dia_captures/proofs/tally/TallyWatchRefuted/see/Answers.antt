use Rattle.dia_captures.specs.Counts.{refuted_flaw}
use Rattle.dia_captures.specs.Verdicts.{refuted_exit}
use Rattle.dia_captures.proofs.Tallies.{line_seen}
use Rattle.dia_captures.proofs.tally.TallyWatchRefuted.see.Goals as goal

pub returns : goal.returns
returns c = λ before h.
    line_seen refuted_exit refuted_flaw c.args.self.now c.count.new.self before c.args.verdict c.exit.result c.flaw.result c.exit.ensures c.flaw.ensures c.count.ensures h
