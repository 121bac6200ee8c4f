use Rattle.dia_upgrades.proofs.Reports.{answer_of, fault_answered}
use Rattle.dia_io.specs.declared.RunFault.TheVariants.{Device, NoMemory}
use Rattle.dia_upgrades.proofs.judging.breaking_of.Goals as goal

pub returns-clause-text : goal.returns-clause-text
returns-clause-text g c = answer_of (g.W.LineWriter.writes c.args.writer.now) c.args.asked c.args.list.now (g.A.Book.meaning c.args.a.now) (g.B.Book.meaning c.args.b.now) _ _ c.answered.result c.answered.ensures.answers

pub returns-clause-front : goal.returns-clause-front
returns-clause-front g c = λ e. fault_answered (g.W.LineWriter.writes c.args.writer.now) c.args.asked c.args.list.now (g.A.Book.meaning c.args.a.now) (g.B.Book.meaning c.args.b.now) _ _ c.answered.result Device c.answered.ensures.answers e

pub returns-clause-no_memory : goal.returns-clause-no_memory
returns-clause-no_memory g c = λ e. fault_answered (g.W.LineWriter.writes c.args.writer.now) c.args.asked c.args.list.now (g.A.Book.meaning c.args.a.now) (g.B.Book.meaning c.args.b.now) _ _ c.answered.result NoMemory c.answered.ensures.answers e
