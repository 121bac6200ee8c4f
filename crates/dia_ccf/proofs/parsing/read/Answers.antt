use Rattle.std.proofs.Common.{arith}
use Rattle.dia_ccf.specs.Machine.{Reads}
use Rattle.dia_ccf.specs.Plain.{plain_source}
use Rattle.dia_ccf.proofs.ReaderFindings.{found, only}
use Rattle.dia_ccf.proofs.ReaderAnswers.{outcome_of, only_memory, is_refused}
use Rattle.dia_ccf.proofs.ReaderPlaces.{placed_still}
use Rattle.dia_ccf.proofs.parsing.read.Goals as goal

pub returns-in-Ok-clause-found : goal.returns-in-Ok-clause-found
returns-in-Ok-clause-found c = found c.args.text.now (plain_source c.in-Ok.source)
    (outcome_of c.new-reader.result c.args.text.now c.source.new.self.text.now (Reads (plain_source c.in-Ok.source)) c.new-reader.ensures.0 c.new-reader.ensures.1 c.in-Ok.ensures.read).1

pub returns-in-Ok-clause-only : goal.returns-in-Ok-clause-only
returns-in-Ok-clause-only c = λ source small derived.
    only c.args.text.now (plain_source c.in-Ok.source) source (outcome_of c.new-reader.result c.args.text.now c.source.new.self.text.now
    (Reads (plain_source c.in-Ok.source)) c.new-reader.ensures.0 c.new-reader.ensures.1 c.in-Ok.ensures.read).1 derived

pub returns-in-Err-clause-only : goal.returns-in-Err-clause-only
returns-in-Err-clause-only c = λ source small derived.
    only_memory c.new-reader.result c.source.new.self c.args.text.now c.in-Err.refusal c.refused.result source c.new-reader.ensures.0 c.new-reader.ensures.1 c.in-Err.ensures.read c.refused.ensures derived

pub returns-in-Err-clause-refused : goal.returns-in-Err-clause-refused
returns-in-Err-clause-refused c =
    is_refused c.new-reader.result c.source.new.self c.args.text.now c.new-reader.ensures.0 c.new-reader.ensures.1 (omega arith) c.in-Err.refusal c.refused.result c.in-Err.ensures.read c.refused.ensures

pub returns-in-Ok-clause-placed : goal.returns-in-Ok-clause-placed
returns-in-Ok-clause-placed c =
    placed_still c.source.new.self.text.now c.args.text.now c.in-Ok.source
    (outcome_of c.new-reader.result c.args.text.now c.source.new.self.text.now (Reads (plain_source c.in-Ok.source)) c.new-reader.ensures.0 c.new-reader.ensures.1 c.in-Ok.ensures.read).0 c.in-Ok.ensures.placed
