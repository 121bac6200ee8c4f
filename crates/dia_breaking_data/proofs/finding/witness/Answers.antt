use Rattle.dia_data.specs.Plain.{plain_format}
use Rattle.dia_breaking_data.specs.Kinds.{shown}
use Rattle.dia_breaking_data.proofs.Found.{some_found, none_found}
use Rattle.dia_breaking_data.proofs.finding.witness.Goals as goal

pub returns-clause-some : goal.returns-clause-some
returns-clause-some c = some_found (plain_format c.args.f.now) (plain_format c.args.g.now) (shown c.kind_of.result) (shown c.kind_of-2.result) c.answer.result c.kind_of.ensures.same
    c.kind_of-2.ensures.same c.answer.ensures

pub returns-clause-none : goal.returns-clause-none
returns-clause-none c = none_found (plain_format c.args.f.now) (plain_format c.args.g.now) (shown c.kind_of.result) (shown c.kind_of-2.result) c.answer.result c.kind_of.ensures.same
    c.kind_of-2.ensures.same c.answer.ensures
