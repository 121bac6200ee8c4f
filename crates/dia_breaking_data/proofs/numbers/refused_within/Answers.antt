use Rattle.std.proofs.Common.{ap}
use Rattle.dia_data.specs.Plain.{plain_format}
use Rattle.dia_breaking_data.specs.Kinds.{shown}
use Rattle.dia_breaking_data.proofs.Found.{host_some, host_none, list_some, list_none, other_some}
use Rattle.dia_breaking_data.proofs.numbers.refused_within.Goals as goal

pub returns-in-Host-clause-some : goal.returns-in-Host-clause-some
returns-in-Host-clause-some c = host_some (shown c.args.kind) c.args.low c.args.high c.in_long_family.result (ap shown c.in-Host.is) c.in_long_family.ensures.some

pub returns-in-Host-clause-none : goal.returns-in-Host-clause-none
returns-in-Host-clause-none c = λ e. host_none (shown c.args.kind) c.args.low c.args.high (ap shown c.in-Host.is) (c.in_long_family.ensures.none e)

pub returns-in-Listed-clause-some : goal.returns-in-Listed-clause-some
returns-in-Listed-clause-some c = list_some (shown c.args.kind) c.in-Listed.accepted.now c.args.low c.args.high c.unlisted.result (ap shown c.in-Listed.is) c.unlisted.ensures.some

pub returns-in-Listed-clause-none : goal.returns-in-Listed-clause-none
returns-in-Listed-clause-none c = λ e. list_none (shown c.args.kind) c.in-Listed.accepted.now c.args.low c.args.high (ap shown c.in-Listed.is) (c.unlisted.ensures.none e)

pub returns-in_default-clause-some : goal.returns-in_default-clause-some
returns-in_default-clause-some c = other_some (shown c.args.kind) (plain_format c.args.format.now) c.args.low c.args.high c.first_refused_of.result c.requires.kind c.first_refused_of.ensures.some

pub returns-in_default-clause-none : goal.returns-in_default-clause-none
returns-in_default-clause-none c = λ e n w. (c.requires.kind _).0 (c.first_refused_of.ensures.none e n w)
