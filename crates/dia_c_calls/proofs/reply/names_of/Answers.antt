use Rattle.dia_c_calls.proofs.NodeNames.{name_is_text}
use Rattle.dia_c_calls.proofs.reply.names_of.Goals as goal

pub returns-in_default-clause-none : goal.returns-in_default-clause-none
returns-in_default-clause-none c is names = c.in_default.ensures.cases.0 (name_is_text c.args.host.now names.0)

pub returns-in_default-from_utf8-clause-none : goal.returns-in_default-from_utf8-clause-none
returns-in_default-from_utf8-clause-none c is names = c.in_default-from_utf8.ensures.cases.0 (name_is_text c.args.realm.now names.1)
