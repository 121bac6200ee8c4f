use Rattle.std.proofs.Common.{subst}
use Rattle.std.specs.Prelude.{IsSomeAnd}
use Rattle.clap.specs.Words.{subcommand_rows_of}
use Rattle.dia_cli.specs.Asking.{IsRequestOf, IsUnasked}
use Rattle.dia_cli.proofs.Words.{read_is_once, read_keeps, read_unrun}
use Rattle.dia_cli.proofs.arguments.requested.Goals as goal

pub returns-in-Ok-clause-words : goal.returns-in-Ok-clause-words
returns-in-Ok-clause-words c =
    read_keeps c.in-Ok.request c.read_once.result (λ request. IsSomeAnd (subcommand_rows_of c.args.matches.now) (IsRequestOf request))
    c.read_once.ensures c.in-Ok.ensures.asked

pub returns-in-Ok-clause-once : goal.returns-in-Ok-clause-once
returns-in-Ok-clause-once c = read_is_once c.in-Ok.request c.read_once.result c.read_once.ensures

pub returns-in-Ok-clause-unrun : goal.returns-in-Ok-clause-unrun
returns-in-Ok-clause-unrun c =
    read_unrun c.in-Ok.request c.read_once.result (subcommand_rows_of c.args.matches.now) c.read_once.ensures c.in-Ok.ensures.asked

pub returns-in-Err-Nothing-clause-unrun : goal.returns-in-Err-Nothing-clause-unrun
returns-in-Err-Nothing-clause-unrun c =
    let rows = subcommand_rows_of c.args.matches.now in
    c.refused.ensures rows (subst (IsUnasked rows) c.in-Err-Nothing.field-0-is c.in-Err-Nothing.ensures.unasked)
