use Rattle.std.proofs.Common.{codes}
use Rattle.std.specs.Prelude.{◌&&◌}
use Rattle.clap.specs.Walk.{first_of}
use Rattle.clap.specs.Words.{found_of, rows_of}
use Rattle.dia_cli.specs.FoundTasks.{has_flags}
use Rattle.dia_cli.specs.Words.{has_pair, has_policy, has_word, is_sender}
use Rattle.dia_cli.proofs.Words.{and_no}
use Rattle.dia_cli.proofs.arguments.breaking.breaking_of.Goals as goal

pub returns-in_default-table_of-clause-wanting : goal.returns-in_default-table_of-clause-wanting
returns-in_default-table_of-clause-wanting c =
    let rows = rows_of (found_of c.args.found.now) in
    let word = has_word (codes "accepted") rows in
    let flags = has_flags rows in
    let sender = is_sender (first_of (codes "sends") rows) in
    and_no (has_policy rows) (has_pair rows && (sender && (flags && word)))
    (and_no (has_pair rows) (sender && (flags && word)) (and_no sender (flags && word) (and_no flags word (c.table_of.ensures.none c.in_default-table_of.is))))
