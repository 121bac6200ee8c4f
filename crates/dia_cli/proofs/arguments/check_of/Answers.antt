use Rattle.std.proofs.Common.{codes}
use Rattle.std.specs.Prelude.{◌&&◌}
use Rattle.clap.specs.Walk.{first_of}
use Rattle.clap.specs.Words.{found_of, rows_of}
use Rattle.dia_cli.specs.FoundTasks.{has_judged}
use Rattle.dia_cli.specs.Words.{has_word, is_flag}
use Rattle.dia_cli.proofs.Words.{and_no}
use Rattle.dia_cli.proofs.arguments.check_of.Goals as goal

pub returns-in_default-message_of-clause-wanting : goal.returns-in_default-message_of-clause-wanting
returns-in_default-message_of-clause-wanting c =
    let rows = rows_of (found_of c.args.found.now) in
    let word = has_word (codes "MESSAGE") rows in
    let judged = has_judged rows && word in
    let json = is_flag (first_of (codes "json") rows) && judged in
    let all = is_flag (first_of (codes "all") rows) && json in
    and_no (is_flag (first_of (codes "lines") rows)) (is_flag (first_of (codes "stream") rows) && all)
    (and_no (is_flag (first_of (codes "stream") rows)) all (and_no (is_flag (first_of (codes "all") rows)) json
    (and_no (is_flag (first_of (codes "json") rows)) judged (and_no (has_judged rows) word (c.message_of.ensures.none c.in_default-message_of.is)))))
