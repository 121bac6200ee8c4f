use Rattle.dia_refused_json.proofs.Recording.{second_refused}
use Rattle.dia_upgrades_json.proofs.Reports.{first_reports, second_reports}
use Rattle.dia_upgrades_json.proofs.command.reported.Goals as goal

pub returns-in-Err-clause-reports : goal.returns-in-Err-clause-reports
returns-in-Err-clause-reports g c =
    first_reports _ c.args.asked c.args.inputs.now _ _ c.in-Err.why c.in-Err.ensures.recorded c.in-Err.ensures.kept c.refused.result c.refused.ensures.refuses

pub returns-in-Err-read_dictionary-clause-reports : goal.returns-in-Err-read_dictionary-clause-reports
returns-in-Err-read_dictionary-clause-reports g c =
    let records = second_refused c.args.inputs.now _ c.in-Err-read_dictionary.why c.in-Ok.ensures.book c.in-Err-read_dictionary.ensures.recorded in
    second_reports _ c.args.asked c.args.inputs.now _ _ c.in-Err-read_dictionary.why records c.in-Err-read_dictionary.ensures.kept c.refused-in-Err-read_dictionary.result
    c.refused-in-Err-read_dictionary.ensures.refuses

pub returns-clause-reports : goal.returns-clause-reports
returns-clause-reports g c =
    c.over_books.ensures.reports ((c.in-Ok.ensures.source, c.in-Ok.ensures.book), (c.in-Ok-read_dictionary.ensures.source, c.in-Ok-read_dictionary.ensures.book))
    (c.in-Ok.ensures.placed, c.in-Ok-read_dictionary.ensures.placed)
