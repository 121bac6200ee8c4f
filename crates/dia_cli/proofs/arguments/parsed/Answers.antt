use Rattle.std.proofs.Common.{◌≡◌, ◌∙◌, ap, map, refl, rules, subst, sym}
use Rattle.std.specs.Prelude.{Result, Err}
use Rattle.clap.specs.Words.{app_of}
use Rattle.dia_cli.specs.Lines.{command_of, program_app}
use Rattle.dia_cli.specs.Rows.{command_rows, with_commands}
use Rattle.dia_cli.specs.Asking.{IsProgram, line_shape}
use Rattle.dia_cli.specs.declared.ending.Ending.{Ending}
use Rattle.dia_cli.specs.declared.request.Request.{Request}
use Rattle.dia_cli.proofs.Words.{none_is_refused}
use Rattle.dia_cli.proofs.arguments.parsed.Goals as goal

pub returns-in-Ok-clause-words : goal.returns-in-Ok-clause-words
returns-in-Ok-clause-words g c =
    let program : IsProgram (line_shape c.as_slice.result c.as_slice-2.result) =
    record { policies = c.as_slice.result; senders = c.as_slice-2.result; two = search rules; four = search rules; shape = refl } in
    let rows : map command_of c.as_slice-3.result.now ≡ command_rows = ap (map command_of) c.as_slice-3.ensures ∙ c.command_rows-rows.ensures in
    let line : app_of c.in-Ok.line ≡ line_shape c.as_slice.result c.as_slice-2.result =
    c.in-Ok.ensures ∙ ap (with_commands c.as_slice.result c.as_slice-2.result program_app) rows in
    c.asked_by-asked.ensures.words (subst IsProgram (sym line) program)

pub returns-in-Ok-clause-refused : goal.returns-in-Ok-clause-refused
returns-in-Ok-clause-refused g c =
    let program : IsProgram (line_shape c.as_slice.result c.as_slice-2.result) =
    record { policies = c.as_slice.result; senders = c.as_slice-2.result; two = search rules; four = search rules; shape = refl } in
    let rows : map command_of c.as_slice-3.result.now ≡ command_rows = ap (map command_of) c.as_slice-3.ensures ∙ c.command_rows-rows.ensures in
    let line : app_of c.in-Ok.line ≡ line_shape c.as_slice.result c.as_slice-2.result =
    c.in-Ok.ensures ∙ ap (with_commands c.as_slice.result c.as_slice-2.result program_app) rows in
    c.asked_by-asked.ensures.refused (subst IsProgram (sym line) program)

pub returns-in-Err-clause-refused : goal.returns-in-Err-clause-refused
returns-in-Err-clause-refused g c =
    let program : IsProgram (line_shape c.as_slice.result c.as_slice-2.result) =
    record { policies = c.as_slice.result; senders = c.as_slice-2.result; two = search rules; four = search rules; shape = refl } in
    let read : Result Request Ending = Err c.from.result in
    none_is_refused (line_shape c.as_slice.result c.as_slice-2.result) (map g.S.AsStr.text c.args.words.now) read program c.from.ensures
