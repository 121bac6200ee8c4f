use Rattle.std.proofs.lemmas.Result.{on_ok_weaker}
use Rattle.dia_data.specs.Plain.{plain_format}
use Rattle.dia_diff_text.specs.Words.{ranges_of_format}
use Rattle.dia_diff_text.proofs.AddedTexts.{list_there, no_list}
use Rattle.dia_diff_text.proofs.words.push_list.Goals as goal

pub returns-in-Some : goal.returns-in-Some
returns-in-Some c =
    on_ok_weaker c.push_numbers.result
    (list_there (ranges_of_format (plain_format c.args.format.now)) c.in-Some.numbers.now c.args.out.now c.push_numbers.new.out c.in-Some.ensures)
    c.push_numbers.ensures

pub returns-in-None : goal.returns-in-None
returns-in-None c = no_list (ranges_of_format (plain_format c.args.format.now)) c.args.out.now c.in-None.ensures
