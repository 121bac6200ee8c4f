use Rattle.std.proofs.lemmas.Result.{on_ok_weaker}
use Rattle.dia_data.specs.Plain.{plain_format}
use Rattle.dia_diff_text.specs.Words.{IsListOf, declared_words, ranges_of_format}
use Rattle.dia_diff_text.proofs.AddedTexts.{adds_after}
use Rattle.dia_diff_text.proofs.words.push_declaration.Goals as goal

pub returns : goal.returns
returns c =
    let f = plain_format c.args.format.now in
    on_ok_weaker c.push_list.result
    (adds_after (declared_words c.args.key f c.args.rule) (IsListOf (ranges_of_format f)) c.args.out.now c.push_declared.new.out c.push_list.new.out c.in_ok-push_declared.ensures)
    c.push_list.ensures
