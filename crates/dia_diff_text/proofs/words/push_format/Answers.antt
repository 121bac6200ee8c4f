use Rattle.std.proofs.lemmas.Result.{on_ok_weaker}
use Rattle.std.proofs.Common.{List, ℕ, ap, ◌++◌, ◌∙◌}
use Rattle.std.specs.Prelude.{string_bytes}
use Rattle.dia_data.specs.Plain.{plain_format, word_of}
use Rattle.dia_diff_text.specs.Words.{IsListOf, ranges_of_format}
use Rattle.dia_diff_text.proofs.AddedTexts.{adds_after}
use Rattle.dia_diff_text.proofs.words.push_format.Goals as goal

pub returns : goal.returns
returns c =
    let f = plain_format c.args.format.now in
    on_ok_weaker c.push_list.result
    (adds_after (word_of f) (IsListOf (ranges_of_format f)) c.args.out.now c.push_text.new.out c.push_list.new.out (c.in_ok-push_text.ensures ∙ ap (λ (word : List ℕ). string_bytes c.args.out.now ++ word) c.word.ensures))
    c.push_list.ensures
