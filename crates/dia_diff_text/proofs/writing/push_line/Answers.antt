use Rattle.std.proofs.Common.{◌++◌}
use Rattle.std.specs.Prelude.{codes, string_bytes}
use Rattle.std.proofs.lemmas.Result.{on_ok_weaker}
use Rattle.dia_diff_text.specs.Lines.{effects_words, field_words, start_words, values_words}
use Rattle.dia_diff_text.specs.Plain.{plain_parts}
use Rattle.dia_diff_text.proofs.AddedTexts.{then_text}
use Rattle.dia_diff_text.proofs.writing.push_line.Goals as goal

pub returns : goal.returns
returns c =
    let p = plain_parts c.args.parts.now in
    let old = string_bytes c.args.out.now in
    let start = start_words p in
    let field = field_words p.field in
    let values = values_words p.first p.second in
    let b0 = string_bytes c.push_start.new.out in
    let b1 = string_bytes c.push_field.new.out in
    let b2 = string_bytes c.push_values.new.out in
    on_ok_weaker c.push_ending.result
    (then_text old b2 (string_bytes c.push_ending.new.out) (start ++ field ++ values) (effects_words p.there p.back ++ codes "\n")
    (then_text old b1 b2 (start ++ field) values (then_text old b0 b1 start field c.in_ok-push_start.ensures c.in_ok-push_field.ensures) c.in_ok-push_values.ensures))
    c.push_ending.ensures
