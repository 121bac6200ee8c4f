use Rattle.std.proofs.Common.{◌++◌}
use Rattle.std.specs.Prelude.{codes, string_bytes}
use Rattle.std.proofs.lemmas.Result.{on_ok_weaker}
use Rattle.dia_diff_text.specs.Lines.{json_effects, json_start, member_words}
use Rattle.dia_diff_text.specs.Plain.{plain_parts}
use Rattle.dia_diff_text.proofs.AddedTexts.{then_text}
use Rattle.dia_diff_text.proofs.objects.push_object.Goals as goal

pub returns : goal.returns
returns c =
    let p = plain_parts c.args.parts.now in
    let old = string_bytes c.args.out.now in
    let start = json_start p in
    let field = member_words (codes "field") p.field in
    let first = member_words (codes "first") p.first in
    let second = member_words (codes "second") p.second in
    let b0 = string_bytes c.push_start.new.out in
    let b1 = string_bytes c.push_field.new.out in
    let b2 = string_bytes c.push_words.new.out in
    let b3 = string_bytes c.push_words-2.new.out in
    on_ok_weaker c.push_effects.result
    (then_text old b3 (string_bytes c.push_effects.new.out) (start ++ field ++ first ++ second) (json_effects p.there p.back)
    (then_text old b2 b3 (start ++ field ++ first) second
    (then_text old b1 b2 (start ++ field) first (then_text old b0 b1 start field c.in_ok-push_start.ensures c.in_ok-push_field.ensures) c.in_ok-push_words.ensures) c.in_ok-push_words-2.ensures))
    c.push_effects.ensures
