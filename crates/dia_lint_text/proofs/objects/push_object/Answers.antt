use Rattle.std.proofs.Common.{◌++◌, ap, string_bytes, ◌∙◌}
use Rattle.dia_lint_text.proofs.Searches.{on_ok_map}
use Rattle.dia_lint_text.proofs.Joined.{four_parts, place_is}
use Rattle.dia_lint_text.proofs.objects.push_object.Goals as goal

pub returns : goal.returns
returns g c =
    on_ok_map _ _ c.push_words.result
    (λ h. λ text at line column. four_parts _ _ _ _ _ _ _ _ _ c.in_ok-push_rule.ensures
    (c.in_ok-push_place.ensures ∙ ap (λ part. string_bytes c.push_rule.new.out ++ part) (place_is c.args.file.now text at c.args.place.line c.args.place.column line column)) c.in_ok-push_subject.ensures h)
    c.push_words.ensures
