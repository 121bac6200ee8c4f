use Rattle.std.proofs.lemmas.Result.{on_ok_weaker}
use Rattle.std.proofs.Common.{[], ◌++◌, Option, sym, ap, ◌∙◌, append-nil}
use Rattle.std.specs.Option.{option_map_or}
use Rattle.std.specs.Prelude.{string_bytes}
use Rattle.dia_book.specs.declared.definition.DRule.{DRule}
use Rattle.dia_diff_text.specs.Words.{rule_words}
use Rattle.dia_diff_text.proofs.rules.push_rule_words.Goals as goal

pub returns-in-Some : goal.returns-in-Some
returns-in-Some g c =
    on_ok_weaker c.push_rule_at.result (λ e. e ∙ ap (λ (o : Option DRule). string_bytes c.args.out.now ++ option_map_or (λ (rule : DRule). rule_words (g.D.Book.meaning c.args.book.now) rule c.args.place.rule) o []) c.in-Some.ensures.exact)
    c.push_rule_at.ensures

pub returns-in-None : goal.returns-in-None
returns-in-None g c =
    sym (append-nil (string_bytes c.args.out.now)) ∙ ap (λ (o : Option DRule). string_bytes c.args.out.now ++ option_map_or (λ (rule : DRule). rule_words (g.D.Book.meaning c.args.book.now) rule c.args.place.rule) o []) c.in-None.ensures.exact
