use Rattle.std.proofs.Common.{Some, None, map, sym, ◌∙◌}
use Rattle.dia_lint_text.specs.Asking.{is_strange}
use Rattle.dia_lint_text.proofs.Searches.{find_first}
use Rattle.dia_lint_text.proofs.choice.first_strange.Goals as goal

pub returns-in-Some : goal.returns-in-Some
returns-in-Some c =
    sym (find_first is_strange (map (λ word. word.now) c.args.only.now) (map (λ word. word.now) c.args.except.now) (Some c.in-Some.word.now) (sym c.in-Some.ensures))

pub returns-in-None : goal.returns-in-None
returns-in-None c =
    c.strange_in-in-None.ensures
    ∙ sym (find_first is_strange (map (λ word. word.now) c.args.only.now) (map (λ word. word.now) c.args.except.now) None (sym c.in-None.ensures))
