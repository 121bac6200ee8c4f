use Rattle.std.proofs.Common.{ap, sym, ◌∙◌}
use Rattle.std.specs.List.{list_any}
use Rattle.std.specs.Option.{option_copied}
use Rattle.std.proofs.lemmas.Result.{IfOk-weaker}
use Rattle.dia_accepted.specs.Accepted.{accepts}
use Rattle.dia_lint_text.specs.Lines.{recorded_by}
use Rattle.dia_lint_text.specs.Rows.{plain_row}
use Rattle.dia_lint_text.proofs.Searches.{on_ok_map}
use Rattle.dia_lint_text.proofs.listing.is_accepted.Goals as goal

pub returns-clause-accepted : goal.returns-clause-accepted
returns-clause-accepted c =
    IfOk-weaker c.accepts.result _ _ (λ known h. λ list recorded seen. h list recorded seen ∙ ap (λ w. list_any (accepts w) list) (c.deref.ensures ∙ c.in_ok-words.ensures))
    c.accepts.ensures.accepted

pub returns-clause-come : goal.returns-clause-come
returns-clause-come c =
    on_ok_map _ _ c.accepts.result
    (λ h. λ list recorded seen. h list recorded (recorded_by (option_copied c.args.finding) (plain_row c.args.row.now)) (sym (c.deref.ensures ∙ c.in_ok-words.ensures)) seen)
    c.accepts.ensures.come
