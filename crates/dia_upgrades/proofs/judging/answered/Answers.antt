use Rattle.std.proofs.Common.{List, map, refl, subst, sym, ◌∙◌}
use Rattle.std.proofs.lemmas.Result.{err_from_is_err_and}
use Rattle.dia_accepted.specs.Accepted.{plain_entry}
use Rattle.dia_accepted.specs.declared.list.Entry.{Entry}
use Rattle.dia_upgrades.specs.declared.reporting.Findings.TheVariants.{NoList}
use Rattle.dia_upgrades.specs.Lists.{IsListText}
use Rattle.dia_upgrades.specs.Outcome.{bad_list}
use Rattle.dia_upgrades.proofs.Answered.{none_answered, refusal_answered}
use Rattle.dia_upgrades.proofs.judging.answered.Goals as goal

pub returns-in-Ok-clause-answers : goal.returns-in-Ok-clause-answers
returns-in-Ok-clause-answers g c =
    let input = c.args.list.now in
    let is_list = rw c.in-Ok.is at c.in_ok-list.ensures.list in
    c.listed.ensures.answers input (subst (λ (es : List Entry). IsListText input (map plain_entry es)) (sym c.as_slice.ensures.value) is_list)

pub returns-in_err-text-in-Err-clause-answers : goal.returns-in_err-text-in-Err-clause-answers
returns-in_err-text-in-Err-clause-answers g c =
    let p = err_from_is_err_and c.from_residual-in_err-text-in-Err.result c.from_residual-in_err-text-in-Err.ensures.1 in
    rw (p.1, p.2) (none_answered (g.W.LineWriter.writes c.args.writer.now) c.args.asked c.args.list.now (g.A.Book.meaning c.args.a.now) (g.B.Book.meaning c.args.b.now) (g.S.Sink.written c.args.sink.now))

pub returns-in_ok-text-in-Err-clause-answers : goal.returns-in_ok-text-in-Err-clause-answers
returns-in_ok-text-in-Err-clause-answers g c =
    let none = rw c.in-Err.is at c.in_ok-list.ensures.bad in
    refusal_answered (g.W.LineWriter.writes c.args.writer.now) c.args.asked c.args.list.now (g.A.Book.meaning c.args.a.now) (g.B.Book.meaning c.args.b.now) _ _ c.as_str.result.now (NoList c.in-Err.bad) c.refused.result
    (bad_list c.in-Err.bad none (c.as_str.ensures.value ∙ c.in_ok-text-in-Err.ensures, refl) refl) c.refused.ensures.put c.refused.ensures.exit c.refused.ensures.found c.refused.ensures.fault c.refused.ensures.front
