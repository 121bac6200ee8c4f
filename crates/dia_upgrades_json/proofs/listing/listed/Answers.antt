use Rattle.std.proofs.lemmas.Result.{err_from_is_err_and}
use Rattle.dia_upgrades.proofs.Answered.{none_answered}
use Rattle.dia_upgrades.proofs.Reports.{call_answers}
use Rattle.dia_upgrades_json.specs.Objects.{json_in}
use Rattle.dia_upgrades_json.proofs.Writings.{answers_over}
use Rattle.dia_upgrades_json.proofs.listing.listed.Goals as goal

pub returns-in_err-names-clause-answers : goal.returns-in_err-names-clause-answers
returns-in_err-names-clause-answers g c =
    let p = err_from_is_err_and c.from_residual.result c.from_residual.ensures.1 in
    rw (p.1, p.2) (none_answered _ c.args.asked c.args.inputs.now.table _ _ (g.S.Sink.written c.args.sink.now))

pub returns-clause-answers : goal.returns-clause-answers
returns-clause-answers g c =
    let called = call_answers (json_in c.in_ok-names.names) c.args.asked c.args.inputs.now.table _ _ _ _ c.breaking_of.result
    (rw (c.deref.ensures, c.deref-2.ensures) at c.breaking_of.ensures.text)
    (rw (c.deref.ensures, c.deref-2.ensures) at c.breaking_of.ensures.front) (rw (c.deref.ensures, c.deref-2.ensures) at c.breaking_of.ensures.no_memory) in
    answers_over _ _ _ c.in_ok-names.names c.in_ok-names.ensures c.args.asked c.args.inputs.now.table _ _ c.breaking_of.result called
