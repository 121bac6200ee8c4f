use Rattle.std.proofs.Common.{ap, inr, map, subst}
use Rattle.std.proofs.lemmas.Result.{IfErr-weaker, IfOk-weaker}
use Rattle.std.specs.Prelude.{IsSomeAnd}
use Rattle.clap.specs.Words.{app_of, is_simple, is_simple_and_free}
use Rattle.dia_cli.specs.Asking.{IsRequestOf, IsUnrun}
use Rattle.dia_cli.proofs.Words.{error_is_refused}
use Rattle.dia_cli.proofs.arguments.asked_by.Goals as goal

pub returns-clause-words : goal.returns-clause-words
returns-clause-words g c = λ program.
    let found = (c.in_ok-matches.ensures.ok.2 (ap is_simple program.shape)).1 in
    IfOk-weaker c.requested.result _ _ (λ request asked. (app_of c.args.line.now, program, c.in_ok-matches.ensures.kinds (ap is_simple_and_free program.shape), subst (λ sub. IsSomeAnd sub (IsRequestOf request)) found asked))
    c.requested.ensures.words

pub returns-clause-refused : goal.returns-clause-refused
returns-clause-refused g c = λ program.
    let found = (c.in_ok-matches.ensures.ok.2 (ap is_simple program.shape)).1 in
    IfErr-weaker c.requested.result _ _ (λ made unrun. (app_of c.args.line.now, program, inr (subst (λ sub. IsUnrun sub made) found unrun)))
    c.requested.ensures.unrun

pub returns-in_err-matches-clause-refused : goal.returns-in_err-matches-clause-refused
returns-in_err-matches-clause-refused g c = λ program.
    error_is_refused (app_of c.args.line.now) (map g.S.AsStr.text c.args.words.now) c.in_err-matches.field-0.0 c.from_residual.result program
    (c.in_err-matches.ensures.kinds (ap is_simple_and_free program.shape)) c.from_residual.ensures.1
