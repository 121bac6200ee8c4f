use Rattle.std.proofs.Common.{◌≡◌, ◌∙◌, sym, None}
use Rattle.std.specs.Result.{result_ok}
use Rattle.dia_cli.proofs.Words.{unread}
use Rattle.dia_cli.proofs.values.limit_of.Goals as goal

pub returns-in_err-ok-in-Some-clause-none : goal.returns-in_err-ok-in-Some-clause-none
returns-in_err-ok-in-Some-clause-none c =
    let none : result_ok c.parse.result ≡ None = sym c.ok.ensures.value ∙ c.in_err-ok-in-Some.was in
    λ _. unread c.args.word c.in-Some.number c.parse.result c.in-Some.is c.parse.ensures.value.0 none
