use Rattle.std.proofs.Common.{sym, subst}
use Rattle.std.specs.Prelude.{IfOk, string_bytes}
use Rattle.dia_compat.specs.declared.Answer.{Answer}
use Rattle.dia_compat.specs.Closed.{IsTableAnswer}
use Rattle.dia_compat.specs.TableText.{plain_table}
use Rattle.dia_compared_json.specs.Compared.{IsAnswerJson}
use Rattle.dia_compared_json.proofs.Pairs.{fails_of_pair, listed_within, not_none, yes_recorded}
use Rattle.dia_compared_json.proofs.comparing.recorded_of.Goals as goal

pub failure_of-requires-clause-within : goal.failure_of-requires-clause-within
failure_of-requires-clause-within g c =
    let table = plain_table c.args.table.now in
    listed_within c.in-No.kind table c.in-No.pair
    (subst (λ (x : Answer). IsTableAnswer (g.A.Book.meaning c.args.a.now) (g.B.Book.meaning c.args.b.now) c.args.unknown table x) c.in-No.is c.requires.answer).within

pub failure_of-requires-clause-are_all : goal.failure_of-requires-clause-are_all
failure_of-requires-clause-are_all g c =
    let da = g.A.Book.meaning c.args.a.now in
    let db = g.B.Book.meaning c.args.b.now in
    fails_of_pair da db c.args.unknown (plain_table c.args.table.now) c.args.verdict.now.answer c.in-No.kind c.in-No.pair c.in-No.reason
    c.args.verdict.now.failings.items c.as_slice-fails.result.now c.in-No.is c.as_slice-fails.ensures.value c.requires.failings

pub failure_of-requires-clause-not_none : goal.failure_of-requires-clause-not_none
failure_of-requires-clause-not_none g c =
    not_none c.args.verdict.now.answer c.in-No.kind c.in-No.pair c.in-No.reason c.args.verdict.now.failings.items c.as_slice-fails.result.now c.in-No.is c.as_slice-fails.ensures.value c.requires.none

pub returns-in-Yes : goal.returns-in-Yes
returns-in-Yes g c = yes_recorded _ _ c.args.unknown (plain_table c.args.table.now) c.args.verdict.now.answer c.recorded.result c.in-Yes.is c.recorded.ensures.text c.recorded.ensures.exit

pub returns-in-No : goal.returns-in-No
returns-in-No g c =
    subst (λ (x : Answer). IfOk c.failure_of.result (λ o. IsAnswerJson (g.A.Book.meaning c.args.a.now) (g.B.Book.meaning c.args.b.now) c.args.unknown (plain_table c.args.table.now) x
    (string_bytes o.text) o.exit)) (sym c.in-No.is) c.failure_of.ensures
