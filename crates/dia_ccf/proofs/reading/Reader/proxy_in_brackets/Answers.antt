use Rattle.std.proofs.Common.{arith, refl, Ok, Err, ◌∙◌}
use Rattle.std.specs.Prelude.{false, codes}
use Rattle.dia_ccf.specs.declared.source.Head.TheVariants.{Error}
use Rattle.dia_terms.specs.declared.Pxy.TheVariants.{Either}
use Rattle.dia_ccf.specs.Tokens.{Comma, Close_bracket}
use Rattle.dia_ccf.specs.Machine.{In_head, Error_either, Error_close, Head_end, same_sign, sign_at}
use Rattle.dia_ccf.specs.ReaderFunctions.{course, left}
use Rattle.dia_ccf.proofs.ReaderSteps.{accepted, leads_along, exits}
use Rattle.dia_ccf.proofs.ReaderInHeads.{comma_then, proxy_stops, either_closes, takes_farther}
use Rattle.dia_ccf.specs.Grammar.{◌then◌, one, comma, keyword}
use Rattle.dia_ccf.proofs.ReaderPlaces.{along, sign_derived}
use Rattle.dia_ccf.proofs.HeadTokens.{comma_passed, keyword_read}
use Rattle.dia_ccf.proofs.reading.Reader.proxy_in_brackets.Goals as goal

pub returns-in_err-expect_keyword-clause-read : goal.returns-in_err-expect_keyword-clause-read
returns-in_err-expect_keyword-clause-read c = λ done name.
    exits (course (done, In_head name (Error_either false)) c.args.self.now)
    (λ pxy. (done, In_head name (Head_end (Error pxy)))) c.in_err-expect_keyword.field-0.0 c.from_residual.result c.expect_keyword.new.self c.from_residual.ensures.1
    (proxy_stops done name c.args.self.now c.takes.new.self c.expect_keyword.new.self c.takes.result c.in_err-expect_keyword.field-0.0 c.takes.ensures c.in_err-expect_keyword.ensures)

pub returns-in_err-expect-clause-read : goal.returns-in_err-expect-clause-read
returns-in_err-expect-clause-read c = λ done name.
    (let first = comma_then (λ b. (done, In_head name (Error_either b))) (done, In_head name Error_close)
    (codes "pxy") c.args.self.now c.takes.new.self c.expect_keyword.new.self c.takes.result c.takes.ensures c.in_ok-expect_keyword.ensures refl (λ b w e. rw e refl) in
    let stops = accepted {X = Unit {0}} false false (sign_at Close_bracket) (λ u. tt) (λ u. (done, In_head name (Head_end (Error Either)))) (done, In_head name Error_close)
    c.expect_keyword.new.self c.expect.new.self (Err c.in_err-expect.field-0.0) (either_closes done name (left c.expect_keyword.new.self)) c.in_err-expect.ensures in
    leads_along (course (done, In_head name (Error_either false)) c.args.self.now) (course (done, In_head name Error_close) c.expect_keyword.new.self)
    (λ pxy. (done, In_head name (Head_end (Error pxy)))) c.from_residual-in_err-expect.result c.expect.new.self first
    (exits (course (done, In_head name Error_close) c.expect_keyword.new.self)
    (λ pxy. (done, In_head name (Head_end (Error pxy)))) c.in_err-expect.field-0.0 c.from_residual-in_err-expect.result c.expect.new.self c.from_residual-in_err-expect.ensures.1 stops))

pub returns-clause-read : goal.returns-clause-read
returns-clause-read c = λ done name.
    comma_then (λ b. (done, In_head name (Error_either b))) (done, In_head name Error_close)
    (codes "pxy") c.args.self.now c.takes.new.self c.expect_keyword.new.self c.takes.result c.takes.ensures c.in_ok-expect_keyword.ensures refl (λ b w e. rw e refl)
    ∙ accepted {X = Unit {0}} false false (sign_at Close_bracket) (λ u. tt) (λ u. (done, In_head name (Head_end (Error Either)))) (done, In_head name Error_close)
    c.expect_keyword.new.self c.expect.new.self (Ok tt) (either_closes done name (left c.expect_keyword.new.self)) c.in_ok-expect.ensures

pub returns-clause-farther : goal.returns-clause-farther
returns-clause-farther c = omega (
  arith,
  takes_farther (same_sign Comma) c.args.self.now c.takes.new.self c.takes.result c.takes.ensures,
  c.in_ok-expect_keyword.ensures.2.2,
  c.in_ok-expect.ensures.2.2,
)

pub returns-clause-derived : goal.returns-clause-derived
returns-clause-derived c =
    let word = keyword (codes "pxy") in
    along comma (word then one Close_bracket) c.args.self.now c.takes.new.self c.expect.new.self (comma_passed c.takes.result c.args.self.now c.takes.new.self c.takes.ensures)
    (along word (one Close_bracket) c.takes.new.self c.expect_keyword.new.self c.expect.new.self (keyword_read (codes "pxy") c.takes.new.self c.expect_keyword.new.self c.in_ok-expect_keyword.ensures)
    (sign_derived Close_bracket c.expect_keyword.new.self c.expect.new.self refl c.in_ok-expect.ensures))
