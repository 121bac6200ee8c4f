use Rattle.std.proofs.Common.{arith, refl, ◌∙◌}
use Rattle.std.specs.Prelude.{false, codes}
use Rattle.dia_ccf.specs.Tokens.{Comma}
use Rattle.dia_ccf.specs.Machine.{same_sign, In_head, Error_word, Error_flags, Head_end}
use Rattle.dia_ccf.specs.ReaderFunctions.{course}
use Rattle.dia_ccf.proofs.ReaderSteps.{leads_along, exits}
use Rattle.dia_ccf.proofs.ReaderInHeads.{comma_then, error_stops, takes_farther}
use Rattle.dia_ccf.specs.Grammar.{◌then◌, comma, keyword, error_proxy}
use Rattle.dia_ccf.proofs.ReaderPlaces.{along}
use Rattle.dia_ccf.proofs.HeadTokens.{comma_passed, keyword_read}
use Rattle.dia_ccf.proofs.reading.Reader.error.Goals as goal

pub returns-in_err-expect_keyword-clause-read : goal.returns-in_err-expect_keyword-clause-read
returns-in_err-expect_keyword-clause-read c = λ done name.
    exits (course (done, In_head name (Error_word false)) c.args.self.now)
    (λ head. (done, In_head name (Head_end head))) c.in_err-expect_keyword.field-0.0 c.from_residual.result c.expect_keyword.new.self c.from_residual.ensures.1
    (error_stops done name c.args.self.now c.takes.new.self c.expect_keyword.new.self c.takes.result c.in_err-expect_keyword.field-0.0 c.takes.ensures c.in_err-expect_keyword.ensures)

pub returns-in_err-pxy-clause-read : goal.returns-in_err-pxy-clause-read
returns-in_err-pxy-clause-read c = λ done name.
    (let first = comma_then (λ b. (done, In_head name (Error_word b))) (done, In_head name (Error_flags false))
    (codes "err") c.args.self.now c.takes.new.self c.expect_keyword.new.self c.takes.result c.takes.ensures c.in_ok-expect_keyword.ensures refl (λ b w e. rw e refl) in
    leads_along (course (done, In_head name (Error_word false)) c.args.self.now) (course (done, In_head name (Error_flags false)) c.expect_keyword.new.self)
    (λ head. (done, In_head name (Head_end head))) c.from_residual-in_err-pxy.result c.error_proxy.new.self first
    (exits (course (done, In_head name (Error_flags false)) c.expect_keyword.new.self)
    (λ head. (done, In_head name (Head_end head))) c.in_err-pxy.field-0.0 c.from_residual-in_err-pxy.result c.error_proxy.new.self c.from_residual-in_err-pxy.ensures.1
    (c.in_err-pxy.ensures.read done name)))

pub returns-clause-read : goal.returns-clause-read
returns-clause-read c = λ done name.
    comma_then (λ b. (done, In_head name (Error_word b))) (done, In_head name (Error_flags false))
    (codes "err") c.args.self.now c.takes.new.self c.expect_keyword.new.self c.takes.result c.takes.ensures c.in_ok-expect_keyword.ensures refl (λ b w e. rw e refl)
    ∙ c.in_ok-pxy.ensures.read done name

pub returns-clause-farther : goal.returns-clause-farther
returns-clause-farther c = omega (
  arith,
  takes_farther (same_sign Comma) c.args.self.now c.takes.new.self c.takes.result c.takes.ensures,
  c.in_ok-expect_keyword.ensures.2.2,
  c.in_ok-pxy.ensures.farther,
)

pub returns-clause-derived : goal.returns-clause-derived
returns-clause-derived c =
    let word = keyword (codes "err") in
    let proxy = error_proxy c.in_ok-pxy.pxy in
    along comma (word then proxy) c.args.self.now c.takes.new.self c.error_proxy.new.self (comma_passed c.takes.result c.args.self.now c.takes.new.self c.takes.ensures)
    (along word proxy c.takes.new.self c.expect_keyword.new.self c.error_proxy.new.self (keyword_read (codes "err") c.takes.new.self c.expect_keyword.new.self c.in_ok-expect_keyword.ensures)
    c.in_ok-pxy.ensures.derived)
