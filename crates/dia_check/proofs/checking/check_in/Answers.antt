use Rattle.std.proofs.lemmas.Result.{err_from_is_err_and}
use Rattle.dia_check.specs.Faults.{IsAnswer}
use Rattle.dia_check.proofs.CheckAnswers.{valid_answer}
use Rattle.dia_check.proofs.checking.check_in.Goals as goal

pub returns-in_err-header-clause-answer : goal.returns-in_err-header-clause-answer
returns-in_err-header-clause-answer g c =
    let p = err_from_is_err_and c.from_residual.result c.from_residual.ensures.1 in
    rw (p.1, p.2) (c.in_err-header.ensures.answer (g.B.Book.meaning c.args.book.now) c.args.unknown c.args.levels)

pub returns-in_err-header-clause-valid : goal.returns-in_err-header-clause-valid
returns-in_err-header-clause-valid g c n valid =
    let d = g.B.Book.meaning c.args.book.now in
    let p = err_from_is_err_and c.from_residual.result c.from_residual.ensures.1 in
    let answer : IsAnswer d c.args.unknown c.args.levels c.args.bytes.now c.from_residual.result = rw (p.1, p.2) (c.in_err-header.ensures.answer d c.args.unknown c.args.levels) in
    valid_answer d (g.met.B.Book.sound c.args.book.now) c.args.unknown c.args.levels c.args.bytes.now c.from_residual.result n answer valid

pub returns-in_err-def-clause-answer : goal.returns-in_err-def-clause-answer
returns-in_err-def-clause-answer g c =
    let d = g.B.Book.meaning c.args.book.now in
    let whole = c.in_ok-header.ensures.whole in
    let p = err_from_is_err_and c.from_residual-in_err-def.result c.from_residual-in_err-def.ensures.1 in
    rw (p.1, p.2) (c.in_err-def.ensures.answer c.args.unknown c.args.levels c.args.bytes.now whole.1 whole.0)

pub returns-in_err-def-clause-valid : goal.returns-in_err-def-clause-valid
returns-in_err-def-clause-valid g c n valid =
    let d = g.B.Book.meaning c.args.book.now in
    let whole = c.in_ok-header.ensures.whole in
    let p = err_from_is_err_and c.from_residual-in_err-def.result c.from_residual-in_err-def.ensures.1 in
    let answer : IsAnswer d c.args.unknown c.args.levels c.args.bytes.now c.from_residual-in_err-def.result =
    rw (p.1, p.2) (c.in_err-def.ensures.answer c.args.unknown c.args.levels c.args.bytes.now whole.1 whole.0) in
    valid_answer d (g.met.B.Book.sound c.args.book.now) c.args.unknown c.args.levels c.args.bytes.now c.from_residual-in_err-def.result n answer valid

pub check_body-answer-requires : goal.check_body-answer-requires
check_body-answer-requires g c =
    let whole = c.in_ok-header.ensures.whole in
    let (good, is) = c.in_ok-def.ensures.answer c.args.unknown c.args.levels c.args.bytes.now whole.1 whole.0 in
    ∣ (good, is, whole.1, whole.2) ∣₁

pub returns-clause-answer : goal.returns-clause-answer
returns-clause-answer g c =
    let whole = c.in_ok-header.ensures.whole in
    let (good, is) = c.in_ok-def.ensures.answer c.args.unknown c.args.levels c.args.bytes.now whole.1 whole.0 in
    c.check_body-answer.ensures good is whole.1

pub returns-clause-valid : goal.returns-clause-valid
returns-clause-valid g c n valid =
    let d = g.B.Book.meaning c.args.book.now in
    let whole = c.in_ok-header.ensures.whole in
    let (good, is) = c.in_ok-def.ensures.answer c.args.unknown c.args.levels c.args.bytes.now whole.1 whole.0 in
    valid_answer d (g.met.B.Book.sound c.args.book.now) c.args.unknown c.args.levels c.args.bytes.now c.check_body-answer.result n (c.check_body-answer.ensures good is whole.1) valid

pub returns-clause-no_memory : goal.returns-clause-no_memory
returns-clause-no_memory g c refused =
    let whole = c.in_ok-header.ensures.whole in
    let (good, is) = c.in_ok-def.ensures.answer c.args.unknown c.args.levels c.args.bytes.now whole.1 whole.0 in
    (whole.1, good)
