use Rattle.std.proofs.Common.{◌≡◌, ◌++◌, true, false, sym, ap, ◌∙◌}
use Rattle.dia_answer.specs.Helds.{plains}
use Rattle.dia_answer.proofs.Attempts.{none_too_long, none_unlisted, written_by}
use Rattle.dia_answer.proofs.answering.by_rules.Goals as goal

pub returns-then-not-may_be_taken : goal.returns-then-not-may_be_taken
returns-then-not-may_be_taken g c =
    none_unlisted (g.B.Book.meaning c.args.book.now) c.args.form c.args.rules.now c.args.extent c.args.contents.now (plains c.in_ok-stock.stock.few.items ++ plains c.in_ok-stock.stock.proxies.items) c.in_ok-stock.ensures.stock
    (λ h. let bad : true ≡ false = sym (c.may_be_taken.ensures.1 h) ∙ c.if-not-may_be_taken.true in cc)

pub returns-in-Some : goal.returns-in-Some
returns-in-Some g c =
    let facts = rw c.in-Some.is at c.in_ok-bytes.ensures.message in
    let are = rw c.in-Some.is at c.in_ok-bytes.ensures.bytes in
    written_by (λ v. v.items) (g.B.Book.meaning c.args.book.now) c.args.form c.args.rules.now c.args.extent c.args.contents.now c.header_for-header.result (plains c.in_ok-stock.stock.few.items ++ plains c.in_ok-stock.stock.proxies.items)
    (plains c.deref.result.now) c.in-Some.bytes.items c.in_ok-stock.ensures.stock (c.may_be_taken.ensures.0 c.if-not-may_be_taken.false) (ap plains c.deref.ensures.value ∙ c.in_ok-avps.ensures) c.header_for-header.ensures facts.0 facts.1 are
    c.if_valid.result c.if_valid.ensures

pub returns : goal.returns
returns g c =
    none_too_long (g.B.Book.meaning c.args.book.now) c.args.form c.args.rules.now c.args.extent c.args.contents.now (plains c.in_ok-stock.stock.few.items ++ plains c.in_ok-stock.stock.proxies.items) (plains c.deref.result.now)
    c.in_ok-stock.ensures.stock (ap plains c.deref.ensures.value ∙ c.in_ok-avps.ensures) (rw c.in-None.is at c.in_ok-bytes.ensures.message)
