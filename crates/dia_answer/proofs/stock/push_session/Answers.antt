use Rattle.std.proofs.Common.{◌≡◌, true, false, sym, ◌∙◌}
use Rattle.dia_answer.specs.Helds.{plain_held, plains}
use Rattle.dia_answer.proofs.Building.{session_absent, session_refused}
use Rattle.dia_answer.proofs.stock.push_session.Goals as goal

pub returns-in_default : goal.returns-in_default
returns-in_default g c = session_absent (g.B.Book.meaning c.args.book.now) (plains c.args.request.now) (plains c.args.out.now.items) c.base_key-wanted.result c.base_key-wanted.ensures c.in_default.ensures

pub returns-else-takes : goal.returns-else-takes
returns-else-takes g c =
    session_refused (g.B.Book.meaning c.args.book.now) (plains c.args.request.now) (plains c.args.out.now.items) (plain_held c.in-Some.avp.now) c.base_key-wanted.result c.base_key-wanted.ensures c.in-Some.ensures
    (λ t. let bad : true ≡ false = sym (c.takes.ensures.1 t) ∙ c.if-takes.false in cc)
