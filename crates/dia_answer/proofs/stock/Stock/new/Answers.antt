use Rattle.std.proofs.Common.{ap}
use Rattle.dia_answer.specs.Helds.{plains}
use Rattle.dia_answer.specs.Sources.{in_extent, parts_of}
use Rattle.dia_answer.proofs.Building.{proxies_made, stock_made}
use Rattle.dia_answer.proofs.stock.Stock.new.Goals as goal

pub returns-clause-stock : goal.returns-clause-stock
returns-clause-stock g c =
    stock_made (g.B.Book.meaning c.args.book.now) (g.B.Book.meaning c.in_ok-new.field-0.book.now) c.args.form c.args.rules.now (in_extent c.args.extent (parts_of c.args.contents.now)) c.as_slice-request.result.now
    c.new-few.result.items c.push_session.new.out.items c.push_sender.new.out.items c.push_message.new.out.items c.push_failed.new.out.items c.push_copies.new.out.items c.new-proxies.result.items c.push_fitting.new.out.items _ _
    c.base_key-wanted.result (ap plains c.as_slice-request.ensures.value) c.new-few.ensures.items c.new-proxies.ensures.items c.line.ensures c.failed.ensures (ap g.B.Book.meaning c.in_ok-new.ensures) c.base_key-wanted.ensures
    c.in_ok-push_session.ensures c.in_ok-push_sender.ensures c.in_ok-push_message.ensures c.in_ok-push_failed.ensures c.in_ok-push_copies.ensures c.in_ok-push_fitting.ensures

pub returns-clause-proxies : goal.returns-clause-proxies
returns-clause-proxies g c =
    proxies_made (g.B.Book.meaning c.in_ok-new.field-0.book.now) c.args.contents.now.unknown c.args.contents.now.levels _ c.as_slice-request.result.now c.new-proxies.result.items c.push_fitting.new.out.items c.base_key-wanted.result c.new-proxies.ensures.items
    c.base_key-wanted.ensures c.in_ok-push_fitting.ensures
