use Rattle.std.proofs.Common.{refl}
use Rattle.std.proofs.lemmas.Result.{on_ok_weaker}
use Rattle.dia_faults.proofs.Headers.{with_command, without_application, without_command}
use Rattle.dia_faults.proofs.faults.push_body.Goals as goal

pub returns-in_ok-push_proxiable-in-Some : goal.returns-in_ok-push_proxiable-in-Some
returns-in_ok-push_proxiable-in-Some g c =
    on_ok_weaker c.list_body.result (λ listed. with_command (g.B.Book.meaning c.args.basis.now.book.now) c.args.basis.now.unknown c.args.basis.now.levels c.args.bytes.now c.args.header.now c.class_of-class.result
    c.class_of-class.ensures c.in-Some.def _ c.in-Some.ensures c.def.ensures c.args.found.now c.push_proxiable.new.found c.list_body.new.found (c.in_ok-push_proxiable-in-Some.ensures _ refl)
    (listed _ c.def.ensures)) c.list_body.ensures

pub returns-then-has_command : goal.returns-then-has_command
returns-then-has_command g c =
    on_ok_weaker c.push.result (λ added. (
      _,
      without_application (g.B.Book.meaning c.args.basis.now.book.now) c.args.basis.now.unknown c.args.basis.now.levels c.args.bytes.now c.args.header.now c.class_of-class.result c.class_of-class.ensures
          c.has_command.result c.has_command.ensures c.if-has_command.true c.in-None.ensures,
      rw c.of_header.ensures at added,
    )) c.push.ensures

pub returns-else-has_command : goal.returns-else-has_command
returns-else-has_command g c =
    on_ok_weaker c.push-else-has_command.result (λ added. (
      _,
      without_command (g.B.Book.meaning c.args.basis.now.book.now) c.args.basis.now.unknown c.args.basis.now.levels c.args.bytes.now c.args.header.now c.class_of-class.result c.class_of-class.ensures
          c.has_command.result c.has_command.ensures c.if-has_command.false c.in-None.ensures,
      rw c.of_header-else-has_command.ensures at added,
    )) c.push-else-has_command.ensures
