use Rattle.std.proofs.Common.{length, sym, ◌∙◌, arith}
use Rattle.dia_book.specs.Dictionary.{plain_definition}
use Rattle.dia_places.proofs.NamedPaths.{more_names, name_here}
use Rattle.dia_places.proofs.paths.push_around.Goals as goal

pub loop-preserved : goal.loop-preserved
loop-preserved g c =
    let d = g.B.Book.meaning c.args.book.now in
    more_names d c.args.reached.now (length c.args.reached.now) c.loop.counter c.loop.number c.in-Some.next c.loop.names.items c.push.new.self.items c.as_str.result (omega (arith, c.loop-test.true))
    (sym c.in-Some.ensures) c.in_ok-push.ensures.items (c.as_str.ensures.value ∙ sym (name_here d c.in-Some.next.def (plain_definition c.def.result.now) c.def.ensures))
    ∙ c.loop.invariant
