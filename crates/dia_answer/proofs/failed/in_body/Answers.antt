use Rattle.std.proofs.Common.{arith}
use Rattle.std.specs.Option.{option_map}
use Rattle.dia_wire.specs.Wire.{plain_avp}
use Rattle.dia_answer.specs.Levels.{plain_level}
use Rattle.dia_answer.proofs.Shown.{room_for_example, room_for_first, room_for_none}
use Rattle.dia_answer.proofs.failed.in_body.Goals as goal

pub wrapped-requires : goal.wrapped-requires
wrapped-requires g c =
    let a = c.in_ok-around.around in
    let d = g.B.Book.meaning c.args.book.now in
    room_for_example d c.args.rules.now c.args.body.now c.args.fault.now (plain_level a.outer) c.deref.result.now a.groups.items c.in_ok-around.ensures.around c.deref.ensures.value (omega arith) c.of_key-example.result (plain_avp c.as_avp.result) c.as_avp.ensures

pub wrapped-requires-in-Nothing : goal.wrapped-requires-in-Nothing
wrapped-requires-in-Nothing g c =
    let a = c.in_ok-around.around in
    let d = g.B.Book.meaning c.args.book.now in
    room_for_none d c.args.rules.now c.args.body.now c.args.fault.now (plain_level a.outer) c.deref-in-Nothing.result.now a.groups.items c.in_ok-around.ensures.around c.deref-in-Nothing.ensures.value (omega arith)

pub wrapped-requires-in-Wildcard : goal.wrapped-requires-in-Wildcard
wrapped-requires-in-Wildcard g c =
    let a = c.in_ok-around.around in
    let d = g.B.Book.meaning c.args.book.now in
    room_for_none d c.args.rules.now c.args.body.now c.args.fault.now (plain_level a.outer) c.deref-in-Wildcard.result.now a.groups.items c.in_ok-around.ensures.around c.deref-in-Wildcard.ensures.value (omega arith)

pub wrapped-requires-in-AvpLength : goal.wrapped-requires-in-AvpLength
wrapped-requires-in-AvpLength g c =
    let a = c.in_ok-around.around in
    let d = g.B.Book.meaning c.args.book.now in
    room_for_example d c.args.rules.now c.args.body.now c.args.fault.now (plain_level a.outer) c.deref-in-AvpLength.result.now a.groups.items c.in_ok-around.ensures.around c.deref-in-AvpLength.ensures.value (omega arith) c.of_head-example.result (plain_avp c.as_avp-in-AvpLength.result) c.as_avp-in-AvpLength.ensures

pub wrapped-requires-in_default : goal.wrapped-requires-in_default
wrapped-requires-in_default g c =
    let a = c.in_ok-around.around in
    let d = g.B.Book.meaning c.args.book.now in
    room_for_first d c.args.rules.now c.args.body.now c.args.fault.now (plain_level a.outer) c.deref-in_default.result.now a.groups.items c.in_ok-around.ensures.around c.deref-in_default.ensures.value (omega arith) c.here-here.result.now (option_map plain_avp c.first_of.result) c.here-here.ensures c.first_of.ensures
