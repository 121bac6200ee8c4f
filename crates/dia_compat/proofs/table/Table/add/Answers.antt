use Rattle.std.proofs.Common.{rules, refl, IsTrue}
use Rattle.dia_compat.specs.TableText.{plain_table}
use Rattle.dia_compat.proofs.TableLines.{adds_command, adds_avp, passes_command, passes_avp}
use Rattle.dia_compat.proofs.table.Table.add.Goals as goal

pub returns-in_ok-push_pair-in-Some-Command-clause-ok : goal.returns-in_ok-push_pair-in-Some-Command-clause-ok
returns-in_ok-push_pair-in-Some-Command-clause-ok c =
    let found = c.in-Some-Command in
    let old = c.args.self.now in
    let is = rw found.field-0-is at found.ensures.some in
    let room : IsTrue c.has_room_for.result = search rules in
    adds_command c.args.line.now found.a.now found.b.now (plain_table old) (plain_table (record { commands = c.push_pair.new.pairs; avps = old.avps })) c.requires is (c.has_room_for.ensures.0 room)
    c.in_ok-push_pair-in-Some-Command.ensures refl

pub returns-in_ok-push_pair-in-Some-Avp-clause-ok : goal.returns-in_ok-push_pair-in-Some-Avp-clause-ok
returns-in_ok-push_pair-in-Some-Avp-clause-ok c =
    let found = c.in-Some-Avp in
    let old = c.args.self.now in
    let is = rw found.field-0-is at found.ensures.some in
    let room : IsTrue c.has_room_for-in-Some-Avp.result = search rules in
    adds_avp c.args.line.now found.a.now found.b.now (plain_table old) (plain_table (record { commands = old.commands; avps = c.push_pair-in-Some-Avp.new.pairs })) c.requires is
    (c.has_room_for-in-Some-Avp.ensures.0 room) refl
    c.in_ok-push_pair-in-Some-Avp.ensures

pub returns-then-not-has_room_for-clause-limit : goal.returns-then-not-has_room_for-clause-limit
returns-then-not-has_room_for-clause-limit c = λ _.
    let found = c.in-Some-Command in
    passes_command c.args.line.now found.a.now found.b.now (plain_table c.args.self.now) (rw found.field-0-is at found.ensures.some) (search rules)

pub returns-then-not-has_room_for-2-clause-limit : goal.returns-then-not-has_room_for-2-clause-limit
returns-then-not-has_room_for-2-clause-limit c = λ _.
    let found = c.in-Some-Avp in
    passes_avp c.args.line.now found.a.now found.b.now (plain_table c.args.self.now) (rw found.field-0-is at found.ensures.some) (search rules)
