use Rattle.std.specs.Prelude.{map}
use Rattle.std.specs.Borrow.{Bor}
use Rattle.dia_book.specs.declared.Definition.{Definition}
use Rattle.dia_book.specs.Dictionary.{plain_definition}
use Rattle.dia_compat.specs.PairTests.{plain_names, is_ready}
use Rattle.dia_compat.proofs.FilteredMembers.{all_more_at, all_stops_at}
use Rattle.dia_compat.proofs.comparing.commands.all_beside.Goals as goal

pub returns-then-not-is_ready : goal.returns-then-not-is_ready
returns-then-not-is_ready g c =
    let test = λ (d : Bor Definition). is_ready c.args.sides.now (map plain_names c.args.beside.now.keys) (plain_definition c.args.command.now) (plain_definition d.now) in
    all_stops_at test c.args.others.now c.loop-other.other-index c.other-item.result c.other-item.result c.is_ready.result
    c.loop-other-test.true c.other-item.is c.is_ready.ensures c.if-not-is_ready.true

pub loop-other-preserved : goal.loop-other-preserved
loop-other-preserved g c =
    let test = λ (d : Bor Definition). is_ready c.args.sides.now (map plain_names c.args.beside.now.keys) (plain_definition c.args.command.now) (plain_definition d.now) in
    all_more_at test c.args.others.now c.loop-other.other-index c.other-item.result c.other-item.result c.is_ready.result
    c.loop-other-test.true c.other-item.is c.is_ready.ensures c.if-not-is_ready.false c.loop-other.invariant
