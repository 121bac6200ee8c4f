use Rattle.dia_book.specs.Dictionary.{plain_definition}
use Rattle.dia_valid.proofs.SelectedCommands.{command_at}
use Rattle.dia_differences.proofs.Names.{command_name}
use Rattle.dia_differences.proofs.owner.command_name.Goals as goal

pub returns : goal.returns
returns g c =
    let d = g.B.Book.meaning c.args.book.now in
    let x = plain_definition c.def.result.now in
    command_name d.commands c.args.index x c.as_str.result.now (command_at d c.args.index c.command_at.result x c.command_at.ensures c.def.ensures) c.as_str.ensures.value
