use Rattle.std.specs.HashMap.{get}
use Rattle.dia_book.specs.Dictionary.{plain_definition}
use Rattle.dia_valid.proofs.SelectedCommands.{command_at}
use Rattle.dia_differences.specs.Partners.{same_messages}
use Rattle.dia_differences.proofs.PartnerPlaces.{command_found, command_named}
use Rattle.dia_differences.proofs.partners.command_there.Goals as goal

pub returns-in-Some : goal.returns-in-Some
returns-in-Some g c =
    let x = plain_definition c.def-command.result.now in
    command_found (g.A.Book.meaning c.args.a.now) (g.B.Book.meaning c.args.b.now) c.args.index x c.messages_of.result (get same_messages c.args.others.now) (command_at (g.A.Book.meaning c.args.a.now) c.args.index c.command_at.result x c.command_at.ensures c.def-command.ensures)
    c.messages_of.ensures c.requires.others c.in-Some.place.now c.in-Some.ensures.value

pub returns-in-None : goal.returns-in-None
returns-in-None g c =
    let x = plain_definition c.def-command.result.now in
    command_named (g.A.Book.meaning c.args.a.now) (g.B.Book.meaning c.args.b.now) c.args.index x c.messages_of.result (get same_messages c.args.others.now) (command_at (g.A.Book.meaning c.args.a.now) c.args.index c.command_at.result x c.command_at.ensures c.def-command.ensures)
    c.messages_of.ensures c.requires.others (get same_messages c.args.own.now) c.as_str.result.now c.command_by_name.result c.requires.own c.in-None.ensures.value c.as_str.ensures.value c.command_by_name.ensures
