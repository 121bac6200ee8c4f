use Rattle.std.specs.HashMap.{get}
use Rattle.dia_book.specs.Dictionary.{plain_definition}
use Rattle.dia_valid.proofs.SelectedCommands.{command_at}
use Rattle.dia_differences.specs.Partners.{same_messages}
use Rattle.dia_differences.proofs.PartnerPlaces.{messages_known}
use Rattle.dia_differences.proofs.partners.unless_messages_known.Goals as goal

pub returns-in-Some : goal.returns-in-Some
returns-in-Some g c =
    messages_known (g.B.Book.meaning c.args.b.now) (get same_messages c.args.own.now) c.args.place (plain_definition c.def.result.now) c.messages_of.result _ (command_at (g.B.Book.meaning c.args.b.now) c.args.place c.command_at.result (plain_definition c.def.result.now) c.command_at.ensures c.def.ensures) c.messages_of.ensures c.in-Some.ensures.value

pub returns-in-None : goal.returns-in-None
returns-in-None g c =
    messages_known (g.B.Book.meaning c.args.b.now) (get same_messages c.args.own.now) c.args.place (plain_definition c.def.result.now) c.messages_of.result _ (command_at (g.B.Book.meaning c.args.b.now) c.args.place c.command_at.result (plain_definition c.def.result.now) c.command_at.ensures c.def.ensures) c.messages_of.ensures c.in-None.ensures.value
