use Rattle.std.proofs.lemmas.Result.{on_ok_weaker}
use Rattle.dia_differences.proofs.PartLines.{command_added, command_listed}
use Rattle.dia_differences.proofs.commands.push_added_command.Goals as goal

pub returns-in-Some : goal.returns-in-Some
returns-in-Some g c = command_listed (g.B.Book.meaning c.args.b.now) c.args.second _ c.args.partner c.args.lines.now.items c.in-Some.is

pub returns-in-None : goal.returns-in-None
returns-in-None g c =
    on_ok_weaker c.push_alone.result (command_added (g.B.Book.meaning c.args.b.now) c.args.second c.args.partner c.args.lines.now.items c.push_alone.new.lines.items c.in-None.is) c.push_alone.ensures
