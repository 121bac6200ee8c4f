use Rattle.std.proofs.Common.{[]}
use Rattle.dia_differences.specs.Lines.{Adds, AreDifferences}
use Rattle.dia_differences.proofs.NoLines.{all_lines, none_if_same}
use Rattle.dia_differences.proofs.listing.lines_of.Goals as goal

pub returns-clause-differences : goal.returns-clause-differences
returns-clause-differences g c =
    all_lines (g.A.Book.meaning c.args.a.now) (g.B.Book.meaning c.args.b.now) c.args.partners.now c.entries.result c.commands.result c.new-lines.result.items c.push_avps.new.lines.items c.push_added_avps.new.lines.items c.push_commands.new.lines.items
    c.push_added_commands.new.lines.items c.requires c.entries.ensures.count c.commands.ensures c.new-lines.ensures.items c.in_ok-push_avps.ensures c.in_ok-push_added_avps.ensures c.in_ok-push_commands.ensures
    c.in_ok-push_added_commands.ensures

pub returns-clause-none : goal.returns-clause-none
returns-clause-none g c =
    let all : Adds [] c.push_added_commands.new.lines.items (AreDifferences (g.A.Book.meaning c.args.a.now) (g.B.Book.meaning c.args.b.now)) =
    all_lines (g.A.Book.meaning c.args.a.now) (g.B.Book.meaning c.args.b.now) c.args.partners.now c.entries.result c.commands.result c.new-lines.result.items c.push_avps.new.lines.items c.push_added_avps.new.lines.items c.push_commands.new.lines.items
    c.push_added_commands.new.lines.items c.requires c.entries.ensures.count c.commands.ensures c.new-lines.ensures.items c.in_ok-push_avps.ensures c.in_ok-push_added_avps.ensures c.in_ok-push_commands.ensures
    c.in_ok-push_added_commands.ensures in
    none_if_same (g.A.Book.meaning c.args.a.now) (g.B.Book.meaning c.args.b.now) c.push_added_commands.new.lines.items (g.met.A.Book.sound c.args.a.now) (g.met.B.Book.sound c.args.b.now) all
