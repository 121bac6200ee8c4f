use Rattle.std.proofs.Common.{sym, ap, ◌∙◌}
use Rattle.std.specs.Prelude.{option_and_then}
use Rattle.dia_book.specs.Dictionary.{group_place}
use Rattle.dia_breaking.proofs.GroupsFound.{group_found}
use Rattle.dia_breaking.proofs.InRange.{group_within, group_known}
use Rattle.dia_breaking.proofs.books.group_of.Goals as goal

pub returns : goal.returns
returns g c =
    let d = g.B.Book.meaning c.args.book.now in
    record {
      within = group_within d c.args.key c.in_ok-entry.entry c.group.result (sym c.avp.ensures ∙ c.in_ok-entry.was) (sym c.group.ensures);
      definition = group_found d c.args.key c.in_ok-entry.entry c.group.result (sym c.avp.ensures ∙ c.in_ok-entry.was) c.group.ensures;
      group = group_known d c.args.key c.in_ok-entry.entry c.group.result (sym c.avp.ensures ∙ c.in_ok-entry.was) (sym c.group.ensures);
      number = c.group.ensures ∙ ap (option_and_then (group_place d)) (sym (sym c.avp.ensures ∙ c.in_ok-entry.was));
    }
