use Rattle.std.proofs.Common.{None, refl}
use Rattle.std.specs.Prelude.{is_ok}
use Rattle.dia_dict.specs.declared.entry_list.Row.{Row}
use Rattle.dia_dict.proofs.EntryLists.{numbers-pushed}
use Rattle.dia_dict.proofs.entry_list.EntryList.push.Goals as goal

pub invariant_of-self : goal.invariant_of-self
invariant_of-self c =
    let list = c.args.self.now in
    let row : Row = record { name = c.args.name; key = c.args.key; format = c.args.format; rule = c.args.rule; group = None } in
    record { numbered = numbers-pushed list.rows.items list.groups.items row (is_ok c.push.result) c.push.new.self.items c.push.ensures.items refl list.numbered }
