use Rattle.dia_dict.proofs.Copies.{entries_copied, numbered_copied}
use Rattle.dia_dict.proofs.entry_list.EntryListClone.clone.Goals as goal

pub invariant_of-result : goal.invariant_of-result
invariant_of-result c =
    let old = c.args.self.now in
    record {
      numbered = numbered_copied old.rows.items c.in_ok-clone.field-0.items old.groups.items c.in_ok-clone-2.field-0.items
          c.in_ok-clone.ensures.cases.0 c.in_ok-clone-2.ensures.cases.0 old.numbered;
    }

pub returns : goal.returns
returns c =
    let old = c.args.self.now in
    record {
      cases = entries_copied old.rows.items c.in_ok-clone.field-0.items old.groups.items c.in_ok-clone-2.field-0.items c.in_ok-clone.ensures.cases.0 c.in_ok-clone-2.ensures.cases.0;
    }
