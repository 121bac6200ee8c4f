use Rattle.std.proofs.Common.{sym, subst}
use Rattle.dia_book.specs.Dictionary.{Dictionary, IsDictionary}
use Rattle.dia_dict.proofs.Copies.{few_copied, dictionary_copied}
use Rattle.dia_dict.proofs.plain_book.PlainBookClone.clone.Goals as goal

pub invariant_of-result : goal.invariant_of-result
invariant_of-result c =
    let old = c.args.self.now in
    let rows = old.entries.rows.items in
    let groups = old.entries.groups.items in
    let commands = old.commands.items in
    let entries = c.in_ok-clone.ensures.cases in
    let alike = c.in_ok-clone-2.ensures.cases.0 in
    record {
      few = few_copied rows c.in_ok-clone.field-0.rows.items groups c.in_ok-clone.field-0.groups.items commands c.in_ok-clone-2.field-0.items entries alike old.few;
      sound = subst (λ (d : Dictionary). ∥ IsDictionary d ∥₁)
          (sym (dictionary_copied rows c.in_ok-clone.field-0.rows.items groups c.in_ok-clone.field-0.groups.items commands c.in_ok-clone-2.field-0.items entries alike)) old.sound;
    }

pub returns : goal.returns
returns c =
    let old = c.args.self.now in
    record {
      cases = dictionary_copied old.entries.rows.items c.in_ok-clone.field-0.rows.items old.entries.groups.items c.in_ok-clone.field-0.groups.items
          old.commands.items c.in_ok-clone-2.field-0.items c.in_ok-clone.ensures.cases c.in_ok-clone-2.ensures.cases.0;
    }
