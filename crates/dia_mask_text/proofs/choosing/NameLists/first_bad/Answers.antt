use Rattle.std.proofs.Common.{Option, ap, ◌∙◌}
use Rattle.std.specs.Option.{option_or}
use Rattle.dia_mask_text.specs.declared.choosing.BadName.{BadName}
use Rattle.dia_mask_text.specs.Names.{fault_by, fault_in, names_of}
use Rattle.dia_mask_text.specs.Naming.{fault_of}
use Rattle.dia_mask_text.proofs.Naming.{first_listed, first_of_lists}
use Rattle.dia_mask_text.proofs.choosing.NameLists.first_bad.Goals as goal

pub returns : goal.returns
returns c = λ l d are known.
    let names = c.args.self.now in
    let a = c.first_unfit.result in
    let b = c.first_unfit-2.result in
    let m = c.first_unfit-3.result in
    let e = c.first_twice.result in
    ap fault_of (c.or-3.ensures ∙ ap (λ (o : Option BadName). option_or o e) (c.or-2.ensures ∙ ap (λ (o : Option BadName). option_or o m) c.or.ensures))
    ∙ first_of_lists (fault_in d) (fault_by l.keep) (names_of l.only) (names_of l.keep) (names_of l.mask) a b m e
    (first_listed (fault_in d) c.deref.result.now names.only.names.items l.only a (c.first_unfit.ensures d known) c.deref.ensures.value are.only.are_names)
    (first_listed (fault_in d) c.deref-2.result.now names.keep.names.items l.keep b (c.first_unfit-2.ensures d known) c.deref-2.ensures.value are.keep.are_names)
    (first_listed (fault_in d) c.deref-3.result.now names.mask.names.items l.mask m (c.first_unfit-3.ensures d known) c.deref-3.ensures.value are.mask.are_names)
    (first_listed (fault_by l.keep) c.deref-4.result.now names.mask.names.items l.mask e (c.first_twice.ensures l.keep are.keep) c.deref-4.ensures.value are.mask.are_names)
