use Rattle.std.proofs.Common.{ap, sym, ◌∙◌}
use Rattle.dia_mask_text.specs.Names.{lists}
use Rattle.dia_mask_text.specs.Naming.{fault_of}
use Rattle.dia_mask_text.proofs.choosing.choice_of.Goals as goal

pub returns-in-Some-clause-refused : goal.returns-in-Some-clause-refused
returns-in-Some-clause-refused g c =
    sym (c.first_bad.ensures (lists c.args.options.now) (g.B.Book.meaning c.args.book.now) c.in_ok-lists.ensures c.in_ok-known.ensures) ∙ ap fault_of c.in-Some.is

pub returns-clause-choice : goal.returns-clause-choice
returns-clause-choice g c = record {
  none_refused = sym (c.first_bad.ensures (lists c.args.options.now) (g.B.Book.meaning c.args.book.now) c.in_ok-lists.ensures c.in_ok-known.ensures) ∙ ap fault_of c.in-None.is;
  chosen = c.in_ok-choice-in-None.ensures (lists c.args.options.now) c.in_ok-lists.ensures;
}
