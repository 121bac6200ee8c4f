use Rattle.std.proofs.Common.{ℕ, Some, arith, sym, ap, ◌∙◌}
use Rattle.std.specs.Option.{option_map}
use Rattle.dia_answer.specs.Dictionaries.{grouped_failed}
use Rattle.dia_answer.proofs.OctetsLookups.{entries_many, low, hidden_group_here, other_group_here}
use Rattle.dia_answer.proofs.opaque.OpaqueBook.group.Goals as goal

pub group-requires : goal.group-requires
group-requires g c = let d = g.B.Book.meaning c.args.self.now.book.now in omega (arith, c.requires, entries_many d (grouped_failed d))

pub returns-then-hides : goal.returns-then-hides
returns-then-hides g c = hidden_group_here (g.B.Book.meaning c.args.self.now.book.now) c.args.self.now.hidden c.args.self.now.placed c.args.entry (sym c.hides.ensures ∙ c.if-hides.true)

pub returns-in_err-group : goal.returns-in_err-group
returns-in_err-group g c =
    c.from_residual.ensures ∙ ap (option_map (low c.args.self.now.hidden)) (sym c.in_err-group.was ∙ c.group.ensures)
    ∙ other_group_here (g.B.Book.meaning c.args.self.now.book.now) c.args.self.now.hidden c.args.self.now.placed c.args.entry (sym c.hides.ensures ∙ c.if-hides.false)

pub returns : goal.returns
returns g c =
    ap (λ (n : ℕ). Some n) c.lowered.ensures ∙ ap (option_map (low c.args.self.now.hidden)) (sym c.in_ok-group.was ∙ c.group.ensures)
    ∙ other_group_here (g.B.Book.meaning c.args.self.now.book.now) c.args.self.now.hidden c.args.self.now.placed c.args.entry (sym c.hides.ensures ∙ c.if-hides.false)
