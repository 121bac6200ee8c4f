use Rattle.std.proofs.Common.{ℕ, Some, sym, ap, ◌∙◌}
use Rattle.std.specs.Option.{option_map}
use Rattle.dia_answer.proofs.OctetsLookups.{low, select_here}
use Rattle.dia_answer.proofs.opaque.OpaqueBook.select.Goals as goal

pub returns-in_err-def : goal.returns-in_err-def
returns-in_err-def g c =
    c.from_residual.ensures ∙ ap (option_map (low c.args.self.now.hidden)) (sym c.in_err-def.was ∙ c.select.ensures) ∙ select_here (g.B.Book.meaning c.args.self.now.book.now) c.args.self.now.hidden c.args.self.now.placed c.args.code c.args.class c.args.app

pub returns : goal.returns
returns g c =
    ap (λ (n : ℕ). Some n) c.lowered.ensures ∙ ap (option_map (low c.args.self.now.hidden)) (sym c.in_ok-def.was ∙ c.select.ensures)
    ∙ select_here (g.B.Book.meaning c.args.self.now.book.now) c.args.self.now.hidden c.args.self.now.placed c.args.code c.args.class c.args.app
