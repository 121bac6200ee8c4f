use Rattle.std.proofs.Common.{◌≡◌, false, true, sym, ◌∙◌}
use Rattle.dia_lint.proofs.SameCommands.{alike_beside, none_beside, unlike_beside}
use Rattle.dia_lint.proofs.same_commands.same_command.Goals as goal

pub returns-then-branch : goal.returns-then-branch
returns-then-branch g c =
    alike_beside (g.B.Book.meaning c.args.book.now) (g.met.B.Book.sound c.args.book.now) c.args.def c.in-Some.other c.rules_of.result.now c.rules_of-in-Some.result.now (sym c.in-Some.ensures.beside)
    c.rules_of.ensures c.rules_of-in-Some.ensures (c.in_ok-are_alike-in-Some.ensures.0 c.if-branch.true)

pub returns-else-branch : goal.returns-else-branch
returns-else-branch g c =
    unlike_beside (g.B.Book.meaning c.args.book.now) (g.met.B.Book.sound c.args.book.now) c.args.def c.in-Some.other c.rules_of.result.now c.rules_of-in-Some.result.now (sym c.in-Some.ensures.beside)
    c.rules_of.ensures c.rules_of-in-Some.ensures
    (λ alike. absurd (let f : true ≡ false = sym (c.in_ok-are_alike-in-Some.ensures.1 alike) ∙ c.if-branch.false in cc))

pub returns-in-None : goal.returns-in-None
returns-in-None g c = none_beside (g.B.Book.meaning c.args.book.now) (g.met.B.Book.sound c.args.book.now) c.args.def (sym c.in-None.ensures.beside)
