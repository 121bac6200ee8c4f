use Rattle.std.proofs.Common.{◌≡◌, ℕ, length, subst, arith}
use Rattle.dia_lint.specs.Firsts.{AreFirstOf}
use Rattle.dia_lint.proofs.FirstRequests.{next_first, start_first}
use Rattle.dia_lint.proofs.guidelines.firsts.first_of_each.Goals as goal

pub loop-index-init : goal.loop-index-init
loop-index-init g c = start_first (g.B.Book.meaning c.args.book.now) c.args.which c.definitions.result c.in_ok-list.list.items c.definitions.ensures c.in_ok-list.ensures

pub loop-index-preserved : goal.loop-index-preserved
loop-index-preserved g c =
    next_first (g.B.Book.meaning c.args.book.now) c.args.which c.loop-index.index c.see.new.list.items
    (c.see.ensures c.loop-index.index c.command_at.ensures.number c.loop-index.invariant)

pub returns : goal.returns
returns g c =
    let d = g.B.Book.meaning c.args.book.now in
    let end : c.loop-index.index ≡ length d.commands = omega arith in
    subst (λ (n : ℕ). AreFirstOf d c.args.which n c.loop-index.list.items) end c.loop-index.invariant
