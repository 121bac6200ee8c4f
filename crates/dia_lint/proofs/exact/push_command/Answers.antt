use Rattle.std.proofs.Common.{ℕ, ◌+◌, length, ap, ◌∙◌}
use Rattle.dia_book.specs.Dictionary.{groups}
use Rattle.dia_lint.specs.ExactLines.{definition_lines, message_lines}
use Rattle.dia_lint.specs.Ways.{side_of, way_in}
use Rattle.dia_lint.proofs.ExactLists.{both_added}
use Rattle.dia_lint.proofs.exact.push_command.Goals as goal

pub returns : goal.returns
returns g c =
    let s = side_of g.B.Book.meaning c.args.lengths.now in
    let r = c.args.reached.now in
    let i = c.args.index in
    let n = length (groups s.book) + i in
    let number = c.command_at-def.ensures.number in
    let way = c.way.ensures ∙ ap (λ (k : ℕ). way_in r (k + i)) c.entries.ensures.count in
    both_added c.args.found.now.items c.push.new.found.items c.push_reached.new.found.items _ (definition_lines s c.command_at-def.result c.way.result) (message_lines s n)
    (definition_lines s n (way_in r (length s.book.entries + i))) c.push_reached.result c.in_ok-push.ensures (c.no_message.ensures ∙ ap (message_lines s) number) c.push_reached.ensures
    (ap (λ (k : ℕ). definition_lines s k c.way.result) number ∙ ap (definition_lines s n) way)
