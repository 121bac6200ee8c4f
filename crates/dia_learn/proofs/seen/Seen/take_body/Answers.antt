use Rattle.std.proofs.Common.{[], sym}
use Rattle.dia_learn.proofs.Messages.{are_levels, levels_of, no_command, on_ok}
use Rattle.dia_learn.proofs.seen.Seen.take_body.Goals as goal

pub returns-in-Some : goal.returns-in-Some
returns-in-Some g c = on_ok c.take_levels.result c.take_levels.ensures (λ made bytes is_head sound body ls kept.
    let (more, are, now) = made ls kept in (
      more,
      levels_of (g.B.Book.meaning c.args.book.now) bytes c.args.header.now is_head sound c.in-Some.def (sym (rw c.class_of-class.ensures at c.in-Some.ensures)) more
          (are_levels (g.B.Book.meaning c.args.book.now) more (rw c.class_of-class.ensures at c.command_place-place.ensures) body are),
      now,
    ))

pub returns-in-None : goal.returns-in-None
returns-in-None g c = λ bytes is_head sound body ls kept. (
  [],
  no_command (g.B.Book.meaning c.args.book.now) bytes c.args.header.now is_head (sym (rw c.class_of-class.ensures at c.in-None.ensures)),
  kept,
)
