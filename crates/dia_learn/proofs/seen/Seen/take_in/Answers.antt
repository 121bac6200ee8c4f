use Rattle.std.proofs.Common.{[]}
use Rattle.dia_learn.proofs.Messages.{body_fits, no_levels, no_message, on_ok}
use Rattle.dia_learn.proofs.seen.Seen.take_in.Goals as goal

pub returns-in-Ok : goal.returns-in-Ok
returns-in-Ok g c = on_ok c.take_body.result c.take_body.ensures (λ made ls kept. made c.args.bytes.now c.in-Ok.ensures.head c.in-Ok.ensures.long c.in-Ok.ensures.body ls kept)

pub returns-in-Err : goal.returns-in-Err
returns-in-Err g c = λ ls kept. (
  [],
  no_levels (g.B.Book.meaning c.args.book.now) c.args.bytes.now (λ h is_head sound. absurd (no_message c.args.bytes.now _ c.in-Err.ensures.short c.in-Err.ensures.version
      c.in-Err.ensures.length_fault c.in-Err.ensures.truncated c.in-Err.ensures.trailing h is_head sound)),
  kept,
)

pub take_body-requires : goal.take_body-requires
take_body-requires g c = body_fits c.args.bytes.now c.in-Ok.body.now c.in-Ok.ensures.body c.in-Ok.ensures.bounded
