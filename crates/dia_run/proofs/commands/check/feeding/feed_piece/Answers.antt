use Rattle.std.proofs.Common.{◌≡◌, length, take, subst, ◌∙◌, arith}
use Rattle.std.proofs.lemmas.List.{length-take-le}
use Rattle.dia_check.specs.Streaming.{taken_of}
use Rattle.dia_check.specs.Streams.{Denotes}
use Rattle.dia_run.proofs.FedTexts.{takes_more, follows_again, follows_now}
use Rattle.dia_run.proofs.commands.check.feeding.feed_piece.Goals as goal
use Rattle.dia_run.proofs.commands.check.feeding.feed_piece.Goals.{then-fed, else-fed}

pub returns-clause-fed : goal.returns-clause-fed
returns-clause-fed g c =
    let progress = c.in-Ok.progress in
    let piece = take c.in_ok-piece.piece.length c.next_piece.new.bytes in
    let size : length piece ≡ c.in_ok-piece.piece.length = length-take-le c.in_ok-piece.piece.length c.next_piece.new.bytes (omega (arith, c.next_piece.array_long, c.in_ok-piece.ensures.within)) in (
      piece,
      c.in_ok-piece.ensures.spells,
      c.in_ok-extend_from_slice.ensures.items,
      λ d u most bytes was.
          let (takes, occurs) = c.in-Ok.ensures.taken d u most (taken_of bytes) was.occurs in record {
            occurs = subst (Denotes g.B.Book.meaning c.feed.new.self d u most) (takes_more bytes piece progress takes) occurs;
            follow = elim c.if-fed.branch [
              | then-fed w ↦ follows_again bytes piece progress c.if-fed.result takes (was.follow.0 w.if-fed.true) (w.result-is ∙ w.if-fed.true)
              | else-fed w ↦ follows_now bytes piece progress c.args.fed.trailing c.if-fed.result c.in_ok-piece.piece.length takes was.follow w.if-fed.false size w.result-is
            ];
          },
    )
