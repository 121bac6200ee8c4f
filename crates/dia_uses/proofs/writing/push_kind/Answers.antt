use Rattle.std.proofs.Common.{string_bytes, arith}
use Rattle.dia_uses.specs.Kinds.{is_kind}
use Rattle.dia_uses.specs.Lines.{line_at}
use Rattle.dia_uses.proofs.LineLoops.{more_places}
use Rattle.dia_uses.proofs.writing.push_kind.Goals as goal

pub loop-place-preserved : goal.loop-place-preserved
loop-place-preserved g c =
    let asked = c.args.asked.now in
    more_places (line_at asked.json (g.B.Book.meaning asked.book.now) (is_kind c.args.kind) asked.key) c.args.reached.now c.loop-place.place c.index-reached-place.result (string_bytes c.args.out.now)
    (string_bytes c.loop-place.out) (string_bytes c.push_place.new.out) (omega (arith, c.loop-place-test.true)) c.index-reached-place.is c.loop-place.invariant c.in_ok-push_place.ensures
