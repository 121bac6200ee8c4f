use Rattle.std.specs.Prelude.{All}
use Rattle.dia_breaking.specs.Sender.{costs_of, sender_in}
use Rattle.dia_breaking.specs.TheLines.{HasLevelLines}
use Rattle.dia_breaking.proofs.FoundExits.{AreFirstOutlooks}
use Rattle.dia_breaking.proofs.exits.outlooks.Given as goal

abbrev pub invariant-loop-own : goal.invariant-loop-own
invariant-loop-own g l =
    let da = sender_in l.lengths in
    let db = g.B.Book.meaning l.b in
    let k = costs_of l.lengths in
    All (HasLevelLines da db k) l.outlooks.items × AreFirstOutlooks da db l.recording k l.own-index l.outlooks.items
