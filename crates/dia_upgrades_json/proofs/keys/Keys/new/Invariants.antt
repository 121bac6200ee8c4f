use Rattle.dia_upgrades_json.proofs.Kept.{AreKept}
use Rattle.dia_upgrades_json.proofs.keys.Keys.new.Given as goal

abbrev pub invariant-loop-index : goal.invariant-loop-index
invariant-loop-index g l = AreKept (g.B.Book.meaning l.book).entries l.index l.keys
