use Rattle.std.proofs.Common.{◌≡◌, ℕ, List, [], Option, take, true}
use Rattle.std.specs.Prelude.{IsTrue}
use Rattle.dia_accepted.specs.Accepted.{PlainEntry}
use Rattle.dia_breaking.specs.Confirmed.{most_checked_together}
use Rattle.dia_breaking.specs.Upgrades.{facts_of, sides_of, stock_of}
use Rattle.dia_upgrades.specs.Places.{IsEachNew}
use Rattle.dia_upgrades.specs.UnderWay.{IsUnderWay}
use Rattle.dia_upgrades.proofs.Commands.{AreSome}
use Rattle.dia_upgrades.proofs.lines.put_commands.Given as goal

abbrev pub invariant-loop-place : goal.invariant-loop-place
invariant-loop-place g l = record {
  sound : ¬ IsTrue (g.S.Sink.has_failed l.sink);
  some : (list : List PlainEntry) (begun : Option (List ℕ)) (place : ℕ) → (l.forgets ≡ true → IsEachNew l.places) → l.initial.listing.budget ≡ most_checked_together
      → IsUnderWay (g.W.LineWriter.writes l.writer) l.asked l.forgets list place 0 begun (g.S.Sink.written l.initial.sink) l.initial.listing [] []
      → AreSome (g.W.LineWriter.writes l.writer) (sides_of l.upgrade) (stock_of l.upgrade) l.asked (facts_of l.upgrade).lengths l.forgets list begun (take l.place-index l.places) (g.S.Sink.written l.sink) l.listing;
}
