use Rattle.dia_breaking_ways.specs.Offers.{AreOffered}
use Rattle.dia_breaking_ways.proofs.offers.offer_listed.Given as goal

abbrev pub invariant-loop-place : goal.invariant-loop-place
invariant-loop-place l = AreOffered l.initial.best.items l.best.items l.room l.level l.way l.wild l.listed l.place-index
