use Rattle.dia_breaking_ways.specs.Stages.{HaveLevels, graph_in}
use Rattle.dia_breaking_ways.specs.Walks.{AreLevelsShorter}
use Rattle.dia_breaking_ways.proofs.Rounds.{IsOnTheWay}
use Rattle.dia_breaking_ways.proofs.walking.settle.Given as goal

abbrev pub invariant-loop : goal.invariant-loop
invariant-loop l = HaveLevels (graph_in l.ways) l.steps.items × ((shorter : AreLevelsShorter (graph_in l.ways)) → IsOnTheWay (graph_in l.ways) shorter l.counter l.steps.items)
