-- What a walk through a dictionary's definitions shows.
use Rattle.std.proofs.Common.{◌≡◌, ◌<◌, ◌≤◌, ◌^◌, List, length, map, Option, sym, ap, subst, ◌∙◌, arith}
use Rattle.std.specs.Prelude.{All}
use Rattle.std.proofs.lemmas.List.Elements.{All-map, All-same}
use Rattle.std.proofs.lemmas.Option.{slice_get_within}
use Rattle.dia_book.specs.Dictionary.{Dictionary, IsDictionary, definitions}
use Rattle.dia_book.specs.Limits.{max_parts}
use Rattle.dia_book.proofs.Members.{All-from_places}
use Rattle.dia_breaking_ways.specs.declared.graph.Exits.{Exits}
use Rattle.dia_breaking_ways.specs.declared.graph.Node.{Node}
use Rattle.dia_breaking_ways.specs.declared.graph.Reach.{Reach}
use Rattle.dia_breaking_ways.specs.declared.graph.Step.{Step}
use Rattle.dia_breaking_ways.specs.Walks.{AreLevelsShorter, Graph, IsWalk, PlainExits, PlainNode, graph_of, plain_exits, plain_node}
use Rattle.dia_places.specs.declared.graph.Reached.{Reached}
use Rattle.dia_places.specs.Graph.{graph_in, node_by}
use Rattle.dia_places.specs.Paths.{ArePaths}
use Rattle.dia_places.specs.Records.{paths_of, reached_by}
use Rattle.dia_places.proofs.Graphs.{levels_shorter}
use Rattle.dia_places.proofs.Numbers.{small}
use Rattle.dia_places.proofs.Steps.{is_within}
use Rattle.dia_places.proofs.Walked.{are_paths}

module _ (d : Dictionary) (sound : IsDictionary d) (nodes : List Node) (start : Exits) (same_nodes : map plain_node nodes ≡ map (node_by d) (definitions d)) (same_start : plain_exits start ≡ (graph_in d).start) where
  graph_is : graph_of nodes start max_parts ≡ graph_in d
  graph_is =
      ap (λ (ns : List PlainNode). record { nodes = ns; start = plain_exits start; room = max_parts }) same_nodes
      ∙ ap (λ (exits : PlainExits). record { nodes = map (node_by d) (definitions d); start = exits; room = max_parts }) same_start

  pub found : AreLevelsShorter (graph_of nodes start max_parts)
  found = subst AreLevelsShorter (sym graph_is) (levels_shorter d)

  module _ (steps : List Step) (ways : List (Option Reach)) (walk : IsWalk (graph_of nodes start max_parts) steps ways) where
    own : IsWalk (graph_in d) steps ways
    own = subst (λ (graph : Graph). IsWalk graph steps ways) graph_is walk

    pub numbers : All (λ (step : Step). step.place < 2 ^ 32) steps
    numbers = All-from_places (λ (step : Step). step.place < 2 ^ 32) steps (λ i s at.
        let def = is_within d steps ways own i s at in
        let inside : s.place < length (definitions d) = slice_get_within (definitions d) s.place def.0 def.1 in
        let few : length (definitions d) ≤ max_parts = small d sound in
        omega arith)

    pub walked : (reached : List Reached) → reached ≡ map reached_by steps → ArePaths d (paths_of reached)
    walked reached is = subst (λ (rs : List Reached). ArePaths d (paths_of rs)) (sym is) (are_paths d (small d sound) steps ways own)

    pub within : (reached : List Reached) → reached ≡ map reached_by steps → All (λ (r : Reached). r.def < length (definitions d)) reached
    within reached is =
        All-same (λ (r : Reached). r.def < length (definitions d)) reached (map reached_by steps) is
        (All-map (λ (r : Reached). r.def < length (definitions d)) reached_by steps (All-from_places (λ (step : Step). step.place < length (definitions d)) steps (λ i s at.
        let def = is_within d steps ways own i s at in slice_get_within (definitions d) s.place def.0 def.1)))
