use Rattle.std.proofs.Common.{◌≡◌, false, true, List, ap, map, sym, subst, ◌∙◌}
use Rattle.std.specs.Prelude.{is_some}
use Rattle.std.proofs.Math.Logic.{∥∥₁_elim}
use Rattle.dia_valid.specs.Rules.{rules_in}
use Rattle.dia_breaking_sites.specs.Selection.{max_body}
use Rattle.dia_breaking_ways.specs.Walks.{AreLevelsShorter, PlainNode, plain_exits, plain_node}
use Rattle.dia_breaking.specs.Upgrades.{sides_of}
use Rattle.dia_breaking.proofs.WalkGraphs.{levels_shorter}
use Rattle.dia_breaking.proofs.upgrade.Upgrade.walk_from.Goals as goal

pub unreachable-requires : goal.unreachable-requires
unreachable-requires g c = ∥∥₁_elim c.args.self.now.known (λ a b. absurd a) (λ known.
    let up = c.args.self.now in
    let s = sides_of up in
    let exits = plain_exits c.args.start.now.exits in
    let (command, is_start) = c.requires in
    let shorter = levels_shorter s.sender s.receiver s.sends s.unknown up.lengths.entries.items up.lengths.others.items up.recording.value up.outlooks.items known.is_recording known.are_outlooks
    (rules_in s.sender command) is_start.exits exits max_body is_start.are_exits is_start.exits_are in
    let here = subst (λ (nodes : List PlainNode). AreLevelsShorter (record { nodes = nodes; start = exits; room = max_body })) (sym (ap (map plain_node) c.deref.ensures.value ∙ up.graph)) shorter in
    let some = c.in_ok-walk.ensures.found here in
    let bad : false ≡ true = sym (ap (λ o. is_some o) c.in-None.is) ∙ some in
    absurd (cc))
