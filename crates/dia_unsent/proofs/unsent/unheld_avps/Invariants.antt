use Rattle.std.proofs.Common.{◌≡◌, map}
use Rattle.std.specs.Prelude.{All}
use Rattle.dia_breaking.specs.Upgrades.{costs_in, sides_of}
use Rattle.dia_unsent.specs.Unsent.{Describes, unheld}
use Rattle.dia_unsent.proofs.unsent.unheld_avps.Given as goal

abbrev pub invariant-loop-index : goal.invariant-loop-index
invariant-loop-index g l =
    record {
      exactly : map (λ avp. avp.entry) l.avps.items ≡ unheld l.held l.index;
      each : All (Describes (sides_of l.upgrade) (costs_in l.upgrade)) l.avps.items;
    }
