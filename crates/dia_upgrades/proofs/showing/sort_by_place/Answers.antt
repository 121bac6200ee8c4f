use Rattle.std.proofs.Common.{rules, refl}
use Rattle.dia_breaking.specs.declared.line.Cause.TheVariants as causes
use Rattle.dia_breaking.specs.Listing.{new_line}
use Rattle.dia_breaking.proofs.InOrder.{in_order}
use Rattle.dia_upgrades.specs.Recorded.{place_of}
use Rattle.dia_upgrades.proofs.showing.sort_by_place.Goals as goal

pub returns : goal.returns
returns c = in_order place_of (λ n. new_line n causes.Command 0) (λ n. refl) _ _ c.in_ok-sort_by_key.ensures.sorted c.sort_by_key.ensures.stable (λ a r q k. search rules)
