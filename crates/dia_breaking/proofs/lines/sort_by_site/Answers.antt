use Rattle.std.proofs.Common.{rules, refl}
use Rattle.dia_breaking.specs.declared.line.Line.{Line}
use Rattle.dia_breaking.specs.declared.line.Cause.TheVariants as causes
use Rattle.dia_breaking.specs.Listing.{new_line}
use Rattle.dia_breaking.proofs.InOrder.{in_order}
use Rattle.dia_breaking.proofs.lines.sort_by_site.Goals as goal

pub returns : goal.returns
returns c = in_order (λ (line : Line). line.site) (λ n. new_line n causes.Command 0) (λ n. refl) _ _ c.in_ok-sort_by_key.ensures.sorted c.sort_by_key.ensures.stable (λ a r q k. search rules)
