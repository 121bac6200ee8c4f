use Rattle.std.proofs.Common.{◌≡◌, List, Option, ◌++◌, map, refl, ap, subst, ◌∙◌}
use Rattle.dia_breaking_ways.specs.declared.graph.Reach.{Reach}
use Rattle.dia_breaking.specs.declared.line.Line.{Line}
use Rattle.dia_breaking.specs.declared.line.Cause.TheVariants as causes
use Rattle.dia_breaking.specs.declared.line.Standing.TheVariants.{Unchecked}
use Rattle.dia_breaking.specs.declared.own_lines.Kind.TheVariants as kinds
use Rattle.dia_breaking.specs.Listing.{Recorded, records, new_line, own_lines}
use Rattle.dia_breaking.specs.Orders.{IsInOrderOf}
use Rattle.dia_breaking.proofs.InOrder.{image_in_order}
use Rattle.dia_breaking.proofs.Lists.{none_of}
use Rattle.dia_breaking.proofs.Unchecked.{unchecked_in_order}
use Rattle.dia_breaking.proofs.upgrade.Upgrade.meanings_by.Goals as goal

pub returns : goal.returns
returns g c =
    let own = c.args.self.now.own.items in
    let numbers = c.args.numbers in
    let all = own_lines kinds.Meaning numbers.first numbers.count own c.args.walk.now.reached.items in
    let adds = c.in_ok-push_own_lines.ensures.recorded
    ∙ ap (λ (ways : List (Option Reach)). map records c.new-meanings.result.items ++ own_lines kinds.Meaning numbers.first numbers.count own ways) c.deref.ensures.value in
    record {
      recorded = subst (λ recorded. IsInOrderOf (λ (line : Recorded). line.site) recorded (map records c.sort_by_site.new.lines.items))
          (adds ∙ ap (λ (lines : List Line). map records lines ++ all) c.new-meanings.ensures.items)
          (image_in_order records (λ (line : Line). line.site) (λ (line : Recorded). line.site) (λ x. refl) (new_line 0 causes.Command 0) _ _ c.in_ok-sort_by_site.ensures);
      unchecked = unchecked_in_order c.push_own_lines.new.lines.items c.sort_by_site.new.lines.items c.in_ok-sort_by_site.ensures
          (c.in_ok-push_own_lines.ensures.unchecked (none_of (λ (line : Line). line.standing ≡ Unchecked) c.new-meanings.result.items c.new-meanings.ensures.items));
    }
