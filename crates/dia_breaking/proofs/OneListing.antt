-- From one basis there is one list of sites, and one of lines.
use Rattle.std.proofs.Common.{◌≡◌, Bool, true, false, List, Option, sym, ap, subst, ◌∙◌, is_some, unwrap_or, length}
use Rattle.dia_book.specs.Dictionary.{Dictionary}
use Rattle.dia_breaking_ways.specs.Walks.{Graph}
use Rattle.dia_breaking_ways.specs.declared.graph.Step.{Step}
use Rattle.dia_breaking_ways.specs.declared.graph.Reach.{Reach}
use Rattle.dia_breaking_ways.proofs.OneWalk.{one_walk}
use Rattle.dia_breaking.specs.declared.line.Site.{Site}
use Rattle.dia_breaking.specs.Listing.{Recorded, Basis, Listed, IsWalkFrom, IsListingOf, start_of, sites_of, numbers}
use Rattle.dia_breaking.specs.Orders.{IsInOrderOf}
use Rattle.dia_breaking.proofs.InOrder.{one_in_order}

one_from : (begins : Bool) (graph : Graph) (steps others : List Step) (reached ways : List (Option Reach)) → IsWalkFrom begins graph steps reached → IsWalkFrom begins graph others ways
    → (steps ≡ others) × (reached ≡ ways)
one_from true graph steps others reached ways first second = one_walk graph steps others reached ways first second
one_from false graph steps others reached ways first second = (first.0 ∙ sym second.0, first.1 ∙ sym second.1)

pub one_listing : (listed : Listed) (db : Dictionary) (basis : Basis) (sites others : List Site) (recorded lines : List Recorded) → IsListingOf listed db basis sites recorded → IsListingOf listed db basis others lines
    → (sites ≡ others) × (recorded ≡ lines)
one_listing listed db basis sites others recorded lines first second =
    let at = unwrap_or (start_of db basis) 0 in
    let same = one_from (is_some (start_of db basis)) basis.graph first.steps second.steps first.reached second.reached first.is_walk second.is_walk in
    let number = λ (line : Recorded). line.site in (
      first.sites_are ∙ ap (sites_of db basis at (length basis.readings)) same.0 ∙ sym second.sites_are,
      one_in_order number (listed db basis (numbers at (length basis.readings)) second.steps second.reached) recorded lines
          (subst (λ (ways : List (Option Reach)). IsInOrderOf number (listed db basis (numbers at (length basis.readings)) second.steps ways) recorded) same.1
          (subst (λ (steps : List Step). IsInOrderOf number (listed db basis (numbers at (length basis.readings)) steps first.reached) recorded) same.0 first.lines_are))
          second.lines_are,
    )
