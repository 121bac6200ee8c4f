-- The sites and the lines by a walk are a listing.
use Rattle.std.proofs.Common.{◌≡◌, ℕ, List, Option, ◌++◌, length, is_some, unwrap_or, ap, subst, ◌∙◌}
use Rattle.dia_book.specs.Dictionary.{Dictionary}
use Rattle.dia_breaking_ways.specs.declared.graph.Step.{Step}
use Rattle.dia_breaking_ways.specs.declared.graph.Reach.{Reach}
use Rattle.dia_breaking.specs.declared.line.Site.{Site}
use Rattle.dia_breaking.specs.Listing.{Recorded, Basis, Listed, IsWalkFrom, IsListingOf, start_of, numbers}
use Rattle.dia_breaking.specs.Orders.{IsInOrderOf}
use Rattle.dia_breaking.specs.Sites.{command_sites, group_sites}

pub listing_of : (listed : Listed) (db : Dictionary) (basis : Basis) (first : Option ℕ) (number count : ℕ) (sites : List Site) (steps : List Step) (reached : List (Option Reach)) (all : List Site) (recorded : List Recorded)
    → first ≡ start_of db basis → number ≡ unwrap_or first 0 → count ≡ length basis.readings → sites ≡ command_sites db basis.head basis.readings → IsWalkFrom (is_some first) basis.graph steps reached
    → all ≡ sites ++ group_sites basis.own number count steps → IsInOrderOf (λ (line : Recorded). line.site) (listed db basis (numbers number count) steps reached) recorded → IsListingOf listed db basis all recorded
listing_of listed db basis first number count sites steps reached all recorded first_is number_is count_is sites_are walk all_is order =
    let at = unwrap_or (start_of db basis) 0 in
    let own = command_sites db basis.head basis.readings in
    let is : number ≡ at = number_is ∙ ap (λ (o : Option ℕ). unwrap_or o 0) first_is in
    record {
      steps = steps;
      reached = reached;
      is_walk = subst (λ (o : Option ℕ). IsWalkFrom (is_some o) basis.graph steps reached) first_is walk;
      sites_are = all_is ∙ ap (λ (xs : List Site). xs ++ group_sites basis.own number count steps) sites_are
          ∙ ap (λ m. own ++ group_sites basis.own m count steps) is ∙ ap (λ m. own ++ group_sites basis.own at m steps) count_is;
      lines_are = subst (λ m. IsInOrderOf (λ (line : Recorded). line.site) (listed db basis (numbers at m) steps reached) recorded) count_is
          (subst (λ m. IsInOrderOf (λ (line : Recorded). line.site) (listed db basis (numbers m count) steps reached) recorded) is order);
    }
