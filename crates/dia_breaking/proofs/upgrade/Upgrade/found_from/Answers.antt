use Rattle.std.proofs.Common.{map, ap, subst, ◌∙◌}
use Rattle.std.specs.Prelude.{length}
use Rattle.dia_breaking.specs.Listing.{IsWalkFrom, lines_of, meanings_of, records}
use Rattle.dia_breaking.specs.Sites.{command_sites, first_read}
use Rattle.dia_breaking.specs.Upgrades.{basis_for, sides_of}
use Rattle.dia_breaking.proofs.Listings.{listing_of}
use Rattle.dia_breaking.proofs.Lists.{when_two}
use Rattle.dia_breaking.proofs.upgrade.Upgrade.found_from.Goals as goal

pub walk_from-requires : goal.walk_from-requires
walk_from-requires g c = (c.args.command, c.requires.start)

pub returns-clause-listing : goal.returns-clause-listing
returns-clause-listing g c =
    let up = c.args.self.now in
    let db = (sides_of up).receiver in
    let start = c.args.start.now in
    let basis = basis_for up start in
    let walk = c.in_ok-walk.walk in
    let first = c.first_read-first.result in
    let here = subst (λ begins. IsWalkFrom begins basis.graph walk.steps.items walk.reached.items) c.is_some.ensures c.in_ok-walk.ensures in
    let sites = c.in_ok-sites.ensures ∙ ap (λ readings. command_sites db start.head readings) c.deref.ensures.value in
    when_two _ _ _ c.found_by.result (λ breaks at recorded.
    listing_of lines_of db basis first c.unwrap_or.result c.count_of.result c.in_ok-sites.sites.items walk.steps.items walk.reached.items breaks.sites.items (map records breaks.lines.items)
    (c.first_read-first.ensures ∙ ap first_read (c.deref-2.ensures.value ∙ sites)) c.unwrap_or.ensures (c.count_of.ensures ∙ ap length c.deref-3.ensures.value) sites here at recorded)
    c.found_by.ensures.sites c.found_by.ensures.lines

pub returns-clause-meanings : goal.returns-clause-meanings
returns-clause-meanings g c =
    let up = c.args.self.now in
    let db = (sides_of up).receiver in
    let start = c.args.start.now in
    let basis = basis_for up start in
    let walk = c.in_ok-walk.walk in
    let first = c.first_read-first.result in
    let here = subst (λ begins. IsWalkFrom begins basis.graph walk.steps.items walk.reached.items) c.is_some.ensures c.in_ok-walk.ensures in
    let sites = c.in_ok-sites.ensures ∙ ap (λ readings. command_sites db start.head readings) c.deref.ensures.value in
    when_two _ _ _ c.found_by.result (λ breaks at recorded.
    listing_of meanings_of db basis first c.unwrap_or.result c.count_of.result c.in_ok-sites.sites.items walk.steps.items walk.reached.items breaks.sites.items (map records breaks.meanings.items)
    (c.first_read-first.ensures ∙ ap first_read (c.deref-2.ensures.value ∙ sites)) c.unwrap_or.ensures (c.count_of.ensures ∙ ap length c.deref-3.ensures.value) sites here at recorded)
    c.found_by.ensures.sites c.found_by.ensures.meanings
