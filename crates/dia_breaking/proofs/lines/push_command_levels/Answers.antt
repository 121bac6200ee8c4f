use Rattle.std.proofs.Common.{Vec, Global, List, Some, [], map, sym, ap, ◌∙◌, arith}
use Rattle.std.specs.Prelude.{slice_get}
use Rattle.std.specs.Option.{option_map, option_map_or}
use Rattle.std.proofs.lemmas.List.{length-map}
use Rattle.std.proofs.lemmas.Option.{slice_get-map}
use Rattle.dia_breaking_levels.specs.declared.line.Line.{Line as LevelLine}
use Rattle.dia_breaking.specs.Listing.{command_levels}
use Rattle.dia_breaking.proofs.Lists.{at_place}
use Rattle.dia_breaking.proofs.RecordedLists.{adds_at, adds_none, adds_part, adds_each}
use Rattle.dia_breaking.proofs.lines.push_command_levels.Goals as goal

pub loop-site-init : goal.loop-site-init
loop-site-init c = adds_none c.args.lines.now.items

pub loop-site-preserved : goal.loop-site-preserved
loop-site-preserved c =
    let levels = c.args.start.now.levels.items in
    let site = c.loop-site.site in
    let items = λ (found : Vec LevelLine Global). found.items in
    let at = slice_get-map items levels site ∙ ap (option_map items) (ap (λ (xs : List (Vec LevelLine Global)). slice_get xs site) (sym c.deref-found-items.ensures.value)
    ∙ at_place c.deref-found-items.result.now site c.found-item.result (omega arith) c.found-item.is)
    ∙ ap (λ (ls : List LevelLine). Some ls) (sym c.deref.ensures.value) in
    adds_part (λ k. option_map_or (command_levels k) (slice_get (map items levels) k) []) site _ _ _ c.loop-site.invariant
    (adds_at (command_levels site) (map items levels) site c.deref.result.now _ _ at c.in_ok-push_level_lines.ensures)

pub returns : goal.returns
returns c =
    adds_each command_levels (map (λ found. found.items) c.args.start.now.levels.items) c.loop-site.site _ _
    (omega (arith, length-map c.args.start.now.levels.items (λ found. found.items))) c.loop-site.invariant
