use Rattle.std.proofs.Common.{List, Option, ◌++◌, map, refl, ap, subst, ◌∙◌}
use Rattle.std.proofs.Math.Logic.{∥∥₁_map₂}
use Rattle.dia_breaking_ways.specs.declared.graph.Reach.{Reach}
use Rattle.dia_breaking_ways.specs.declared.graph.Step.{Step}
use Rattle.dia_breaking.specs.declared.line.Line.{Line}
use Rattle.dia_breaking.specs.declared.line.Cause.TheVariants as causes
use Rattle.dia_breaking.specs.declared.own_lines.Kind.TheVariants as kinds
use Rattle.dia_breaking.specs.Listing.{Recorded, records, command_levels, group_levels, header_lines, lines_in, lines_of, new_line, own_lines}
use Rattle.dia_breaking.specs.Upgrades.{basis_for, sides_of}
use Rattle.dia_breaking.specs.Orders.{IsInOrderOf, of_each}
use Rattle.dia_breaking.proofs.FormatData.{data_in_order, found_plain, have_data, plain_lines}
use Rattle.dia_breaking.proofs.InOrder.{image_in_order}
use Rattle.dia_breaking.proofs.RecordedLists.{adds_both}
use Rattle.dia_breaking.proofs.upgrade.Upgrade.lines_by.Goals as goal

pub returns : goal.returns
returns g c =
    let up = c.args.self.now in
    let s = sides_of up in
    let basis = basis_for up c.args.start.now in
    let numbers = c.args.numbers in
    let first = numbers.first in
    let count = numbers.count in
    let steps = c.args.walk.now.steps.items in
    let reached = c.args.walk.now.reached.items in
    let all = lines_of s.receiver basis numbers steps reached in
    let recorded = of_each (header_lines s.receiver basis.head basis.base) basis.readings ++ of_each command_levels basis.levels ++ of_each (group_levels count basis.groups) steps in
    let levels = c.in_ok-push_group_levels.ensures
    ∙ ap (λ (own : List Step). map records c.push_command_levels.new.lines.items ++ of_each (group_levels count (map lines_in up.outlooks.items)) own) c.deref.ensures.value in
    let unknown = c.in_ok-push_own_lines.ensures.recorded
    ∙ ap (λ (ways : List (Option Reach)). map records c.push_group_levels.new.lines.items ++ own_lines kinds.Unknown first count up.own.items ways) c.deref-2.ensures.value in
    let m_bit = c.in_ok-push_own_lines-2.ensures.recorded
    ∙ ap (λ (ways : List (Option Reach)). map records c.push_own_lines.new.lines.items ++ own_lines kinds.MBit first count up.own.items ways) c.deref-3.ensures.value in
    let content = c.in_ok-push_own_lines-3.ensures.recorded
    ∙ ap (λ (ways : List (Option Reach)). map records c.push_own_lines-2.new.lines.items ++ own_lines kinds.Data first count up.own.items ways) c.deref-4.ensures.value in
    let before = adds_both _ _ _ _ _ (adds_both _ _ _ _ _ c.in_ok-push_header_lines.ensures c.in_ok-push_command_levels.ensures) levels in
    let adds = adds_both _ _ _ _ _ (adds_both _ _ _ _ _ (adds_both _ _ _ _ _ before unknown) m_bit) content in
    let plain = plain_lines s.sender s.receiver s.sends s.unknown c.push_group_levels.new.lines.items recorded (before ∙ ap (λ (lines : List Line). map records lines ++ recorded) c.new-lines.ensures.items)
    (found_plain s.receiver basis.head basis.base basis.readings basis.levels basis.groups count steps) in
    record {
      order = subst (λ recorded. IsInOrderOf (λ (line : Recorded). line.site) recorded (map records c.sort_by_site.new.lines.items))
          (adds ∙ ap (λ (lines : List Line). map records lines ++ all) c.new-lines.ensures.items)
          (image_in_order records (λ (line : Line). line.site) (λ (line : Recorded). line.site) (λ x. refl) (new_line 0 causes.Command 0) _ _ c.in_ok-sort_by_site.ensures);
      formats = ∥∥₁_map₂ up.known up.lengths.exact (λ known least.
          let have = have_data s.sender s.receiver s.sends s.unknown up.lengths.least up.lengths.entries.items least up.own.items known.are_own.each in
          data_in_order s.sender s.receiver s.sends s.unknown c.push_own_lines-3.new.lines.items c.sort_by_site.new.lines.items c.in_ok-sort_by_site.ensures
          (c.in_ok-push_own_lines-3.ensures.formats have (c.in_ok-push_own_lines-2.ensures.formats have (c.in_ok-push_own_lines.ensures.formats have plain))));
    }
