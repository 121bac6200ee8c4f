use Rattle.std.proofs.Common.{◌∙◌}
use Rattle.dia_lint.specs.GuidelineLines.{guideline_lines}
use Rattle.dia_lint.specs.OwnRules.{says_nothing_lines}
use Rattle.dia_lint_text.proofs.Outcomes.{all_others}
use Rattle.dia_lint_text.proofs.command.others.Goals as goal

pub returns : goal.returns
returns g c =
    let d = g.B.Book.meaning c.args.book.now in
    let same = c.in_ok-all.all.items in
    let ranges = c.in_ok-ranges.ranges.items in
    record {
      same_commands = same;
      ranges = ranges;
      all = all_others same ranges (says_nothing_lines d) (guideline_lines d) _ _ _ _ _ _
          (c.in_ok-extend_from_slice.ensures.items) (c.in_ok-extend_from_slice-2.ensures.items) (c.in_ok-extend_from_slice-3.ensures.items)
          c.deref.ensures.value (c.deref-2.ensures.value ∙ c.in_ok-own_rules.ensures) (c.deref-3.ensures.value ∙ c.in_ok-guidelines.ensures);
      of_commands = c.in_ok-all.ensures.rules;
      same_command = c.in_ok-all.ensures.same_commands;
      of_ranges = c.in_ok-ranges.ensures.rules;
      twice_listed = c.in_ok-ranges.ensures.twice_listed;
    }
