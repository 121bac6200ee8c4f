use Rattle.std.proofs.Common.{ℕ, List, Option, ap, subst, ◌∙◌}
use Rattle.std.proofs.lemmas.Result.{IfOk-weaker}
use Rattle.dia_breaking.specs.Sides.{sides}
use Rattle.dia_differences.specs.Partners.{Matches}
use Rattle.dia_differences.specs.declared.sides.Side.TheVariants.{Second}
use Rattle.dia_diff.specs.Marked.{effects_by}
use Rattle.dia_diff.specs.Marks.{whats}
use Rattle.dia_diff.specs.Origins.{Route}
use Rattle.dia_diff.specs.Unbroken.{AreSoundMarks}
use Rattle.dia_diff.proofs.marked_lines.marks_back.Goals as goal

pub returns : goal.returns
returns g c =
    let route : List (Option ℕ) → Route = λ commands. record {
      between = sides (g.B.Book.meaning c.args.b.now) (g.A.Book.meaning c.args.a.now) c.args.asked.sends c.args.asked.unknown;
      side = Second;
      commands = commands;
    } in
    IfOk-weaker c.marks_of.result _ _ (λ marks sound.
    subst (λ (commands : List (Option ℕ)). AreSoundMarks (route commands) (whats c.args.lines.now) (effects_by marks)) (c.deref.ensures.value ∙ ap (λ (m : Matches). m.commands_back) c.requires) sound)
    c.marks_of.ensures
