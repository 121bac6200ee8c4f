use Rattle.std.proofs.Common.{ℕ, List, Option, ap, subst, ◌∙◌}
use Rattle.std.proofs.lemmas.Result.{IfOk-weaker}
use Rattle.dia_breaking.specs.Sides.{sides}
use Rattle.dia_differences.specs.Partners.{Matches}
use Rattle.dia_differences.specs.declared.sides.Side.TheVariants.{First}
use Rattle.dia_diff.specs.Marked.{effects_by}
use Rattle.dia_diff.specs.Marks.{whats}
use Rattle.dia_diff.specs.Origins.{Route}
use Rattle.dia_diff.specs.Unbroken.{AreSoundMarks}
use Rattle.dia_diff.proofs.marked_lines.marks_there.Goals as goal

pub returns : goal.returns
returns g c =
    let route : List (Option ℕ) → Route = λ commands. record {
      between = sides (g.A.Book.meaning c.args.a.now) (g.B.Book.meaning c.args.b.now) c.args.asked.sends c.args.asked.unknown;
      side = First;
      commands = commands;
    } in
    IfOk-weaker c.marks_of.result _ _ (λ marks sound.
    subst (λ (commands : List (Option ℕ)). AreSoundMarks (route commands) (whats c.args.lines.now) (effects_by marks)) (c.deref.ensures.value ∙ ap (λ (m : Matches). m.commands) c.requires) sound)
    c.marks_of.ensures
