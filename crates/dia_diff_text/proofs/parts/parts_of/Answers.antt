use Rattle.std.proofs.Common.{refl, ap, ◌∙◌}
use Rattle.dia_differences.specs.declared.sides.Side.{Side}
use Rattle.dia_differences.specs.declared.owner.Owner.{Owner}
use Rattle.dia_diff_text.specs.Parts.{is_command, name_in}
use Rattle.dia_diff_text.proofs.SameParts.{same_parts}
use Rattle.dia_diff_text.proofs.parts.parts_of.Goals as goal

pub returns : goal.returns
returns g c = (
  c.in_ok-first.ensures,
  c.in_ok-second.ensures,
  same_parts _ _ (c.is_command.ensures ∙ ap (λ (s : Side × Owner). is_command s.1) c.subject_of-subject.ensures)
      (c.name_in.ensures ∙ ap (name_in (g.A.Book.meaning c.args.a.now) (g.B.Book.meaning c.args.b.now)) c.subject_of-subject.ensures) c.field_of.ensures refl refl refl refl,
)
