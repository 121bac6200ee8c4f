use Rattle.std.proofs.Common.{List, ap, ◌∙◌}
use Rattle.std.specs.Prelude.{◌||◌}
use Rattle.std.specs.HashSet.{contains}
use Rattle.std.specs.List.{list_any}
use Rattle.dia_diff.specs.declared.marks.Marks.{Marks}
use Rattle.dia_diff.specs.declared.subjects.Subject.{Subject}
use Rattle.dia_diff.specs.Marked.{is_marked}
use Rattle.dia_diff.specs.Subjects.{same_subject}
use Rattle.dia_diff.proofs.SameEffects.{same_effects}
use Rattle.dia_diff.proofs.marks.EffectMarks.effects_of.Goals as goal

pub returns : goal.returns
returns c =
    let m = c.args.self.now in
    let w = c.args.what in
    let of = λ (marks : Marks) (list : List Subject). marks.all || list_any (contains same_subject marks.subjects) list in
    same_effects c.has.result c.has-2.result c.has-3.result (is_marked m.breaks w) (is_marked m.other_format w) (is_marked m.ignored w)
    (c.has.ensures ∙ ap (of m.breaks) (c.deref.ensures.value ∙ c.in_ok-subjects.ensures)) (c.has-2.ensures ∙ ap (of m.other_format) (c.deref-2.ensures.value ∙ c.in_ok-subjects.ensures))
    (c.has-3.ensures ∙ ap (of m.ignored) (c.deref-3.ensures.value ∙ c.in_ok-subjects.ensures))
