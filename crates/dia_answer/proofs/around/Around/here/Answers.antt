use Rattle.std.proofs.Common.{◌-◌, List, length, sym, ap, ◌∙◌}
use Rattle.std.specs.Prelude.{slice_get}
use Rattle.dia_answer.specs.declared.around.Step.{Step}
use Rattle.dia_answer.specs.Failed.{here}
use Rattle.dia_answer.specs.Levels.{plain_level}
use Rattle.dia_answer.proofs.Ways.{innermost_last}
use Rattle.dia_answer.proofs.around.Around.here.Goals as goal

pub returns : goal.returns
returns c =
    let around = c.args.self.now in
    c.here-2.ensures ∙ ap here (sym (innermost_last (plain_level around.outer) around.groups.items c.in-Some.step.now (c.in-Some.ensures.value ∙ ap (λ (w : List Step). slice_get w (length w - 1)) c.deref.ensures.value)))
