use Rattle.std.proofs.Common.{refl, ap, subst, ◌∙◌}
use Rattle.dia_lint_text.specs.Asking.{Question}
use Rattle.dia_lint_text.specs.Outcome.{IsLintOutcome}
use Rattle.dia_program.specs.Lints.{list_of, question_of}
use Rattle.dia_program.proofs.RunFailures.{breaks}
use Rattle.dia_program.proofs.Lints.{same_question}
use Rattle.dia_program.proofs.Results.{sound_at_ok}
use Rattle.dia_program.proofs.asking.linted.Goals as goal

pub returns-in-Ok : goal.returns-in-Ok
returns-in-Ok g c =
    let t = c.in-Ok.ensures.text in
    let same = same_question _ (question_of c.args.asked.now c.args.manner.json c.args.origins.now.first) refl (c.list_of.ensures ∙ ap list_of c.as_str.ensures.value) (c.list_of-2.ensures ∙ ap list_of c.as_str-2.ensures.value) refl
    c.word_of.ensures in
    (sound_at_ok _ _ _ c.in-Ok.ensures.device, (t.0, subst (λ (q : Question). IsLintOutcome q c.args.inputs.now t.0 c.in-Ok.reported.exit) same t.1, t.2))

pub returns : goal.returns
returns g c =
    let same = same_question _ (question_of c.args.asked.now c.args.manner.json c.args.origins.now.first) refl (c.list_of.ensures ∙ ap list_of c.as_str.ensures.value) (c.list_of-2.ensures ∙ ap list_of c.as_str-2.ensures.value) refl
    c.word_of.ensures in
    breaks (IsLintOutcome (question_of c.args.asked.now c.args.manner.json c.args.origins.now.first) c.args.inputs.now) c.in-Err.fault _ _
    (g.W.Write.contents c.args.out.now.writer) (g.W.Write.contents c.write_lint.new.sink.writer) _ _ _ c.of_run.ensures c.in-Err.is c.write_lint.ensures.device refl
    (λ e. let f = c.write_lint.ensures.front e in (f.0, f.1, subst (λ (q : Question). IsLintOutcome q c.args.inputs.now f.0 f.1) same f.2, f.3)) c.write_lint.ensures.no_memory
