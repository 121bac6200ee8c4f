use Rattle.std.proofs.Common.{sym, ◌∙◌, subst}
use Rattle.std.proofs.lemmas.Bool.{false≢true}
use Rattle.dia_check.specs.Faults.{IsAnswer}
use Rattle.dia_run.proofs.FedTexts.{all_taken, stays, trails}
use Rattle.dia_run.proofs.commands.check.feeding.answer_of_all.Goals as goal
use Rattle.dia_run.proofs.commands.check.feeding.answer_of_all.Goals.{else-trailing-via-then-trailing+else-not-is_endless, else-trailing-via-else-trailing}

pub returns-then-not-is_endless : goal.returns-then-not-is_endless
returns-then-not-is_endless c d u most bytes sound follow answers =
    trails d sound u most bytes (follow.0 c.if-trailing.true) c.args.answer (λ endless. false≢true (sym c.if-not-is_endless.true ∙ c.is_endless.ensures.1 endless)) c.requires answers

pub returns-else-trailing : goal.returns-else-trailing
returns-else-trailing c d u most bytes sound follow answers =
    elim c.else-trailing.branch [
      | else-trailing-via-then-trailing+else-not-is_endless w ↦ stays d sound u most bytes (follow.0 w.if-trailing.true) c.args.answer (w.is_endless.ensures.0 w.if-not-is_endless.false) answers
      | else-trailing-via-else-trailing w ↦ subst (λ b. IsAnswer d u most b c.args.answer) (all_taken bytes (λ less. false≢true (sym w.if-trailing.false ∙ follow.1 less))) answers
    ]
