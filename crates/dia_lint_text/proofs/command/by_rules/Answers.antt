use Rattle.dia_lint_text.specs.Asking.{question}
use Rattle.dia_lint_text.proofs.Outcomes.{bad_dictionary}
use Rattle.dia_lint_text.proofs.command.by_rules.Goals as goal

pub returns-in-Err-Bad : goal.returns-in-Err-Bad
returns-in-Err-Bad c =
    bad_dictionary (question c.args.asked.now) c.args.inputs.now _ _ c.requires.known c.requires.some (rw c.in-Err-Bad.field-0-is at c.in-Err-Bad.ensures.recorded)
    c.refuse_as.ensures.text c.refuse_as.ensures.exit
