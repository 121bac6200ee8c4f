use Rattle.std.specs.Prelude.{string_bytes}
use Rattle.std.proofs.Common.{inr, refl}
use Rattle.dia_io.specs.declared.Exit.TheVariants.{Bad}
use Rattle.dia_examples_text.specs.Outcome.{Begun, IsExamplesOutcome, refused}
use Rattle.dia_examples_text.proofs.Answers.{of_any_fault}
use Rattle.dia_examples_text.proofs.command.refused.Goals as goal

pub returns-clause-answered : goal.returns-clause-answered
returns-clause-answered g c = λ u. (
  string_bytes c.in_ok-text.text,
  refused c.args.bad c.requires.bad c.in_ok-text.ensures refl,
  rw c.as_bytes.ensures.value at c.in_ok-put_all.ensures.ok,
)

pub returns-in_err-put_all-clause-begun : goal.returns-in_err-put_all-clause-begun
returns-in_err-put_all-clause-begun g c = λ u.
    of_any_fault c.from_residual-in_err-put_all.result (Begun (IsExamplesOutcome c.args.form u c.args.inputs.now) (g.S.Sink.written c.args.sink.now) (g.S.Sink.written c.put_all.new.sink))
    (inr (string_bytes c.in_ok-text.text, Bad, refused c.args.bad c.requires.bad c.in_ok-text.ensures refl, rw c.as_bytes.ensures.value at c.in_err-put_all.ensures.front))
