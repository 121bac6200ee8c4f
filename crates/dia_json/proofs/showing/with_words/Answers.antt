use Rattle.dia_json.specs.Whole.{IsShowJson}
use Rattle.dia_json.proofs.Shown.{same_outcome, shown_with}
use Rattle.dia_json.proofs.showing.with_words.Goals as goal

pub returns-in_ok-answered-in-Ok-clause-outcome : goal.returns-in_ok-answered-in-Ok-clause-outcome
returns-in_ok-answered-in-Ok-clause-outcome c =
    same_outcome (IsShowJson c.args.names c.args.inputs.now) c.in_ok-answered-in-Ok.answered c.of_show.result c.of_show.ensures.text c.of_show.ensures.exit
    (shown_with c.args.names c.in-Ok.manner.value _ c.args.inputs.now _ _ c.requires.1 (rw c.in-Ok.is at c.in_ok-manner.ensures.words)
    (rw c.deref.ensures at c.in_ok-answered-in-Ok.ensures.outcome))
