use Rattle.dia_compat.specs.TableText.{plain_pair}
use Rattle.dia_run.proofs.LinesOfPairs.{failure_recorded}
use Rattle.dia_run.proofs.commands.compare.failed.Goals as goal

pub returns-clause-text : goal.returns-clause-text
returns-clause-text c =
    failure_recorded _ c.args.word.now _ _ _ (plain_pair c.args.pair.now) c.args.test c.in_ok-text.ensures.ok c.as_str-left.ensures.value c.as_str-right.ensures.value c.test_word-test.ensures
