use Rattle.dia_lint.proofs.RulesThatSayNothing.{says_nothing_law}
use Rattle.dia_lint.proofs.laws.rules_that_say_nothing.Goals as goal

pub returns : goal.returns
returns c = says_nothing_law
