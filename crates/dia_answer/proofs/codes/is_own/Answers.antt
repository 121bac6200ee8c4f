use Rattle.std.proofs.Common.{◌∙◌}
use Rattle.std.proofs.lemmas.Bool.{ne_eqb}
use Rattle.dia_answer.proofs.OwnKeys.{not_own, are_own}
use Rattle.dia_answer.specs.Stocks.{is_own_code}
use Rattle.dia_answer.proofs.codes.is_own.Goals as goal

pub returns-then-key-eq0 : goal.returns-then-key-eq0
returns-then-key-eq0 c = c.is_own_code.ensures ∙ are_own c.args.key.vendor (is_own_code c.args.key.code) c.if-key-eq0.true

pub returns-else-key-eq0 : goal.returns-else-key-eq0
returns-else-key-eq0 c = ne_eqb c.args.key.vendor 0 c.if-key-eq0.false ∙ not_own c.args.key.vendor (is_own_code c.args.key.code) c.if-key-eq0.false
