use Rattle.std.proofs.Common.{arith}
use Rattle.std.proofs.lemmas.Grind.{common_steps}
use Rattle.std.proofs.lemmas.Option.{gets}
use Rattle.dia_compat.proofs.SetsOfPairs.{names_there, no_names_there}
use Rattle.dia_compat.proofs.comparing.pairs.names_of.Goals as goal

pub returns-in-Some : goal.returns-in-Some
returns-in-Some c =
    names_there c.args.pairs.now c.args.place c.in-Some.pair.now c.as_str.result c.as_str-in-Some.result
    (grind (arith, common_steps, gets, c.in-Some.ensures.lookup)) c.as_str.ensures.value c.as_str-in-Some.ensures.value

pub returns-in-None : goal.returns-in-None
returns-in-None c = no_names_there c.args.pairs.now c.args.place (grind (arith, common_steps, gets, c.in-None.ensures.lookup))
