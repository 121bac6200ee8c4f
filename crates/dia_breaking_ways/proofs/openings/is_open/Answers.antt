use Rattle.std.proofs.Common.{arith}
use Rattle.std.proofs.lemmas.Grind.{common_steps}
use Rattle.std.proofs.lemmas.Option.{gets}
use Rattle.dia_breaking_ways.proofs.WildLevels.{is_open_by, is_shut_past}
use Rattle.dia_breaking_ways.proofs.openings.is_open.Goals as goal

pub lists-requires : goal.lists-requires
lists-requires c = c.requires c.args.level c.in-Some.stage.now (grind (arith, common_steps, gets, c.in-Some.ensures.lookup))

pub returns-in-Some : goal.returns-in-Some
returns-in-Some c = is_open_by c.args.stages.now c.args.place c.args.level c.in-Some.stage.now c.lists.result (grind (arith, common_steps, gets, c.in-Some.ensures.lookup)) c.lists.ensures

pub returns-in-None : goal.returns-in-None
returns-in-None c = is_shut_past c.args.stages.now c.args.place c.args.level (grind (arith, common_steps, gets, c.in-None.ensures.lookup))
