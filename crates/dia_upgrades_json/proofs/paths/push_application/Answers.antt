use Rattle.dia_upgrades_json.proofs.paths.push_application.Goals as goal

pub returns-in-Some : goal.returns-in-Some
returns-in-Some c = rw c.in-Some.is c.push_u32.ensures
