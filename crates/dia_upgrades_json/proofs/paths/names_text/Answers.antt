use Rattle.dia_upgrades_json.proofs.Added.{names_more}
use Rattle.dia_upgrades_json.proofs.paths.names_text.Goals as goal

pub loop-name-preserved : goal.loop-name-preserved
loop-name-preserved c =
    names_more c.args.groups.now c.loop-name.name-index _ c.loop-name-test.true _ _ c.loop-name.invariant c.in_ok-push_name.ensures
