use Rattle.dia_upgrades.proofs.Reports.{refusal_reports}
use Rattle.dia_upgrades.proofs.command.reported.Goals as goal

pub returns-in-Err-Bad-clause-reports : goal.returns-in-Err-Bad-clause-reports
returns-in-Err-Bad-clause-reports g c =
    refusal_reports _ c.args.asked c.args.inputs.now _ _ c.in-Err-Bad.bad c.refused.result (rw c.in-Err-Bad.field-0-is at c.in-Err-Bad.ensures.refused) c.refused.ensures.put c.refused.ensures.exit c.refused.ensures.report c.refused.ensures.front
    c.refused.ensures.no_memory
