use Rattle.std.proofs.Common.{length, refl, ap, arith}
use Rattle.std.proofs.lemmas.List.{length-drop}
use Rattle.std.proofs.lemmas.Result.{err_from_is_err_and}
use Rattle.dia_run.proofs.OutcomeParts.{Ends-unsplit, listed}
use Rattle.dia_run.proofs.walk.write_message.Goals as goal

pub returns-in_err-header-clause-outcome : goal.returns-in_err-header-clause-outcome
returns-in_err-header-clause-outcome g c =
    let p = err_from_is_err_and c.from_residual.result c.from_residual.ensures.1 in
    rw p.1 (Ends-unsplit _ _ c.args.bytes.now _ _ p.0 refl p.2 c.in_err-header.ensures.short.0 c.in_err-header.ensures.version.0
    c.in_err-header.ensures.length_fault.0 c.in_err-header.ensures.truncated.0 c.in_err-header.ensures.trailing.0)

pub write_level-requires : goal.write_level-requires
write_level-requires g c = omega (arith, ap length c.in_ok-header.ensures.body, length-drop 20 c.args.bytes.now)

pub returns-clause-outcome : goal.returns-clause-outcome
returns-clause-outcome g c =
    listed _ _ c.args.bytes.now _ _ _ _ c.in_ok-header.header _ _ _ c.new-text.ensures.bytes c.command_name-command.ensures c.in_ok-write_header.ensures c.in_ok-header.ensures.head c.in_ok-header.ensures.long
    c.in_ok-header.ensures.body c.in_ok-bad.ensures c.listing_exit-exit.ensures
