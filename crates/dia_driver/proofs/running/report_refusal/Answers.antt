use Rattle.std.proofs.Common.{refl}
use Rattle.dia_driver.proofs.Failures.{refusal_of}
use Rattle.dia_driver.proofs.running.report_refusal.Goals as goal

pub returns : goal.returns
returns g c =
    refusal_of c.args.ending _ _ _ _ c.finish.result (λ same. (rw same c.requires.out, rw same refl)) (λ same. (rw same c.requires.err, rw same refl)) c.finish.ensures.fault c.finish.ensures.help
