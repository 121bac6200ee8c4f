use Rattle.std.proofs.Common.{subst}
use Rattle.std.proofs.Math.Logic.{∥∥₁_map}
use Rattle.dia_check.specs.Pauses.{IsResumeOf}
use Rattle.dia_check.proofs.Pauses.{stage_goes, taken_goes}
use Rattle.dia_check.proofs.stream.paused.Paused.resume.Goals as goal

pub invariant_of-result : goal.invariant_of-result
invariant_of-result g c = record {
  holds = ∥∥₁_map c.requires.fits (λ x. stage_goes _ _ _ _ _ x.before c.args.self.body c.resume_body.result c.args.self.stage x.is_pause c.resume_body.ensures x.is_stage);
}

pub returns-clause-occurs : goal.returns-clause-occurs
returns-clause-occurs g c d u most bytes paused same = record {
  book = same;
  unknown = paused.unknown;
  levels = paused.levels;
  taken = taken_goes d u most c.args.self.taken c.args.self.wanted bytes paused.before c.args.self.body c.resume_body.result c.args.self.stage paused.is_pause
      (subst (λ e. IsResumeOf e c.args.self.body c.resume_body.result) same c.resume_body.ensures) paused.taken;
}
