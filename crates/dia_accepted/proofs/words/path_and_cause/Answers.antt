use Rattle.std.proofs.Common.{ap, arith, refl, ◌∙◌}
use Rattle.dia_accepted.specs.Words.{after_space}
use Rattle.dia_accepted.proofs.Tallies.{without_space}
use Rattle.dia_accepted.proofs.words.path_and_cause.Goals as goal

pub returns-in-Some-clause-cause : goal.returns-in-Some-clause-cause
returns-in-Some-clause-cause c =
    let parts = c.in-Some.ensures.byte (omega arith) (λ w o finds. finds) in
    rw c.unwrap_or.ensures (without_space c.in-Some.rest.now c.strip_prefix.result c.in-Some.rest c.strip_prefix.ensures.cases refl ∙ ap after_space parts.1)
