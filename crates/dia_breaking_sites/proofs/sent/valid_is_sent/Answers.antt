use Rattle.dia_breaking_sites.proofs.SentIsValid.{valid_sent}
use Rattle.dia_breaking_sites.proofs.sent.valid_is_sent.Goals as goal

pub returns : goal.returns
returns c = λ d who bytes n filled listed are s. valid_sent d who bytes n filled listed are s
