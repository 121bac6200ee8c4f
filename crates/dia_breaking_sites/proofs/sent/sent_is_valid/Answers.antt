use Rattle.dia_breaking_sites.proofs.SentIsValid.{sent_valid}
use Rattle.dia_breaking_sites.proofs.sent.sent_is_valid.Goals as goal

pub returns : goal.returns
returns c = λ d who bytes n s. sent_valid d who bytes n s
