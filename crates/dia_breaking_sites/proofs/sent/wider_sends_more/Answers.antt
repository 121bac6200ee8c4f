use Rattle.dia_breaking_sites.proofs.WiderSenders.{sent_wider}
use Rattle.dia_breaking_sites.proofs.sent.wider_sends_more.Goals as goal

pub returns : goal.returns
returns c = λ d who bytes n s. sent_wider d who bytes n s
