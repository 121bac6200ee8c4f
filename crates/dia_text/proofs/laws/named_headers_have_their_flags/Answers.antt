use Rattle.dia_text.proofs.NamedHeaders.{own_flags}
use Rattle.dia_text.proofs.laws.named_headers_have_their_flags.Goals as goal

pub returns : goal.returns
returns c = own_flags
