use Rattle.std.specs.Option.{option_copied}
use Rattle.dia_peer.proofs.FirstData.{number_is}
use Rattle.dia_peer.proofs.connection.Core.result.Goals as goal

pub returns : goal.returns
returns c = number_is 268 c.args.self.now.met (option_copied c.value.result) c.number_of.result c.value.ensures c.number_of.ensures
