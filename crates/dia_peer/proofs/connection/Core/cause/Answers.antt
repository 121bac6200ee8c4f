use Rattle.std.specs.Option.{option_copied}
use Rattle.dia_peer.proofs.FirstData.{number_is}
use Rattle.dia_peer.proofs.connection.Core.cause.Goals as goal

pub returns : goal.returns
returns c = number_is 273 c.args.self.now.left (option_copied c.value.result) c.number_of.result c.value.ensures c.number_of.ensures
