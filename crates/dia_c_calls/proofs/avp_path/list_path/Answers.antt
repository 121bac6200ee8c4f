use Rattle.std.proofs.Common.{refl}
use Rattle.dia_c_calls.proofs.Unread.{unread_as}
use Rattle.dia_c_calls.proofs.avp_path.list_path.Goals as goal

pub returns-in-Err-clause-no_message : goal.returns-in-Err-clause-no_message
returns-in-Err-clause-no_message g c = (
  unread_as c.split_message.result c.args.message.now c.split_message.ensures.short c.split_message.ensures.version c.split_message.ensures.length_fault c.split_message.ensures.truncated
      c.split_message.ensures.trailing c.in-Err.fault c.no_message.result c.in-Err.is c.no_message.ensures,
  refl,
)
