use Rattle.std.proofs.Common.{refl, ◌∙◌}
use Rattle.dia_c_calls.proofs.ListedAvps.{listed_message}
use Rattle.dia_c_calls.proofs.Unread.{same_verdict, unread_as}
use Rattle.dia_c_calls.proofs.avp_list.list_avps.Goals as goal

pub returns-in_ok-list_level-in-Ok-clause-done : goal.returns-in_ok-list_level-in-Ok-clause-done
returns-in_ok-list_level-in-Ok-clause-done g c =
    listed_message _ _ _ _ _ _ _ c.in-Ok.field-0-0 c.in-Ok.ensures.head c.in-Ok.ensures.long c.in-Ok.ensures.body c.in_ok-list_level-in-Ok.ensures

pub returns-in-Err-clause-no_message : goal.returns-in-Err-clause-no_message
returns-in-Err-clause-no_message g c v is = (
  unread_as c.split_message.result c.args.message.now c.split_message.ensures.short c.split_message.ensures.version c.split_message.ensures.length_fault c.split_message.ensures.truncated
      c.split_message.ensures.trailing c.in-Err.fault v c.in-Err.is (same_verdict c.no_message.result v is ∙ c.no_message.ensures),
  refl,
)
