use Rattle.std.proofs.Common.{◌∙◌}
use Rattle.std.specs.Prelude.{string_bytes}
use Rattle.dia_c_calls.proofs.Unread.{has_shown, never_refused, same_verdict, unread_as}
use Rattle.dia_c_calls.proofs.listing.shown.Goals as goal

pub unreachable-requires : goal.unreachable-requires
unreachable-requires g c =
    never_refused c.split_message.result c.args.message.now c.split_message.ensures.short c.split_message.ensures.version c.split_message.ensures.length_fault c.split_message.ensures.truncated
    c.split_message.ensures.trailing _ _ _ c.in-Ok.is (rw c.in-Err-Bad.field-0-is at c.in-Err-Bad.ensures.outcome)

pub returns-in-Err-clause-no_message : goal.returns-in-Err-clause-no_message
returns-in-Err-clause-no_message g c v is =
    unread_as c.split_message.result c.args.message.now c.split_message.ensures.short c.split_message.ensures.version c.split_message.ensures.length_fault c.split_message.ensures.truncated
    c.split_message.ensures.trailing c.in-Err.fault v c.in-Err.is (same_verdict c.no_message.result v is ∙ c.no_message.ensures)

pub returns-in-Ok-show_message-clause-done : goal.returns-in-Ok-show_message-clause-done
returns-in-Ok-show_message-clause-done g c =
    has_shown (g.B.Book.meaning c.args.book.now) c.args.message.now _ _ (string_bytes c.in-Ok-show_message.outcome.text) c.in-Ok-show_message.outcome.exit
    c.in_ok-answer_text-in-Ok-show_message.ensures.text c.in-Ok-show_message.ensures.outcome c.in-Ok-show_message.ensures.exit c.in_ok-answer_text-in-Ok-show_message.ensures.holds
