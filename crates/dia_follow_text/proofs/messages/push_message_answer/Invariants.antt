use Rattle.std.proofs.Common.{◌≡◌, ◌++◌, take}
use Rattle.std.specs.List.{flat_map}
use Rattle.std.specs.Prelude.{string_bytes}
use Rattle.dia_follow_text.specs.Answers.{finding, message_text}
use Rattle.dia_follow_text.proofs.messages.push_message_answer.Given as goal

abbrev pub invariant-loop-reason : goal.invariant-loop-reason
invariant-loop-reason g l = string_bytes l.text ≡ (string_bytes l.fn.text ++ message_text l.manner.options.json (g.B.Book.meaning l.manner.book.now) l.end l.moment)
    ++ flat_map (finding l.manner.options.json l.end l.moment l.verdict) (take l.reason-index l.found)
