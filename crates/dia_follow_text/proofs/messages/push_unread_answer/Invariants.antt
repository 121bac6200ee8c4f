use Rattle.std.proofs.Common.{◌≡◌, ◌++◌, length, take}
use Rattle.std.specs.List.{flat_map}
use Rattle.std.specs.Prelude.{string_bytes}
use Rattle.dia_follow_text.specs.Answers.{unread, unread_finding}
use Rattle.dia_follow_text.proofs.messages.push_unread_answer.Given as goal

abbrev pub invariant-loop-reason : goal.invariant-loop-reason
invariant-loop-reason l = string_bytes l.text ≡ (string_bytes l.fn.text ++ unread l.json l.line.number l.end (length l.line.bytes.now))
    ++ flat_map (unread_finding l.json l.line.number l.end l.line.bytes.now l.verdict) (take l.reason-index l.found)
