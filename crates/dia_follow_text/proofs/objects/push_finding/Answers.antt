use Rattle.std.proofs.Common.{ℕ, List, ◌++◌, ◌∙◌, codes, ap}
use Rattle.std.specs.Prelude.{string_bytes}
use Rattle.std.specs.Option.{option_copied}
use Rattle.dia_follow_text.specs.Details.{detail_text}
use Rattle.dia_follow_text.specs.Reasons.{section}
use Rattle.dia_follow.specs.Messages.{result_of}
use Rattle.dia_streams.proofs.LinesUnderWay.{on_ok_map}
use Rattle.dia_follow_text.proofs.Appended.{finding_added, when_ok}
use Rattle.dia_follow_text.proofs.objects.push_finding.Goals as goal

pub returns : goal.returns
returns c = on_ok_map c.push_str.result
    (λ h. finding_added (string_bytes c.args.text.now) (string_bytes c.push_begin.new.text) (string_bytes c.push_reason.new.text) (string_bytes c.push_other_line.new.text)
    (string_bytes c.push_str.new.self) (string_bytes c.push_detail.new.text) c.as_str.result.now c.args.end c.args.moment.now c.args.verdict.now c.args.reason c.line.result.now
    (option_copied c.section-section.result) c.other_line.result c.line.ensures c.as_str.ensures.value
    (c.in_ok-push_detail.ensures ∙ ap (λ (t : List ℕ). t ++ detail_text c.args.moment.now c.args.verdict.now c.args.reason) c.new-detail.ensures.bytes)
    (c.section-section.ensures ∙ ap (section c.args.reason) (c.result.ensures ∙ ap (λ q. result_of q.body) c.message.ensures)) c.other_line.ensures
    c.in_ok-push_begin.ensures c.in_ok-push_reason.ensures c.in_ok-push_other_line.ensures h)
    (when_ok c.push_str.result (string_bytes c.push_str.new.self) (string_bytes c.push_other_line.new.text ++ codes "}\n") (string_bytes c.push_other_line.new.text) c.push_str.ensures.bytes)
