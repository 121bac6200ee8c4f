use Rattle.std.proofs.Common.{ap, sym, ◌∙◌}
use Rattle.std.specs.List.{count_by}
use Rattle.dia_accepted.specs.Causes.{each_once, has_cause, same_cause_of_command}
use Rattle.dia_accepted.specs.Sets.{tally}
use Rattle.dia_accepted.specs.Words.{cause_text}
use Rattle.dia_accepted.proofs.counting.Causes.count.Goals as goal

pub returns : goal.returns
returns c = λ forgets recorded command visits t words are.
    let cause = cause_text t.words in
    c.count_of.ensures ∙ ap (tally c.args.self.now.counts.entries) (c.as_bytes.ensures.value ∙ c.cause_of.ensures ∙ ap cause_text (sym words)) ∙ are.come.counts_are cause
    ∙ ap (λ all. count_by (has_cause cause) (each_once same_cause_of_command all)) (sym are.recorded_are)
