use Rattle.std.proofs.Common.{ap, sym, ◌∙◌}
use Rattle.std.specs.List.{list_any}
use Rattle.dia_accepted.specs.Causes.{has_cause}
use Rattle.dia_accepted.specs.Sets.{has}
use Rattle.dia_accepted.specs.Words.{cause_text}
use Rattle.dia_accepted.proofs.counting.Causes.has.Goals as goal

pub returns : goal.returns
returns c = λ forgets recorded command visits are.
    let cause = cause_text c.args.words.now in
    c.contains_key.ensures ∙ ap (has c.args.self.now.counts.entries) (c.as_bytes.ensures.value ∙ c.cause_of.ensures) ∙ are.come.known_are cause
    ∙ ap (list_any (has_cause cause)) (sym are.recorded_are)
