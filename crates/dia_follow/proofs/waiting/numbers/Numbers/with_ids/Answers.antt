use Rattle.std.proofs.Common.{ℕ, ap, sym, ◌∙◌, option_map, slice_get}
use Rattle.dia_follow.proofs.Sets.{with_ids_listed}
use Rattle.dia_follow.proofs.waiting.numbers.Numbers.with_ids.Goals as goal

pub returns-in-Some : goal.returns-in-Some
returns-in-Some c es l =
    sym (ap (λ r. option_map (λ (k : ℕ × ℕ × ℕ). k.2) (slice_get r 0)) c.in-Some.ensures.steps)
    ∙ with_ids_listed c.args.self.now es c.args.hop c.args.e2e _ _ _ l c.new.ensures.start c.new.ensures.end (c.range-with_ids.ensures.in_range c.new.ensures.exhausted)

pub returns-in-None : goal.returns-in-None
returns-in-None c es l =
    sym (ap (λ r. option_map (λ (k : ℕ × ℕ × ℕ). k.2) (slice_get r 0)) c.in-None.ensures.steps.0)
    ∙ with_ids_listed c.args.self.now es c.args.hop c.args.e2e _ _ _ l c.new.ensures.start c.new.ensures.end (c.range-with_ids.ensures.in_range c.new.ensures.exhausted)
