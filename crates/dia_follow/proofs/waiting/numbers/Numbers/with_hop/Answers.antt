use Rattle.std.proofs.Common.{ℕ, ap, sym, ◌∙◌, option_map, slice_get}
use Rattle.dia_follow.proofs.Sets.{with_hop_listed}
use Rattle.dia_follow.proofs.waiting.numbers.Numbers.with_hop.Goals as goal

pub returns-in-Some : goal.returns-in-Some
returns-in-Some c es l =
    sym (ap (λ r. option_map (λ (k : ℕ × ℕ). k.1) (slice_get r 0)) c.in-Some.ensures.steps)
    ∙ with_hop_listed c.args.self.now es c.args.hop _ _ _ l c.new.ensures.start c.new.ensures.end (c.range.ensures.in_range c.new.ensures.exhausted)

pub returns-in-None : goal.returns-in-None
returns-in-None c es l =
    sym (ap (λ r. option_map (λ (k : ℕ × ℕ). k.1) (slice_get r 0)) c.in-None.ensures.steps.0)
    ∙ with_hop_listed c.args.self.now es c.args.hop _ _ _ l c.new.ensures.start c.new.ensures.end (c.range.ensures.in_range c.new.ensures.exhausted)
