use Rattle.std.proofs.Common.{ap, cond, ◌∙◌}
use Rattle.std.specs.Str.{bytes_eq}
use Rattle.dia_accepted.specs.Seen.{next_count}
use Rattle.dia_accepted.specs.Sets.{tally}
use Rattle.dia_accepted.proofs.Tallies.{has_insert, tally_insert}
use Rattle.dia_accepted.proofs.counting.count_cause.Goals as goal

pub returns-clause-has : goal.returns-clause-has
returns-clause-has c = λ x.
    has_insert c.args.counts.now.entries c.insert.new.self.entries c.in_ok-key.key c.next_count-count.result c.args.cause.now x c.in_ok-key.ensures.items c.in_ok-insert.ensures.entries

pub returns-clause-counted : goal.returns-clause-counted
returns-clause-counted c = λ x.
    let old = c.args.counts.now.entries in
    tally_insert old c.insert.new.self.entries c.in_ok-key.key c.next_count-count.result c.args.cause.now x c.in_ok-key.ensures.items c.in_ok-insert.ensures.entries
    ∙ ap (λ n. cond (bytes_eq x c.args.cause.now) n (tally old x)) (c.next_count-count.ensures ∙ ap (next_count c.args.is_new) c.count_of.ensures)
