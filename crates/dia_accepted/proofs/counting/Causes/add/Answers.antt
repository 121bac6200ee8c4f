use Rattle.std.proofs.Common.{refl, ◌∙◌}
use Rattle.dia_accepted.specs.Accepted.{plain_recorded}
use Rattle.dia_accepted.specs.declared.recorded.Recorded.{Recorded}
use Rattle.dia_accepted.proofs.Tallies.{causes_more, pushed_recorded}
use Rattle.dia_accepted.proofs.counting.Causes.add.Goals as goal

pub returns : goal.returns
returns c = λ forgets recorded t visits small command words message are.
    let first : Recorded = record { command = c.args.command; words = c.in_ok-words.words; message = c.args.message } in
    let cause = c.as_bytes-cause.ensures.value ∙ c.cause_of.ensures in
    causes_more forgets c.args.self.now _ recorded t (plain_recorded first) c.args.command visits c.args.words.now c.as_bytes-cause.result.now (c.args.command, c.in_ok-from_slice.field-0) c.contains_key-known.result
    c.in_ok-is_new.is_new small command words cause refl c.in_ok-words.ensures.ok message refl c.in_ok-from_slice.ensures.items c.contains_key-known.ensures c.in_ok-is_new.ensures.added
    (pushed_recorded c.args.self.now.firsts.items c.push_unless.new.items.items first c.contains_key-known.result c.in_ok-push_unless.ensures) c.in_ok-count_cause.ensures.has
    c.in_ok-count_cause.ensures.counted c.in_ok-is_new.ensures.keys are
