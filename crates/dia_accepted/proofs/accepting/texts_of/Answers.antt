use Rattle.dia_accepted.proofs.Sets.{texts_more}
use Rattle.dia_accepted.proofs.accepting.texts_of.Goals as goal
use Rattle.std.proofs.Common.{◌∙◌}

pub loop-entry-preserved : goal.loop-entry-preserved
loop-entry-preserved c =
    texts_more c.args.list.now c.loop-entry.entry-index c.entry-item.result c.in_ok-counted.counted c.loop-entry.texts.entries c.insert.new.self.entries c.loop-entry-test.true c.entry-item.is
    (c.in_ok-counted.ensures.items ∙ c.as_slice.ensures.value) c.in_ok-insert.ensures.entries c.loop-entry.invariant
