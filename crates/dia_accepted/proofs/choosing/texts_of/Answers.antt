use Rattle.std.proofs.Common.{◌∙◌}
use Rattle.dia_accepted.proofs.Sets.{names_more}
use Rattle.dia_accepted.proofs.choosing.texts_of.Goals as goal

pub loop-name-preserved : goal.loop-name-preserved
loop-name-preserved c =
    names_more c.args.names.now c.loop-name.name-index c.name-item.result c.in_ok-text.text c.loop-name.known.entries c.insert.new.self.entries c.loop-name-test.true c.name-item.is
    (c.in_ok-text.ensures.items ∙ c.as_bytes.ensures.value) c.in_ok-insert.ensures.entries c.loop-name.invariant
