use Rattle.std.proofs.Common.{ap, cond, sym, true, ◌++◌, ◌∷◌, [], ◌∙◌}
use Rattle.dia_accepted.specs.Accepted.{plain_entry}
use Rattle.dia_accepted.specs.Sets.{has}
use Rattle.dia_accepted.specs.Words.{command_in}
use Rattle.dia_accepted.proofs.Sets.{filtered_more}
use Rattle.dia_accepted.proofs.choosing.about_known.Goals as goal

pub loop-entry-preserved : goal.loop-entry-preserved
loop-entry-preserved c =
    c.in_ok-push_copy.ensures
    ∙ ap (λ es. es ++ cond c.is_other-is_other.result [] (plain_entry c.entry-item.result ∷ [])) c.loop-entry.invariant
    ∙ sym (filtered_more (λ e. cond c.args.all true (has c.args.known.now.entries (command_in e.counted))) c.args.list.now c.loop-entry.entry-index c.entry-item.result c.is_other-is_other.result c.loop-entry-test.true c.entry-item.is
    (rw c.as_slice.ensures.value at c.is_other-is_other.ensures))
