use Rattle.std.proofs.Common.{flat_map, sym, ap, ◌∙◌, map-id}
use Rattle.std.proofs.lemmas.Iterator.{YieldsList-from_chars}
use Rattle.std.proofs.lemmas.Iterator.Consumers.{YieldsList-end}
use Rattle.dia_lint_text.specs.Lists.{dotted_char}
use Rattle.dia_lint_text.proofs.accepted.dotted.Goals as goal

pub returns : goal.returns
returns c =
    let end = YieldsList-end (YieldsList-from_chars c.args.subject.now c.utf8.subject cc) c.loop-c.yielded _ c.loop-c.yielded_by _ _ c.in-None.is c.next.ensures.steps in
    c.loop-c.invariant ∙ ap (flat_map dotted_char) (sym (map-id c.loop-c.yielded) ∙ end.0)
