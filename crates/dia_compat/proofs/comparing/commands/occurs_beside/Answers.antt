use Rattle.std.proofs.Common.{sym, ◌∙◌}
use Rattle.dia_book.proofs.Lists.{list_any-map}
use Rattle.dia_compat.specs.PairTests.{plain_names, is_pair}
use Rattle.dia_compat.proofs.comparing.commands.occurs_beside.Goals as goal

pub returns : goal.returns
returns c =
    rw (c.as_str.ensures.value, c.as_str-2.ensures.value) at
    (c.contains.ensures ∙ sym (list_any-map plain_names (is_pair c.as_str.result.now c.as_str-2.result.now) c.args.beside.now.keys))
