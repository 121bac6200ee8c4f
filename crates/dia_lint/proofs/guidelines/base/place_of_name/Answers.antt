use Rattle.std.proofs.Common.{sym, ap, ◌∙◌}
use Rattle.std.specs.Prelude.{position}
use Rattle.dia_book.proofs.Lists.{position-map}
use Rattle.dia_lint.specs.BaseTable.{plain_row}
use Rattle.dia_lint.specs.Declarations.{has_name}
use Rattle.dia_lint.proofs.guidelines.base.place_of_name.Goals as goal

pub returns : goal.returns
returns c =
    c.place_named.ensures ∙ sym (position-map plain_row (has_name c.args.name.now) c.base_rows.result.now) ∙ ap (position (has_name c.args.name.now)) c.base_rows.ensures
