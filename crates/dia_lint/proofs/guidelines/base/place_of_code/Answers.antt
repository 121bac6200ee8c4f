use Rattle.std.proofs.Common.{sym, ap, ◌∙◌}
use Rattle.std.specs.Prelude.{position}
use Rattle.dia_book.proofs.Lists.{position-map}
use Rattle.dia_lint.specs.BaseTable.{plain_row}
use Rattle.dia_lint.specs.Declarations.{has_code}
use Rattle.dia_lint.proofs.guidelines.base.place_of_code.Goals as goal

pub returns : goal.returns
returns c =
    c.place_in.ensures ∙ sym (position-map plain_row (has_code c.args.code) c.base_rows.result.now) ∙ ap (position (has_code c.args.code)) c.base_rows.ensures
