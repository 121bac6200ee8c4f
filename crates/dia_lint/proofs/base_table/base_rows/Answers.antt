use Rattle.std.proofs.Common.{rules}
use Rattle.dia_lint.specs.BaseTable.{base_rows}
use Rattle.dia_lint.proofs.base_table.base_rows.Goals as goal

pub returns : goal.returns
unfolding base_rows
returns c = search rules
