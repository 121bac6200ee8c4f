-- A place of a text with its line and its column.
use Rattle.std.specs.Prelude.{◌≡◌, ◌≤◌, length}
use Rattle.dia_explain_places.specs.Places.{column_at, line_at}
use Rattle.dia_lint_text.specs.declared.cursor.Cursor.{Cursor}

pub record IsCursor (c : Cursor) : Type 0 where
  pub within : c.at ≤ length c.text.now
  pub line : c.line ≡ line_at c.text.now c.at
  pub column : c.column ≡ column_at c.text.now c.at
