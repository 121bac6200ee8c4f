use Rattle.std.proofs.Common.{◌≡◌}
use Rattle.dia_lint_text.specs.Cursors.{IsCursor}
use Rattle.dia_lint_text.proofs.cursor.Cursor.advance.Given as goal

abbrev pub invariant-loop-index : goal.invariant-loop-index
invariant-loop-index l = record {
  cursor : IsCursor l.self;
  text : l.self.text.now ≡ l.fn.self.text.now;
  at : l.self.at ≡ l.index;
}
