use Rattle.std.proofs.Common.{◌≡◌, List, [], map, take}
use Rattle.std.specs.Prelude.{string_bytes}
use Rattle.dia_accepted.specs.Accepted.{PlainEntry}
use Rattle.dia_accepted.specs.Seen.{HasSeen}
use Rattle.dia_lint_text.specs.Asking.{question}
use Rattle.dia_lint_text.specs.Cursors.{IsCursor}
use Rattle.dia_lint_text.specs.Lines.{line_of, recorded_of}
use Rattle.dia_lint_text.specs.Rows.{plain_row}
use Rattle.dia_lint_text.proofs.Left.{AreLeft}
use Rattle.dia_lint_text.proofs.listing.left_of.Given as goal

abbrev pub invariant-loop-row : goal.invariant-loop-row
invariant-loop-row g l = record {
  cursor : IsCursor l.cursor;
  place : l.cursor.text.now ≡ l.text;
  left : (list : List PlainEntry) → HasSeen l.initial.accepting list []
      → AreLeft (line_of (question l.asked) (g.B.Book.meaning l.parts.book.now) l.text l.findings) l.findings list (take l.row-index (map plain_row l.rows))
      (string_bytes l.left.text) (map (λ s. s.rule) l.left.shown.items);
  seen : (list : List PlainEntry) → HasSeen l.initial.accepting list [] → HasSeen l.accepting list (map (recorded_of l.findings) (take l.row-index (map plain_row l.rows)));
}
