use Rattle.std.proofs.Common.{◌≡◌, length, take}
use Rattle.std.specs.Str.Lines.{lines}
use Rattle.dia_compat.specs.TableText.{plain_table, IsTableOf}
use Rattle.dia_compat.proofs.table.parse_table.Given as goal

abbrev pub invariant-loop-line : goal.invariant-loop-line
invariant-loop-line l = record {
  number : l.number ≡ length l.yielded;
  read : IsTableOf (take (length l.yielded) (lines l.text)) (plain_table l.table);
}
