use Rattle.std.proofs.Common.{◌≡◌, ◌++◌, length, take, flat_map, string_bytes}
use Rattle.std.specs.Str.Lines.{lines}
use Rattle.dia_json.specs.ShownLines.{numbered_row}
use Rattle.dia_json.proofs.shown_lines.push_numbered.Given as goal

abbrev pub invariant-loop-row : goal.invariant-loop-row
invariant-loop-row l = string_bytes l.text ≡ string_bytes l.fn.text ++ flat_map (numbered_row l.number) (take (length l.yielded) (lines l.objects))
