use Rattle.std.proofs.Common.{◌≡◌, ◌≤◌, ◌+◌, ◌*◌, drop}
use Rattle.std.specs.Option.{option_map}
use Rattle.dia_text.specs.Fields.{columns_value}
use Rattle.dia_text.proofs.fields.columns_value.Given as goal

abbrev pub invariant-loop-row : goal.invariant-loop-row
invariant-loop-row l = record {
  small : l.total ≤ 255 * l.row-index;
  same : columns_value l.letters l.word ≡ option_map (λ n. l.total + n) (columns_value (drop l.row-index l.letters) l.rest);
}
