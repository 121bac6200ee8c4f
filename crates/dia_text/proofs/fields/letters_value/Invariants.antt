use Rattle.std.proofs.Common.{◌≡◌, ◌≤◌, ◌+◌, ◌*◌, drop}
use Rattle.std.specs.Option.{option_map}
use Rattle.dia_text.specs.Fields.{letters_value}
use Rattle.dia_text.proofs.fields.letters_value.Given as goal

abbrev pub invariant-loop-row : goal.invariant-loop-row
invariant-loop-row l = record {
  small : l.total ≤ 255 * l.row-index;
  same : letters_value l.letters l.word ≡ option_map (λ n. l.total + n) (letters_value (drop l.row-index l.letters) l.rest);
}
