-- The parts of a line as plain values.
use Rattle.std.specs.Prelude.{string_bytes}
use Rattle.std.specs.Option.{option_map}
use Rattle.dia_diff_text.specs.declared.parts.Parts.{Parts}
use Rattle.dia_diff_text.specs.Lines.{LineParts}

abbrev pub plain_parts : Parts → LineParts
plain_parts p = record {
  is_command = p.is_command;
  name = p.name.now;
  field = option_map (λ w. w.now) p.field;
  first = option_map string_bytes p.first;
  second = option_map string_bytes p.second;
  there = p.there;
  back = p.back;
}
