-- What answers of either extent are made of.
use Rattle.std.specs.Prelude.{Some, string_bytes}
use Rattle.std.specs.Option.{option_map}
use Rattle.dia_answer.specs.declared.contents.Contents.{Contents}
use Rattle.dia_answer.specs.declared.contents.Extent.{Extent}
use Rattle.dia_answer.specs.Contents.{full}
use Rattle.dia_answer.specs.Bodies.{Parts}
use Rattle.dia_answer.specs.Helds.{plains}

abbrev pub parts_of : Contents → Parts
parts_of c = record {
  unknown = c.unknown;
  levels = c.levels;
  request = plains c.request.items;
  code = c.code;
  host = c.names.host.now;
  realm = c.names.realm.now;
  line = Some (string_bytes c.line);
  failed = option_map (λ f. f.items) c.failed;
}

-- with Error-Message and Failed-AVP, or without them
abbrev pub in_extent : Extent → Parts → Parts
in_extent e p = record {
  unknown = p.unknown;
  levels = p.levels;
  request = p.request;
  code = p.code;
  host = p.host;
  realm = p.realm;
  line = full e p.line;
  failed = full e p.failed;
}
