use Rattle.std.proofs.Common.{◌≡◌, ◌++◌, take}
use Rattle.std.specs.HashSet.{contains}
use Rattle.std.specs.List.{filter_map}
use Rattle.dia_book.specs.Keys.{same_key}
use Rattle.dia_diff.specs.Ignored.{ignored_by}
use Rattle.dia_diff.specs.Routes.{route_of}
use Rattle.dia_diff.proofs.ignored.push_level.Given as goal

abbrev pub invariant-loop-rule : goal.invariant-loop-rule
invariant-loop-rule g l =
    l.found.items ≡ l.initial.found.items ++ filter_map (ignored_by (route_of g.A.Book.meaning g.B.Book.meaning l.traffic) (contains same_key l.broken) l.readers) (take l.rule-index l.rules)
