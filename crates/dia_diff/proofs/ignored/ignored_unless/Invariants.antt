use Rattle.std.proofs.Common.{◌≡◌, take}
use Rattle.std.specs.HashSet.{contains}
use Rattle.std.specs.List.{flat_map}
use Rattle.dia_book.specs.Keys.{same_key}
use Rattle.dia_diff.specs.Ignored.{ignored_at}
use Rattle.dia_diff.specs.Origins.{found_of}
use Rattle.dia_diff.specs.Routes.{route_of}
use Rattle.dia_diff.proofs.ignored.ignored_unless.Given as goal

abbrev pub invariant-loop-site : goal.invariant-loop-site
invariant-loop-site g l =
    l.found.items ≡ flat_map (ignored_at (route_of g.A.Book.meaning g.B.Book.meaning l.traffic) (found_of l.index l.breaks) (contains same_key l.broken)) (take l.site-index l.sites)
