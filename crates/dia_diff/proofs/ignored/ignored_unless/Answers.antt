use Rattle.std.proofs.Common.{ap, ◌∙◌, arith}
use Rattle.std.specs.HashSet.{contains}
use Rattle.std.specs.List.{flat_map}
use Rattle.std.proofs.lemmas.List.{take_all}
use Rattle.dia_book.specs.Keys.{same_key}
use Rattle.dia_diff.specs.Ignored.{ignored_at}
use Rattle.dia_diff.specs.Origins.{found_of}
use Rattle.dia_diff.specs.Routes.{route_of}
use Rattle.dia_diff.proofs.Collected.{lists_next}
use Rattle.dia_diff.proofs.ignored.ignored_unless.Goals as goal

pub loop-site-preserved : goal.loop-site-preserved
loop-site-preserved g c =
    lists_next (ignored_at (route_of g.A.Book.meaning g.B.Book.meaning c.args.traffic.now) (found_of c.args.index c.args.breaks.now) (contains same_key c.args.broken.now)) c.as_slice-sites.result.now c.loop-site.site-index
    _ c.loop-site.found.items c.push_site.new.found.items (omega arith) c.in_ok-push_site.ensures c.loop-site.invariant

pub returns : goal.returns
returns g c =
    c.loop-site.invariant
    ∙ ap (flat_map (ignored_at (route_of g.A.Book.meaning g.B.Book.meaning c.args.traffic.now) (found_of c.args.index c.args.breaks.now) (contains same_key c.args.broken.now)))
    (take_all c.loop-site.site-index c.as_slice-sites.result.now (omega arith) ∙ c.as_slice-sites.ensures.value)
