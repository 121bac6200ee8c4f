use Rattle.std.proofs.Common.{List, [], sym, ap, ◌∙◌, arith}
use Rattle.std.specs.Prelude.{slice_get}
use Rattle.std.specs.Option.{option_map_or}
use Rattle.std.proofs.lemmas.Option.{slice_get-get_or}
use Rattle.dia_breaking.specs.declared.readings.Reading.{Reading}
use Rattle.dia_breaking.specs.Listing.{header_lines}
use Rattle.dia_breaking.specs.Readings.{as_sent}
use Rattle.dia_breaking.proofs.RecordedLists.{adds_at, adds_none, adds_part, adds_each}
use Rattle.dia_breaking.proofs.header_lines.push_header_lines.Goals as goal

pub loop-site-init : goal.loop-site-init
loop-site-init g c = adds_none c.args.lines.now.items

pub loop-site-preserved : goal.loop-site-preserved
loop-site-preserved g c =
    let start = c.args.start.now in
    let site = c.loop-site.site in
    let f = header_lines (g.B.Book.meaning c.args.b.now) start.head start.base in
    let at = ap (λ (xs : List Reading). slice_get xs site) (sym c.deref-reading-items.ensures.value) ∙ slice_get-get_or c.deref-reading-items.result.now site (as_sent 0) (omega arith) in
    adds_part (λ k. option_map_or (f k) (slice_get start.readings.items k) []) site _ _ _ c.loop-site.invariant (adds_at (f site) start.readings.items site _ _ _ at c.in_ok-push_header.ensures)

pub returns : goal.returns
returns g c =
    let start = c.args.start.now in
    adds_each (header_lines (g.B.Book.meaning c.args.b.now) start.head start.base) start.readings.items c.loop-site.site _ _ (omega arith) c.loop-site.invariant
