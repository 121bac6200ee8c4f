use Rattle.std.specs.Prelude.{slice_get}
use Rattle.dia_breaking_shortest.proofs.LeafData.{some_data, some_data_is}
use Rattle.dia_breaking_shortest.proofs.finding.leaf_data.Goals as goal

pub returns-clause-shortest : goal.returns-clause-shortest
returns-clause-shortest g c =
    some_data (slice_get (g.B.Book.meaning c.args.book.now).entries c.args.entry) _ c.shortest.result c.format.ensures c.shortest.ensures.some c.shortest.ensures.none

pub returns-clause-exactly : goal.returns-clause-exactly
returns-clause-exactly g c = some_data_is (slice_get (g.B.Book.meaning c.args.book.now).entries c.args.entry) _ c.shortest.result c.format.ensures c.shortest.ensures.exactly
