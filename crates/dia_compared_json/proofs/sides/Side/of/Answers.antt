use Rattle.std.specs.Str.{bytes_eq}
use Rattle.dia_book.specs.Dictionary.{DictEntry}
use Rattle.dia_compared_json.proofs.Names.{place_within}
use Rattle.dia_compared_json.proofs.sides.Side.of.Goals as goal

pub of_avp-requires : goal.of_avp-requires
of_avp-requires g c = place_within (λ (e : DictEntry). bytes_eq c.args.name.now e.name) (g.B.Book.meaning c.args.book.now).entries c.entry_named.result c.entry_named.ensures
