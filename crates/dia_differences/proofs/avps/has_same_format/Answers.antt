use Rattle.std.specs.Prelude.{IsTrue}
use Rattle.dia_data.specs.Plain.{PlainFormat, plain_format}
use Rattle.dia_differences.specs.Same.{IsSameFormat}
use Rattle.dia_book.specs.Dictionary.{DictEntry}
use Rattle.dia_differences.proofs.SameFields.{field_iff}
use Rattle.dia_differences.proofs.avps.has_same_format.Goals as goal

pub returns : goal.returns
returns g c =
    field_iff (λ (e : DictEntry). e.format) (λ (u v : PlainFormat). IsSameFormat u v) (g.A.Book.meaning c.args.a.now).entries (g.B.Book.meaning c.args.b.now).entries c.args.own c.args.other (plain_format c.format.result.now) (plain_format c.format-2.result.now) (IsTrue c.is_same_format.result) c.requires.own c.requires.other
    c.format.ensures c.format-2.ensures c.is_same_format.ensures
