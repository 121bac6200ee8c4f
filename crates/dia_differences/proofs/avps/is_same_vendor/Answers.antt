use Rattle.std.proofs.Common.{◌≡◌}
use Rattle.std.specs.Prelude.{IsTrue}
use Rattle.dia_wire.specs.declared.Key.{Key}
use Rattle.dia_book.specs.Dictionary.{DictEntry}
use Rattle.dia_differences.proofs.SameFields.{field_iff}
use Rattle.dia_differences.proofs.avps.is_same_vendor.Goals as goal

pub returns : goal.returns
returns g c =
    field_iff (λ (e : DictEntry). e.key) (λ (u v : Key). u.vendor ≡ v.vendor) (g.A.Book.meaning c.args.a.now).entries (g.B.Book.meaning c.args.b.now).entries c.args.own c.args.other c.entry_key.result c.entry_key-2.result (IsTrue c.is_same_number.result) c.requires.own c.requires.other
    c.entry_key.ensures c.entry_key-2.ensures c.is_same_number.ensures
