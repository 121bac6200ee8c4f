use Rattle.std.proofs.Common.{◌≡◌, ℕ, List}
use Rattle.std.specs.Prelude.{IsTrue}
use Rattle.dia_book.specs.Dictionary.{DictEntry}
use Rattle.dia_differences.proofs.SameFields.{field_iff}
use Rattle.dia_differences.proofs.avps.is_same_name.Goals as goal

pub returns : goal.returns
returns g c =
    field_iff (λ (e : DictEntry). e.name) (λ (u v : List ℕ). u ≡ v) (g.A.Book.meaning c.args.a.now).entries (g.B.Book.meaning c.args.b.now).entries c.args.own c.args.other c.entry_name.result.now c.entry_name-2.result.now (IsTrue c.is_same_text.result) c.requires.own c.requires.other
    c.entry_name.ensures c.entry_name-2.ensures c.is_same_text.ensures
