use Rattle.std.proofs.Common.{◌≡◌}
use Rattle.std.specs.Prelude.{IsTrue}
use Rattle.dia_terms.specs.declared.MRule.{MRule}
use Rattle.dia_book.specs.Dictionary.{DictEntry}
use Rattle.dia_differences.proofs.SameFields.{field_iff}
use Rattle.dia_differences.proofs.avps.is_same_m_rule.Goals as goal

pub returns : goal.returns
returns g c =
    field_iff (λ (e : DictEntry). e.rule) (λ (u v : MRule). u ≡ v) (g.A.Book.meaning c.args.a.now).entries (g.B.Book.meaning c.args.b.now).entries c.args.own c.args.other c.rule.result c.rule-2.result (IsTrue c.is_same_word.result) c.requires.own c.requires.other
    c.rule.ensures c.rule-2.ensures c.is_same_word.ensures
