use Rattle.std.proofs.Common.{List, subst, arith}
use Rattle.std.proofs.Math.Logic.{∥∥₁_elim}
use Rattle.std.proofs.lemmas.Option.{slice_get_within}
use Rattle.std.specs.Coded.{le_prop}
use Rattle.dia_book.specs.declared.DRule.{DRule}
use Rattle.dia_book.specs.Dictionary.{definitions}
use Rattle.dia_faults.specs.States.{IsCounted}
use Rattle.dia_faults.proofs.JudgedKeys.{are_rules, same_rules, start_within}
use Rattle.dia_faults.proofs.placing.push_missing_at_end.Goals as goal

pub def-definition-requires : goal.def-definition-requires
def-definition-requires g c =
    ∥∥₁_elim c.requires.counted le_prop (λ x. let (rules, keys, has, counted) = x in slice_get_within (definitions (g.B.Book.meaning c.args.book.now)) c.args.level.def has.definition has.is_definition)

pub push_missing-requires-clause-few : goal.push_missing-requires-clause-few
push_missing-requires-clause-few g c =
    (are_rules (g.B.Book.meaning c.args.book.now) (g.met.B.Book.sound c.args.book.now) c.args.level.def c.def-definition.result.now c.def-definition.ensures c.as_slice-rules.result.now
    c.as_slice-rules.ensures.value).few

pub push_missing-requires-clause-within : goal.push_missing-requires-clause-within
push_missing-requires-clause-within g c =
    let d = g.B.Book.meaning c.args.book.now in let sound = g.met.B.Book.sound c.args.book.now in
    let definition = c.def-definition.result.now in let slice = c.as_slice-rules.result.now in (
      ∥∥₁_elim c.requires.counted le_prop (λ x. let (rules, keys, has, counted) = x in
          let same = same_rules d sound c.args.level.def definition c.def-definition.ensures slice c.as_slice-rules.ensures.value rules has in
          start_within slice keys c.args.level.run (subst (λ (rs : List DRule). IsCounted c.args.counts.now.counts.entries c.args.level.start c.args.level.run rs keys) same counted).ends),
      omega arith,
    )
