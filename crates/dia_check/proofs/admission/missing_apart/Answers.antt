use Rattle.std.proofs.Common.{List, sym, subst}
use Rattle.std.specs.Prelude.{MatchOption}
use Rattle.dia_book.specs.declared.DRule.{DRule}
use Rattle.dia_book.specs.Dictionary.{definitions}
use Rattle.dia_check.specs.OpenLevels.{IsMetAtEnd, IsMissingAtEnd}
use Rattle.std.proofs.Math.Logic.{∥∥₁_elim, ∥∥₁_map}
use Rattle.std.proofs.Props.{props}
use Rattle.dia_check.proofs.AvpFaults.{rules_here, def_within}
use Rattle.dia_check.proofs.admission.missing_apart.Goals as goal

pub returns : goal.returns
returns g c outer level now =
    let d = g.B.Book.meaning c.args.book.now in
    let same = rules_here d c.args.open_levels.now outer level c.innermost-def.result _ c.deref.result.now now c.innermost-def.ensures c.def-definition.ensures c.deref.ensures.value in
    subst (λ (rs : List DRule). MatchOption c.missing.result (IsMetAtEnd rs level.keys) (IsMissingAtEnd rs level.keys)) (sym same) (c.missing.ensures (definitions d) outer level now same)

pub def-definition-requires : goal.def-definition-requires
def-definition-requires g c = ∥∥₁_elim c.requires (search props) (λ x. let (outer, level, now) = x in
    def_within (g.B.Book.meaning c.args.book.now) c.args.open_levels.now outer level c.innermost-def.result now c.innermost-def.ensures)

pub missing-requires-clause-open : goal.missing-requires-clause-open
missing-requires-clause-open g c = ∥∥₁_map c.requires (λ x. let (outer, level, now) = x in (
  definitions (g.B.Book.meaning c.args.book.now),
  outer,
  level,
  now,
  rules_here (g.B.Book.meaning c.args.book.now) c.args.open_levels.now outer level c.innermost-def.result _ c.deref.result.now now c.innermost-def.ensures c.def-definition.ensures c.deref.ensures.value,
))
