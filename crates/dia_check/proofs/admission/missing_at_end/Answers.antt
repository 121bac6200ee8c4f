use Rattle.std.proofs.Common.{List, sym, subst, refl, arith}
use Rattle.dia_check.proofs.KeptLevels.{own_counted, all_met}
use Rattle.dia_book.specs.declared.DRule.{DRule}
use Rattle.dia_book.specs.Dictionary.{definitions}
use Rattle.dia_check.specs.OpenLevels.{IsMetAtEnd}
use Rattle.std.proofs.Math.Logic.{∥∥₁_elim}
use Rattle.std.proofs.Props.{props}
use Rattle.dia_check.proofs.AvpFaults.{rules_here, def_within}
use Rattle.dia_check.proofs.admission.missing_at_end.Goals as goal

pub def-definition-requires : goal.def-definition-requires
def-definition-requires g c = ∥∥₁_elim c.requires (search props) (λ x. let (outer, level, now) = x in
    def_within (g.B.Book.meaning c.args.book.now) c.args.open_levels.now outer level c.innermost-def.result now c.innermost-def.ensures)

pub returns-then-is_met : goal.returns-then-is_met
returns-then-is_met g c outer level now =
    let d = g.B.Book.meaning c.args.book.now in
    let same = rules_here d c.args.open_levels.now outer level c.innermost-def.result _ c.deref.result.now now c.innermost-def.ensures c.def-definition.ensures c.deref.ensures.value in
    let counted = own_counted (definitions d) c.args.open_levels.now outer level c.deref.result.now _ now same refl in
    subst (λ (rs : List DRule). IsMetAtEnd rs level.keys) (sym same) (all_met c.deref.result.now level.keys c.args.open_levels.now.innermost _ counted
    (λ i rule above below at. counted.done i rule above (let all = c.is_met.ensures.0 c.if-is_met.true in omega (arith, below, all)) at))
