use Rattle.std.proofs.Common.{List, Option, Some, None, sym, subst}
use Rattle.std.specs.Prelude.{MatchOption}
use Rattle.dia_book.specs.declared.DRule.{DRule}
use Rattle.dia_book.specs.Dictionary.{definitions}
use Rattle.dia_check.specs.declared.open_levels.Wrong.{Wrong}
use Rattle.dia_check.specs.OpenLevels.{IsFirstMisplaced, IsWellPlaced}
use Rattle.std.proofs.Math.Logic.{∥∥₁_elim, ∥∥₁_map}
use Rattle.std.proofs.Props.{props}
use Rattle.dia_check.proofs.AvpFaults.{refused_by_flags, refused_by_place, admitted, def_within, rules_here, are_rules_here}
use Rattle.dia_check.proofs.admission.admit.Goals as goal

-- what holds where nothing is wrong, and what is wrong, by what is said of the place
by_place : (A B : Type 0) (P Q : Wrong → Type 0) (o : Option Wrong) → MatchOption o A P → (A → B) → ((w : Wrong) → P w → Q w) → MatchOption o B Q
by_place A B P Q None h f g = f h
by_place A B P Q (Some w) h f g = g w h

pub returns-in-Some : goal.returns-in-Some
returns-in-Some g c outer level now = refused_by_flags (g.B.Book.meaning c.args.basis.now.book.now) c.args.basis.now.unknown c.args.key c.args.flags level.rules level.keys c.in-Some.wrong c.in-Some.ensures

pub def-definition-requires : goal.def-definition-requires
def-definition-requires g c = ∥∥₁_elim c.requires.open_levels (search props) (λ x. let (outer, level, now, few) = x in
    def_within (g.B.Book.meaning c.args.basis.now.book.now) c.args.open_levels.now outer level c.innermost-def.result now c.innermost-def.ensures)

pub slot-requires : goal.slot-requires
slot-requires g c = ∥∥₁_elim c.requires.open_levels (search props) (λ x. let (outer, level, now, few) = x in
    def_within (g.B.Book.meaning c.args.basis.now.book.now) c.args.open_levels.now outer level c.innermost-def.result now c.innermost-def.ensures)

pub meet-requires-clause-rules : goal.meet-requires-clause-rules
meet-requires-clause-rules g c =
    are_rules_here (g.B.Book.meaning c.args.basis.now.book.now) c.innermost-def.result.def _ c.deref.result.now (g.met.B.Book.sound c.args.basis.now.book.now) c.def-definition.ensures c.deref.ensures.value

pub returns : goal.returns
returns g c outer level now =
    let d = g.B.Book.meaning c.args.basis.now.book.now in
    let same = rules_here d c.args.open_levels.now outer level c.innermost-def.result _ c.deref.result.now now c.innermost-def.ensures c.def-definition.ensures c.deref.ensures.value in
    by_place _ _ _ _ c.meet.result (c.meet.ensures (definitions d) outer level now same)
    (λ met. (
      admitted d c.args.basis.now.unknown c.args.key c.args.flags level.rules level.keys c.in_default.ensures (subst (λ (rs : List DRule). IsWellPlaced rs level.keys c.args.key) (sym same) met.0),
      met.1,
    ))
    (λ w first. refused_by_place d c.args.basis.now.unknown c.args.key c.args.flags level.rules level.keys w c.in_default.ensures
    (subst (λ (rs : List DRule). IsFirstMisplaced rs level.keys c.args.key w) (sym same) first))

pub meet-requires-clause-open : goal.meet-requires-clause-open
meet-requires-clause-open g c = ∥∥₁_map c.requires.open_levels (λ x. let (outer, level, now, few) = x in (
  definitions (g.B.Book.meaning c.args.basis.now.book.now),
  outer,
  level,
  now,
  rules_here (g.B.Book.meaning c.args.basis.now.book.now) c.args.open_levels.now outer level c.innermost-def.result _ c.deref.result.now now c.innermost-def.ensures c.def-definition.ensures c.deref.ensures.value,
  few,
))
