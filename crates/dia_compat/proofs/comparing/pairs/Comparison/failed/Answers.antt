use Rattle.std.proofs.Common.{sym, subst}
use Rattle.dia_book.specs.Dictionary.{IsDictionary}
use Rattle.dia_compat.specs.declared.checking.PairKind.{PairKind}
use Rattle.dia_compat.specs.declared.checking.PairKind.TheVariants as kind
use Rattle.dia_compat.specs.Sides.{Compared}
use Rattle.dia_compat.specs.PairTests.{NamePair}
use Rattle.dia_compat.specs.FirstFailures.{IsFirstFailed, PairTest}
use Rattle.dia_compat.proofs.FailedPairs.{first_command, first_avp}
use Rattle.dia_compat.proofs.comparing.pairs.Comparison.failed.Goals as goal

pub returns-in-Command : goal.returns-in-Command
returns-in-Command g c =
    let all = c.args.self.now in
    let sa = subst (λ (z : Compared). IsDictionary z.sides.first) c.self.view_is c.self.invariant.first_sound in
    let sb = subst (λ (z : Compared). IsDictionary z.sides.second) c.self.view_is c.self.invariant.second_sound in
    let p : NamePair = (c.args.first.now, c.args.second.now) in
    subst (λ (k : PairKind). IsFirstFailed (PairTest all k p) c.failed_command.result) (sym c.in-Command.is)
    (subst (IsFirstFailed (PairTest all kind.Command p)) (sym c.failed_command.ensures) (first_command all sa sb p))

pub returns-in-Avp : goal.returns-in-Avp
returns-in-Avp g c =
    let all = c.args.self.now in
    let sa = subst (λ (z : Compared). IsDictionary z.sides.first) c.self.view_is c.self.invariant.first_sound in
    let sb = subst (λ (z : Compared). IsDictionary z.sides.second) c.self.view_is c.self.invariant.second_sound in
    let p : NamePair = (c.args.first.now, c.args.second.now) in
    subst (λ (k : PairKind). IsFirstFailed (PairTest all k p) c.failed_avp.result) (sym c.in-Avp.is) (first_avp all sa sb p c.failed_avp.result c.failed_avp.ensures)
