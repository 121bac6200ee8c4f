use Rattle.std.proofs.Common.{◌+◌, refl, subst, sym}
use Rattle.dia_accepted.specs.declared.counting.Causes.{Causes}
use Rattle.dia_accepted.specs.Seen.{AreCauses}
use Rattle.dia_accepted.proofs.Tallies.{forgotten}
use Rattle.dia_accepted.proofs.counting.Causes.begin.Goals as goal

pub returns-then-forgets : goal.returns-then-forgets
returns-then-forgets c = λ recorded before command visits none are.
    let e = c.if-forgets.true in
    let new : Causes = record { firsts = c.args.self.now.firsts; counts = c.args.self.now.counts; own = c.clear.new.self } in
    subst (λ b. AreCauses b new recorded command (visits + 1)) (sym e)
    (forgotten c.args.self.now new recorded before command visits (none e) refl refl c.clear.ensures.empty (subst (λ b. AreCauses b c.args.self.now recorded before visits) e are))
