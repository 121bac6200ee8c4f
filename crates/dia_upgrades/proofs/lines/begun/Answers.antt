use Rattle.std.proofs.Common.{[], map, subst, sym}
use Rattle.dia_accepted.specs.Accepted.{plain_entry}
use Rattle.dia_upgrades.specs.UnderWay.{IsUnderWay}
use Rattle.dia_upgrades.specs.declared.lines.Listing.{Listing}
use Rattle.dia_upgrades.proofs.Commands.{start}
use Rattle.dia_upgrades.proofs.lines.begun.Goals as goal

pub returns-clause-way : goal.returns-clause-way
returns-clause-way c = λ w asked forgets put.
    let list = map plain_entry c.args.list.now in
    let is = c.in_ok-new.ensures.ok in
    subst (λ (l : Listing). IsUnderWay w asked forgets list 0 0 put put l [] []) (sym is) (start w asked forgets list put _ (c.in_ok-seen.ensures asked forgets 0) c.new-2.ensures)
