use Rattle.std.proofs.Common.{subst}
use Rattle.std.specs.Prelude.{IfSome}
use Rattle.dia_breaking.specs.OwnBreaks.{RecordsData}
use Rattle.dia_breaking.specs.Upgrades.{sides_of}
use Rattle.dia_breaking.proofs.FormatData.{data_more, when_on_ok}
use Rattle.dia_breaking.proofs.Unchecked.{unchecked_more}
use Rattle.dia_breaking.proofs.upgrade.Upgrade.push_own.Goals as goal

pub returns-in-Some-clause-formats : goal.returns-in-Some-clause-formats
returns-in-Some-clause-formats g c =
    let s = sides_of c.args.self.now in
    when_on_ok _ _ c.push_with_room.result
    (λ items content all. data_more s.sender s.receiver s.sends s.unknown c.args.lines.now.items c.push_with_room.new.lines.items _ _ _ items
    (subst (λ found. IfSome found (λ pair. RecordsData s pair.0)) c.in-Some.is (c.in_ok-cause.ensures.formats content.0 content.1)) all)
    c.push_with_room.ensures.items

pub returns-in-Some-clause-unchecked : goal.returns-in-Some-clause-unchecked
returns-in-Some-clause-unchecked g c =
    when_on_ok _ _ c.push_with_room.result (unchecked_more c.args.lines.now.items c.push_with_room.new.lines.items _ _ _) c.push_with_room.ensures.items
