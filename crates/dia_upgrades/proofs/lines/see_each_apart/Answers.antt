use Rattle.std.proofs.Common.{[], List, false, refl, subst, ◌++◌}
use Rattle.std.proofs.lemmas.List.{take_all}
use Rattle.dia_breaking.specs.declared.line.Line.{Line}
use Rattle.dia_upgrades.specs.Recorded.{AreParts}
use Rattle.dia_upgrades.specs.UnderWay.{IsRecordedIn}
use Rattle.dia_upgrades.proofs.Listings.{apart_both, apart_nothing}
use Rattle.dia_upgrades.proofs.Parts.{one_more}
use Rattle.dia_upgrades.proofs.lines.see_each_apart.Goals as goal

pub loop-line-init : goal.loop-line-init
loop-line-init g c = ([], refl, λ asked. apart_nothing asked c.args.place c.args.seen.now)

pub loop-line-preserved : goal.loop-line-preserved
loop-line-preserved g c =
    let up = c.args.upgrade.now in
    let is = IsRecordedIn up c.args.breaks.now c.args.place false in
    let (others, parts, sees) = c.loop-line.invariant in
    let (more, is_more, one) = c.in_ok-see_apart.ensures in
    let here = subst (λ (x : Line). is x more) c.line-item.is is_more in (
      others ++ more,
      one_more is c.args.lines.now c.loop-line.line-index c.line-item.result others more c.loop-line-test.true parts here,
      λ asked. apart_both asked c.args.place c.args.seen.now c.loop-line.seen c.see_apart.new.seen others more (sees asked) (one asked),
    )

pub returns : goal.returns
returns g c =
    let up = c.args.upgrade.now in
    let (others, parts, sees) = c.loop-line.invariant in
    let all = take_all c.loop-line.line-index c.args.lines.now c.loop-line-test.false in
    (others, subst (λ (lines : List Line). AreParts (IsRecordedIn up c.args.breaks.now c.args.place false) lines others) all parts, sees)
