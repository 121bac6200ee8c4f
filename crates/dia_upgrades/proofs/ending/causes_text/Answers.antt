use Rattle.std.proofs.Common.{ap, map, string_bytes, subst, sym, ◌≡◌, ◌++◌, ◌∙◌}
use Rattle.std.specs.List.{flat_map}
use Rattle.std.proofs.lemmas.List.{take_all}
use Rattle.dia_upgrades.specs.Writing.{cause_in}
use Rattle.dia_upgrades.specs.Rows.{cause_among, cause_with, recorded_first}
use Rattle.dia_upgrades.specs.UnderWay.{plain_first}
use Rattle.dia_upgrades.proofs.Endings.{causes_more}
use Rattle.dia_upgrades.proofs.ending.causes_text.Goals as goal

pub loop-first-preserved : goal.loop-first-preserved
loop-first-preserved g c = λ forgets recorded command visits are.
    let first = plain_first c.first-item.result in
    let count = c.count-commands.ensures forgets recorded command visits (recorded_first first) (sym c.as_str.ensures.value) are in
    causes_more (cause_in (g.W.LineWriter.writes c.args.writer.now)) (cause_among recorded) c.args.firsts.now c.loop-first.first-index c.first-item.result c.loop-first-test.true c.first-item.is _ _
    (c.loop-first.invariant forgets recorded command visits are)
    (c.in_ok-push_cause.ensures ∙ ap (λ n. string_bytes c.loop-first.text ++ cause_in (g.W.LineWriter.writes c.args.writer.now) (cause_with n first)) count)

pub returns : goal.returns
returns g c = λ forgets recorded command visits are.
    subst (λ firsts. string_bytes c.loop-first.text ≡ flat_map (cause_in (g.W.LineWriter.writes c.args.writer.now)) (map (cause_among recorded) (map plain_first firsts)))
    (take_all c.loop-first.first-index c.args.firsts.now c.loop-first-test.false) (c.loop-first.invariant forgets recorded command visits are)
