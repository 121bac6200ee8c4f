use Rattle.std.proofs.Common.{ap, length, map, sym, ◌++◌, ◌∙◌, ◌≡◌, ℕ}
use Rattle.std.proofs.lemmas.List.{length-map}
use Rattle.dia_accepted.specs.Accepted.{plain_entry}
use Rattle.dia_upgrades.specs.UnderWay.{lines_end}
use Rattle.dia_upgrades.specs.Writing.{stale_text}
use Rattle.dia_upgrades.proofs.Endings.{three_added}
use Rattle.dia_upgrades.proofs.ending.end_text.Goals as goal

pub returns : goal.returns
returns g c =
    let w = g.W.LineWriter.writes c.args.writer.now in
    let fails = map plain_entry c.args.fails.now in
    let failing : length c.args.fails.now ≡ length fails = sym (length-map c.args.fails.now plain_entry) in
    let written = rw c.as_slice.ensures.value at c.in_ok-causes.ensures in
    let causes = c.as_str-causes.result.now in (
      causes,
      λ forgets recorded command visits are. c.as_str-causes.ensures.value ∙ written forgets recorded command visits are,
      three_added (lines_end w c.args.meaning c.args.counts.lines c.args.seen.now.is_some causes (length c.args.fails.now)) (stale_text w fails) (w.of_counts c.args.counts) _ _ _ _
          c.new-text.ensures.bytes c.in_ok-push_end.ensures c.in_ok-push_stale.ensures c.in_ok-write_counts.ensures
          ∙ ap (λ (n : ℕ). lines_end w c.args.meaning c.args.counts.lines c.args.seen.now.is_some causes n ++ (stale_text w fails ++ w.of_counts c.args.counts)) failing,
    )
