use Rattle.std.proofs.Common.{◌≡◌, length, ap, ◌∙◌, arith}
use Rattle.std.specs.Prelude.{slice_get}
use Rattle.dia_book.specs.Dictionary.{DictEntry}
use Rattle.dia_valid.proofs.Members.{at_some}
use Rattle.dia_breaking_shortest.specs.Floors.{IsSpellable}
use Rattle.dia_breaking_shortest.specs.Lengths.{IsLeafLength}
use Rattle.dia_breaking_shortest.proofs.LeafLengths.{pushed_length, one_leaf_more, one_spelled_more, all_spelled, leaves_kept}
use Rattle.dia_breaking_shortest.proofs.finding.leaves.Goals as goal

pub loop-index-preserved : goal.loop-index-preserved
loop-index-preserved g c =
    let entries = (g.B.Book.meaning c.args.book.now).entries in
    let i = c.loop-index.index in
    let size = c.loop-index.invariant.0 in (
      pushed_length _ _ _ i c.in_ok-push.ensures.items size,
      one_leaf_more entries c.loop-index.lengths.items _ i c.leaf_length.result size c.loop-index.invariant.1
          (λ entry at. at_some (λ (e : DictEntry). IsLeafLength e c.leaf_length.result) (slice_get entries c.entry_at.result) entry c.leaf_length.ensures.leaf
          (ap (slice_get entries) c.entry_at.ensures ∙ at))
          c.in_ok-push.ensures.items,
      one_spelled_more entries i c.loop-index.invariant.2
          (λ entry at. at_some (λ (e : DictEntry). IsSpellable e.key) (slice_get entries c.entry_at.result) entry c.leaf_length.ensures.spelled (ap (slice_get entries) c.entry_at.ensures ∙ at)),
    )

pub returns-clause-kept : goal.returns-clause-kept
returns-clause-kept g c =
    let d = g.B.Book.meaning c.args.book.now in
    let done : c.loop-index.index ≡ length d.entries = omega (arith, c.loop-index-test.false, c.entries-index-end.ensures.count, c.loop-index.auto.index-end) in
    let size = c.loop-index.invariant.0 in
    leaves_kept d (record { sends = c.args.sends; unknown = c.unknown_key.result; lengths = c.loop-index.lengths; fillers = c.new.result; leaf_data = c.new-2.result })
    (g.met.B.Book.sound c.args.book.now) (omega (arith, size, done)) c.unknown_key.ensures
    (λ e entry within at. c.loop-index.invariant.1 e entry (omega (arith, within, done)) at)

pub returns-clause-spelled : goal.returns-clause-spelled
returns-clause-spelled g c =
    let d = g.B.Book.meaning c.args.book.now in
    all_spelled d c.loop-index.index (omega (arith, c.loop-index-test.false, c.entries-index-end.ensures.count, c.loop-index.auto.index-end)) c.loop-index.invariant.2
