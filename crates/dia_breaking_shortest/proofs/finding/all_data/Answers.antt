use Rattle.std.proofs.Common.{ap, ◌∙◌, arith}
use Rattle.std.specs.Prelude.{slice_get}
use Rattle.dia_book.specs.Dictionary.{DictEntry}
use Rattle.dia_valid.proofs.Members.{at_some}
use Rattle.dia_breaking_shortest.specs.Kept.{AreDataOf}
use Rattle.dia_breaking_shortest.proofs.LeafData.{IsKeptFor, IsTheDataOf, all_data, kept_more}
use Rattle.dia_breaking_shortest.proofs.LeafLengths.{pushed_length}
use Rattle.dia_breaking_shortest.proofs.finding.all_data.Goals as goal

pub loop-index-preserved : goal.loop-index-preserved
loop-index-preserved g c =
    let d = g.B.Book.meaning c.args.book.now in
    let i = c.loop-index.index in
    let found = c.leaf_data.result in (
      pushed_length _ _ _ i c.in_ok-push.ensures.items c.loop-index.invariant.0,
      kept_more (IsKeptFor d AreDataOf) c.loop-index.found.items _ i found c.loop-index.invariant.0 c.loop-index.invariant.1
          (λ entry at. at_some (λ (e : DictEntry). AreDataOf e found) (slice_get d.entries c.entry_at.result) entry c.leaf_data.ensures.shortest (ap (slice_get d.entries) c.entry_at.ensures ∙ at))
          c.in_ok-push.ensures.items,
      kept_more (IsKeptFor d IsTheDataOf) c.loop-index.found.items _ i found c.loop-index.invariant.0 c.loop-index.invariant.2
          (λ entry at. at_some (λ (e : DictEntry). IsTheDataOf e found) (slice_get d.entries c.entry_at.result) entry c.leaf_data.ensures.exactly (ap (slice_get d.entries) c.entry_at.ensures ∙ at))
          c.in_ok-push.ensures.items,
    )

pub returns-clause-shortest : goal.returns-clause-shortest
returns-clause-shortest g c =
    let d = g.B.Book.meaning c.args.book.now in
    all_data d AreDataOf c.loop-index.found.items c.loop-index.index (omega (arith, c.loop-index-test.false, c.entries-index-end.ensures.count, c.loop-index.auto.index-end)) c.loop-index.invariant.1

pub returns-clause-exactly : goal.returns-clause-exactly
returns-clause-exactly g c =
    let d = g.B.Book.meaning c.args.book.now in
    all_data d IsTheDataOf c.loop-index.found.items c.loop-index.index (omega (arith, c.loop-index-test.false, c.entries-index-end.ensures.count, c.loop-index.auto.index-end)) c.loop-index.invariant.2
