use Rattle.std.proofs.Common.{ℕ, ◌≡◌, ◌+◌, ◌<◌, ◌≤◌, subst, arith}
use Rattle.dia_check.specs.Reading.{IsNext}
use Rattle.std.proofs.Math.Logic.{∥∥₁_elim, ∥∥₁_map}
use Rattle.std.proofs.lemmas.Result.{err_from_is_err_and}
use Rattle.std.specs.Coded.{le_prop}
use Rattle.dia_check.proofs.DataInPieces.{data_more, least_count, stop_for}
use Rattle.dia_check.proofs.stream.parts.read_data.Goals as goal

pub overflow_sub-part : goal.overflow_sub-part
overflow_sub-part g c = let e : c.args.from ≤ c.args.part.next = ∥∥₁_elim c.requires.part le_prop (λ x. let (bytes, good, few, (h, less), lies) = x in omega (arith, less)) in e

pub end_data-requires : goal.end_data-requires
end_data-requires g c =
    let d = g.B.Book.meaning c.args.basis.now.book.now in let u = c.args.basis.now.unknown in let most = c.args.basis.now.levels in
    let least = least_count c.min-taken.result c.saturating_sub.result c.min-count.result c.min-count.ensures in
    let room = c.saturating_sub.ensures in let taken = c.min-taken.ensures in
    ∥∥₁_map c.requires.part (λ x. let (bytes, good, few, (h, less), lies) = x in (
      u,
      most,
      bytes,
      good,
      few,
      _,
      data_more d (g.met.B.Book.sound c.args.basis.now.book.now) u most bytes good c.args.open_levels.now c.args.part c.args.from h c.args.piece.now lies c.min-taken.result c.min-count.result
          c.feed_leaf.new.leaf
          (omega (arith, taken)) least.0 (rw room at least.1) (rw room at least.2) (λ read seen. c.feed_leaf.ensures d c.args.part.key read seen),
      c.if-from-taken.false,
    ))

pub returns-in_err-next-clause-next : goal.returns-in_err-next-clause-next
returns-in_err-next-clause-next g c bytes good (h, less) lies =
    let d = g.B.Book.meaning c.args.basis.now.book.now in let u = c.args.basis.now.unknown in let most = c.args.basis.now.levels in
    let least = least_count c.min-taken.result c.saturating_sub.result c.min-count.result c.min-count.ensures in
    let room = c.saturating_sub.ensures in let taken = c.min-taken.ensures in
    let p = err_from_is_err_and c.from_residual.result c.from_residual.ensures.1 in
    rw (p.1, p.2) (stop_for d u most bytes good ⊥ _ (λ none. absurd none) _ (c.in_err-next.ensures u most bytes good _ (data_more d (g.met.B.Book.sound c.args.basis.now.book.now) u most
    bytes good c.args.open_levels.now c.args.part c.args.from h c.args.piece.now lies c.min-taken.result c.min-count.result c.feed_leaf.new.leaf
    (omega (arith, taken)) least.0 (rw room at least.1) (rw room at least.2) (λ read seen. c.feed_leaf.ensures d c.args.part.key read seen)) c.if-from-taken.false))

pub returns-clause-count : goal.returns-clause-count
returns-clause-count g c =
    let taken = c.min-taken.ensures in
    let e : c.args.from < c.args.part.next = ∥∥₁_elim c.requires.part le_prop (λ x. let (bytes, good, few, (h, less), lies) = x in less) in
    (omega (arith, taken, e, c.requires.some), omega (arith, taken))

pub returns-then-from-taken-clause-next : goal.returns-then-from-taken-clause-next
returns-then-from-taken-clause-next g c bytes good (h, less) lies =
    let d = g.B.Book.meaning c.args.basis.now.book.now in let u = c.args.basis.now.unknown in let most = c.args.basis.now.levels in
    let least = least_count c.min-taken.result c.saturating_sub.result c.min-count.result c.min-count.ensures in
    let room = c.saturating_sub.ensures in let taken = c.min-taken.ensures in (
      data_more d (g.met.B.Book.sound c.args.basis.now.book.now) u most bytes good c.args.open_levels.now c.args.part c.args.from h c.args.piece.now lies c.min-taken.result c.min-count.result
          c.feed_leaf.new.leaf
          (omega (arith, taken)) least.0 (rw room at least.1) (rw room at least.2) (λ read seen. c.feed_leaf.ensures d c.args.part.key read seen),
      c.if-from-taken.true,
    )

pub returns-clause-next : goal.returns-clause-next
returns-clause-next g c bytes good (h, less) lies =
    let d = g.B.Book.meaning c.args.basis.now.book.now in let u = c.args.basis.now.unknown in let most = c.args.basis.now.levels in
    let least = least_count c.min-taken.result c.saturating_sub.result c.min-count.result c.min-count.ensures in
    let room = c.saturating_sub.ensures in let taken = c.min-taken.ensures in
    let same : c.args.part.next ≡ c.args.from + c.min-taken.result = omega (arith, taken, less, c.if-from-taken.false) in
    subst (λ (n : ℕ). IsNext d u most bytes good c.end_data.new.open_levels c.in_ok-next.next n) same
    (c.in_ok-next.ensures u most bytes good _ (data_more d (g.met.B.Book.sound c.args.basis.now.book.now) u most
    bytes good c.args.open_levels.now c.args.part c.args.from h c.args.piece.now lies c.min-taken.result c.min-count.result c.feed_leaf.new.leaf
    (omega (arith, taken)) least.0 (rw room at least.1) (rw room at least.2) (λ read seen. c.feed_leaf.ensures d c.args.part.key read seen)) c.if-from-taken.false)
