use Rattle.std.proofs.Common.{◌+◌, ◌<◌, length, subst, arith}
use Rattle.std.proofs.Math.Logic.{∥∥₁_elim, ∥∥₁_map}
use Rattle.std.proofs.lemmas.Result.{err_from_is_err_and}
use Rattle.std.specs.Coded.{le_prop}
use Rattle.std.specs.Prelude.{◌^◌}
use Rattle.dia_check.specs.Reading.{IsInHead}
use Rattle.dia_check.proofs.DataInPieces.{stop_for}
use Rattle.dia_check.proofs.stream.parts.read_on.Goals as goal

pub returns-in_err-at-clause-next : goal.returns-in_err-at-clause-next
returns-in_err-at-clause-next g c bytes good w lies =
    let p = err_from_is_err_and c.from_residual.result c.from_residual.ensures.1 in
    rw (p.1, p.2) (c.in_err-at.ensures.next bytes good w lies)

pub returns-in_default-clause-next : goal.returns-in_default-clause-next
returns-in_default-clause-next g c bytes good w lies = rw c.in_default.is at (c.in_ok-at.ensures.next bytes good w lies)

pub begin_head-requires-clause-few : goal.begin_head-requires-clause-few
begin_head-requires-clause-few g c =
    let small : c.args.from + length c.args.piece.now < 2 ^ 32 = ∥∥₁_elim c.requires.under_way le_prop (λ x. let (bytes, good, few, w, lies) = x in let r = lies.1 in omega (arith, few, r)) in
    let within = (rw c.in-Some.is at c.in_ok-at.ensures.within).1 in
    omega (arith, small, within)

pub returns-in_err-part-clause-next : goal.returns-in_err-part-clause-next
returns-in_err-part-clause-next g c bytes good w lies =
    let d = g.B.Book.meaning c.args.basis.now.book.now in
    let p = err_from_is_err_and c.from_residual-in_err-part.result c.from_residual-in_err-part.ensures.1 in
    let now = rw c.in-Some.is at (c.in_ok-at.ensures.next bytes good w lies) in
    rw (p.1, p.2) (stop_for d c.args.basis.now.unknown c.args.basis.now.levels bytes good ⊥ _ (λ none. absurd none) _
    (c.in_err-part.ensures d c.args.basis.now.unknown c.args.basis.now.levels bytes good (g.met.B.Book.sound c.args.basis.now.book.now) now))

pub read_head-requires-clause-part : goal.read_head-requires-clause-part
read_head-requires-clause-part g c =
    let d = g.B.Book.meaning c.args.basis.now.book.now in
    ∥∥₁_map c.requires.under_way (λ x. let (bytes, good, few, w, lies) = x in
    let now = rw c.in-Some.is at (c.in_ok-at.ensures.next bytes good w lies) in (
      bytes,
      good,
      few,
      subst (IsInHead d c.args.basis.now.unknown c.args.basis.now.levels bytes good c.read_piece.new.open_levels c.in_ok-part.part) c.if-at-from.true
          (c.in_ok-part.ensures d c.args.basis.now.unknown c.args.basis.now.levels bytes good (g.met.B.Book.sound c.args.basis.now.book.now) now),
      lies,
    ))

pub returns-then-at-from-clause-next : goal.returns-then-at-from-clause-next
returns-then-at-from-clause-next g c bytes good w lies =
    let d = g.B.Book.meaning c.args.basis.now.book.now in
    let now = rw c.in-Some.is at (c.in_ok-at.ensures.next bytes good w lies) in
    c.read_head.ensures.next bytes good (subst (IsInHead d c.args.basis.now.unknown c.args.basis.now.levels bytes good c.read_piece.new.open_levels c.in_ok-part.part) c.if-at-from.true
    (c.in_ok-part.ensures d c.args.basis.now.unknown c.args.basis.now.levels bytes good (g.met.B.Book.sound c.args.basis.now.book.now) now)) lies

pub returns-clause-next : goal.returns-clause-next
returns-clause-next g c bytes good w lies =
    let d = g.B.Book.meaning c.args.basis.now.book.now in
    let now = rw c.in-Some.is at (c.in_ok-at.ensures.next bytes good w lies) in
    let from = (rw c.in-Some.is at c.in_ok-at.ensures.within).0 in
    subst (IsInHead d c.args.basis.now.unknown c.args.basis.now.levels bytes good c.read_piece.new.open_levels c.in_ok-part.part) (omega (arith, from))
    (c.in_ok-part.ensures d c.args.basis.now.unknown c.args.basis.now.levels bytes good (g.met.B.Book.sound c.args.basis.now.book.now) now)
