use Rattle.std.proofs.Common.{subst}
use Rattle.std.proofs.Math.Logic.{∥∥₁_map}
use Rattle.dia_check.specs.UnderWay.{IsUnderWay}
use Rattle.dia_check.proofs.stream.parts.read_part.Goals as goal

pub read_on-requires-clause-under_way : goal.read_on-requires-clause-under_way
read_on-requires-clause-under_way g c =
    ∥∥₁_map (rw c.in-Head.is at c.requires.part) (λ x. let (bytes, good, few, h, lies) = x in
    (bytes, good, few, subst (IsUnderWay (g.B.Book.meaning c.args.basis.now.book.now) c.args.basis.now.unknown c.args.basis.now.levels bytes good c.args.open_levels.now) c.if-part-from.true h.under_way, lies))

pub read_head-requires-clause-part : goal.read_head-requires-clause-part
read_head-requires-clause-part g c = rw c.in-Head.is at c.requires.part

pub read_data-requires-clause-part : goal.read_data-requires-clause-part
read_data-requires-clause-part g c = rw c.in-Data.is at c.requires.part

pub returns-then-part-from-clause-next : goal.returns-then-part-from-clause-next
returns-then-part-from-clause-next g c bytes good h lies =
    let x = rw c.in-Head.is at h in
    c.read_on.ensures.next bytes good (subst (IsUnderWay (g.B.Book.meaning c.args.basis.now.book.now) c.args.basis.now.unknown c.args.basis.now.levels bytes good c.args.open_levels.now) c.if-part-from.true x.under_way) lies

pub returns-else-part-from-clause-next : goal.returns-else-part-from-clause-next
returns-else-part-from-clause-next g c bytes good h lies = c.read_head.ensures.next bytes good (rw c.in-Head.is at h) lies

pub returns-in-Data-clause-next : goal.returns-in-Data-clause-next
returns-in-Data-clause-next g c bytes good h lies = c.read_data.ensures.next bytes good (rw c.in-Data.is at h) lies
