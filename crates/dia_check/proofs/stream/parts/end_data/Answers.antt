use Rattle.std.proofs.Common.{arith}
use Rattle.std.proofs.Math.Logic.{∥∥₁_elim, ∥∥₁_map}
use Rattle.std.specs.Coded.{le_prop}
use Rattle.std.specs.Prelude.{◌<◌, ◌^◌}
use Rattle.dia_check.proofs.DataInPieces.{data_seen, data_passed, data_wrong, place_few}
use Rattle.dia_check.proofs.stream.parts.end_data.Goals as goal

pub fault-requires : goal.fault-requires
fault-requires g c =
    let few : c.args.part.at < 2 ^ 32 = ∥∥₁_elim c.requires le_prop (λ x. let (u, most, bytes, good, few, n, h, over) = x in
    let p = place_few (g.B.Book.meaning c.args.book.now) (g.met.B.Book.sound c.args.book.now) u most bytes good c.args.open_levels.now c.args.part n h over in omega (arith, few, p)) in
    omega (arith, few)

pub returns-in-Some : goal.returns-in-Some
returns-in-Some g c u most bytes good n h over =
    let d = g.B.Book.meaning c.args.book.now in
    rw (c.fault.ensures, c.avp.ensures) (data_wrong d (g.met.B.Book.sound c.args.book.now) u most bytes good c.args.open_levels.now c.args.part n h over c.in-Some.reason
    (c.in-Some.ensures d c.args.part.key h.avp.bytes (data_seen d (g.met.B.Book.sound c.args.book.now) u most bytes good c.args.open_levels.now c.args.part n h over)))

pub go_on-requires : goal.go_on-requires
go_on-requires g c =
    let d = g.B.Book.meaning c.args.book.now in
    ∥∥₁_map c.requires (λ x. let (u, most, bytes, good, few, n, h, over) = x in (
      u,
      most,
      bytes,
      good,
      few,
      data_passed d (g.met.B.Book.sound c.args.book.now) u most bytes good c.args.open_levels.now c.args.part n h over
          (c.in_default.ensures d c.args.part.key h.avp.bytes (data_seen d (g.met.B.Book.sound c.args.book.now) u most bytes good c.args.open_levels.now c.args.part n h over)),
    ))

pub returns : goal.returns
returns g c u most bytes good n h over =
    let d = g.B.Book.meaning c.args.book.now in
    c.go_on.ensures u most bytes good (data_passed d (g.met.B.Book.sound c.args.book.now) u most bytes good c.args.open_levels.now c.args.part n h over
    (c.in_default.ensures d c.args.part.key h.avp.bytes (data_seen d (g.met.B.Book.sound c.args.book.now) u most bytes good c.args.open_levels.now c.args.part n h over)))
