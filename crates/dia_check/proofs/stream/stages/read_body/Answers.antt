use Rattle.std.proofs.Common.{◌++◌}
use Rattle.std.proofs.Math.Logic.{∥∥₁_map}
use Rattle.dia_check.proofs.StreamMessages.{zeros_to_end}
use Rattle.dia_check.proofs.StreamBodies.{few_now, reading_now, lies_now, end_now, still_reads, reads_all, stops_reading}
use Rattle.dia_check.proofs.stream.stages.read_body.Goals as goal

pub read_all-requires : goal.read_all-requires
read_all-requires g c = ∥∥₁_map c.requires (λ x. let (bytes, may) = x in
    let d = g.B.Book.meaning c.args.basis.now.book.now in
    let z = zeros_to_end (bytes ++ c.args.piece.now) in (
      (bytes ++ c.args.piece.now) ++ z,
      few_now d (g.met.B.Book.sound c.args.basis.now.book.now) c.args.basis.now.unknown c.args.basis.now.levels bytes c.args.from c.args.piece.now c.args.body.now may,
      reading_now d (g.met.B.Book.sound c.args.basis.now.book.now) c.args.basis.now.unknown c.args.basis.now.levels bytes c.args.from c.args.piece.now c.args.body.now may z
          (end_now d (g.met.B.Book.sound c.args.basis.now.book.now) c.args.basis.now.unknown c.args.basis.now.levels bytes c.args.from c.args.piece.now c.args.body.now may),
      lies_now d (g.met.B.Book.sound c.args.basis.now.book.now) c.args.basis.now.unknown c.args.basis.now.levels bytes c.args.from c.args.piece.now c.args.body.now may z,
    ))

pub returns-in-Ok-true : goal.returns-in-Ok-true
returns-in-Ok-true g c bytes may =
    reads_all (g.B.Book.meaning c.args.basis.now.book.now) (g.met.B.Book.sound c.args.basis.now.book.now) c.args.basis.now.unknown c.args.basis.now.levels bytes c.args.from c.args.piece.now c.args.body.now may
    c.read_all.new.body c.in-Ok-true.ensures.def (λ all good part lies. rw c.in-Ok-true.field-0-test at (c.in-Ok-true.ensures.next all good part lies))

pub returns-in-Ok-false : goal.returns-in-Ok-false
returns-in-Ok-false g c bytes may =
    still_reads (g.B.Book.meaning c.args.basis.now.book.now) (g.met.B.Book.sound c.args.basis.now.book.now) c.args.basis.now.unknown c.args.basis.now.levels bytes c.args.from c.args.piece.now c.args.body.now may
    c.read_all.new.body c.in-Ok-false.ensures.def (λ all good part lies. rw c.in-Ok-false.field-0-test at (c.in-Ok-false.ensures.next all good part lies))

pub returns-in-Err : goal.returns-in-Err
returns-in-Err g c bytes may =
    stops_reading (g.B.Book.meaning c.args.basis.now.book.now) (g.met.B.Book.sound c.args.basis.now.book.now) c.args.basis.now.unknown c.args.basis.now.levels bytes c.args.from c.args.piece.now c.args.body.now may
    c.in-Err.refusal c.in-Err.ensures.next c.read_all.new.body c.stopped.result c.stopped.ensures
