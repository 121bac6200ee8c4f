use Rattle.std.proofs.Common.{◌++◌, subst}
use Rattle.std.proofs.Math.Logic.{∥∥₁_map}
use Rattle.dia_check.specs.declared.stream.stages.Stage.{Stage}
use Rattle.dia_check.specs.Streaming.{MayRead, OpensAfter}
use Rattle.dia_check.proofs.StreamBodies.{still_stage}
use Rattle.dia_check.proofs.stream.stages.read_stage.Goals as goal

pub read_body-requires : goal.read_body-requires
read_body-requires g c = ∥∥₁_map c.requires (λ x. let (bytes, may) = x in
    (bytes, subst (λ (s : Stage). MayRead (g.B.Book.meaning c.args.basis.now.book.now) c.args.basis.now.unknown c.args.basis.now.levels bytes c.args.body.now s c.args.from c.args.piece.now) c.in-InBody.is may))

pub returns-in-InBody : goal.returns-in-InBody
returns-in-InBody g c bytes may = c.read_body.ensures bytes
    (subst (λ (s : Stage). MayRead (g.B.Book.meaning c.args.basis.now.book.now) c.args.basis.now.unknown c.args.basis.now.levels bytes c.args.body.now s c.args.from c.args.piece.now) c.in-InBody.is may)

pub returns-in_default : goal.returns-in_default
returns-in_default g c bytes may =
    still_stage (g.B.Book.meaning c.args.basis.now.book.now) (g.met.B.Book.sound c.args.basis.now.book.now) c.args.basis.now.unknown c.args.basis.now.levels bytes c.args.from c.args.piece.now
    (OpensAfter (g.B.Book.meaning c.args.basis.now.book.now) c.args.basis.now.levels c.args.from (bytes ++ c.args.piece.now)) c.args.body.now c.args.stage c.in_default.not-InBody may
