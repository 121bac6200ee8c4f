use Rattle.std.proofs.Common.{subst}
use Rattle.std.specs.Prelude.{IfOk}
use Rattle.dia_book.specs.Dictionary.{Dictionary}
use Rattle.dia_check.specs.declared.Unknown.TheVariants.{Kept}
use Rattle.dia_check.specs.declared.Levels.TheVariants.{Any}
use Rattle.dia_answer.specs.Reports.{IsAnswered}
use Rattle.dia_peer.proofs.base_book.BaseBook.answer.Goals as goal

pub returns : goal.returns
returns c =
    let names = c.args.names.now in
    subst (λ (d : Dictionary). IfOk c.answer.result (IsAnswered d Kept Any names.host.now names.realm.now c.args.bytes.now)) c.args.self.now.is_base c.answer.ensures.answered
