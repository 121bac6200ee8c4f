use Rattle.std.proofs.Common.{◌≡◌, [], Option, sym, ap, ◌∙◌}
use Rattle.std.specs.Prelude.{slice_get}
use Rattle.std.specs.Option.{option_map_or}
use Rattle.std.proofs.lemmas.Result.{IfOk-weaker}
use Rattle.dia_book.specs.Dictionary.{DictEntry}
use Rattle.dia_valid.proofs.Members.{at_some, there_is}
use Rattle.dia_lint.specs.Declarations.{declared_lines, declared_of, plain_declared}
use Rattle.dia_lint.proofs.guidelines.base.base_findings.Goals as goal

pub returns : goal.returns
returns g c =
    let d = g.B.Book.meaning c.args.book.now in
    let e = c.args.entry in
    let x = there_is d.entries e c.requires in
    let own = at_some (λ (y : DictEntry). plain_declared c.declared_of-own.result ≡ declared_of y) (slice_get d.entries e) x.0 c.declared_of-own.ensures x.1 in
    IfOk-weaker c.declared_findings.result _ _
    (λ found is. is ∙ ap (declared_lines e) own ∙ sym (ap (λ (o : Option DictEntry). option_map_or (λ (y : DictEntry). declared_lines e (declared_of y)) o []) x.1))
    c.declared_findings.ensures
