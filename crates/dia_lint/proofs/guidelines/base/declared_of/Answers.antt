use Rattle.std.proofs.Common.{◌≡◌, ap, ◌∙◌}
use Rattle.std.specs.Prelude.{slice_get}
use Rattle.dia_data.specs.Plain.{name_of, plain_format}
use Rattle.dia_book.specs.Dictionary.{DictEntry}
use Rattle.dia_valid.proofs.Members.{at_some, when_some}
use Rattle.dia_lint.specs.declared.guidelines.base.Declared.{Declared}
use Rattle.dia_lint.specs.Declarations.{declared_of, plain_declared}
use Rattle.dia_lint.proofs.guidelines.base.declared_of.Goals as goal

pub returns : goal.returns
returns g c =
    let d = g.B.Book.meaning c.args.book.now in
    let o = slice_get d.entries c.args.entry in
    let own : Declared = record { key = c.entry_key.result; name = c.entry_name.result; format = c.name.result; m = c.rule.result } in
    when_some (λ (x : DictEntry). plain_declared own ≡ declared_of x) o
    (λ x at.
    let key = at_some (λ (y : DictEntry). c.entry_key.result ≡ y.key) o x c.entry_key.ensures at in
    let name = at_some (λ (y : DictEntry). c.entry_name.result.now ≡ y.name) o x c.entry_name.ensures at in
    let format = c.name.ensures ∙ ap name_of (at_some (λ (y : DictEntry). plain_format c.format.result.now ≡ y.format) o x c.format.ensures at) in
    let m = at_some (λ (y : DictEntry). c.rule.result ≡ y.rule) o x c.rule.ensures at in
    λ i. record { key = key i; name = name i; format = format i; m = m i })
