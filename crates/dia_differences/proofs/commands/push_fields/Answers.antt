use Rattle.std.proofs.Common.{List}
use Rattle.std.proofs.lemmas.Result.{on_ok_weaker}
use Rattle.dia_differences.specs.declared.lines.HeadField.{HeadField}
use Rattle.dia_differences.specs.declared.lines.HeadField.TheVariants as kinds
use Rattle.dia_differences.specs.declared.lines.What.{What}
use Rattle.dia_differences.specs.Lines.{HeadLine}
use Rattle.dia_differences.proofs.Chains.{adds_five}
use Rattle.dia_differences.proofs.commands.push_fields.Goals as goal

pub returns : goal.returns
returns g c =
    let L : HeadField → List What → Type 0 = HeadLine (g.A.Book.meaning c.args.a.now) (g.B.Book.meaning c.args.b.now) c.args.first c.args.second in
    on_ok_weaker c.push_field-5.result
    (adds_five (L kinds.Name) (L kinds.Code) (L kinds.Class) (L kinds.Application) (L kinds.Proxiable) c.args.lines.now.items c.push_field.new.lines.items c.push_field-2.new.lines.items c.push_field-3.new.lines.items c.push_field-4.new.lines.items c.push_field-5.new.lines.items c.in_ok-push_field.ensures c.in_ok-push_field-2.ensures c.in_ok-push_field-3.ensures c.in_ok-push_field-4.ensures)
    c.push_field-5.ensures
