use Rattle.std.proofs.lemmas.Result.{on_ok_weaker}
use Rattle.std.proofs.Common.{refl}
use Rattle.dia_diff_text.specs.Lines.{IsLineText, written}
use Rattle.dia_diff_text.specs.Plain.{plain_parts}
use Rattle.dia_diff_text.proofs.AddedTexts.{adds_text}
use Rattle.dia_diff_text.proofs.line.push.Goals as goal

pub returns : goal.returns
returns g c =
    let p = plain_parts c.in_ok-parts.parts in
    on_ok_weaker c.push_parts.result
    (adds_text (IsLineText c.args.json (g.A.Book.meaning c.args.a.now) (g.B.Book.meaning c.args.b.now) c.args.line.now) c.args.out.now c.push_parts.new.out (written c.args.json p) (p, c.in_ok-parts.ensures, refl))
    c.push_parts.ensures
