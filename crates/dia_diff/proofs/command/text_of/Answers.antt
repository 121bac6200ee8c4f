use Rattle.std.proofs.Common.{List, subst, string_bytes, arith}
use Rattle.std.proofs.lemmas.List.{take_all}
use Rattle.dia_differences.specs.declared.lines.Line.{Line}
use Rattle.dia_diff_text.specs.Lines.{AreTexts}
use Rattle.dia_diff.proofs.TextsOfLines.{texts_next}
use Rattle.dia_diff.proofs.command.text_of.Goals as goal

pub loop-line-preserved : goal.loop-line-preserved
loop-line-preserved g c =
    texts_next c.args.json (g.A.Book.meaning c.args.a.now) (g.B.Book.meaning c.args.b.now) c.args.lines.now c.loop-line.line-index _ _ _ _ (omega arith) c.loop-line.invariant c.in_ok-push.ensures.2 c.in_ok-push.ensures.1

pub returns : goal.returns
returns g c =
    subst (λ (ls : List Line). AreTexts c.args.json (g.A.Book.meaning c.args.a.now) (g.B.Book.meaning c.args.b.now) ls (string_bytes c.loop-line.text)) (take_all c.loop-line.line-index c.args.lines.now (omega arith)) c.loop-line.invariant
