use Rattle.std.proofs.Common.{List, subst, string_bytes}
use Rattle.std.proofs.lemmas.Result.{IfOk-weaker}
use Rattle.dia_differences.specs.declared.lines.Line.{Line}
use Rattle.dia_diff_text.specs.Lines.{AreTexts}
use Rattle.dia_diff.proofs.TextsOfLines.{are_lines}
use Rattle.dia_diff.proofs.command.answered.Goals as goal

pub returns-clause-text : goal.returns-clause-text
returns-clause-text g c =
    let a = g.A.Book.meaning c.args.a.now in
    let b = g.B.Book.meaning c.args.b.now in
    IfOk-weaker c.written.result _ _ (λ x texts. are_lines a b c.args.asked.sends c.args.asked.unknown c.args.asked.json c.args.lines.now c.in_ok-lines.lines.items (string_bytes x.text) c.requires.differences
    c.in_ok-lines.ensures.same c.in_ok-lines.ensures.marks (subst (λ (ls : List Line). AreTexts c.args.asked.json a b ls (string_bytes x.text)) c.deref-2.ensures.value texts)) c.written.ensures.text
