use Rattle.std.proofs.Common.{List, ℕ, ◌++◌, ap, sym, ◌∙◌}
use Rattle.std.specs.Prelude.{string_bytes}
use Rattle.std.proofs.lemmas.Result.{on_ok_weaker}
use Rattle.dia_text.specs.LineTexts.{name_or_code}
use Rattle.dia_text.proofs.Pushed.{coded_word, last_pushed, named_word}
use Rattle.dia_text.proofs.avp_lines.push_word.Goals as goal

pub returns-in_default : goal.returns-in_default
returns-in_default g c =
    let old = string_bytes c.args.text.now in
    on_ok_weaker c.push_code.result (λ e. e ∙ ap (λ (w : List ℕ). old ++ w) (ap (name_or_code c.args.code.now) c.in_default.ensures.entry)) c.push_code.ensures

pub returns-then-has_name : goal.returns-then-has_name
returns-then-has_name g c =
    let old = string_bytes c.args.text.now in
    let entries = (g.B.Book.meaning c.args.book.now).entries in
    let is_name = named_word c.args.code.now entries c.in-Some.entry _ _ c.in-Some.ensures.known c.in-Some.ensures.entry c.entry_name-name.ensures
    (sym c.has_name.ensures ∙ c.if-has_name.true) in
    on_ok_weaker c.push_str.result (λ e. e ∙ ap (λ (w : List ℕ). old ++ w) is_name) (last_pushed _ _ _ _ c.push_str.ensures.bytes)

pub returns-else-has_name : goal.returns-else-has_name
returns-else-has_name g c =
    let old = string_bytes c.args.text.now in
    let is_code = coded_word c.args.code.now _ _ _ c.in-Some.ensures.entry c.entry_name-name.ensures (sym c.has_name.ensures ∙ c.if-has_name.false) in
    on_ok_weaker c.push_code-else-has_name.result (λ e. e ∙ ap (λ (w : List ℕ). old ++ w) is_code) c.push_code-else-has_name.ensures
