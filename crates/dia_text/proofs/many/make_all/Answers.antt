use Rattle.std.proofs.Common.{◌≡◌, true, List, ℕ, Bor, Result, map, ap, sym, ◌∙◌, subst}
use Rattle.std.specs.List.{slice_split}
use Rattle.dia_book.specs.Dictionary.{Dictionary}
use Rattle.dia_text.specs.declared.fault.Fault.{Fault}
use Rattle.dia_text.specs.Made.{lines, is_empty, has_word, parts_text, made_lines, IsMadeText}
use Rattle.dia_text.proofs.LinesOfTexts.{some_word}
use Rattle.dia_text.proofs.many.make_all.Goals as goal

pub returns : goal.returns
returns g c =
    let named = c.in_ok-named.named in
    let text = c.args.text.now in
    let read = ap (map (λ (x : Bor (List ℕ)). x.now)) c.deref.ensures.value ∙ c.in_ok-lines.ensures in
    let again = ap (map (λ (x : Bor (List ℕ)). x.now)) c.deref-2.ensures.value ∙ c.in_ok-lines.ensures in
    let has : has_word (lines text) ≡ true = ap has_word (sym read) ∙ sym c.has_word.ensures ∙ c.if-not-has_word.false in
    subst (λ (read : Result (List ℕ) Fault). IsMadeText c.parts_made.result read)
    (ap (λ (ls : List (List ℕ)). parts_text named 0 (slice_split is_empty ls)) again ∙ sym (some_word named text has) ∙ ap (λ (d : Dictionary). made_lines d text) c.in_ok-named.ensures)
    c.parts_made.ensures
