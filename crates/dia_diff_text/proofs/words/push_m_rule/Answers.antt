use Rattle.std.proofs.lemmas.Result.{on_ok_weaker}
use Rattle.std.proofs.Common.{◌≡◌, List, ℕ}
use Rattle.std.specs.Prelude.{OnOk}
use Rattle.dia_book.specs.Dictionary.{DictEntry}
use Rattle.dia_terms.specs.declared.MRule.{MRule}
use Rattle.dia_terms.specs.MRules.{rule_word}
use Rattle.dia_diff_text.specs.Words.{AddsText}
use Rattle.dia_diff_text.proofs.AddedTexts.{adds_text, of_field}
use Rattle.dia_diff_text.proofs.words.push_m_rule.Goals as goal

pub returns : goal.returns
returns g c =
    of_field (λ (e : DictEntry). e.rule) (λ (v : MRule). OnOk c.push_text.result (AddsText c.args.out.now c.push_text.new.out (λ (text : List ℕ). text ≡ rule_word v))) (g.D.Book.meaning c.args.book.now).entries c.args.entry c.rule.result c.rule.ensures
    (on_ok_weaker c.push_text.result (adds_text (λ (text : List ℕ). text ≡ rule_word c.rule.result) c.args.out.now c.push_text.new.out c.word.result.now c.word.ensures) c.push_text.ensures)
