use Rattle.std.proofs.lemmas.Result.{on_ok_weaker}
use Rattle.std.proofs.Common.{◌≡◌, List, ℕ, refl}
use Rattle.dia_diff_text.specs.Words.{place_rule_words}
use Rattle.dia_diff_text.proofs.AddedTexts.{adds_text}
use Rattle.dia_diff_text.proofs.rules.push_rule.Goals as goal

pub returns : goal.returns
returns g c =
    let words = place_rule_words (g.D.Book.meaning c.args.book.now) c.args.place in
    on_ok_weaker c.push_rule_words.result (adds_text (λ (text : List ℕ). text ≡ words) c.args.out.now c.push_rule_words.new.out words refl) c.push_rule_words.ensures
