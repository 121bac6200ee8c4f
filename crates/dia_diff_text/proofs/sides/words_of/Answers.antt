use Rattle.std.proofs.Common.{List, ℕ, ◌++◌, sym, ap, subst, ◌∙◌}
use Rattle.dia_diff_text.specs.Parts.{IsWords}
use Rattle.dia_diff_text.proofs.sides.words_of.Goals as goal

pub returns : goal.returns
returns g c =
    let added = c.in_ok-push_words.ensures in
    subst (λ (text : List ℕ). IsWords (g.D.Book.meaning c.args.book.now) c.args.side c.args.what text) (sym (added.1 ∙ ap (λ (front : List ℕ). front ++ added.0) c.new-words.ensures.bytes)) added.2
