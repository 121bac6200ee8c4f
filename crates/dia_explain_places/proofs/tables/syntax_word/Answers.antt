use Rattle.std.proofs.Common.{◌≡◌, sym, ap, ap₂, ◌∙◌}
use Rattle.std.specs.Prelude.{unwrap_or}
use Rattle.dia_compat.specs.Words.{PlainWords, plain_words, word_of, wrong_part}
use Rattle.dia_compat.specs.declared.PairPart.TheVariants.{After}
use Rattle.dia_compat.specs.declared.PairPart.{PairPart}
use Rattle.dia_explain_places.specs.Places.{line_at}
use Rattle.dia_explain_places.proofs.TableWords.{IsWordAt, words_are, place_is, on_line}
use Rattle.dia_explain_places.proofs.tables.syntax_word.Goals as goal

pub returns-clause-part : goal.returns-clause-part
returns-clause-part c =
    let words = plain_words c.words_of-words.result in
    let are = words_are c.args.text.now c.line_from.result.now c.args.line c.start_of_line-start.result words c.line_from.ensures.line c.words_of-words.ensures c.start_of_line-start.ensures.start in
    c.refused_word.ensures.part ∙ (c.unwrap_or-part.ensures ∙ ap (λ o. unwrap_or o After) c.wrong_part.ensures) ∙ ap (λ (w : PlainWords). unwrap_or (wrong_part w) After) are

pub returns-clause-text : goal.returns-clause-text
returns-clause-text c =
    let words = plain_words c.words_of-words.result in
    let are = words_are c.args.text.now c.line_from.result.now c.args.line c.start_of_line-start.result words c.line_from.ensures.line c.words_of-words.ensures c.start_of_line-start.ensures.start in
    c.refused_word.ensures.text ∙ ap₂ (λ (w : PlainWords) (p : PairPart). (word_of w p).text) are (sym c.refused_word.ensures.part)

pub returns-clause-place : goal.returns-clause-place
returns-clause-place c =
    let words = plain_words c.words_of-words.result in
    let is : IsWordAt c.args.text.now c.line_from.result.now c.start_of_line-start.result words c.unwrap_or-part.result c.refused_word.result.at
    = record { is_line = c.line_from.ensures.line; are_words = c.words_of-words.ensures; within = c.line_from.ensures.within; is_at = c.refused_word.ensures.place } in
    place_is c.args.text.now c.line_from.result.now c.args.line c.start_of_line-start.result words (λ (w : PlainWords). unwrap_or (wrong_part w) After) c.unwrap_or-part.result c.refused_word.result.at is
    c.start_of_line-start.ensures.start (c.unwrap_or-part.ensures ∙ ap (λ o. unwrap_or o After) c.wrong_part.ensures)

pub returns-clause-on_line : goal.returns-clause-on_line
returns-clause-on_line c k within here =
    let words = plain_words c.words_of-words.result in
    on_line c.args.text.now c.line_from.result.now c.start_of_line-start.result words c.unwrap_or-part.result c.refused_word.result.at
    (record { is_line = c.line_from.ensures.line; are_words = c.words_of-words.ensures; within = c.line_from.ensures.within; is_at = c.refused_word.ensures.place }) c.line_from.ensures.on_line
    ∙ c.start_of_line-start.ensures.there k within here
