use Rattle.std.proofs.Common.{◌≡◌, sym, ap, ap₂, ◌∙◌}
use Rattle.dia_compat.specs.Words.{PlainWords, limit_part, plain_words, word_of}
use Rattle.dia_compat.specs.declared.PairPart.{PairPart}
use Rattle.dia_explain_places.specs.Places.{line_at}
use Rattle.dia_explain_places.proofs.TableWords.{IsWordAt, words_are, place_is, on_line}
use Rattle.dia_explain_places.proofs.tables.limit_word.Goals as goal

pub returns-clause-part : goal.returns-clause-part
returns-clause-part c =
    let words = plain_words c.words_of-words.result in
    let are = words_are c.args.text.now c.line_from.result.now c.args.line c.start_of_line-start.result words c.line_from.ensures.line c.words_of-words.ensures c.start_of_line-start.ensures.start in
    c.refused_word.ensures.part ∙ (c.limit_part.ensures) ∙ ap limit_part are

pub returns-clause-text : goal.returns-clause-text
returns-clause-text c =
    let words = plain_words c.words_of-words.result in
    let are = words_are c.args.text.now c.line_from.result.now c.args.line c.start_of_line-start.result words c.line_from.ensures.line c.words_of-words.ensures c.start_of_line-start.ensures.start in
    c.refused_word.ensures.text ∙ ap₂ (λ (w : PlainWords) (p : PairPart). (word_of w p).text) are (sym c.refused_word.ensures.part)

pub returns-clause-place : goal.returns-clause-place
returns-clause-place c =
    let words = plain_words c.words_of-words.result in
    let is : IsWordAt c.args.text.now c.line_from.result.now c.start_of_line-start.result words c.limit_part.result c.refused_word.result.at
    = record { is_line = c.line_from.ensures.line; are_words = c.words_of-words.ensures; within = c.line_from.ensures.within; is_at = c.refused_word.ensures.place } in
    place_is c.args.text.now c.line_from.result.now c.args.line c.start_of_line-start.result words limit_part c.limit_part.result c.refused_word.result.at is
    c.start_of_line-start.ensures.start c.limit_part.ensures

pub returns-clause-on_line : goal.returns-clause-on_line
returns-clause-on_line c k within here =
    let words = plain_words c.words_of-words.result in
    on_line c.args.text.now c.line_from.result.now c.start_of_line-start.result words c.limit_part.result c.refused_word.result.at
    (record { is_line = c.line_from.ensures.line; are_words = c.words_of-words.ensures; within = c.line_from.ensures.within; is_at = c.refused_word.ensures.place }) c.line_from.ensures.on_line
    ∙ c.start_of_line-start.ensures.there k within here
