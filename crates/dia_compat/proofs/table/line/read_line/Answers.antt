use Rattle.std.proofs.Common.{◌≡◌, codes, length, [], None, ap, sym, subst, ◌∙◌}
use Rattle.std.specs.Prelude.{is_some}
use Rattle.std.proofs.lemmas.List.{nil_from_length}
use Rattle.std.proofs.lemmas.Bool.{eqb-true, eqb-false, both_ways}
use Rattle.std.proofs.lemmas.Slice.Eq.{bytes_eq-Decides}
use Rattle.std.specs.Str.{bytes_eq}
use Rattle.dia_compat.specs.Words.{PlainWords, ArePairWords, after_word, first_word, plain_words, words_in}
use Rattle.dia_compat.proofs.WordsOfLines.{no_word_is_tail, words_pair, none_wrong, all_fit, fit_pair, pair_fits, other_word, no_part, name_is_text}
use Rattle.dia_compat.proofs.TableLines.{has_no_form}
use Rattle.dia_compat.proofs.table.line.read_line.Goals as goal

pub returns-then-is_empty-clause-some : goal.returns-then-is_empty-clause-some
returns-then-is_empty-clause-some c =
    let words = plain_words c.words_of-words.result in
    let is : words ≡ words_in c.args.line.now = c.words_of-words.ensures ∙ ap words_in c.as_bytes.ensures.value in
    let empty = nil_from_length words.kind.text (eqb-true (length words.kind.text) 0 (sym c.if-is_empty.ensures)) in
    no_word_is_tail c.args.line.now (sym (ap (λ (w : PlainWords). w.kind.text) is) ∙ empty)

pub returns-then-is_some-clause-none : goal.returns-then-is_some-clause-none
returns-then-is_some-clause-none c = λ _.
    let text = c.args.line.now in
    let words = plain_words c.words_of-words.result in
    let is : words ≡ words_in text = c.words_of-words.ensures ∙ ap words_in c.as_bytes.ensures.value in
    let some = λ (e : first_word text ≡ []). eqb-false (length words.kind.text) 0 (sym c.if-is_empty.ensures) (ap length (ap (λ (w : PlainWords). w.kind.text) is ∙ e)) in
    has_no_form text some
    (λ a b pair kind. both_ways (is_some c.wrong_part.result) (ap is_some (c.wrong_part.ensures ∙ none_wrong words (pair_fits text a b words is kind pair))) (sym c.if-is_some.ensures))

pub returns-in_err-first-clause-none : goal.returns-in_err-first-clause-none
returns-in_err-first-clause-none c = λ _.
    let words = plain_words c.words_of-words.result in
    let all = all_fit words (sym c.wrong_part.ensures ∙ no_part c.wrong_part.result (sym c.if-is_some.ensures)) in
    absurd (c.as_text.ensures.none c.in_err-first.was (name_is_text words.first.text all.first))

pub returns-in_err-second-clause-none : goal.returns-in_err-second-clause-none
returns-in_err-second-clause-none c = λ _.
    let words = plain_words c.words_of-words.result in
    let all = all_fit words (sym c.wrong_part.ensures ∙ no_part c.wrong_part.result (sym c.if-is_some.ensures)) in
    absurd (c.as_text-2.ensures.none c.in_err-second.was (name_is_text words.second.text all.second))

pub returns-then-eq-clause-some : goal.returns-then-eq-clause-some
returns-then-eq-clause-some c =
    let text = c.args.line.now in
    let first = c.in_ok-first.first.now in
    let second = c.in_ok-second.second.now in
    let words = plain_words c.words_of-words.result in
    let is : words ≡ words_in text = c.words_of-words.ensures ∙ ap words_in c.as_bytes.ensures.value in
    let all = all_fit words (sym c.wrong_part.ensures ∙ no_part c.wrong_part.result (sym c.if-is_some.ensures)) in
    let kind = (bytes_eq-Decides words.kind.text (codes "command")).0 (ap (bytes_eq words.kind.text) (sym c.as_slice.ensures) ∙ sym c.if-eq.ensures) in
    let pair : ArePairWords first second (after_word text) = rw (c.in_ok-first.ensures.text, c.in_ok-second.ensures.text) (fit_pair text words is all) in
    words_pair (codes "command") first second text (sym (ap (λ (w : PlainWords). w.kind.text) is) ∙ kind) pair

pub returns-else-eq-clause-some : goal.returns-else-eq-clause-some
returns-else-eq-clause-some c =
    let text = c.args.line.now in
    let first = c.in_ok-first.first.now in
    let second = c.in_ok-second.second.now in
    let words = plain_words c.words_of-words.result in
    let is : words ≡ words_in text = c.words_of-words.ensures ∙ ap words_in c.as_bytes.ensures.value in
    let all = all_fit words (sym c.wrong_part.ensures ∙ no_part c.wrong_part.result (sym c.if-is_some.ensures)) in
    let avp = other_word (bytes_eq words.kind.text (codes "command")) (bytes_eq words.kind.text (codes "avp")) (ap (bytes_eq words.kind.text) (sym c.as_slice.ensures) ∙ sym c.if-eq.ensures) all.kind in
    let kind = (bytes_eq-Decides words.kind.text (codes "avp")).0 avp in
    let pair : ArePairWords first second (after_word text) = rw (c.in_ok-first.ensures.text, c.in_ok-second.ensures.text) (fit_pair text words is all) in
    words_pair (codes "avp") first second text (sym (ap (λ (w : PlainWords). w.kind.text) is) ∙ kind) pair
