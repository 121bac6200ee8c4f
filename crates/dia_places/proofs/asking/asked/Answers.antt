use Rattle.std.proofs.Common.{ℕ, List, Some, ap, sym, ◌∙◌, arith}
use Rattle.dia_book.specs.Dictionary.{Dictionary}
use Rattle.dia_places.specs.Asked.{key_of}
use Rattle.dia_places.proofs.AskedWords.{known_before, word_at}
use Rattle.dia_places.proofs.asking.asked.Goals as goal

pub returns-in-None-clause-unknown : goal.returns-in-None-clause-unknown
returns-in-None-clause-unknown g c =
    let d = g.B.Book.meaning c.args.book.now in
    let words = c.args.words.now in
    let i = c.loop-word.word-index in
    record {
      place = i;
      is_word = word_at words i c.word-item.result (omega arith) c.word-item.is ∙ ap (λ (w : List ℕ). Some w) (sym c.as_str-in-None.ensures.value);
      unknown = ap (key_of d) (c.as_str-in-None.ensures.value ∙ sym c.as_str.ensures.value) ∙ ap (λ (e : Dictionary). key_of e c.as_str.result.now) (sym c.in_ok-named.ensures) ∙ sym c.in-None.ensures;
      before = λ j other lt at. known_before d words i j other c.loop-word.keys.items c.loop-word.invariant lt at;
    }
