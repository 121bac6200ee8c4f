use Rattle.std.proofs.lemmas.Result.{on_ok_weaker}
use Rattle.std.proofs.Common.{List, ℕ, ◌++◌, sym, ap, ◌∙◌, append-nil}
use Rattle.std.specs.Prelude.{string_bytes}
use Rattle.dia_book.specs.Dictionary.{plain_definition}
use Rattle.dia_diff_text.proofs.Places.{definition_words, no_definition_words}
use Rattle.dia_diff_text.proofs.sides.push_command_words.Goals as goal

pub returns-in-Some : goal.returns-in-Some
returns-in-Some g c =
    on_ok_weaker c.push_definition.result
    (λ e. e ∙ definition_words (g.D.Book.meaning c.args.book.now) c.args.index c.in-Some.def c.args.field (plain_definition c.def.result.now) (string_bytes c.args.out.now) c.in-Some.ensures.exact c.def.ensures)
    c.push_definition.ensures

pub returns-in-None : goal.returns-in-None
returns-in-None g c =
    sym (append-nil (string_bytes c.args.out.now))
    ∙ ap (λ (text : List ℕ). string_bytes c.args.out.now ++ text) (no_definition_words (g.D.Book.meaning c.args.book.now) c.args.index c.args.field c.in-None.ensures.exact)
