use Rattle.std.proofs.Common.{◌≡◌, ℕ, Bor, List, ◌++◌, Option, None, ap, sym, ◌∙◌}
use Rattle.std.specs.Prelude.{codes}
use Rattle.std.specs.Fmt.{decimal}
use Rattle.std.specs.Option.{option_map, option_map_or}
use Rattle.std.proofs.lemmas.Result.{IfOk-weaker}
use Rattle.dia_uses.specs.Lines.{name_of}
use Rattle.dia_uses.proofs.writing.avp_words.Goals as goal

pub returns-in-None : goal.returns-in-None
returns-in-None g c =
    let none : name_of (g.B.Book.meaning c.args.book.now) c.args.key ≡ None = sym c.name_of.ensures ∙ ap (option_map (λ (name : Bor (List ℕ)). name.now)) c.in-None.is in
    IfOk-weaker c.numbers.result _ _ (λ text is.
    is ∙ sym (ap (λ (o : Option (List ℕ)). option_map_or (λ (name : List ℕ). name) o (decimal c.args.key.code ++ codes ":" ++ decimal c.args.key.vendor)) none)) c.numbers.ensures
