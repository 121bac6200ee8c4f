use Rattle.std.proofs.Common.{◌≡◌, ◌∙◌, ℕ, List, sym, subst}
use Rattle.std.specs.Prelude.{IfOk, string_bytes}
use Rattle.dia_refused_json.specs.Refusals.{bad_input_json, dictionary_members, text_of}
use Rattle.dia_refused_json.specs.Members.{json_line}
use Rattle.dia_refused_json.proofs.refusals.bad_input_line.Goals as goal

pub returns-in_ok-name-in-Dictionary : goal.returns-in_ok-name-in-Dictionary
returns-in_ok-name-in-Dictionary c =
    let why = c.in-Dictionary.why in
    subst (λ bad. IfOk c.dictionary_line.result (λ text. string_bytes text ≡ bad_input_json c.args.input.now bad)) (sym c.in-Dictionary.is)
    (subst (λ (name : List ℕ). IfOk c.dictionary_line.result (λ text. string_bytes text ≡ json_line (dictionary_members name (text_of c.args.input.now) why)))
    (c.deref.ensures ∙ c.in_ok-name-in-Dictionary.ensures.ok)
    (subst (λ (spelt : List ℕ). IfOk c.dictionary_line.result (λ text. string_bytes text ≡ json_line (dictionary_members c.deref.result.now spelt why))) c.text_of-spelt.ensures
    c.dictionary_line.ensures))
