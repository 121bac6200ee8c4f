use Rattle.std.proofs.Common.{ℕ, List, ◌++◌, ◌∙◌, ap, rules}
use Rattle.std.specs.Prelude.{string_bytes}
use Rattle.std.proofs.lemmas.Result.{on_ok_weaker}
use Rattle.serde_json.proofs.OnLiterals.{serde_json_on_literals}
use Rattle.dia_json.proofs.Objects.{known_about, unknown_about}
use Rattle.dia_json.proofs.verdicts.push_subject.Goals as goal

pub returns-in-Wildcard : goal.returns-in-Wildcard
unfolding serde_json_on_literals
returns-in-Wildcard g c = search rules

pub returns-in-Some : goal.returns-in-Some
returns-in-Some g c =
    let about = known_about (g.B.Book.meaning c.args.book.now) c.in-Avp.key c.in-Some.entry _ c.in-Some.ensures c.entry_name.ensures in
    rw c.in-Avp.is (on_ok_weaker c.push_known.result (λ is. is ∙ ap (λ (t : List ℕ). string_bytes c.args.text.now ++ t) about) c.push_known.ensures)

pub returns-in-None : goal.returns-in-None
returns-in-None g c =
    let about = unknown_about (g.B.Book.meaning c.args.book.now) c.in-Avp.key c.in-None.ensures in
    rw c.in-Avp.is (on_ok_weaker c.push_unknown.result (λ is. is ∙ ap (λ (t : List ℕ). string_bytes c.args.text.now ++ t) about) c.push_unknown.ensures)
