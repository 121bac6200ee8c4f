use Rattle.std.proofs.Common.{ap, cond, sym, ◌∙◌}
use Rattle.std.specs.Prelude.{◌&&◌, Some, true}
use Rattle.std.specs.Str.{bytes_eq}
use Rattle.dia_accepted.specs.Sets.{found, has}
use Rattle.dia_accepted.proofs.Sets.{found_insert}
use Rattle.dia_accepted.proofs.accepting.mark_known.Goals as goal

pub returns-in_ok-insert-clause-marked : goal.returns-in_ok-insert-clause-marked
returns-in_ok-insert-clause-marked c = λ x.
    let old = c.args.texts.now.entries in
    let text = c.args.text in
    let known = ap (has old) (sym c.as_slice.ensures.value) ∙ sym c.contains_key-known.ensures ∙ c.if-known.true in
    ap (λ es. found es x) c.in_ok-insert.ensures.entries ∙ found_insert text true x old ∙ ap (λ b. cond (b && bytes_eq x text.items) (Some true) (found old x)) (sym known)
