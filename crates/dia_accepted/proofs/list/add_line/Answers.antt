use Rattle.std.proofs.Common.{[], ap, arith, inr, length, map, refl, subst, sym, ◌++◌, ◌∙◌, ◌∷◌}
use Rattle.std.specs.Prelude.{◌==◌}
use Rattle.dia_accepted.specs.Accepted.{entry, plain_entry}
use Rattle.dia_accepted.specs.Lines.{IsLine, plain_line}
use Rattle.dia_accepted.specs.Words.{entry_text}
use Rattle.dia_accepted.proofs.list.add_line.Goals as goal

pub returns-in_ok-push_entry-in-Ok-clause-added : goal.returns-in_ok-push_entry-in-Ok-clause-added
returns-in_ok-push_entry-in-Ok-clause-added c =
    let words = c.entry_text-words.ensures in
    let line = plain_line c.in-Ok.accepted in
    let old = map plain_entry c.args.list.now.items in
    let found = ap (λ w. length w == 0) (sym words) ∙ sym c.is_empty.ensures ∙ c.if-is_empty.false in
    let is_line = subst (λ w. IsLine w line) (c.as_bytes.ensures.value ∙ words) c.in-Ok.ensures.line in (
      entry c.args.line (entry_text c.args.text.now) line ∷ [],
      (omega arith, inr (line, found, is_line, refl)),
      c.in_ok-push_entry-in-Ok.ensures ∙ ap (λ w. old ++ entry c.args.line w line ∷ []) words,
    )
