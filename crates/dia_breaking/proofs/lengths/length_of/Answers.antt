use Rattle.std.proofs.Common.{ℕ, Option, sym, ap, ◌∙◌}
use Rattle.std.specs.Option.{option_map_or}
use Rattle.dia_terms.specs.declared.Sends.{Sends}
use Rattle.dia_breaking.specs.Lengths.{length_of_entry, unknown_length}
use Rattle.dia_breaking.proofs.lengths.length_of.Goals as goal

pub returns-in-Any : goal.returns-in-Any
returns-in-Any g c =
    let key = c.args.key in
    c.shortest_head.ensures ∙ ap (λ (who : Sends). unknown_length who key) (sym c.in-Any.is)
    ∙ ap (λ (o : Option ℕ). option_map_or (length_of_entry c.args.entries.now) o (unknown_length c.args.sends key)) (sym c.in-None.is ∙ c.avp.ensures)

pub returns-in-Known : goal.returns-in-Known
returns-in-Known g c =
    let key = c.args.key in
    ap (λ (who : Sends). unknown_length who key) (sym c.in-Known.is)
    ∙ ap (λ (o : Option ℕ). option_map_or (length_of_entry c.args.entries.now) o (unknown_length c.args.sends key)) (sym c.in-None.is ∙ c.avp.ensures)

pub returns-in-Filled : goal.returns-in-Filled
returns-in-Filled g c =
    let key = c.args.key in
    ap (λ (who : Sends). unknown_length who key) (sym c.in-Filled.is)
    ∙ ap (λ (o : Option ℕ). option_map_or (length_of_entry c.args.entries.now) o (unknown_length c.args.sends key)) (sym c.in-None.is ∙ c.avp.ensures)

pub returns-in-Listed : goal.returns-in-Listed
returns-in-Listed g c =
    let key = c.args.key in
    ap (λ (who : Sends). unknown_length who key) (sym c.in-Listed.is)
    ∙ ap (λ (o : Option ℕ). option_map_or (length_of_entry c.args.entries.now) o (unknown_length c.args.sends key)) (sym c.in-None.is ∙ c.avp.ensures)
