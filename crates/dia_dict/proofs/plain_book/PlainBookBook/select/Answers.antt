use Rattle.std.proofs.Common.{List, ℕ, ◌+◌, Some, None, position, length, arith, sym, ap, ◌∙◌}
use Rattle.std.specs.Option.{option_map, option_or}
use Rattle.dia_book.specs.Dictionary.{is_command}
use Rattle.dia_book.specs.declared.Definition.{Definition}
use Rattle.dia_dict.proofs.BookRows.{selected-held, groups_fit}
use Rattle.dia_book.proofs.Lists.{position-either}
use Rattle.dia_dict.proofs.plain_book.PlainBookBook.select.Goals as goal

pub returns-in_err-index : goal.returns-in_err-index
returns-in_err-index c =
    let b = c.args.self.now in
    let places = λ (ds : List Definition). option_or (position (λ (d : Definition). is_command c.args.code c.args.class (Some c.args.app) d.head) ds)
    (position (λ (d : Definition). is_command c.args.code c.args.class None d.head) ds) in
    c.from_residual.ensures ∙ ap (option_map (λ (i : ℕ). length b.entries.groups.items + i)) (c.in_err-index.ensures ∙ ap places c.deref.ensures.value)
    ∙ sym (selected-held b.entries.rows.items b.entries.groups.items b.commands.items b.entries.numbered c.args.code c.args.class c.args.app)

pub new-requires : goal.new-requires
new-requires c =
    let b = c.args.self.now in
    let within = position-either (λ (d : Definition). is_command c.args.code c.args.class (Some c.args.app) d.head)
    (λ (d : Definition). is_command c.args.code c.args.class None d.head) c.deref.result.now c.in_ok-index.index c.in_ok-index.ensures in
    omega (arith, groups_fit b.entries.rows.items b.entries.groups.items b.entries.numbered, b.few, within, ap length c.deref.ensures.value)

pub returns : goal.returns
returns c =
    let b = c.args.self.now in
    let places = λ (ds : List Definition). option_or (position (λ (d : Definition). is_command c.args.code c.args.class (Some c.args.app) d.head) ds)
    (position (λ (d : Definition). is_command c.args.code c.args.class None d.head) ds) in
    ap (λ (i : ℕ). Some i) (c.new.ensures ∙ ap (λ (n : ℕ). n + c.in_ok-index.index) (c.len.ensures ∙ b.entries.groups.ok.0))
    ∙ ap (option_map (λ (i : ℕ). length b.entries.groups.items + i)) (c.in_ok-index.ensures ∙ ap places c.deref.ensures.value)
    ∙ sym (selected-held b.entries.rows.items b.entries.groups.items b.commands.items b.entries.numbered c.args.code c.args.class c.args.app)
