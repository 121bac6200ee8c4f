use Rattle.std.proofs.Common.{◌≡◌, ◌++◌, ◌∷◌, [], Some, List, true, ap, ◌∙◌, arith}
use Rattle.std.specs.Prelude.{is_ok, if◌then◌else◌}
use Rattle.dia_dict.specs.PlainMeaning.{entries_of}
use Rattle.dia_dict.specs.declared.entry_list.Row.{Row}
use Rattle.dia_dict.proofs.EntryLists.{numbers-push_some, entries_of-push_some}
use Rattle.dia_dict.proofs.entry_list.EntryList.push_group.Goals as goal

pub invariant_of-self-2 : goal.invariant_of-self-2
invariant_of-self-2 c =
    let list = c.args.self.now in
    let row : Row = record { name = c.args.name; key = c.args.key; format = c.args.format; rule = c.args.rule; group = Some c.len-number.result } in
    let fine : is_ok c.push-2.result ≡ true = c.push-2.ensures.succeeds (omega (arith, c.in_ok-reserve.ensures.ok)) in
    let rows : c.push-2.new.self.items ≡ list.rows.items ++ row ∷ [] =
    c.push-2.ensures.items ∙ ap (λ b. if b then c.reserve.new.self.items ++ row ∷ [] else c.reserve.new.self.items) fine ∙ ap (λ rs. rs ++ row ∷ []) c.in_ok-reserve.ensures.items in
    let numbered = numbers-push_some list.rows.items list.groups.items row c.args.definition (ap (λ n. Some n) (c.len-number.ensures ∙ list.groups.ok.0)) list.numbered in
    record { numbered = rw (rows, c.in_ok-push.ensures.items) numbered }

pub returns : goal.returns
returns c =
    let list = c.args.self.now in
    let row : Row = record { name = c.args.name; key = c.args.key; format = c.args.format; rule = c.args.rule; group = Some c.len-number.result } in
    let rows : c.push-2.new.self.items ≡ list.rows.items ++ row ∷ [] =
    c.push-2.ensures.items ∙ ap (λ r. if is_ok r then c.reserve.new.self.items ++ row ∷ [] else c.reserve.new.self.items) c.unwrap.ensures ∙ ap (λ rs. rs ++ row ∷ []) c.in_ok-reserve.ensures.items in
    ap (λ (rs : List Row). entries_of rs c.push.new.self.items) rows ∙ ap (entries_of (list.rows.items ++ row ∷ [])) c.in_ok-push.ensures.items
    ∙ entries_of-push_some list.rows.items list.groups.items row c.args.definition (ap (λ n. Some n) (c.len-number.ensures ∙ list.groups.ok.0)) list.numbered
