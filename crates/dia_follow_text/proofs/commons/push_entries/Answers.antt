use Rattle.std.proofs.Common.{◌++◌, List, ℕ, ◌∙◌, ap, sym}
use Rattle.std.specs.Prelude.{false, string_bytes}
use Rattle.std.specs.List.{flat_map}
use Rattle.dia_follow_text.specs.Commons.{entry_text}
use Rattle.dia_streams.proofs.LinesUnderWay.{on_ok_map}
use Rattle.dia_follow_text.proofs.ListedEntries.{from_first, no_entries}
use Rattle.dia_follow_text.proofs.commons.push_entries.Goals as goal

pub returns-in-Some : goal.returns-in-Some
returns-in-Some c = on_ok_map c.push_first.result
    (λ h. h ∙ ap (λ (t : List ℕ). string_bytes c.args.text.now ++ t)
    (ap (λ (ms : List ℕ). entry_text c.args.is_first c.args.kind.now c.in-Some.first.now ++ flat_map (entry_text false c.args.kind.now) ms) c.after_first.ensures
    ∙ sym (from_first c.args.is_first c.args.kind.now c.args.numbers.now c.in-Some.first.now (sym c.in-Some.ensures.value))))
    c.push_first.ensures

pub returns-in-None : goal.returns-in-None
returns-in-None c = no_entries c.args.is_first c.args.kind.now c.args.numbers.now (string_bytes c.args.text.now) (sym c.in-None.ensures.value)
