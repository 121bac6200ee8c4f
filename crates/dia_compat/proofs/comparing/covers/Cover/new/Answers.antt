use Rattle.std.proofs.Common.{◌≡◌, Bool, map, filter, sym, ap, subst, ◌∙◌}
use Rattle.std.specs.Prelude.{◌||◌, not}
use Rattle.std.specs.List.{list_any}
use Rattle.dia_wire.specs.declared.Key.{Key}
use Rattle.dia_book.specs.Dictionary.{Dictionary, DictEntry}
use Rattle.dia_compat.specs.TableText.{plain_pair, plain_table}
use Rattle.dia_compat.specs.Sides.{Sides, compared}
use Rattle.dia_compat.specs.Tests.{holds_key}
use Rattle.dia_compat.specs.PairTests.{ArePaired, is_alone, is_covered, pairs_key, strangers_fit}
use Rattle.dia_compat.proofs.FilteredMembers.{filter_alike}
use Rattle.dia_compat.proofs.comparing.covers.Cover.new.Goals as goal

pub invariant_of-result : goal.invariant_of-result
invariant_of-result g c =
    let sides = c.again.result in
    let all = compared sides (plain_table c.args.table.now) in
    let keys = c.in_ok-paired.paired.value.keys in
    let pairs = map plain_pair c.deref.result.now in
    let first = c.requires.first ∙ ap (λ (s : Sides). s.first) (sym c.again.ensures) in
    let second = c.requires.second ∙ ap (λ (s : Sides). s.second) (sym c.again.ensures) in
    let paired : ArePaired all keys = λ key.
    c.in_ok-paired.ensures key
    ∙ ap (λ (d : Dictionary). list_any (pairs_key d c.args.b.now key) pairs) first
    ∙ ap (λ (d : Dictionary). list_any (pairs_key sides.first d key) pairs) second
    ∙ ap (λ ps. list_any (pairs_key sides.first sides.second key) (map plain_pair ps)) c.deref.ensures.value in
    let entry_keys = λ (s : Sides). map (λ (e : DictEntry). e.key) s.first.entries in
    let uncovered = subst (λ (s : Sides). c.in_ok-uncovered.uncovered.items ≡ filter (λ (key : Key). not (holds_key keys key || is_alone s key)) (entry_keys s)) (sym c.again.ensures)
    (rw c.deref-2.ensures at c.in_ok-uncovered.ensures) in (
      paired,
      uncovered ∙ filter_alike (λ (key : Key). not (holds_key keys key || is_alone sides key)) (λ (key : Key). not (is_covered all key))
          (λ (key : Key). ap (λ (b : Bool). not (b || is_alone sides key)) (paired key)) (entry_keys sides),
      c.strangers_fit.ensures ∙ ap (λ (s : Sides). strangers_fit s) (sym c.again.ensures),
    )
