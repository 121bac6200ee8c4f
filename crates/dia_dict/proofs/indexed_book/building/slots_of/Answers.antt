use Rattle.std.proofs.Common.{◌≡◌, ◌<◌, ◌≤◌, ℕ, List, Option, length, unwrap_or, Some, None, position, refl, ap, ◌∙◌, arith}
use Rattle.std.specs.Option.{option_map, option_map_or}
use Rattle.std.proofs.lemmas.List.{take_all}
use Rattle.indexmap.specs.IndexMap.{get}
use Rattle.dia_book.specs.Keys.{same_key}
use Rattle.dia_book.specs.Dictionary.{lists_key, slot_at}
use Rattle.dia_book.specs.declared.DRule.{DRule}
use Rattle.dia_book.specs.declared.Slot.{Slot}
use Rattle.dia_book.specs.declared.Slot.TheVariants.{Unlisted}
use Rattle.dia_dict.proofs.Indexing.Filling.{slot_given-more, slot_given-wildcard}
use Rattle.dia_dict.proofs.indexed_book.building.slots_of.Goals as goal
use Rattle.dia_dict.proofs.indexed_book.building.slots_of.Goals.{in-Some+in_ok-keep_first, in_default}

pub loop-index-preserved : goal.loop-index-preserved
loop-index-preserved c =
    let rules = c.args.definition.now.rules.items in
    let i = c.loop-index.index in
    let same = c.deref-rule-items.ensures.value in
    let within : i < length rules = omega (arith, ap length same) in
    elim c.match-rule.branch [
      | in-Some+in_ok-keep_first w ↦ (λ key. ap (λ slots. get same_key slots key) w.slots-is
          ∙ slot_given-more _ rules same i _ within w.in-Some.key w.slot_at.result (get same_key c.loop-index.slots) (get same_key w.keep_first.new.map)
          w.in-Some.is w.slot_at.ensures c.loop-index.invariant w.in_ok-keep_first.ensures key)
      | in_default w ↦ (λ key. ap (λ slots. get same_key slots key) w.slots-is ∙ c.loop-index.invariant key
          ∙ slot_given-wildcard _ rules same i _ within w.in_default.is key)
    ]

slot_of-given : (f : ℕ → Slot) (o : Option ℕ) → unwrap_or (option_map f o) Unlisted ≡ option_map_or f o Unlisted
slot_of-given f None = refl
slot_of-given f (Some n) = refl

pub returns : goal.returns
returns c = λ key.
    let rules = c.args.definition.now.rules.items in
    let same = c.deref-rule-items.ensures.value in
    let end : length rules ≤ c.loop-index.index = omega (arith, ap length same) in
    ap (λ (o : Option Slot). unwrap_or o Unlisted) (ap (λ slots. get same_key slots key) c.in_ok-keyed.ensures ∙ c.loop-index.invariant key
    ∙ ap (λ (rs : List DRule). option_map (slot_at rules) (position (lists_key key) rs)) (take_all c.loop-index.index rules end))
    ∙ slot_of-given (slot_at rules) (position (lists_key key) rules)
