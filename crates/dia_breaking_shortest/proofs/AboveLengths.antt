-- No group becomes shorter than its least level makes it.
use Rattle.std.proofs.Common.{◌≡◌, ℕ, ◌≤◌, Bool, true, false, List, [], ◌∷◌, Option, Some, None, refl, sym, ap, subst, ◌∙◌, arith, inl, inr}
use Rattle.std.specs.Prelude.{◌⊎◌, not, find, slice_get, IfSome, if◌then◌else◌}
use Rattle.std.specs.List.{AllByRecursion}
use Rattle.std.specs.Option.{option_map_or}
use Rattle.std.proofs.lemmas.Bool.{cases_eq}
use Rattle.std.proofs.lemmas.Option.{none-some, same_Some}
use Rattle.std.proofs.lemmas.List.Elements.{recursion_from_All}
use Rattle.dia_wire.specs.declared.Key.{Key}
use Rattle.dia_book.specs.declared.DRule.{DRule}
use Rattle.dia_book.specs.Dictionary.{Dictionary, DictEntry, PlainDefinition, entry_of, group_place}
use Rattle.dia_valid.specs.Valid.{is_listed}
use Rattle.dia_valid.specs.Rules.{rules_in}
use Rattle.dia_valid.proofs.GroupNumbers.{group_missing, group_number}
use Rattle.dia_valid.proofs.Members.{at_some}
use Rattle.dia_terms.specs.declared.Sends.{Sends}
use Rattle.dia_terms.specs.declared.Sends.TheVariants.{Any, Known, Filled, Listed}
use Rattle.dia_breaking_levels.specs.LevelTests.{too_long}
use Rattle.dia_breaking_shortest.specs.declared.lookup.Least.{Least}
use Rattle.dia_breaking_shortest.specs.declared.order.Ranked.{Ranked}
use Rattle.dia_breaking_shortest.specs.Lengths.{entry_length, unknown_length, length_of, is_unlisted, filler_of, filler_length, group_length}
use Rattle.dia_breaking_shortest.specs.Passes.{AreAbove, AreNoShorter, IsFillerFloor, length_in}
use Rattle.dia_breaking_shortest.proofs.LeafLengths.{head_long}
use Rattle.dia_breaking_shortest.proofs.LessLevels.{base_no_more, group_less}

-- ---- lengths that become less

pub length_less : (d : Dictionary) (sends : Sends) (xs ys : List ℕ) → ((e : ℕ) → entry_length ys e ≤ entry_length xs e) → (key : Key) → length_of d sends ys key ≤ length_of d sends xs key
length_less d sends xs ys each key = by (entry_of d key)
  where
    by : (o : Option ℕ) → option_map_or (entry_length ys) o (unknown_length sends key) ≤ option_map_or (entry_length xs) o (unknown_length sends key)
    by None = omega arith
    by (Some e) = each e

floor_less : (d : Dictionary) (sends : Sends) (xs ys : List ℕ) (rules : List DRule) (n : ℕ) → ((e : ℕ) → entry_length ys e ≤ entry_length xs e) → IsFillerFloor d sends ys rules n
    → IsFillerFloor d sends xs rules n
floor_less d Any xs ys rules n each floor = floor
floor_less d Known xs ys rules n each floor = (floor.0, λ key free. let low = floor.1 key free in let less = length_less d Known xs ys each key in omega (arith, low, less))
floor_less d Filled xs ys rules n each floor = floor
floor_less d Listed xs ys rules n each floor = floor

-- ---- what a wildcard is met with

found_floor : (f : Key → ℕ) (rules : List DRule) (order : List Ranked) (n : ℕ) → n ≤ too_long → ((key : Key) → is_listed rules key ≡ false → n ≤ f key) → AllByRecursion (λ r. f r.key ≤ r.length) order
    → n ≤ filler_length (find (is_unlisted rules) order)
found_floor f rules [] n le floor all = le
found_floor f rules (r ∷ order) n le floor all = by (is_listed rules r.key) refl (found_floor f rules order n le floor all.1)
  where
    by : (b : Bool) → is_listed rules r.key ≡ b → n ≤ filler_length (find (is_unlisted rules) order) → n ≤ filler_length (if not b then Some r else find (is_unlisted rules) order)
    by true e ih = ih
    by false e ih = let low = floor r.key e in let more = all.0 in omega (arith, low, more, le)

filler_floor : (d : Dictionary) (sends : Sends) (unknown : Key) (lengths : List ℕ) (order : List Ranked) (rules : List DRule) (n : ℕ) → IsFillerFloor d sends lengths rules n
    → AreNoShorter (length_of d sends lengths) order → n ≤ filler_length (filler_of sends unknown order rules)
filler_floor d Any unknown lengths order rules n floor ranks = let head = head_long unknown in omega (arith, floor, head)
filler_floor d Known unknown lengths order rules n floor ranks =
    found_floor (length_of d Known lengths) rules order n floor.0 floor.1 (recursion_from_All (λ (r : Ranked). length_of d Known lengths r.key ≤ r.length) order ranks)
filler_floor d Filled unknown lengths order rules n floor ranks = floor
filler_floor d Listed unknown lengths order rules n floor ranks = floor

-- ---- one length

-- the entry is no group whose least level takes more than n
abbrev pub TakesNoMore : Dictionary → Sends → List ℕ → ℕ → ℕ → Type 0
TakesNoMore d sends lengths i n =
    (entry : DictEntry) (group : PlainDefinition) (filler : ℕ) → slice_get d.entries i ≡ Some entry → entry.group ≡ Some group → IsFillerFloor d sends lengths group.rules filler
    → group_length (length_of d sends lengths) filler entry.key group.rules ≤ n

pub above_on : (d : Dictionary) (sends : Sends) (xs ys : List ℕ) (i n : ℕ) → ((e : ℕ) → entry_length ys e ≤ entry_length xs e) → ((e : ℕ) → (e ≡ i → ⊥) → entry_length ys e ≡ entry_length xs e)
    → entry_length ys i ≡ n → TakesNoMore d sends xs i n → AreAbove d sends xs → AreAbove d sends ys
above_on d sends xs ys i n each others own takes before = λ e entry group filler at some floor.
    let less = group_less (length_of d sends ys) (length_of d sends xs) filler filler entry.key group.rules
    (base_no_more (length_of d sends ys) (length_of d sends xs) filler filler group.rules (omega arith) (length_less d sends xs ys each)) in
    let old = by e entry group filler at some (floor_less d sends xs ys group.rules filler each floor) (cases_eq e i) in
    omega (arith, less, old)
  where
    by : (e : ℕ) (entry : DictEntry) (group : PlainDefinition) (filler : ℕ) → slice_get d.entries e ≡ Some entry → entry.group ≡ Some group → IsFillerFloor d sends xs group.rules filler
        → (e ≡ i) ⊎ (e ≡ i → ⊥) → group_length (length_of d sends xs) filler entry.key group.rules ≤ entry_length ys e
    by e entry group filler at some floor (inl same) =
        let here = takes entry group filler (subst (λ (k : ℕ). slice_get d.entries k ≡ Some entry) same at) some floor in
        let is : entry_length ys e ≡ n = ap (λ (k : ℕ). entry_length ys k) same ∙ own in
        omega (arith, here, is)
    by e entry group filler at some floor (inr other) =
        let here = before e entry group filler at some floor in
        let is = others e other in
        omega (arith, here, is)

-- ---- a group

-- its length by the dictionary's entry and group
pub value_of : (d : Dictionary) (f : Key → ℕ) (filler : List DRule → ℕ) (i def n : ℕ) (key : Key) (entry : DictEntry) (group : PlainDefinition) → slice_get d.entries i ≡ Some entry
    → entry.group ≡ Some group
    → group_place d i ≡ Some def → IfSome (slice_get d.entries i) (λ e. key ≡ e.key) → n ≡ group_length f (filler (rules_in d def)) key (rules_in d def)
    → n ≡ group_length f (filler group.rules) entry.key group.rules
value_of d f filler i def n key entry group at some place key_is is =
    let number = group_number d i def entry at place in
    let same : number.0 ≡ group = same_Some number.0 group (sym number.1 ∙ some) in
    let own_rules : rules_in d def ≡ group.rules = ap (λ (o : Option PlainDefinition). option_map_or (λ x. x.rules) o []) number.2 ∙ ap (λ (x : PlainDefinition). x.rules) same in
    let own : key ≡ entry.key = at_some (λ (e : DictEntry). key ≡ e.key) (slice_get d.entries i) entry key_is at in
    is ∙ ap (λ (rs : List DRule). group_length f (filler rs) key rs) own_rules ∙ ap (λ (k : Key). group_length f (filler group.rules) k group.rules) own

pub takes_no_more : (d : Dictionary) (least : Least) (order : List Ranked) (i def n : ℕ) (key : Key) → AreNoShorter (length_in d least) order → group_place d i ≡ Some def
    → IfSome (slice_get d.entries i) (λ e. key ≡ e.key) → n ≡ group_length (length_in d least) (filler_length (filler_of least.sends least.unknown order (rules_in d def))) key (rules_in d def)
    → TakesNoMore d least.sends least.lengths.items i n
takes_no_more d least order i def n key ranks place key_is is = λ entry group filler at some floor.
    let f = length_in d least in
    let found = filler_length (filler_of least.sends least.unknown order group.rules) in
    let value = value_of d f (λ rules. filler_length (filler_of least.sends least.unknown order rules)) i def n key entry group at some place key_is is in
    let low = filler_floor d least.sends least.unknown least.lengths.items order group.rules filler floor ranks in
    let less = group_less f f filler found entry.key group.rules (base_no_more f f filler found group.rules low (λ k. omega arith)) in
    omega (arith, value, less)

pub no_leaf : (d : Dictionary) (i def : ℕ) (entry : DictEntry) → group_place d i ≡ Some def → slice_get d.entries i ≡ Some entry → entry.group ≡ None → ⊥
no_leaf d i def entry place at none = none-some def (sym (group_missing d i entry at none) ∙ place)
