-- Lengths that no pass makes less are floors.
use Rattle.std.proofs.Common.{◌≡◌, ℕ, zero, suc, ◌+◌, ◌≤◌, Bool, true, false, List, [], ◌∷◌, length, Option, Some, None, refl, sym, ap, subst, ◌∙◌, arith, inl, inr}
use Rattle.std.specs.Prelude.{◌⊎◌, not, map, find, slice_get, slice_index_or, if◌then◌else◌, option_and_then, IsTrue}
use Rattle.std.specs.List.Sorted.{IsNonDecreasingBy}
use Rattle.std.specs.Option.{option_map_or}
use Rattle.std.proofs.lemmas.List.Sorted.{Contains-permutation}
use Rattle.std.proofs.lemmas.Option.{none-some, same_Some, slice_get_within}
use Rattle.dia_wire.specs.declared.Key.{Key}
use Rattle.dia_book.specs.declared.DRule.{DRule}
use Rattle.dia_book.specs.Keys.{same_key}
use Rattle.dia_book.specs.Dictionary.{AreRules, Dictionary, DictEntry, PlainDefinition, IsDictionary, entry_of}
use Rattle.dia_book.proofs.SameKeys.{same_key-true}
use Rattle.dia_valid.specs.Valid.{known, is_listed, Placed}
use Rattle.dia_valid.proofs.Entries.{kept_rules}
use Rattle.dia_valid.proofs.Entries.{at_position}
use Rattle.dia_valid.proofs.GroupNumbers.{number_of, group_there}
use Rattle.dia_terms.specs.declared.Sends.{Sends}
use Rattle.dia_terms.specs.declared.Sends.TheVariants.{Any, Known, Filled, Listed}
use Rattle.dia_breaking_sites.specs.Sent.{is_open, AreBytes, AreListed, StandAsSent}
use Rattle.dia_breaking_sites.proofs.Members.{IsIn, contains_in, in_contains, in_at, at_in, in_all}
use Rattle.dia_breaking_data.specs.Shortest as witness
use Rattle.dia_breaking_levels.specs.LeastLevels.{total}
use Rattle.dia_breaking_levels.specs.LevelTests.{too_long, price, rule_floor, base_length}
use Rattle.dia_breaking_levels.proofs.CountsAndRanks.{rules_sound}
use Rattle.dia_breaking_levels.proofs.FloorBounds.{base_within}
use Rattle.dia_breaking_levels.proofs.LevelBounds.{floor_least}
use Rattle.dia_breaking_levels.proofs.RuleSums.{sum_of}
use Rattle.dia_breaking_shortest.specs.declared.lookup.Least.{Least}
use Rattle.dia_breaking_shortest.specs.declared.order.Ranked.{Ranked}
use Rattle.dia_breaking_shortest.specs.Floors.{shortest_head, padded, AreFloors}
use Rattle.dia_breaking_shortest.specs.Lengths.{entry_length, unknown_length, rank, is_unlisted, IsOrder, filler_of, filler_length, group_length}
use Rattle.dia_breaking_shortest.specs.Passes.{length_in, IsSettled, AreKept, AreSettled}
use Rattle.dia_breaking_shortest.proofs.FloorsOfAvps.{rounded_more}
use Rattle.dia_breaking_shortest.proofs.LeafLengths.{leaf_floor}
use Rattle.dia_breaking_shortest.proofs.OpenLevels.{open_base}

-- ---- the first of a list in order

indexed : {X : Type 0} (xs : List X) (i : ℕ) (x d : X) → slice_get xs i ≡ Some x → slice_index_or xs i d ≡ x
indexed [] i x d at = absurd (none-some x at)
indexed (y ∷ xs) zero x d at = same_Some y x at
indexed (y ∷ xs) (suc i) x d at = indexed xs i x d at

first_is_least : {X : Type 0} (f : X → ℕ) (x : X) (xs : List X) (y : X) → IsNonDecreasingBy f (x ∷ xs) → IsIn y xs → f x ≤ f y
first_is_least f x xs y sorted i =
    let p = at_in xs y i in
    let le : f x ≤ f (slice_index_or xs p.place x) = sorted 0 (suc p.place) x (omega arith) (let within = slice_get_within xs p.place y p.at in omega (arith, within)) in
    let same : f (slice_index_or xs p.place x) ≡ f y = ap f (indexed xs p.place y x p.at) in
    omega (arith, le, same)

rest_sorted : {X : Type 0} (f : X → ℕ) (x : X) (xs : List X) → IsNonDecreasingBy f (x ∷ xs) → IsNonDecreasingBy f xs
rest_sorted f x xs sorted = λ i j z le within. sorted (suc i) (suc j) z (omega (arith, le)) (omega (arith, within))

pub found_is_least : (p : Ranked → Bool) (xs : List Ranked) (y : Ranked) → IsNonDecreasingBy (λ r. r.length) xs → IsIn y xs → p y ≡ true → filler_length (find p xs) ≤ y.length
found_is_least p [] y sorted i t = absurd i
found_is_least p (x ∷ xs) y sorted i t = by (p x) refl i (found_is_least p xs y (rest_sorted (λ (r : Ranked). r.length) x xs sorted))
  where
    by : (b : Bool) → p x ≡ b → IsIn y (x ∷ xs) → (IsIn y xs → p y ≡ true → filler_length (find p xs) ≤ y.length) → filler_length (if b then Some x else find p xs) ≤ y.length
    by true e (inl same) ih = let own : x.length ≡ y.length = ap (λ (r : Ranked). r.length) (sym same) in omega (arith, own)
    by true e (inr j) ih = let first = first_is_least (λ (r : Ranked). r.length) x xs y sorted j in omega (arith, first)
    by false e (inl same) ih = absurd (let bad : false ≡ true = sym e ∙ ap p (sym same) ∙ t in cc)
    by false e (inr j) ih = ih j t

-- ---- keys and entries

-- the entry of a key
pub record HasEntry (d : Dictionary) (key : Key) : Type 0 where
  pub place : ℕ
  pub entry : DictEntry
  pub is_place : entry_of d key ≡ Some place
  pub at : slice_get d.entries place ≡ Some entry
  pub own : entry.key ≡ key

abbrev pub entry_at : (d : Dictionary) (key : Key) (i : ℕ) → entry_of d key ≡ Some i → HasEntry d key
entry_at d key i is =
    let p = at_position (λ (e : DictEntry). same_key key e.key) d.entries i is in
    record { place = i; entry = p.0; is_place = is; at = p.1; own = sym (same_key-true key p.0.key p.2) }

-- a key that is known
pub of_known : (d : Dictionary) (key : Key) (x : DictEntry) → known d key ≡ Some x → (h : HasEntry d key) × (h.entry ≡ x)
of_known d key x is = by (entry_of d key) refl
  where
    by : (o : Option ℕ) → entry_of d key ≡ o → (h : HasEntry d key) × (h.entry ≡ x)
    by None e = absurd (none-some x (sym (ap (λ (o : Option ℕ). option_and_then (λ i. slice_get d.entries i) o) e) ∙ is))
    by (Some i) e =
        let h = entry_at d key i e in
        (h, same_Some h.entry x (sym h.at ∙ sym (ap (λ (o : Option ℕ). option_and_then (λ i. slice_get d.entries i) o) e) ∙ is))

pub not_known : (d : Dictionary) (key : Key) → known d key ≡ None → entry_of d key ≡ None
not_known d key is = by (entry_of d key) refl
  where
    by : (o : Option ℕ) → entry_of d key ≡ o → o ≡ None
    by None e = refl
    by (Some i) e =
        let h = entry_at d key i e in
        absurd (none-some h.entry (sym is ∙ ap (λ (o : Option ℕ). option_and_then (λ i. slice_get d.entries i) o) e ∙ h.at))

-- ---- what a wildcard is met with

pub in_map : {X Y : Type 0} (f : X → Y) (xs : List X) (x : X) → IsIn x xs → IsIn (f x) (map f xs)
in_map f [] x i = absurd i
in_map f (y ∷ xs) x (inl e) = inl (ap f e)
in_map f (y ∷ xs) x (inr i) = inr (in_map f xs x i)

total_price : (f : Key → ℕ) (rules : List DRule) (keys : List Key) → total (price f f rules) keys ≡ total f keys
total_price f rules [] = refl
total_price f rules (k ∷ keys) = by (is_listed rules k) (total_price f rules keys)
  where
    by : (b : Bool) → total (price f f rules) keys ≡ total f keys → (if b then f k else f k) + total (price f f rules) keys ≡ f k + total f keys
    by true e = omega (arith, e)
    by false e = omega (arith, e)

module _ (d : Dictionary) (least : Least) (order : List Ranked) (kept : AreKept d least) (are : IsOrder (length_in d least) d.entries order) where
  length_at : (key : Key) (h : HasEntry d key) → length_in d least key ≡ entry_length least.lengths.items h.place
  length_at key h = ap (λ (o : Option ℕ). option_map_or (entry_length least.lengths.items) o (unknown_length least.sends key)) h.is_place

  length_unknown : (key : Key) → entry_of d key ≡ None → length_in d least key ≡ unknown_length least.sends key
  length_unknown key e = ap (λ (o : Option ℕ). option_map_or (entry_length least.lengths.items) o (unknown_length least.sends key)) e

  ranked : (key : Key) (h : HasEntry d key) → IsIn (rank (length_in d least) h.entry) order
  ranked key h = in_contains order (rank (length_in d least) h.entry) (Contains-permutation (map (rank (length_in d least)) d.entries) order (rank (length_in d least) h.entry) are.all
      (contains_in (map (rank (length_in d least)) d.entries) (rank (length_in d least) h.entry) (in_map (rank (length_in d least)) d.entries h.entry (in_at d.entries h.place h.entry h.at))))

  -- no length is above the one that means none, nor below a head
  low : (sends : Sends) (key : Key) → 8 ≤ unknown_length sends key
  low Any key = by key.vendor
    where
      by : (n : ℕ) → 8 ≤ shortest_head (record { code = key.code; vendor = n })
      by zero = omega arith
      by (suc n) = omega arith
  low Known key = omega arith
  low Filled key = omega arith
  low Listed key = omega arith

  at_least_head : (key : Key) → 8 ≤ length_in d least key
  at_least_head key = by (entry_of d key) refl
    where
      by : (o : Option ℕ) → entry_of d key ≡ o → 8 ≤ length_in d least key
      by None e = let same = length_unknown key e in let more = low least.sends key in omega (arith, same, more)
      by (Some i) e = let same = length_at key (entry_at d key i e) in let more = (kept.within i).0 in omega (arith, same, more)

  pub head_is : shortest_head least.unknown ≡ 8
  head_is = ap (λ (n : ℕ). shortest_head (record { code = least.unknown.code; vendor = n })) kept.unknown.vendor

  pub filler_short : (o : Option Ranked) → filler_length o ≤ too_long
  filler_short None = omega arith
  filler_short (Some r) = omega arith

  pub filler_known : least.sends ≡ Known → (rules : List DRule) (key : Key) → is_listed rules key ≡ false → filler_length (find (is_unlisted rules) order) ≤ length_in d least key
  filler_known is rules key none = by (entry_of d key) refl
    where
      by : (o : Option ℕ) → entry_of d key ≡ o → filler_length (find (is_unlisted rules) order) ≤ length_in d least key
      by None e =
          let same : length_in d least key ≡ too_long = length_unknown key e ∙ ap (λ (s : Sends). unknown_length s key) is in
          let short = filler_short (find (is_unlisted rules) order) in
          omega (arith, same, short)
      by (Some j) e =
          let h = entry_at d key j e in
          let free : is_unlisted rules (rank (length_in d least) h.entry) ≡ true = ap (λ (k : Key). not (is_listed rules k)) h.own ∙ ap not none in
          let first = found_is_least (is_unlisted rules) order (rank (length_in d least) h.entry) are.sorted (ranked key h) free in
          let same : length_in d least h.entry.key ≡ length_in d least key = ap (length_in d least) h.own in
          omega (arith, first, same)

  -- ---- levels

  abbrev filler_by : List DRule → ℕ
  filler_by rules = filler_length (filler_of least.sends least.unknown order rules)

  level_by : (rules : List DRule) (keys : List Key) → AreRules rules → Placed rules keys
      → ((key : Key) → IsIn key keys → is_listed rules key ≡ false → filler_by rules ≤ length_in d least key)
      → base_length (length_in d least) (filler_by rules) rules ≤ total (length_in d least) keys
  level_by rules keys are placed least_filler =
      let f = length_in d least in
      let base = base_within f (filler_by rules) rules in
      let floor : sum_of (rule_floor f (filler_by rules)) rules ≤ total (price f f rules) keys = floor_least rules f f (filler_by rules) keys (rules_sound rules are) placed least_filler in
      let same = total_price f rules keys in
      omega (arith, base, floor, same)

  -- a level that has AVPs by a wildcard isn't shorter than the rules ask for with the filler
  open_within : (sends : Sends) → least.sends ≡ sends → (rules : List DRule) (keys : List Key) → AreRules rules → Placed rules keys → IsTrue (is_open sends rules)
      → base_length (length_in d least) (filler_by rules) rules ≤ total (length_in d least) keys
  open_within Any is rules keys are placed lets =
      level_by rules keys are placed (λ key i none.
      let filler : filler_by rules ≡ 8 = ap (λ (s : Sends). filler_length (filler_of s least.unknown order rules)) is ∙ (let same = head_is in omega (arith, same)) in
      let more = at_least_head key in
      omega (arith, filler, more))
  open_within Known is rules keys are placed lets =
      level_by rules keys are placed (λ key i none.
      subst (λ (s : Sends). filler_length (filler_of s least.unknown order rules) ≤ length_in d least key) (sym is) (filler_known is rules key none))
  open_within Filled is rules keys are placed lets = let none = open_base (length_in d least) (filler_by rules) rules are lets in omega (arith, none)
  open_within Listed is rules keys are placed lets = absurd (let bad : false ≡ true = lets in cc)

  level_within : (rules : List DRule) (keys : List Key) → AreRules rules → StandAsSent least.sends rules keys
      → base_length (length_in d least) (filler_by rules) rules ≤ total (length_in d least) keys
  level_within rules keys are stand = by stand.1
    where
      by : IsTrue (is_open least.sends rules) ⊎ AreListed rules keys → base_length (length_in d least) (filler_by rules) rules ≤ total (length_in d least) keys
      by (inl lets) = open_within least.sends refl rules keys are stand.0 lets
      by (inr all) =
          level_by rules keys are stand.0 (λ key i none.
          let lists : is_listed rules key ≡ true = in_all (λ (k : Key). is_listed rules k ≡ true) keys key all i in
          absurd (let bad : false ≡ true = sym none ∙ lists in cc))

  -- ---- groups

  group_within : (e : ℕ) (entry : DictEntry) (group : PlainDefinition) (keys : List Key) → IsDictionary d → IsSettled d least order e → slice_get d.entries e ≡ Some entry → entry.group ≡ Some group
      → StandAsSent least.sends group.rules keys → entry_length least.lengths.items e ≤ padded (shortest_head entry.key + total (length_in d least) keys)
  group_within e entry group keys is settled at some stand =
      let place = group_there d e entry group at some in
      let level = level_within group.rules keys (kept_rules d (number_of d e) group is place.1) stand in
      let low : entry_length least.lengths.items e ≤ group_length (length_in d least) (filler_length (filler_of least.sends least.unknown order group.rules)) entry.key group.rules =
      settled entry group at some in
      let more = rounded_more (shortest_head entry.key + base_length (length_in d least) (filler_length (filler_of least.sends least.unknown order group.rules)) group.rules)
      (shortest_head entry.key + total (length_in d least) keys) (omega (arith, level)) in
      omega (arith, low, more)

-- ---- all AVPs

witness_bytes : (bytes : List ℕ) → AreBytes bytes → witness.AreBytes bytes
witness_bytes [] all = tt
witness_bytes (b ∷ bytes) all = (all.0, witness_bytes bytes all.1)

pub are_floors : (d : Dictionary) (least : Least) → IsDictionary d → AreKept d least → AreSettled d least → AreFloors d least.sends (length_in d least)
are_floors d least is kept (order, are, settled) = record {
  unknown = λ key none any. let same = length_unknown d least order kept are key (not_known d key none) ∙ ap (λ (s : Sends). unknown_length s key) any in omega (arith, same);
  leaves = λ key entry bytes some none every leaf.
      let k = of_known d key entry some in
      let h = k.0 in
      let own : h.entry ≡ entry = k.1 in
      let at : slice_get d.entries h.place ≡ Some entry = h.at ∙ ap (λ (x : DictEntry). Some x) own in
      let low : entry_length least.lengths.items h.place ≤ padded (shortest_head entry.key + length bytes) =
      leaf_floor entry (entry_length least.lengths.items h.place) bytes (kept.leaves h.place entry at none) (witness_bytes bytes every) leaf in
      let key_is : entry.key ≡ key = ap (λ (x : DictEntry). x.key) (sym own) ∙ h.own in
      let low_key : entry_length least.lengths.items h.place ≤ padded (shortest_head key + length bytes) =
      subst (λ (k : Key). entry_length least.lengths.items h.place ≤ padded (shortest_head k + length bytes)) key_is low in
      let same = length_at d least order kept are key h in
      omega (arith, same, low_key);
  groups = λ key entry group keys some is_group stand.
      let k = of_known d key entry some in
      let h = k.0 in
      let own : h.entry ≡ entry = k.1 in
      let at : slice_get d.entries h.place ≡ Some entry = h.at ∙ ap (λ (x : DictEntry). Some x) own in
      let low = group_within d least order kept are h.place entry group keys is (settled h.place (slice_get_within d.entries h.place entry at)) at is_group stand in
      let key_is : entry.key ≡ key = ap (λ (x : DictEntry). x.key) (sym own) ∙ h.own in
      let low_key : entry_length least.lengths.items h.place ≤ padded (shortest_head key + total (length_in d least) keys) =
      subst (λ (k : Key). entry_length least.lengths.items h.place ≤ padded (shortest_head k + total (length_in d least) keys)) key_is low in
      let same = length_at d least order kept are key h in
      omega (arith, same, low_key);
}
