-- Lengths that solve the equations are attained.
use Rattle.std.proofs.Common.{◌≡◌, ℕ, zero, suc, ◌+◌, ◌<◌, ◌≤◌, Bool, true, false, List, length, Option, Some, None, refl, sym, ap, subst, ◌∙◌, arith, inl, inr}
use Rattle.std.specs.Prelude.{◌⊎◌, slice_get, option_and_then, IsSome, IsTrue, Contains}
use Rattle.std.specs.List.{AllByRecursion}
use Rattle.std.specs.Option.{option_map_or}
use Rattle.dia_wire.specs.declared.Key.{Key}
use Rattle.dia_book.specs.declared.DRule.{DRule}
use Rattle.dia_book.specs.Dictionary.{Dictionary, DictEntry, PlainDefinition, IsDictionary, AreRules, entry_of, definitions}
use Rattle.dia_valid.specs.Valid.{known, is_listed, Placed}
use Rattle.dia_valid.proofs.GroupNumbers.{number_of, group_there}
use Rattle.dia_valid.proofs.Members.{contains_in, in_at, in_contains, IsIn}
use Rattle.dia_valid.proofs.RulesOfKeys.{is_listed_by}
use Rattle.dia_terms.specs.declared.Sends.{Sends}
use Rattle.dia_terms.specs.declared.Sends.TheVariants.{Any, Known, Filled, Listed}
use Rattle.dia_breaking_sites.specs.Sent.{StandAsSent}
use Rattle.dia_breaking_levels.specs.LeastLevels.{total, or_filler, plan, WantsOver}
use Rattle.dia_breaking_levels.specs.LevelTests.{too_long, base_length}
use Rattle.dia_breaking_levels.proofs.FloorBounds.{rule_of_listed}
use Rattle.dia_breaking_levels.proofs.LeastLevels.{definition_rules, plan_placed}
use Rattle.dia_breaking_shortest.specs.Exact.{AreExact, IsFillerLength, IsGroupLength, AreSpellable}
use Rattle.dia_breaking_shortest.specs.Floors.{shortest_head, padded, IsAttained, IsSpellable}
use Rattle.dia_breaking_shortest.specs.Lengths.{IsLeafLength, entry_length, unknown_length, length_of}
use Rattle.dia_breaking_shortest.proofs.FloorsOfAvps.{rounded_up}
use Rattle.dia_breaking_shortest.proofs.FloorsOfLengths.{entry_at, not_known}
use Rattle.dia_breaking_shortest.proofs.LessLevels.{level_within}
use Rattle.dia_breaking_shortest.proofs.ShortestAvps.{leaf_attained, unknown_attained, group_attained}
use Rattle.dia_breaking_shortest.proofs.Strangers.{IsStranger, stranger}
use Rattle.dia_breaking_shortest.proofs.ShortestLevels.{asked_within, plan_all, plan_total}

padded_head : (key : Key) → padded (shortest_head key) ≡ shortest_head key
padded_head key = by key.vendor
  where
    by : (n : ℕ) → padded (shortest_head (record { code = key.code; vendor = n })) ≡ shortest_head (record { code = key.code; vendor = n })
    by zero = refl
    by (suc n) = refl

stranger_head : (key : Key) → key.vendor ≡ 0 → shortest_head key ≡ 8
stranger_head key none = ap (λ (n : ℕ). shortest_head (record { code = key.code; vendor = n })) none

module _ (d : Dictionary) (lengths : List ℕ) (unknown : Key) (is : IsDictionary d) (spells : AreSpellable d) (strange : IsStranger d unknown) where
  -- ---- keys that can be spelled

  known_spelled : (key : Key) → IsSome (entry_of d key) → IsSpellable key
  known_spelled key some = by (entry_of d key) refl
    where
      by : (o : Option ℕ) → entry_of d key ≡ o → IsSpellable key
      by None e = absurd (let bad : false ≡ true = subst IsSome e some in cc)
      by (Some i) e = let h = entry_at d key i e in subst IsSpellable h.own (spells h.place h.entry h.at)

  short_spelled : (key : Key) → length_of d Known lengths key < too_long → IsSpellable key
  short_spelled key = by (entry_of d key) refl
    where
      by : (o : Option ℕ) → entry_of d key ≡ o → option_map_or (entry_length lengths) o too_long < too_long → IsSpellable key
      by None e lt = absurd (omega (arith, lt))
      by (Some i) e lt = known_spelled key (subst IsSome (sym e) refl)

  stranger_spelled : IsSpellable unknown
  stranger_spelled = (strange.code, let none = strange.vendor in omega (arith, none))

  stranger_unlisted : (group : PlainDefinition) → Contains (definitions d) group → is_listed group.rules unknown ≡ false
  stranger_unlisted group has = by (is_listed group.rules unknown) refl
    where
      by : (b : Bool) → is_listed group.rules unknown ≡ b → b ≡ false
      by false e = refl
      by true e =
          let r = rule_of_listed group.rules unknown e in
          let some = is.known_keys group r.0 unknown has (contains_in group.rules r.0 r.1) r.2 in
          let bad : false ≡ true = subst IsSome (not_known d unknown strange.unknown) some in
          absurd cc

  -- ---- what a wildcard's least count is met with

  abbrev IsFilledBy : Sends → List DRule → ℕ → Key → Type 0
  IsFilledBy sends rules a key = a < too_long → (length_of d sends lengths key ≡ a) × (is_listed rules key ≡ false) × IsSpellable key

  filled : (sends : Sends) (group : PlainDefinition) (a : ℕ) → Contains (definitions d) group → IsFillerLength d sends lengths group.rules a → (key : Key) × IsFilledBy sends group.rules a key
  filled Any group a has h = (
    unknown,
    λ lt.
        let none = ap (λ (o : Option ℕ). option_map_or (entry_length lengths) o (shortest_head unknown)) (not_known d unknown strange.unknown) in
        let head = stranger_head unknown strange.vendor in
        (omega (arith, none, head, h), stranger_unlisted group has, stranger_spelled),
  )
  filled Known group a has h = by h.one_is_as_short
    where
      by : (a ≡ too_long) ⊎ ((key : Key) × (is_listed group.rules key ≡ false) × (a ≡ length_of d Known lengths key)) → (key : Key) × IsFilledBy Known group.rules a key
      by (inl none) = (unknown, λ lt. absurd (omega (arith, none, lt)))
      by (inr (key, free, same)) = (key, λ lt. (sym same, free, short_spelled key (omega (arith, same, lt))))
  filled Filled group a has h = (unknown, λ lt. absurd (omega (arith, h, lt)))
  filled Listed group a has h = (unknown, λ lt. absurd (omega (arith, h, lt)))

  -- ---- AVPs

  abbrev AreAttained : Sends → ℕ → Type 0
  AreAttained sends v = (key : Key) → IsSpellable key → length_of d sends lengths key < v → length_of d sends lengths key < too_long → IsAttained d sends key (length_of d sends lengths key)

  leaf_at : (sends : Sends) (entry : DictEntry) (n : ℕ) → IsSpellable entry.key → known d entry.key ≡ Some entry → entry.group ≡ None → IsLeafLength entry n → n < too_long
      → IsAttained d sends entry.key n
  leaf_at sends entry n small some none (inl (bytes, are, leaf, least, same)) short =
      let up = rounded_up (shortest_head entry.key + length bytes) in
      let all = leaf_attained d sends entry.key entry bytes small some none leaf (omega (arith, up, same, short)) in
      subst (IsAttained d sends entry.key) (omega (arith, same, short)) all
  leaf_at sends entry n small some none (inr (same, nothing)) short = absurd (omega (arith, same, short))

  unknown_at : (sends : Sends) (key : Key) → IsSpellable key → known d key ≡ None → unknown_length sends key < too_long → IsAttained d sends key (unknown_length sends key)
  unknown_at Any key small none short = subst (IsAttained d Any key) (padded_head key) (unknown_attained d key small none)
  unknown_at Known key small none short = absurd (omega (arith, short))
  unknown_at Filled key small none short = absurd (omega (arith, short))
  unknown_at Listed key small none short = absurd (omega (arith, short))

  module _ (sends : Sends) (v a : ℕ) (group : PlainDefinition) (q : Key) (before : AreAttained sends v) (has : Contains (definitions d) group) (fills : IsFilledBy sends group.rules a q)
      (within : base_length (length_of d sends lengths) a group.rules < v) (below : base_length (length_of d sends lengths) a group.rules < too_long) where
    one_same : (r : DRule) → IsIn r group.rules → 1 ≤ r.min → length_of d sends lengths (or_filler q r.key) ≡ option_map_or (length_of d sends lengths) r.key a
    one_same r i some = by r.key (asked_within (length_of d sends lengths) a group.rules below r i some)
      where
        by : (o : Option Key) → option_map_or (length_of d sends lengths) o a ≤ base_length (length_of d sends lengths) a group.rules
            → length_of d sends lengths (or_filler q o) ≡ option_map_or (length_of d sends lengths) o a
        by (Some key) low = refl
        by None low = (fills (omega (arith, low, below))).0

    one_attained : (r : DRule) → IsIn r group.rules → 1 ≤ r.min → IsAttained d sends (or_filler q r.key) (length_of d sends lengths (or_filler q r.key))
    one_attained r i some = by r.key refl (asked_within (length_of d sends lengths) a group.rules below r i some)
      where
        by : (o : Option Key) → r.key ≡ o → option_map_or (length_of d sends lengths) o a ≤ base_length (length_of d sends lengths) a group.rules
            → IsAttained d sends (or_filler q o) (length_of d sends lengths (or_filler q o))
        by (Some key) e low =
            before key (known_spelled key (is.known_keys group r key has (contains_in group.rules r i) e)) (omega (arith, low, within)) (omega (arith, low, below))
        by None e low =
            let own = fills (omega (arith, low, below)) in
            let same = own.0 in
            before q own.2 (omega (arith, same, low, within)) (omega (arith, same, low, below))

    placed : AreRules group.rules → Placed group.rules (plan q group.rules)
    placed are = plan_placed group.rules q are free
      where
        by : (w : DRule) → w.key ≡ None → option_map_or (length_of d sends lengths) w.key a ≤ base_length (length_of d sends lengths) a group.rules → is_listed group.rules q ≡ false
        by w none low =
            let own = ap (λ (o : Option Key). option_map_or (length_of d sends lengths) o a) none in
            (fills (omega (arith, own, low, below))).1

        free : WantsOver 0 group.rules → is_listed group.rules q ≡ false
        free (w, (c, none), some) = by w none (asked_within (length_of d sends lengths) a group.rules below w (in_contains group.rules w c) some)

  listed_all : (sends : Sends) (a : ℕ) (q : Key) (rules : List DRule) → a ≡ too_long → base_length (length_of d sends lengths) a rules < too_long
      → AllByRecursion (λ key. IsTrue (is_listed rules key)) (plan q rules)
  listed_all sends a q rules none below = plan_all (λ (key : Key). IsTrue (is_listed rules key)) q rules each
    where
      each : (r : DRule) → IsIn r rules → 1 ≤ r.min → IsTrue (is_listed rules (or_filler q r.key))
      each r i some = by r.key refl (asked_within (length_of d sends lengths) a rules below r i some)
        where
          by : (o : Option Key) → r.key ≡ o → option_map_or (length_of d sends lengths) o a ≤ base_length (length_of d sends lengths) a rules → IsTrue (is_listed rules (or_filler q o))
          by (Some key) e low = is_listed_by rules key r i e
          by None e low = absurd (omega (arith, low, none, below))

  stand : (sends : Sends) (a : ℕ) (q : Key) (rules : List DRule) → IsFillerLength d sends lengths rules a → base_length (length_of d sends lengths) a rules < too_long → Placed rules (plan q rules)
      → StandAsSent sends rules (plan q rules)
  stand Any a q rules is_a below placed = (placed, inl refl)
  stand Known a q rules is_a below placed = (placed, inl refl)
  stand Filled a q rules is_a below placed = (placed, inr (listed_all Filled a q rules is_a below))
  stand Listed a q rules is_a below placed = (placed, inr (listed_all Listed a q rules is_a below))

  group_at : (sends : Sends) (v n : ℕ) (entry : DictEntry) (group : PlainDefinition) → AreAttained sends v → Contains (definitions d) group → known d entry.key ≡ Some entry → entry.group ≡ Some group
      → IsSpellable entry.key
      → IsGroupLength d sends lengths entry.key group.rules n → n ≤ v → n < too_long → IsAttained d sends entry.key n
  group_at sends v n entry group before has some is_group small (a, is_a, is_n) le short =
      let f = length_of d sends lengths in
      let rules = group.rules in
      let base_short = level_within f a n entry.key rules is_n short in
      let within : base_length f a rules < v = omega (arith, base_short, le) in
      let below : base_length f a rules < too_long = omega (arith, base_short, short) in
      let filler = filled sends group a has is_a in
      let q = filler.0 in
      let sum = plan_total f a q rules below (one_same sends v a group q before has filler.1 within below) in
      let all = plan_all (λ (k : Key). IsAttained d sends k (f k)) q rules (one_attained sends v a group q before has filler.1 within below) in
      let sent = stand sends a q rules is_a below (placed sends v a group q before has filler.1 within below (definition_rules d group is has)) in
      let up = rounded_up (shortest_head entry.key + total f (plan q rules)) in
      let same : padded (shortest_head entry.key + base_length f a rules) ≡ padded (shortest_head entry.key + total f (plan q rules)) = ap (λ (k : ℕ). padded (shortest_head entry.key + k)) sum in
      subst (IsAttained d sends entry.key) (omega (arith, same, is_n, short))
      (group_attained d sends f entry.key entry group (plan q rules) small some is_group sent all (omega (arith, up, same, is_n, short)))

  module _ (sends : Sends) (exact : AreExact d sends lengths) where
    entry_attained : (v e : ℕ) (entry : DictEntry) → AreAttained sends v → slice_get d.entries e ≡ Some entry → known d entry.key ≡ Some entry → entry_length lengths e ≤ v
        → entry_length lengths e < too_long
        → IsAttained d sends entry.key (entry_length lengths e)
    entry_attained v e entry before at some le short = by entry.group refl
      where
        by : (o : Option PlainDefinition) → entry.group ≡ o → IsAttained d sends entry.key (entry_length lengths e)
        by None none = leaf_at sends entry (entry_length lengths e) (spells e entry at) some none (exact.leaves e entry at none) short
        by (Some group) is_group =
            let place = group_there d e entry group at is_group in
            group_at sends v (entry_length lengths e) entry group before (contains_in (definitions d) group (in_at (definitions d) (number_of d e) group place.1)) some is_group (spells e entry at)
            (exact.groups e entry group at is_group) le short

    key_attained : (v : ℕ) (key : Key) → AreAttained sends v → IsSpellable key → length_of d sends lengths key ≤ v → length_of d sends lengths key < too_long
        → IsAttained d sends key (length_of d sends lengths key)
    key_attained v key before small = by (entry_of d key) refl
      where
        by : (o : Option ℕ) → entry_of d key ≡ o → option_map_or (entry_length lengths) o (unknown_length sends key) ≤ v → option_map_or (entry_length lengths) o (unknown_length sends key) < too_long
            → IsAttained d sends key (option_map_or (entry_length lengths) o (unknown_length sends key))
        by None e le short = unknown_at sends key small (ap (λ (o : Option ℕ). option_and_then (λ i. slice_get d.entries i) o) e) short
        by (Some i) e le short =
            let h = entry_at d key i e in
            let some : known d key ≡ Some h.entry = ap (λ (o : Option ℕ). option_and_then (λ i. slice_get d.entries i) o) h.is_place ∙ h.at in
            let own : known d h.entry.key ≡ Some h.entry = subst (λ (k : Key). known d k ≡ Some h.entry) (sym h.own) some in
            subst (λ (k : Key). IsAttained d sends k (entry_length lengths i)) h.own (entry_attained v i h.entry before h.at own le short)

    attained : (v : ℕ) (key : Key) → IsSpellable key → length_of d sends lengths key ≤ v → length_of d sends lengths key < too_long → IsAttained d sends key (length_of d sends lengths key)
    attained zero key small le short = key_attained zero key (λ k s lt low. absurd (omega (arith, lt))) small le short
    attained (suc v) key small le short = key_attained (suc v) key (λ k s lt low. attained v k s (omega (arith, lt)) low) small le short

pub length_attained : (d : Dictionary) (sends : Sends) (lengths : List ℕ) → IsDictionary d → AreSpellable d → AreExact d sends lengths
    → (key : Key) → IsSpellable key → length_of d sends lengths key < too_long → IsAttained d sends key (length_of d sends lengths key)
length_attained d sends lengths is spells exact key small short =
    let s = stranger d is in
    attained d lengths s.0 is spells s.1 sends exact (length_of d sends lengths key) key small (omega arith) short
