-- No AVP that is sent is shorter than the exact length of its key.
use Rattle.std.proofs.Common.{◌≡◌, ℕ, ◌+◌, ◌≤◌, Bool, true, false, List, [], ◌∷◌, length, Option, Some, None, refl, sym, ap, subst, ◌∙◌, arith, inl, inr}
use Rattle.std.specs.Prelude.{◌⊎◌, IsTrue, slice_get, option_and_then, if◌then◌else◌}
use Rattle.std.specs.Option.{option_map_or}
use Rattle.std.proofs.lemmas.Bool.{both_ways}
use Rattle.std.proofs.lemmas.Option.{none-some, same_Some}
use Rattle.dia_wire.specs.declared.Key.{Key}
use Rattle.dia_book.specs.declared.DRule.{DRule}
use Rattle.dia_book.specs.Dictionary.{Dictionary, DictEntry, PlainDefinition, AreRules, IsDictionary, definitions, entry_of}
use Rattle.dia_terms.specs.declared.Sends.{Sends}
use Rattle.dia_terms.specs.declared.Sends.TheVariants.{Any, Known, Filled, Listed}
use Rattle.dia_valid.specs.Valid.{known, is_listed, Placed}
use Rattle.dia_valid.proofs.GroupNumbers.{group_there}
use Rattle.dia_valid.proofs.Members.{IsIn, in_all}
use Rattle.dia_breaking_sites.specs.Sent.{is_open, AreListed, StandAsSent}
use Rattle.dia_breaking_avps.proofs.NoLevels.{of_bytes}
use Rattle.dia_breaking_levels.specs.LevelTests.{base_length, price}
use Rattle.dia_breaking_levels.proofs.CountsAndRanks.{rules_sound}
use Rattle.dia_breaking_levels.proofs.FloorBounds.{base_within}
use Rattle.dia_breaking_levels.proofs.LevelBounds.{floor_least}
use Rattle.dia_breaking_shortest.specs.Exact.{AreExact, IsFillerLength}
use Rattle.dia_breaking_shortest.specs.Floors.{AreFloors, padded, shortest_head, total}
use Rattle.dia_breaking_shortest.specs.Lengths.{entry_length, length_of, unknown_length}
use Rattle.dia_breaking_shortest.proofs.FloorsOfAvps.{rounded_more, rounded_up}
use Rattle.dia_breaking_shortest.proofs.FloorsOfLengths.{HasEntry, entry_at, not_known}
use Rattle.dia_breaking_shortest.proofs.LeafLengths.{head_long, leaf_floor, leaf_within}
use Rattle.dia_breaking_shortest.proofs.OpenLevels.{open_base}
use Rattle.dia_breaking.specs.Lengths.{AreEntryLengths, listed_length}
use Rattle.dia_breaking.proofs.FloorsOfEntries.{floors_of_entries}
use Rattle.dia_breaking.proofs.Lists.{all_in, contains_at}

price_alike : (f : Key → ℕ) (rules : List DRule) (keys : List Key) → total (price f f rules) keys ≡ total f keys
price_alike f rules [] = refl
price_alike f rules (key ∷ keys) = by (is_listed rules key) (price_alike f rules keys)
  where
    by : (b : Bool) → total (price f f rules) keys ≡ total f keys → (if b then f key else f key) + total (price f f rules) keys ≡ f key + total f keys
    by true e = omega (arith, e)
    by false e = omega (arith, e)

module _ (d : Dictionary) (who : Sends) (lengths : List ℕ) (sound : IsDictionary d) (exact : AreExact d who lengths) where
  abbrev f : Key → ℕ
  f = length_of d who lengths

  length_at : (key : Key) (h : HasEntry d key) → f key ≡ entry_length lengths h.place
  length_at key h = ap (λ (o : Option ℕ). option_map_or (entry_length lengths) o (unknown_length who key)) h.is_place

  of_known : (key : Key) (x : DictEntry) → known d key ≡ Some x → (h : HasEntry d key) × (slice_get d.entries h.place ≡ Some x) × (x.key ≡ key)
  of_known key x is = by (entry_of d key) refl
    where
      by : (o : Option ℕ) → entry_of d key ≡ o → (h : HasEntry d key) × (slice_get d.entries h.place ≡ Some x) × (x.key ≡ key)
      by None e = absurd (none-some x (sym (ap (λ (o : Option ℕ). option_and_then (λ i. slice_get d.entries i) o) e) ∙ is))
      by (Some i) e =
          let h = entry_at d key i e in
          let at : slice_get d.entries i ≡ Some x = sym (ap (λ (o : Option ℕ). option_and_then (λ j. slice_get d.entries j) o) e) ∙ is in
          (h, at, ap (λ (y : DictEntry). y.key) (same_Some x h.entry (sym at ∙ h.at)) ∙ h.own)

  low : (sends : Sends) (key : Key) → 8 ≤ unknown_length sends key
  low Any key = head_long key
  low Known key = omega arith
  low Filled key = omega arith
  low Listed key = omega arith

  -- no length is below a head
  entry_long : (i : ℕ) (entry : DictEntry) → slice_get d.entries i ≡ Some entry → 8 ≤ entry_length lengths i
  entry_long i entry at = by entry.group refl
    where
      by : (o : Option PlainDefinition) → entry.group ≡ o → 8 ≤ entry_length lengths i
      by None none = (leaf_within entry (entry_length lengths i) (exact.leaves i entry at none)).0
      by (Some group) some =
          let (filler, is_filler, is) = exact.groups i entry group at some in
          let up = rounded_up (shortest_head entry.key + base_length f filler group.rules) in
          let long = head_long entry.key in
          omega (arith, is, up, long)

  at_least_head : (key : Key) → 8 ≤ f key
  at_least_head key = by (entry_of d key) refl
    where
      by : (o : Option ℕ) → entry_of d key ≡ o → 8 ≤ f key
      by None e =
          let same : f key ≡ unknown_length who key = ap (λ (o : Option ℕ). option_map_or (entry_length lengths) o (unknown_length who key)) e in
          let more = low who key in
          omega (arith, same, more)
      by (Some i) e =
          let h = entry_at d key i e in
          let same = length_at key h in
          let more = entry_long h.place h.entry h.at in
          omega (arith, same, more)

  level_by : (rules : List DRule) (filler : ℕ) → AreRules rules → (keys : List Key) → Placed rules keys → ((key : Key) → IsIn key keys → is_listed rules key ≡ false → filler ≤ f key)
      → base_length f filler rules ≤ total f keys
  level_by rules filler are keys placed least =
      let base = base_within f filler rules in
      let floor = floor_least rules f f filler keys (rules_sound rules are) placed least in
      let same = price_alike f rules keys in
      omega (arith, base, floor, same)

  -- a level that has AVPs by a wildcard is no shorter than the rules ask for with the filler
  open_within : (sends : Sends) → who ≡ sends → (rules : List DRule) (filler : ℕ) → AreRules rules → IsFillerLength d sends lengths rules filler → (keys : List Key) → Placed rules keys
      → IsTrue (is_open sends rules) → base_length f filler rules ≤ total f keys
  open_within Any is rules filler are least keys placed lets = level_by rules filler are keys placed (λ key i none. let more = at_least_head key in omega (arith, least, more))
  open_within Known is rules filler are least keys placed lets =
      level_by rules filler are keys placed (λ key i none.
      let le = least.none_is_shorter key none in
      let same : f key ≡ length_of d Known lengths key = ap (λ (s : Sends). length_of d s lengths key) is in
      omega (arith, le, same))
  open_within Filled is rules filler are least keys placed lets = let none = open_base f filler rules are lets in omega (arith, none)
  open_within Listed is rules filler are least keys placed lets = absurd (let bad : false ≡ true = lets in cc)

  level_within : (rules : List DRule) (filler : ℕ) → AreRules rules → IsFillerLength d who lengths rules filler → (keys : List Key) → StandAsSent who rules keys → base_length f filler rules ≤ total f keys
  level_within rules filler are least keys stand = by stand.1
    where
      by : IsTrue (is_open who rules) ⊎ AreListed rules keys → base_length f filler rules ≤ total f keys
      by (inl lets) = open_within who refl rules filler are least keys stand.0 lets
      by (inr all) = level_by rules filler are keys stand.0 (λ key i none. absurd (both_ways (is_listed rules key) none (in_all (λ (k : Key). is_listed rules k ≡ true) key keys all i)))

  exact_floors : AreFloors d who f
  exact_floors = record {
    unknown = λ key none any.
        let same : f key ≡ unknown_length who key = ap (λ (o : Option ℕ). option_map_or (entry_length lengths) o (unknown_length who key)) (not_known d key none) in
        let head : unknown_length who key ≡ shortest_head key = ap (λ (s : Sends). unknown_length s key) any in
        omega (arith, same, head);
    leaves = λ key entry bytes is leaf are fits.
        let (h, at, own) = of_known key entry is in
        let least = leaf_floor entry (entry_length lengths h.place) bytes (exact.leaves h.place entry at leaf) (of_bytes bytes are) fits in
        let here = subst (λ (k : Key). entry_length lengths h.place ≤ padded (shortest_head k + length bytes)) own least in
        let same = length_at key h in
        omega (arith, here, same);
    groups = λ key entry group keys is some stand.
        let (h, at, own) = of_known key entry is in
        let (filler, is_filler, size) = exact.groups h.place entry group at some in
        let place = group_there d h.place entry group at some in
        let are = all_in (λ (def : PlainDefinition). AreRules def.rules) (definitions d) group sound.rules (contains_at (definitions d) _ group place.1) in
        let level = level_within group.rules filler are is_filler keys stand in
        let more = rounded_more (shortest_head entry.key + base_length f filler group.rules) (shortest_head entry.key + total f keys) (omega (arith, level)) in
        let here : entry_length lengths h.place ≤ padded (shortest_head entry.key + total f keys) = omega (arith, size, more) in
        let moved = subst (λ (k : Key). entry_length lengths h.place ≤ padded (shortest_head k + total f keys)) own here in
        let same = length_at key h in
        omega (arith, moved, same);
  }

-- nor than the lengths that are recorded
pub kept_floors : (d : Dictionary) (who : Sends) (least lengths : List ℕ) → IsDictionary d → AreExact d who least → AreEntryLengths d least lengths → AreFloors d who (listed_length d who lengths)
kept_floors d who least lengths sound exact are = floors_of_entries d who least lengths are.1 (exact_floors d who least sound exact)
