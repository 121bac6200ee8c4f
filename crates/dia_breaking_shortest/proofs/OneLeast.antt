-- Shortest AVPs are one for each dictionary and what its side sends.
use Rattle.std.proofs.Common.{◌≡◌, ℕ, zero, suc, ◌<◌, Bool, true, false, List, [], ◌++◌, length, map, Option, Some, None, refl, sym, ap, subst, ◌∙◌, arith}
use Rattle.std.specs.Prelude.{if◌then◌else◌, is_some, nat_lt, slice_get, vec_len}
use Rattle.std.specs.List.{flat_map}
use Rattle.std.specs.Option.{option_map, option_map_or}
use Rattle.std.proofs.lemmas.Option.{slice_get_within}
use Rattle.dia_wire.specs.declared.Key.{Key}
use Rattle.dia_breaking_data.specs.Shortest.{witness_bytes}
use Rattle.dia_book.specs.Dictionary.{Dictionary, DictEntry, entry_of, group_place}
use Rattle.dia_terms.specs.declared.Sends.{Sends}
use Rattle.dia_valid.specs.Rules.{rules_in}
use Rattle.dia_breaking_levels.specs.declared.line.Part.{Part}
use Rattle.dia_breaking_levels.specs.LevelTests.{too_long}
use Rattle.dia_breaking_shortest.specs.declared.lookup.Least.{Least}
use Rattle.dia_breaking_shortest.specs.declared.order.Ranked.{Ranked}
use Rattle.dia_breaking_shortest.specs.Bytes.{avp_within, entry_front, entry_parts, front_bytes, head_bytes, inner_parts, is_short, leaf_bytes, least_avp, needs_m, parts_bytes, rule_parts}
use Rattle.dia_breaking_shortest.specs.Floors.{shortest_head}
use Rattle.dia_breaking_shortest.specs.Kept.{kept_at}
use Rattle.dia_breaking_shortest.specs.Least.{AreFillers, IsFirstUnknown, IsLeastOf, entry_filler}
use Rattle.dia_breaking_shortest.specs.Lengths.{entry_length, length_of, rank}
use Rattle.dia_breaking_shortest.proofs.FloorsOfLengths.{entry_at}
use Rattle.dia_breaking_shortest.proofs.OneOrder.{one_sorted}
use Rattle.dia_breaking_shortest.proofs.OneSolution.{lengths_are_one}

one_unknown : (d : Dictionary) (key other : Key) → IsFirstUnknown d key → IsFirstUnknown d other → key ≡ other
one_unknown d key other is are =
    let code : key.code ≡ other.code = omega (arith, is.least other are.unknown are.vendor, are.least key is.unknown is.vendor) in
    let vendor : key.vendor ≡ other.vendor = is.vendor ∙ sym are.vendor in
    λ i. record { code = code i; vendor = vendor i }

one_filler : (d : Dictionary) (who : Sends) (unknown : Key) (lengths : List ℕ) (xs ys : List (Option Key)) → AreFillers d who unknown lengths xs → AreFillers d who unknown lengths ys
    → (e : ℕ) → e < length d.entries → kept_at xs e ≡ kept_at ys e
one_filler d who unknown lengths xs ys is are e within =
    let all = map (rank (length_of d who lengths)) d.entries in
    let order = one_sorted (λ (r : Ranked). r.length) all is.order are.order is.is_order.sorted are.is_order.sorted is.is_order.stable are.is_order.stable in
    is.each e within ∙ ap (λ (o : List Ranked). entry_filler d who unknown o e) order ∙ sym (are.each e within)

module _ (d : Dictionary) (who : Sends) (least other : Least) (is : IsLeastOf d who least) (are : IsLeastOf d who other) where
  same_lengths : least.lengths.items ≡ other.lengths.items
  same_lengths = lengths_are_one d who least.lengths.items other.lengths.items is.lengths are.lengths

  same_unknown : least.unknown ≡ other.unknown
  same_unknown = one_unknown d least.unknown other.unknown is.unknown are.unknown

  same_filler : (e : ℕ) → e < length d.entries → kept_at least.fillers.items e ≡ kept_at other.fillers.items e
  same_filler =
      let moved = subst (λ (k : Key). AreFillers d who k other.lengths.items other.fillers.items) (sym same_unknown) are.fillers in
      one_filler d who least.unknown least.lengths.items least.fillers.items other.fillers.items is.fillers
      (subst (λ (xs : List ℕ). AreFillers d who least.unknown xs other.fillers.items) (sym same_lengths) moved)

  same_data : (e : ℕ) (entry : DictEntry) → slice_get d.entries e ≡ Some entry
      → option_map witness_bytes (kept_at least.leaf_data.items e) ≡ option_map witness_bytes (kept_at other.leaf_data.items e)
  same_data e entry at = is.leaf_data e entry at ∙ sym (are.leaf_data e entry at)

  same_entry : (key : Key) (e : ℕ) (entry : DictEntry) → slice_get d.entries e ≡ Some entry → entry_front d least key e ≡ entry_front d other key e
  same_entry key e entry at =
      ap (λ (xs : List ℕ). if is_some (group_place d e) then head_bytes key (needs_m d e) (entry_length xs e) else leaf_bytes key (needs_m d e) (option_map witness_bytes (kept_at least.leaf_data.items e))) same_lengths
      ∙ ap (λ (found : Option (List ℕ)). if is_some (group_place d e) then head_bytes key (needs_m d e) (entry_length other.lengths.items e) else leaf_bytes key (needs_m d e) found) (same_data e entry at)

  same_front : (key : Key) → front_bytes d least key ≡ front_bytes d other key
  same_front key = by (entry_of d key) refl
    where
      by : (o : Option ℕ) → entry_of d key ≡ o → option_map_or (entry_front d least key) o (head_bytes key false (shortest_head key)) ≡ option_map_or (entry_front d other key) o (head_bytes key false (shortest_head key))
      by None e = refl
      by (Some i) e = let h = entry_at d key i e in same_entry key i h.entry h.at

  same_inner : (key : Key) → inner_parts d least key ≡ inner_parts d other key
  same_inner key = by (entry_of d key) refl
    where
      by : (o : Option ℕ) → entry_of d key ≡ o → option_map_or (entry_parts d least) o [] ≡ option_map_or (entry_parts d other) o []
      by None e = refl
      by (Some i) e =
          let h = entry_at d key i e in
          ap (λ (filler : Option Key). option_map_or (λ def. flat_map (rule_parts filler) (rules_in d def)) (group_place d i) []) (same_filler i (slice_get_within d.entries i h.entry h.at))

  same_within : (n : ℕ) (key : Key) → avp_within d least n key ≡ avp_within d other n key
  same_within zero key = refl
  same_within (suc n) key =
      ap (λ (front : List ℕ). front ++ parts_bytes (avp_within d least n) (inner_parts d least key)) (same_front key)
      ∙ ap (λ (parts : List Part). front_bytes d other key ++ parts_bytes (avp_within d least n) parts) (same_inner key)
      ∙ ap (λ (avp : Key → List ℕ). front_bytes d other key ++ parts_bytes avp (inner_parts d other key)) (λ i k. same_within n k i)

  same_short : (key : Key) → is_short d least key ≡ is_short d other key
  same_short key = ap (λ (xs : List ℕ). option_map_or (λ e. nat_lt (entry_length xs e) too_long) (entry_of d key) true) same_lengths

  same_levels : vec_len least.lengths ≡ vec_len other.lengths
  same_levels = omega (arith, ap (λ (xs : List ℕ). length xs) same_lengths, least.lengths.ok.0, other.lengths.ok.0)

  pub one_least_avp : (key : Key) → least_avp d least key ≡ least_avp d other key
  one_least_avp key =
      ap (λ (b : Bool). if b then avp_within d least (suc (vec_len least.lengths)) key else []) (same_short key)
      ∙ ap (λ (n : ℕ). if is_short d other key then avp_within d least (suc n) key else []) same_levels
      ∙ ap (λ (bytes : List ℕ). if is_short d other key then bytes else []) (same_within (suc (vec_len other.lengths)) key)
