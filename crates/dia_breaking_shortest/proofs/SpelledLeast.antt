-- The bytes of a shortest AVP are those of one AVP, which has the length that is computed.
use Rattle.std.proofs.Common.{◌≡◌, ℕ, zero, suc, ◌+◌, ◌-◌, ◌*◌, ◌%◌, ◌<◌, ◌≤◌, Bool, true, false, List, [], ◌∷◌, ◌++◌, drop, length, take, Option, Some, None, refl, sym, ap, subst, ◌∙◌, arith, append-nil, length-append, inl, inr}
use Rattle.std.specs.Prelude.{◌⊎◌, ◌==◌, slice_get, option_and_then, is_some, nat_lt, if◌then◌else◌, vec_len}
use Rattle.std.specs.List.{flat_map}
use Rattle.std.specs.Option.{option_map, option_map_or, option_or}
use Rattle.std.proofs.lemmas.Bool.{cases_lt, eqb-true, le-ltb, lt-ltb}
use Rattle.std.proofs.Math.Seq.{drop-append_seam}
use Rattle.std.proofs.lemmas.List.Concat.{flat_map-append}
use Rattle.std.proofs.lemmas.Option.{slice_get_within}
use Rattle.dia_wire.specs.declared.Key.{Key}
use Rattle.dia_wire.specs.Wire.{Spells}
use Rattle.dia_wire.specs.Written.{padding}
use Rattle.dia_breaking_data.specs.declared.short_data.Witness.{Witness}
use Rattle.dia_breaking_data.specs.Shortest.{witness_bytes}
use Rattle.dia_breaking_data.specs.TheData.{the_data}
use Rattle.dia_book.specs.declared.DRule.{DRule}
use Rattle.dia_book.specs.Dictionary.{Dictionary, DictEntry, PlainDefinition, definitions, entry_of}
use Rattle.dia_terms.specs.declared.Sends.{Sends}
use Rattle.dia_terms.specs.declared.Sends.TheVariants.{Any, Known, Filled, Listed}
use Rattle.dia_valid.specs.Rules.{rules_in}
use Rattle.dia_valid.proofs.GroupNumbers.{group_missing, group_there, number_of}
use Rattle.dia_valid.proofs.Members.{IsIn, contains_in, in_at}
use Rattle.dia_breaking_levels.specs.declared.line.Part.{Part}
use Rattle.dia_breaking_levels.specs.LevelTests.{too_long, base_length, capped, rule_floor}
use Rattle.dia_breaking_levels.proofs.RuleSums.{sum_of}
use Rattle.dia_breaking_levels.proofs.ShownOthers.{base_exact}
use Rattle.dia_breaking_shortest.specs.declared.lookup.Least.{Least}
use Rattle.dia_breaking_shortest.specs.declared.order.Ranked.{Ranked}
use Rattle.dia_breaking_shortest.specs.Bytes.{avp_bytes, avp_within, entry_front, entry_parts, head_bytes, is_short, leaf_bytes, least_avp, needs_m, part_of, parts_bytes, repeated, rule_parts}
use Rattle.dia_breaking_shortest.specs.Exact.{IsFillerLength}
use Rattle.dia_breaking_shortest.specs.Floors.{padded, shortest_head}
use Rattle.dia_breaking_shortest.specs.Least.{IsLeastOf}
use Rattle.dia_breaking_shortest.specs.Kept.{kept_at}
use Rattle.dia_breaking_shortest.specs.Laws.{LeastAvpsAreSpelled, LeastLevelsAreSpelled}
use Rattle.dia_breaking_shortest.specs.Lengths.{IsLeafLength, entry_length, filler_of, length_of, unknown_length}
use Rattle.dia_breaking_shortest.proofs.FloorsOfLengths.{entry_at, of_known}
use Rattle.dia_breaking_shortest.proofs.KeptSizes.{kept_size}
use Rattle.dia_breaking_shortest.proofs.LengthsBelow.{below, below_all, below_less}
use Rattle.dia_breaking_shortest.proofs.LessLevels.{level_within}
use Rattle.dia_breaking_shortest.proofs.MetCounts.{met}
use Rattle.dia_breaking_shortest.proofs.ShortestLevels.{asked_within}
use Rattle.dia_breaking_shortest.proofs.SpelledBytes.{avp_size, avp_spelled, head_size, said_avp, said_key}
use Rattle.dia_breaking_shortest.proofs.SpelledParts.{IsSpelled, repeated_spelled, spells_both, spells_one}

-- the bytes are those of an AVP of the key, and as many
pub record IsWhole (key : Key) (size : ℕ) (b : List ℕ) : Type 0 where
  pub m : Bool
  pub content : List ℕ
  pub are : b ≡ avp_bytes key m content
  pub takes : padded (shortest_head key + length content) ≡ size

pub whole_size : (key : Key) (size : ℕ) (b : List ℕ) → IsWhole key size b → length b ≡ size
whole_size key size b w = ap length w.are ∙ avp_size key w.m w.content ∙ w.takes

-- they spell it
whole_spelled : (key : Key) (size : ℕ) (b : List ℕ) → IsWhole key size b → size < too_long → IsSpelled b
whole_spelled key size b w short =
    let own = said_avp key w.m w.content in
    let takes = w.takes in
    (own ∷ [], spells_one own b (subst (Spells own) (sym w.are) (avp_spelled key w.m w.content (omega (arith, takes, short)))))

-- they are those of a group with these rules: its data spell AVPs, and there are none where the rules ask for none
pub record IsGroup (rules : List DRule) (key : Key) (size : ℕ) (b : List ℕ) : Type 0 where
  pub whole : IsWhole key size b
  pub level : IsSpelled whole.content
  pub following : drop (shortest_head key) b ≡ whole.content
  pub sum : shortest_head key + length whole.content ≡ size
  pub empty : ((r : DRule) → IsIn r rules → r.min ≡ 0) → whole.content ≡ []

-- ---- the AVPs of a group

at_least_one : (n : ℕ) → (n == 0) ≡ false → 1 ≤ n
at_least_one zero e = absurd (let bad : true ≡ false = e in cc)
at_least_one (suc n) e = omega arith

module _ (f : Key → ℕ) (avp : Key → List ℕ) (a : ℕ) (filler : Option Key) where
  -- the AVP of a rule is whole, and takes what is computed
  abbrev IsAsked : DRule → Type 0
  IsAsked r = (q : Key) × (option_or r.key filler ≡ Some q) × IsWhole q (f q) (avp q) × (f q ≡ option_map_or f r.key a) × (f q < too_long)

  -- so many bytes, and a multiple of four
  abbrev Takes : ℕ → List ℕ → Type 0
  Takes n b = (length b ≡ n) × (length b % 4 ≡ 0)

  repeated_takes : (n size : ℕ) (b : List ℕ) → Takes size b → Takes (n * size) (repeated n b)
  repeated_takes zero size b is = (omega arith, refl)
  repeated_takes (suc n) size b is =
      let ih = repeated_takes n size b is in
      let all = length-append b (repeated n b) in
      let one : suc n * size ≡ size + n * size = omega arith in
      (let x = ih.0 in let y = is.0 in omega (arith, x, y, all, one), let x = ih.1 in let y = is.1 in omega (arith, x, y, all))

  rule_takes : (r : DRule) → (1 ≤ r.min → IsAsked r) → Takes (rule_floor f a r) (parts_bytes avp (rule_parts filler r))
  rule_takes r asked = by (r.min == 0) refl
    where
      some : (q : Key) → option_or r.key filler ≡ Some q → IsWhole q (f q) (avp q) → f q ≡ option_map_or f r.key a
          → Takes (rule_floor f a r) (parts_bytes avp (option_map_or (λ key. part_of key r.min ∷ []) (option_or r.key filler) []))
      some q is whole same =
          let four = whole.takes in
          let even : f q % 4 ≡ 0 = omega (arith, four) in
          let size = whole_size q (f q) (avp q) whole in
          let here = repeated_takes r.min (f q) (avp q) (size, let e = ap (λ (n : ℕ). n % 4) size in omega (arith, e, even)) in
          let sum : r.min * f q ≡ r.min * option_map_or f r.key a = ap (λ (n : ℕ). r.min * n) same in
          let alone = append-nil (repeated r.min (avp q)) in
          subst (λ (o : Option Key). Takes (rule_floor f a r) (parts_bytes avp (option_map_or (λ key. part_of key r.min ∷ []) o []))) (sym is)
          (subst (Takes (rule_floor f a r)) (sym alone) (here.0 ∙ sum, here.1))

      by : (t : Bool) → (r.min == 0) ≡ t → Takes (rule_floor f a r) (parts_bytes avp (if t then [] else option_map_or (λ key. part_of key r.min ∷ []) (option_or r.key filler) []))
      by true e =
          let none : r.min ≡ 0 = eqb-true r.min 0 e in
          let sum : rule_floor f a r ≡ 0 * option_map_or f r.key a = ap (λ (n : ℕ). n * option_map_or f r.key a) none in
          (omega (arith, sum), refl)
      by false e = let (q, is, whole, same, short) = asked (at_least_one r.min e) in some q is whole same

  pub rules_take : (rules : List DRule) → ((r : DRule) → IsIn r rules → 1 ≤ r.min → IsAsked r) → Takes (sum_of (rule_floor f a) rules) (parts_bytes avp (flat_map (rule_parts filler) rules))
  rules_take [] each = (refl, refl)
  rules_take (r ∷ rules) each =
      let here = rule_takes r (each r (inl refl)) in
      let ih = rules_take rules (λ s i. each s (inr i)) in
      let cut = flat_map-append (λ (p : Part). repeated p.count (avp p.key)) (rule_parts filler r) (flat_map (rule_parts filler) rules) in
      let all = length-append (parts_bytes avp (rule_parts filler r)) (parts_bytes avp (flat_map (rule_parts filler) rules)) in
      subst (Takes (sum_of (rule_floor f a) (r ∷ rules))) (sym cut)
      (let x = here.0 in let y = ih.0 in omega (arith, x, y, all), let x = here.1 in let y = ih.1 in omega (arith, x, y, all))

  rule_spelled : (r : DRule) → (1 ≤ r.min → IsAsked r) → IsSpelled (parts_bytes avp (rule_parts filler r))
  rule_spelled r asked = by (r.min == 0) refl
    where
      some : (q : Key) → option_or r.key filler ≡ Some q → IsWhole q (f q) (avp q) → f q < too_long
          → IsSpelled (parts_bytes avp (option_map_or (λ key. part_of key r.min ∷ []) (option_or r.key filler) []))
      some q is whole short =
          let all = repeated_spelled r.min (avp q) (whole_spelled q (f q) (avp q) whole short) in
          subst (λ (o : Option Key). IsSpelled (parts_bytes avp (option_map_or (λ key. part_of key r.min ∷ []) o []))) (sym is)
          (subst IsSpelled (sym (append-nil (repeated r.min (avp q)))) all)

      by : (t : Bool) → (r.min == 0) ≡ t → IsSpelled (parts_bytes avp (if t then [] else option_map_or (λ key. part_of key r.min ∷ []) (option_or r.key filler) []))
      by true e = ([], refl)
      by false e = let (q, is, whole, same, short) = asked (at_least_one r.min e) in some q is whole short

  -- so are all of a group
  pub rules_spelled : (rules : List DRule) → ((r : DRule) → IsIn r rules → 1 ≤ r.min → IsAsked r) → IsSpelled (parts_bytes avp (flat_map (rule_parts filler) rules))
  rules_spelled [] each = ([], refl)
  rules_spelled (r ∷ rules) each =
      let here = rule_spelled r (each r (inl refl)) in
      let ih = rules_spelled rules (λ s i. each s (inr i)) in
      let cut = flat_map-append (λ (p : Part). repeated p.count (avp p.key)) (rule_parts filler r) (flat_map (rule_parts filler) rules) in
      subst IsSpelled (sym cut) (here.0 ++ ih.0, spells_both here.0 ih.0 (parts_bytes avp (rule_parts filler r)) (parts_bytes avp (flat_map (rule_parts filler) rules)) here.1 ih.1)

  -- where no rule asks for any, there are none
  pub rules_nothing : (rules : List DRule) → ((r : DRule) → IsIn r rules → r.min ≡ 0) → parts_bytes avp (flat_map (rule_parts filler) rules) ≡ []
  rules_nothing [] none = refl
  rules_nothing (r ∷ rules) none =
      let here : rule_parts filler r ≡ [] =
      ap (λ (n : ℕ). if n == 0 then [] else option_map_or (λ key. part_of key n ∷ []) (option_or r.key filler) []) (none r (inl refl)) in
      ap (λ (ps : List Part). parts_bytes avp (ps ++ flat_map (rule_parts filler) rules)) here ∙ rules_nothing rules (λ s i. none s (inr i))

-- ---- shortest AVPs

head_four : (key : Key) → shortest_head key % 4 ≡ 0
head_four key = by key.vendor
  where
    by : (n : ℕ) → shortest_head (record { code = key.code; vendor = n }) % 4 ≡ 0
    by zero = refl
    by (suc n) = refl

no_padding : (n : ℕ) → n % 4 ≡ 0 → padding n ≡ []
no_padding n even = ap (λ (k : ℕ). take ((4 - k) % 4) (0 ∷ 0 ∷ 0 ∷ [])) even

-- a head before AVPs is a group
group_whole : (rules : List DRule) (key : Key) (m : Bool) (n size : ℕ) (content : List ℕ) → length content ≡ size → length content % 4 ≡ 0 → IsSpelled content
    → (((r : DRule) → IsIn r rules → r.min ≡ 0) → content ≡ []) → n ≡ capped (padded (shortest_head key + size)) → n < too_long → IsGroup rules key n (head_bytes key m n ++ content)
group_whole rules key m n size content is even spelled nothing all short =
    let own = head_four key in
    let up : n ≡ shortest_head key + length content = omega (arith, is, even, all, short, own) in
    let none = no_padding (length content) even in
    record {
      whole = record {
        m = m;
        content = content;
        are = ap (λ (k : ℕ). head_bytes key m k ++ content) up ∙ sym (append-nil (head_bytes key m (shortest_head key + length content) ++ content))
            ∙ ap (λ (bs : List ℕ). head_bytes key m (shortest_head key + length content) ++ content ++ bs) (sym none);
        takes = omega (arith, up, own, even);
      };
      level = spelled;
      following = subst (λ (j : ℕ). drop j (head_bytes key m n ++ content) ≡ content) (head_size key m n) (drop-append_seam (head_bytes key m n) content);
      sum = sym up;
      empty = nothing;
    }

leaf_whole : (key : Key) (m : Bool) (n : ℕ) (content : List ℕ) → n ≡ capped (padded (shortest_head key + length content)) → n < too_long → IsWhole key n (avp_bytes key m content)
leaf_whole key m n content all short = record { m = m; content = content; are = refl; takes = omega (arith, all, short) }

length_there : (lengths : List ℕ) (e : ℕ) → entry_length lengths e < too_long → IsIn (entry_length lengths e) lengths
length_there lengths e short = by (slice_get lengths e) refl short
  where
    by : (o : Option ℕ) → slice_get lengths e ≡ o → option_map_or (λ n. n) o too_long < too_long → IsIn (option_map_or (λ n. n) o too_long) lengths
    by None at lt = absurd (omega (arith, lt))
    by (Some n) at lt = in_at lengths e n at

rules_of_def : (d : Dictionary) (def : ℕ) (x : PlainDefinition) → slice_get (definitions d) def ≡ Some x → rules_in d def ≡ x.rules
rules_of_def d def x at = ap (λ (o : Option PlainDefinition). option_map_or (λ (y : PlainDefinition). y.rules) o []) at

module _ (d : Dictionary) (who : Sends) (least : Least) (is : IsLeastOf d who least) where
  abbrev lengths : List ℕ
  lengths = least.lengths.items

  abbrev f : Key → ℕ
  f = length_of d who lengths

  unknown_whole : (who : Sends) (key : Key) → unknown_length who key < too_long → IsWhole key (unknown_length who key) (head_bytes key false (shortest_head key) ++ [])
  unknown_whole Any key short = record {
    m = false;
    content = [];
    are = ap (λ (n : ℕ). head_bytes key false n ++ []) (let same : shortest_head key ≡ shortest_head key + 0 = omega arith in same)
        ∙ sym (append-nil (head_bytes key false (shortest_head key + 0) ++ []));
    takes = let own = head_four key in omega (arith, own);
  }
  unknown_whole Known key short = absurd (omega (arith, short))
  unknown_whole Filled key short = absurd (omega (arith, short))
  unknown_whole Listed key short = absurd (omega (arith, short))

  -- a leaf: its data are retained
  entry_leaf : (key : Key) (m : Bool) (n : ℕ) (entry : DictEntry) (found : Option Witness) → entry.key ≡ key → option_map witness_bytes found ≡ the_data entry.format → IsLeafLength entry n
      → n < too_long → IsWhole key n (leaf_bytes key m (option_map witness_bytes found) ++ [])
  entry_leaf key m n entry found own kept (inl (bytes, are, leaf, least_one, size)) short =
      let (witness, some, long) = kept_size entry.format found bytes kept are leaf least_one in
      let head : shortest_head entry.key ≡ shortest_head key = ap shortest_head own in
      let whole = leaf_whole key m n (witness_bytes witness) (size ∙ ap (λ (k : ℕ). capped (padded (k + length bytes))) head
      ∙ ap (λ (k : ℕ). capped (padded (shortest_head key + k))) (sym long)) short in
      subst (λ (o : Option Witness). IsWhole key n (leaf_bytes key m (option_map witness_bytes o) ++ [])) (sym some)
      (subst (IsWhole key n) (sym (append-nil (avp_bytes key m (witness_bytes witness)))) whole)
  entry_leaf key m n entry found own kept (inr (none, nothing)) short = absurd (omega (arith, none, short))

  -- with n levels of groups in it, if there are as many
  abbrev AreWhole : ℕ → Type 0
  AreWhole n = (key : Key) → f key < too_long → below (f key) lengths < n → IsWhole key (f key) (avp_within d least n key)

  module _ (n : ℕ) (before : AreWhole n) (e : ℕ) (entry : DictEntry) (at : slice_get d.entries e ≡ Some entry) (short : entry_length lengths e < too_long)
      (few : below (entry_length lengths e) lengths < suc n) where
    -- what is shorter than the entry is whole
    inner_whole : (q : Key) → f q < entry_length lengths e → IsWhole q (f q) (avp_within d least n q)
    inner_whole q less =
        let deeper = below_less (f q) (entry_length lengths e) lengths less (length_there lengths e short) in
        before q (omega (arith, less, short)) (omega (arith, deeper, few))

    group_asked : (group : PlainDefinition) (a : ℕ) → entry.group ≡ Some group → IsFillerLength d who lengths group.rules a → base_length f a group.rules < entry_length lengths e
        → (r : DRule) → IsIn r group.rules → 1 ≤ r.min → IsAsked f (avp_within d least n) a (kept_at least.fillers.items e) r
    group_asked group a some is_a base r i asked = by r.key refl (asked_within f a group.rules (omega (arith, base, short)) r i asked)
      where
        by : (o : Option Key) → r.key ≡ o → option_map_or f o a ≤ base_length f a group.rules
            → (q : Key) × (option_or o (kept_at least.fillers.items e) ≡ Some q) × IsWhole q (f q) (avp_within d least n q) × (f q ≡ option_map_or f o a) × (f q < too_long)
        by (Some q) k low = (q, refl, inner_whole q (omega (arith, low, base)), refl, omega (arith, low, base, short))
        by None k low =
            let (r, filled, same) = met d lengths least.unknown is.unknown is.fillers.order group.rules a (omega (arith, low, base, short)) who is.fillers.is_order is_a in
            let place = group_there d e entry group at some in
            let rules = rules_of_def d (number_of d e) group place.1 in
            let kept = is.fillers.each e (slice_get_within d.entries e entry at)
            ∙ ap (λ (o : Option ℕ). option_and_then (λ def. option_map (λ (r : Ranked). r.key) (filler_of who least.unknown is.fillers.order (rules_in d def))) o) place.0
            ∙ ap (λ (rs : List DRule). option_map (λ (r : Ranked). r.key) (filler_of who least.unknown is.fillers.order rs)) rules
            ∙ ap (λ (o : Option Ranked). option_map (λ (r : Ranked). r.key) o) filled in
            (r.key, kept, inner_whole r.key (omega (arith, same, low, base)), same, omega (arith, same, low, base, short))

    entry_group : (key : Key) (group : PlainDefinition) → entry.key ≡ key → entry.group ≡ Some group
        → IsGroup group.rules key (entry_length lengths e) (entry_front d least key e ++ parts_bytes (avp_within d least n) (entry_parts d least e))
    entry_group key group own some =
        let (a, is_a, is_n) = is.lengths.groups e entry group at some in
        let base = level_within f a (entry_length lengths e) entry.key group.rules is_n short in
        let place = group_there d e entry group at some in
        let rules = rules_of_def d (number_of d e) group place.1 in
        let filler = kept_at least.fillers.items e in
        let take_all = rules_take f (avp_within d least n) a filler group.rules (group_asked group a some is_a base) in
        let exact = base_exact f a group.rules in
        let head : shortest_head entry.key ≡ shortest_head key = ap shortest_head own in
        let content = parts_bytes (avp_within d least n) (flat_map (rule_parts filler) group.rules) in
        let spelled = rules_spelled f (avp_within d least n) a filler group.rules (group_asked group a some is_a base) in
        let size : length content ≡ base_length f a group.rules = let sum = take_all.0 in omega (arith, sum, exact, base, short) in
        let whole = group_whole group.rules key (needs_m d e) (entry_length lengths e) (base_length f a group.rules) content size take_all.1 spelled
        (rules_nothing f (avp_within d least n) a filler group.rules)
        (is_n ∙ ap (λ (k : ℕ). capped (padded (k + base_length f a group.rules))) head) short in
        subst (λ (o : Option ℕ). IsGroup group.rules key (entry_length lengths e)
        ((if is_some o then head_bytes key (needs_m d e) (entry_length lengths e) else leaf_bytes key (needs_m d e) (option_map witness_bytes (kept_at least.leaf_data.items e)))
        ++ parts_bytes (avp_within d least n) (option_map_or (λ def. flat_map (rule_parts filler) (rules_in d def)) o []))) (sym place.0)
        (subst (λ (rs : List DRule). IsGroup group.rules key (entry_length lengths e)
        (head_bytes key (needs_m d e) (entry_length lengths e) ++ parts_bytes (avp_within d least n) (flat_map (rule_parts filler) rs))) (sym rules) whole)

    entry_whole : (key : Key) → entry.key ≡ key → IsWhole key (entry_length lengths e) (entry_front d least key e ++ parts_bytes (avp_within d least n) (entry_parts d least e))
    entry_whole key own = by entry.group refl
      where
        by : (o : Option PlainDefinition) → entry.group ≡ o → IsWhole key (entry_length lengths e) (entry_front d least key e ++ parts_bytes (avp_within d least n) (entry_parts d least e))
        by (Some group) some = (entry_group key group own some).whole
        by None none =
            let place = group_missing d e entry at none in
            subst (λ (o : Option ℕ). IsWhole key (entry_length lengths e)
            ((if is_some o then head_bytes key (needs_m d e) (entry_length lengths e) else leaf_bytes key (needs_m d e) (option_map witness_bytes (kept_at least.leaf_data.items e)))
            ++ parts_bytes (avp_within d least n) (option_map_or (λ def. flat_map (rule_parts (kept_at least.fillers.items e)) (rules_in d def)) o []))) (sym place)
            (entry_leaf key (needs_m d e) (entry_length lengths e) entry (kept_at least.leaf_data.items e) own (is.leaf_data e entry at) (is.lengths.leaves e entry at none) short)

  whole_within : (n : ℕ) → AreWhole n
  whole_within zero key = λ short few. absurd (omega (arith, few))
  whole_within (suc n) key = by (entry_of d key) refl (whole_within n)
    where
      by : (o : Option ℕ) → entry_of d key ≡ o → AreWhole n → option_map_or (entry_length lengths) o (unknown_length who key) < too_long
          → below (option_map_or (entry_length lengths) o (unknown_length who key)) lengths < suc n
          → IsWhole key (option_map_or (entry_length lengths) o (unknown_length who key))
          (option_map_or (entry_front d least key) o (head_bytes key false (shortest_head key)) ++ parts_bytes (avp_within d least n) (option_map_or (entry_parts d least) o []))
      by None e before short few = unknown_whole who key short
      by (Some i) e before short few = let h = entry_at d key i e in entry_whole n before i h.entry h.at short few key h.own

  pub least_whole : (key : Key) → f key < too_long → IsWhole key (f key) (least_avp d least key)
  least_whole key short =
      let all = below_all (f key) lengths in
      subst (λ (b : Bool). IsWhole key (f key) (if b then avp_within d least (suc (vec_len least.lengths)) key else [])) (sym (is_short_here (entry_of d key) refl short))
      (whole_within (suc (vec_len least.lengths)) key short (let kept = least.lengths.ok.0 in omega (arith, all, kept)))
    where
      is_short_here : (o : Option ℕ) → entry_of d key ≡ o → option_map_or (entry_length lengths) o (unknown_length who key) < too_long → is_short d least key ≡ true
      is_short_here None e lt = ap (λ (o : Option ℕ). option_map_or (λ e. nat_lt (entry_length lengths e) too_long) o true) e
      is_short_here (Some i) e lt = ap (λ (o : Option ℕ). option_map_or (λ e. nat_lt (entry_length lengths e) too_long) o true) e ∙ lt-ltb (entry_length lengths i) too_long lt

  -- of a key that is a group's they spell a level
  pub least_group : (key : Key) (i : ℕ) (entry : DictEntry) (group : PlainDefinition) → entry_of d key ≡ Some i → slice_get d.entries i ≡ Some entry → entry.key ≡ key → entry.group ≡ Some group
      → f key < too_long → IsGroup group.rules key (f key) (least_avp d least key)
  least_group key i entry group e at own some short =
      let all = below_all (f key) lengths in
      let same : f key ≡ entry_length lengths i = ap (λ (o : Option ℕ). option_map_or (entry_length lengths) o (unknown_length who key)) e in
      let here : entry_length lengths i < too_long = omega (arith, same, short) in
      let few : below (entry_length lengths i) lengths < suc (vec_len least.lengths) =
      subst (λ (m : ℕ). below m lengths < suc (vec_len least.lengths)) same (let kept = least.lengths.ok.0 in omega (arith, all, kept)) in
      subst (λ (b : Bool). IsGroup group.rules key (f key) (if b then avp_within d least (suc (vec_len least.lengths)) key else []))
      (sym (ap (λ (o : Option ℕ). option_map_or (λ e. nat_lt (entry_length lengths e) too_long) o true) e ∙ lt-ltb (entry_length lengths i) too_long here))
      (subst (λ (o : Option ℕ). IsGroup group.rules key (option_map_or (entry_length lengths) o (unknown_length who key))
      (option_map_or (entry_front d least key) o (head_bytes key false (shortest_head key)) ++ parts_bytes (avp_within d least (vec_len least.lengths)) (option_map_or (entry_parts d least) o [])))
      (sym e) (entry_group (vec_len least.lengths) (whole_within (vec_len least.lengths)) i entry at here few key group own some))

  -- the bytes of a key's AVP are those of one AVP, or there are none
  pub least_either : (key : Key) → (least_avp d least key ≡ []) ⊎ ((n : ℕ) × (n < too_long) × IsWhole key n (least_avp d least key))
  least_either key = by (entry_of d key) refl
    where
      head_short : (n : ℕ) → shortest_head (record { code = key.code; vendor = n }) < too_long
      head_short zero = omega arith
      head_short (suc n) = omega arith

      known_one : (i : ℕ) → entry_of d key ≡ Some i → (entry_length lengths i < too_long) ⊎ (too_long ≤ entry_length lengths i)
          → (least_avp d least key ≡ []) ⊎ ((n : ℕ) × (n < too_long) × IsWhole key n (least_avp d least key))
      known_one i e (inl lt) =
          let same : f key ≡ entry_length lengths i = ap (λ (o : Option ℕ). option_map_or (entry_length lengths) o (unknown_length who key)) e in
          let short : f key < too_long = omega (arith, same, lt) in
          inr (f key, short, least_whole key short)
      known_one i e (inr le) = inl (
          ap (λ (o : Option ℕ). if option_map_or (λ e. nat_lt (entry_length lengths e) too_long) o true then avp_within d least (suc (vec_len least.lengths)) key else []) e
          ∙ ap (λ (b : Bool). if b then avp_within d least (suc (vec_len least.lengths)) key else []) (le-ltb (entry_length lengths i) too_long le))

      by : (o : Option ℕ) → entry_of d key ≡ o → (least_avp d least key ≡ []) ⊎ ((n : ℕ) × (n < too_long) × IsWhole key n (least_avp d least key))
      by None e = inr (
        shortest_head key,
        head_short key.vendor,
        subst (λ (o : Option ℕ). IsWhole key (shortest_head key) (if option_map_or (λ e. nat_lt (entry_length lengths e) too_long) o true
            then option_map_or (entry_front d least key) o (head_bytes key false (shortest_head key))
            ++ parts_bytes (avp_within d least (vec_len least.lengths)) (option_map_or (entry_parts d least) o []) else [])) (sym e)
            (unknown_whole Any key (head_short key.vendor)),
      )
      by (Some i) e = known_one i e (cases_lt (entry_length lengths i) too_long)

pub least_spelled : LeastAvpsAreSpelled
least_spelled d who least is key small short =
    let w = least_whole d who least is key short in
    let takes = w.takes in
    record {
      avp = said_avp key w.m w.content;
      is_key = said_key key w.m w.content small;
      spells = subst (Spells (said_avp key w.m w.content)) (sym w.are) (avp_spelled key w.m w.content (omega (arith, takes, short)));
      size = whole_size key (length_of d who least.lengths.items key) (least_avp d least key) w;
    }

pub levels_spelled : LeastLevelsAreSpelled
levels_spelled d who least is key entry group knows some short =
    let (h, same) = of_known d key entry knows in
    let all = least_group d who least is key h.place h.entry group h.is_place h.at h.own (ap (λ (x : DictEntry). x.group) same ∙ some) short in
    let w = all.whole in
    let takes = w.takes in
    record {
      avp = said_avp key w.m w.content;
      avps = all.level.0;
      is_key = said_key key w.m w.content;
      spells = subst (Spells (said_avp key w.m w.content)) (sym w.are) (avp_spelled key w.m w.content (omega (arith, takes, short)));
      level = all.level.1;
      following = all.following;
      sum = all.sum;
      empty = λ none. all.empty (λ r i. none r (contains_in group.rules r i));
    }
