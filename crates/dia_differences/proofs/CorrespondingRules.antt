-- Rules for AVPs that correspond by their keys.
use Rattle.std.proofs.Common.{◌≡◌, ℕ, true, false, List, [], length, Option, Some, None, refl, sym, ap, subst, ◌∙◌}
use Rattle.std.specs.Prelude.{IsSome, not, is_some, option_and_then, slice_get, position}
use Rattle.std.specs.Option.{option_map_or}
use Rattle.std.proofs.lemmas.Option.{none-some, same_Some}
use Rattle.dia_wire.specs.declared.Key.{Key}
use Rattle.dia_terms.specs.declared.RuleKind.{RuleKind}
use Rattle.dia_book.specs.declared.definition.DRule.{DRule}
use Rattle.dia_book.specs.Keys.{same_key}
use Rattle.dia_book.specs.Rules.{is_fixed}
use Rattle.dia_book.specs.Dictionary.{Dictionary, DictEntry, PlainDefinition, IsDictionary, AreRules, definitions, entry_of, groups, lists_key}
use Rattle.dia_book.proofs.SameKeys.{same_key-equal, same_key-true}
use Rattle.dia_valid.proofs.Entries.{at_position}
use Rattle.dia_valid.proofs.Members.{IsIn, all_of, contains_in, in_at, in_filter_map, in_left, in_right, some_of}
use Rattle.dia_differences.specs.declared.owner.Owner.{Owner}
use Rattle.dia_differences.specs.declared.owner.Owner.TheVariants.{Avp, Command}
use Rattle.dia_differences.specs.Owners.{owned, rules_of}
use Rattle.dia_differences.specs.Partners.{Matches}
use Rattle.dia_differences.specs.Same.{AreSameRules, HasRules}
use Rattle.dia_differences.specs.Matching.{other_key, partner_of, place_by, rule_place}
use Rattle.dia_differences.proofs.SameThings.{HaveSameRules}
use Rattle.dia_differences.proofs.Paired.{position_one, some_is}

-- a place of a, with the entry of b of the same key as its partner
pub record Pair (b : Dictionary) (pairs : List (Option ℕ)) (i : ℕ) (key : Key) : Type 0 where
  pub place : ℕ
  pub entry : DictEntry
  pub is : partner_of pairs i (length b.entries) ≡ Some place
  pub at : slice_get b.entries place ≡ Some entry
  pub same : entry.key ≡ key

pub record Aligned (a b : Dictionary) (pairs : List (Option ℕ)) : Type 0 where
  pub each : (i : ℕ) (x : DictEntry) → slice_get a.entries i ≡ Some x → Pair b pairs i x.key

-- ---- the definition of an owner

owned_avp : (d : Dictionary) (i : ℕ) (def : PlainDefinition) (o : Option DictEntry) → slice_get d.entries i ≡ o → option_and_then (λ x. x.group) o ≡ Some def → IsIn def (definitions d)
owned_avp d i def None at is = absurd (none-some def is)
owned_avp d i def (Some x) at is = in_left (groups d) d.commands def (in_filter_map (λ (y : DictEntry). y.group) d.entries x def (in_at d.entries i x at) is)

owned_in : (d : Dictionary) (of : Owner) (def : PlainDefinition) → owned d of ≡ Some def → IsIn def (definitions d)
owned_in d (Avp i) def is = owned_avp d i def (slice_get d.entries i) refl is
owned_in d (Command i) def is = in_right (groups d) d.commands def (in_at d.commands i def is)

-- a rule of an owner, with its definition
pub record RuleOf (d : Dictionary) (of : Owner) (i : ℕ) (r : DRule) : Type 0 where
  pub def : PlainDefinition
  pub inside : IsIn def (definitions d)
  pub rules : rules_of d of ≡ def.rules
  pub at : slice_get def.rules i ≡ Some r

pub rule_of : (d : Dictionary) (of : Owner) (i : ℕ) (r : DRule) → slice_get (rules_of d of) i ≡ Some r → RuleOf d of i r
rule_of d of i r at = by (owned d of) refl at
  where
    by : (o : Option PlainDefinition) → owned d of ≡ o → slice_get (option_map_or (λ def. def.rules) o []) i ≡ Some r → RuleOf d of i r
    by None is here = absurd (none-some r here)
    by (Some def) is here =
        record { def = def; inside = owned_in d of def is; rules = ap (λ (o : Option PlainDefinition). option_map_or (λ x. x.rules) o []) is; at = here }

pub rule_known : (d : Dictionary) (of : Owner) (i : ℕ) (r : DRule) (key : Key) → IsDictionary d → slice_get (rules_of d of) i ≡ Some r → r.key ≡ Some key → IsSome (entry_of d key)
rule_known d of i r key sound at is =
    let h = rule_of d of i r at in
    sound.known_keys h.def r key (contains_in (definitions d) h.def h.inside) (contains_in h.def.rules r (in_at h.def.rules i r h.at)) is

pub rules_apart : (d : Dictionary) (of : Owner) (i j : ℕ) (r s : DRule) → IsDictionary d → slice_get (rules_of d of) i ≡ Some r → slice_get (rules_of d of) j ≡ Some s → r.key ≡ s.key → i ≡ j
rules_apart d of i j r s sound at there same =
    let h = rule_of d of i r at in
    let rules = all_of (λ (def : PlainDefinition). AreRules def.rules) (definitions d) h.def sound.rules h.inside in
    rules.distinct i j r s h.at (subst (λ (rs : List DRule). slice_get rs j ≡ Some s) h.rules there) same

-- ---- the place of a rule

no_key : (o : Option Key) → not (is_some o) ≡ true → o ≡ None
no_key None test = refl
no_key (Some key) test = absurd (let e : false ≡ true = test in cc)

pub listed_key : (key : Key) (o : Option Key) → option_map_or (same_key key) o false ≡ true → o ≡ Some key
listed_key key None test = absurd (let e : false ≡ true = test in cc)
listed_key key (Some k) test = ap (λ (q : Key). Some q) (sym (same_key-true key k test))

lists_it : (key : Key) (o : Option Key) → o ≡ Some key → option_map_or (same_key key) o false ≡ true
lists_it key o e = ap (λ (p : Option Key). option_map_or (same_key key) p false) e ∙ same_key-equal key key refl

pub key_there : (a b : Dictionary) (pairs : List (Option ℕ)) (key : Key) (e : ℕ) → Aligned a b pairs → entry_of a key ≡ Some e → other_key a b pairs key ≡ Some key
key_there a b pairs key e aligned is =
    let (x, at, test) = at_position (λ (y : DictEntry). same_key key y.key) a.entries e is in
    let pair = aligned.each e x at in
    ap (λ (o : Option ℕ). option_and_then (λ n. option_and_then (λ f. option_and_then (λ y. Some y.key) (slice_get b.entries f)) (partner_of pairs n (length b.entries))) o) is
    ∙ ap (λ (o : Option ℕ). option_and_then (λ f. option_and_then (λ y. Some y.key) (slice_get b.entries f)) o) pair.is
    ∙ ap (λ (o : Option DictEntry). option_and_then (λ y. Some y.key) o) pair.at
    ∙ ap (λ (k : Key). Some k) (pair.same ∙ sym (same_key-true key x.key test))

-- the rule at the place of a rule is of the same key
pub record Found (others : List DRule) (key : Option Key) (j : ℕ) : Type 0 where
  pub rule : DRule
  pub at : slice_get others j ≡ Some rule
  pub same : rule.key ≡ key

pub place_key : (a b : Dictionary) (pairs : List (Option ℕ)) (others : List DRule) (key : Option Key) (j : ℕ) → Aligned a b pairs → place_by a b pairs others key ≡ Some j → Found others key j
place_key a b pairs others None j aligned is =
    let (s, at, test) = at_position (λ (rule : DRule). not (is_some rule.key)) others j is in
    record { rule = s; at = at; same = no_key s.key test }
place_key a b pairs others (Some key) j aligned is = by (entry_of a key) refl
  where
    by : (o : Option ℕ) → entry_of a key ≡ o → Found others (Some key) j
    by None none = absurd (none-some j (sym (ap (λ (o : Option ℕ). option_and_then (λ other. position (lists_key other) others)
        (option_and_then (λ n. option_and_then (λ f. option_and_then (λ y. Some y.key) (slice_get b.entries f)) (partner_of pairs n (length b.entries))) o)) none) ∙ is))
    by (Some e) here =
        let there = ap (λ (o : Option Key). option_and_then (λ other. position (lists_key other) others) o) (key_there a b pairs key e aligned here) in
        let (s, at, test) = at_position (lists_key key) others j (sym there ∙ is) in
        record { rule = s; at = at; same = listed_key key s.key test }

pub place_found : (a b : Dictionary) (pairs : List (Option ℕ)) (others : List DRule) (key : Option Key) (j : ℕ) (s : DRule) → Aligned a b pairs
    → ((k : Key) → key ≡ Some k → IsSome (entry_of a k)) → ((i : ℕ) (r : DRule) → slice_get others i ≡ Some r → r.key ≡ s.key → i ≡ j)
    → slice_get others j ≡ Some s → s.key ≡ key → place_by a b pairs others key ≡ Some j
place_found a b pairs others None j s aligned known one at same =
    position_one (λ (rule : DRule). not (is_some rule.key)) others j s at (ap (λ (o : Option Key). not (is_some o)) same) (λ i r there test. one i r there (no_key r.key test ∙ sym same))
place_found a b pairs others (Some key) j s aligned known one at same =
    let (e, here) = some_of (entry_of a key) (known key refl) in
    ap (λ (o : Option Key). option_and_then (λ other. position (lists_key other) others) o) (key_there a b pairs key e aligned here)
    ∙ position_one (lists_key key) others j s at (lists_it key s.key same) (λ i r there test. one i r there (listed_key key r.key test ∙ sym same))

-- ---- all rules of two definitions

rule_same : (r s : DRule) → r.kind ≡ s.kind → r.key ≡ s.key → r.min ≡ s.min → r.max ≡ s.max → r ≡ s
rule_same r s kind key min max =
    let f : RuleKind → DRule = λ k. record { kind = k; key = r.key; min = r.min; max = r.max } in
    let g : Option Key → DRule = λ k. record { kind = s.kind; key = k; min = r.min; max = r.max } in
    let h : ℕ → DRule = λ n. record { kind = s.kind; key = s.key; min = n; max = r.max } in
    let m : Option ℕ → DRule = λ n. record { kind = s.kind; key = s.key; min = s.min; max = n } in
    ap f kind ∙ ap g key ∙ ap h min ∙ ap m max

module _ (a b : Dictionary) (partners : Matches) (own other : Owner) (sound_a : IsDictionary a) (sound_b : IsDictionary b)
    (there : Aligned a b partners.avps) (back : Aligned b a partners.avps_back) where
  pub rules_there : HaveSameRules a b partners own other → HasRules (rules_of a own) (rules_of b other)
  rules_there h i r at =
      let (j, is, same) = h.rules i r at in
      let found = place_key a b partners.avps (rules_of b other) r.key j there is in
      let one : same.other ≡ found.rule = same_Some same.other found.rule (sym same.at ∙ found.at) in
      let key : r.key ≡ same.other.key = sym (ap (λ (s : DRule). s.key) one ∙ found.same) in
      (j, same.at ∙ ap (λ (s : DRule). Some s) (sym (rule_same r same.other same.kind key same.min same.max)), same.fixed)

  pub rules_back : HaveSameRules a b partners own other → HasRules (rules_of b other) (rules_of a own)
  rules_back h j r at =
      let (q, is) = some_of (rule_place b a partners.avps_back own r) (h.others j r at) in
      let found = place_key b a partners.avps_back (rules_of a own) r.key q back is in
      let s = found.rule in
      let (k, k_at, fixed) = rules_there h q s found.at in
      let place : k ≡ j = rules_apart b other k j s r sound_b k_at at found.same in
      let same : s ≡ r = same_Some s r (sym (ap (slice_get (rules_of b other)) (sym place) ∙ k_at) ∙ at) in
      (q, found.at ∙ ap (λ (t : DRule). Some t) same, λ is_fixed_r. sym (fixed (ap is_fixed same ∙ is_fixed_r) ∙ place))

  pub same_rules : HaveSameRules a b partners own other → AreSameRules (rules_of a own) (rules_of b other)
  same_rules h = (rules_there h, rules_back h)

  pub have_rules : AreSameRules (rules_of a own) (rules_of b other) → HaveSameRules a b partners own other
  have_rules h = record {
    rules = λ i r at.
        let (j, j_at, fixed) = h.0 i r at in
        let place = place_found a b partners.avps (rules_of b other) r.key j r there (λ k e. rule_known a own i r k sound_a at e)
        (λ n s here same. rules_apart b other n j s r sound_b here j_at same) j_at refl in
        (j, place, record { other = r; at = j_at; kind = refl; min = refl; max = refl; fixed = fixed });
    others = λ j r at.
        let (q, q_at, fixed) = h.1 j r at in
        some_is (rule_place b a partners.avps_back own r) q (place_found b a partners.avps_back (rules_of a own) r.key q r back (λ k e. rule_known b other j r k sound_b at e)
        (λ n s here same. rules_apart a own n q s r sound_a here q_at same) q_at refl);
  }
