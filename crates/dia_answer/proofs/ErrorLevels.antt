-- The AVPs of an error message are where the base dictionary's rules say.
use Rattle.std.proofs.Common.{◌≡◌, ℕ, ◌+◌, ◌≤◌, Bool, true, false, cond, List, [], ◌∷◌, ◌++◌, length, map, drop, get_or, Option, Some, None, inl, inr, refl, sym, ap, subst, ◌∙◌, append_assoc, append-nil, arith}
use Rattle.std.specs.Prelude.{◌⊎◌, ◌&&◌, count_by, filter, find, flat_map, if◌then◌else◌, is_some, not, IfSome, MatchOption}
use Rattle.std.specs.List.{AllByRecursion}
use Rattle.std.specs.Option.{option_map_or}
use Rattle.std.proofs.lemmas.List.{length-append, length-map, map-append}
use Rattle.std.proofs.lemmas.List.Elements.{filter-append}
use Rattle.std.proofs.lemmas.List.Sums.{sum_by-cons}
use Rattle.dia_wire.specs.declared.Key.{Key}
use Rattle.dia_wire.specs.Wire.{PlainAvp, key_of}
use Rattle.dia_book.specs.declared.DRule.{DRule}
use Rattle.dia_book.specs.declared.RuleKind.TheVariants.{Fixed}
use Rattle.dia_book.specs.Keys.{same_key}
use Rattle.dia_book.specs.Dictionary.{Dictionary, AreRules, lists_key}
use Rattle.dia_book.proofs.SameKeys.{same_key-symm, same_key-true}
use Rattle.dia_valid.specs.Valid.{InBounds, MayBeLoose, Placed, Runs, counted, fixed_rules, has_wildcard, is_listed, loose_rules}
use Rattle.dia_valid.proofs.Members.{IsIn, all_append, all_in, in_all, in_filter}
use Rattle.dia_valid.proofs.RulesOfKeys.{is_listed_by}
use Rattle.dia_answer.specs.declared.forms.Form.TheVariants as form
use Rattle.dia_answer.specs.Dictionaries.{base_key, failed_avp}
use Rattle.dia_answer.specs.Stocks.{TakesData, copied, error_message, has_format, is_nest, is_text, may_hold, own}
use Rattle.dia_answer.specs.Bodies.{IsStock, Parts, error_messages, failed_avps, in_order, may_fail, of_key, origin_host, origin_realm, proxy_info, result_code, session_id}
use Rattle.dia_answer.specs.OwnErrors.{error_rules}
use Rattle.dia_answer.proofs.Orders.{filter_by, lists-key, order_keeps}
use Rattle.dia_answer.proofs.Stocks.{all_of, by_parts, none_of, of_failed, of_messages, of_session, the_origin_host, the_origin_realm, the_result_code, the_session}

-- ---- counts

count_listed : (k : Key) (vs : List PlainAvp) → count_by (λ key. same_key key k) (map key_of vs) ≡ length (of_key k vs)
count_listed k [] = refl
count_listed k (v ∷ vs) = by (same_key (key_of v) k) refl (count_listed k vs)
  where
    of_test : (b : Bool) → cond b 1 0 + length (of_key k vs) ≡ length (cond b (v ∷ of_key k vs) (of_key k vs))
    of_test true = omega arith
    of_test false = omega arith

    by : (b : Bool) → same_key (key_of v) k ≡ b → count_by (λ key. same_key key k) (map key_of vs) ≡ length (of_key k vs) → count_by (λ key. same_key key k) (key_of v ∷ map key_of vs) ≡ length (of_key k (v ∷ vs))
    by b e ih =
        sum_by-cons (λ (key : Key). cond (same_key key k) 1 0) (key_of v) (map key_of vs)
        ∙ (λ i. cond (e i) 1 0 + ih i)
        ∙ of_test b
        ∙ (λ i. length (cond (sym (same_key-symm k (key_of v) ∙ e) i) (v ∷ of_key k vs) (of_key k vs)))

all_mapped : (P : Key → Type 0) (vs : List PlainAvp) → AllByRecursion (λ v. P (key_of v)) vs → AllByRecursion P (map key_of vs)
all_mapped P [] h = tt
all_mapped P (v ∷ vs) h = (h.0, all_mapped P vs h.1)

filter_same : (p q : PlainAvp → Bool) → ((v : PlainAvp) → p v ≡ q v) → (avps : List PlainAvp) → filter p avps ≡ filter q avps
filter_same p q h [] = refl
filter_same p q h (v ∷ avps) = λ i. cond (h v i) (v ∷ filter_same p q h avps i) (filter_same p q h avps i)

not_true : (b : Bool) → not b ≡ true → b ≡ false
not_true true e = absurd cc
not_true false e = refl

-- ---- a definition with one fixed rule, and a wildcard

-- the AVPs of a loose rule are as many as it says; any number of others
abbrev IsCounted : Key → List PlainAvp → DRule → Type 0
IsCounted first avps r = MatchOption r.key ((r.min ≡ 0) × (r.max ≡ None)) (λ k. InBounds r (length (of_key k avps)) × (same_key k first ≡ false))

module _ (r0 : DRule) (rs : List DRule) (first : Key) (avps : List PlainAvp) (are : AreRules (r0 ∷ rs)) (is_first : r0.key ≡ Some first) where
  abbrev listed_by : DRule → List PlainAvp
  listed_by r = filter (λ v. lists_key (key_of v) r) avps

  abbrev others : List PlainAvp
  others = filter (λ v. not (is_listed (r0 ∷ rs) (key_of v))) avps

  abbrev after : List PlainAvp
  after = flat_map listed_by rs ++ others

  parts : in_order (r0 ∷ rs) avps ≡ listed_by r0 ++ after
  parts = append_assoc (listed_by r0) (flat_map listed_by rs) others

  run_keys : AllByRecursion (λ key. r0.key ≡ Some key) (map key_of (listed_by r0))
  run_keys = all_mapped (λ key. r0.key ≡ Some key) (listed_by r0) (all_in (λ v. r0.key ≡ Some (key_of v)) (listed_by r0) (λ v i. lists-key (key_of v) r0 (in_filter (λ w. lists_key (key_of w) r0) avps v i).1))

  run_is : listed_by r0 ≡ of_key first avps
  run_is = filter_same (λ v. lists_key (key_of v) r0) (λ v. same_key first (key_of v))
      (λ v. ap (λ (o : Option Key). option_map_or (same_key (key_of v)) o false) is_first ∙ same_key-symm (key_of v) first) avps

  -- the AVPs that follow have as many of another key as the stock
  after_count : (r : DRule) (k : Key) → IsIn r rs → r.key ≡ Some k → same_key k first ≡ false → length (of_key k after) ≡ length (of_key k avps)
  after_count r k i is other =
      let q : PlainAvp → Bool = λ v. same_key k (key_of v) in
      let none : of_key k (listed_by r0) ≡ [] = filter_by q (λ v. lists_key (key_of v) r0) false avps
      (λ v e. ap (λ (o : Option Key). option_map_or (same_key (key_of v)) o false) is_first ∙ ap (λ (x : Key). same_key x first) (sym (same_key-true k (key_of v) e)) ∙ other) in
      ap length (
      ap (λ (vs : List PlainAvp). vs ++ of_key k after) (sym none) ∙ sym (filter-append q (listed_by r0) after) ∙ ap (of_key k) (sym parts) ∙ order_keeps k (r0 ∷ rs) avps are
      )

  abbrev count_for : Option Key → ℕ
  count_for o = count_by (λ key. if not (is_some o) then not (is_listed (r0 ∷ rs) key) else option_map_or (same_key key) o false) (map key_of after)

  in_bounds : (r : DRule) → IsIn r rs → IsCounted first avps r → InBounds r (counted (r0 ∷ rs) r (map key_of after))
  in_bounds r i h = by r.key refl h
    where
      by : (o : Option Key) → r.key ≡ o → MatchOption o ((r.min ≡ 0) × (r.max ≡ None)) (λ k. InBounds r (length (of_key k avps)) × (same_key k first ≡ false)) → InBounds r (count_for r.key)
      by None is (none, most) = (omega (arith, none), subst (λ (m : Option ℕ). IfSome m (λ max. count_for r.key ≤ max)) (sym most) tt)
      by (Some k) is (bounds, other) =
          subst (InBounds r) (sym (ap count_for is ∙ count_listed k after ∙ after_count r k i is other)) bounds

  may_follow : AllByRecursion (λ v. MayBeLoose (r0 ∷ rs) (key_of v)) after → AllByRecursion (MayBeLoose (r0 ∷ rs)) (map key_of after)
  may_follow = all_mapped (MayBeLoose (r0 ∷ rs)) after

  follow : loose_rules (r0 ∷ rs) ≡ rs → has_wildcard (r0 ∷ rs) ≡ true → AllByRecursion (λ v. MayBeLoose (r0 ∷ rs) (key_of v)) after
  follow loose wild = all_append P (flat_map listed_by rs) others (by rs (λ r i. i)) (all_in P others unlisted)
    where
      P : PlainAvp → Type 0
      P v = MayBeLoose (r0 ∷ rs) (key_of v)

      listed : (r : DRule) → IsIn r rs → (v : PlainAvp) → IsIn v (listed_by r) → P v
      listed r i v j =
          let key = lists-key (key_of v) r (in_filter (λ w. lists_key (key_of w) r) avps v j).1 in
          inl (subst (λ (ls : List DRule). is_listed ls (key_of v) ≡ true) (sym loose) (is_listed_by rs (key_of v) r i key))

      unlisted : (v : PlainAvp) → IsIn v others → P v
      unlisted v j = inr (not_true (is_listed (r0 ∷ rs) (key_of v)) (in_filter (λ w. not (is_listed (r0 ∷ rs) (key_of w))) avps v j).1, wild)

      by : (ls : List DRule) → ((r : DRule) → IsIn r ls → IsIn r rs) → AllByRecursion P (flat_map listed_by ls)
      by [] sub = tt
      by (l ∷ ls) sub = all_append P (listed_by l) (flat_map listed_by ls) (all_in P (listed_by l) (listed l (sub l (inl refl)))) (by ls (λ r i. sub r (inr i)))

  pub placed : fixed_rules (r0 ∷ rs) ≡ r0 ∷ [] → loose_rules (r0 ∷ rs) ≡ rs → has_wildcard (r0 ∷ rs) ≡ true → InBounds r0 (length (of_key first avps)) → AllByRecursion (IsCounted first avps) rs
      → Placed (r0 ∷ rs) (map key_of (in_order (r0 ∷ rs) avps))
  placed fixed loose wild few all = record {
    rest = map key_of after;
    runs = subst (λ (fs : List DRule). Runs fs (map key_of (in_order (r0 ∷ rs) avps)) (map key_of after)) (sym fixed) (
      map key_of (listed_by r0),
      map key_of after,
      ap (map key_of) parts ∙ map-append key_of (listed_by r0) after,
      run_keys,
      subst (InBounds r0) (sym (length-map (listed_by r0) key_of ∙ ap length run_is)) few,
      refl,
    );
    loose = may_follow (follow loose wild);
    counts = subst (AllByRecursion (λ r. InBounds r (counted (r0 ∷ rs) r (map key_of after)))) (sym loose)
        (all_in (λ r. InBounds r (counted (r0 ∷ rs) r (map key_of after))) rs (λ r i. in_bounds r i (in_all (IsCounted first avps) r rs all i)));
  }

-- ---- the base dictionary's error message

abbrev session_rule : DRule
session_rule = get_or error_rules 0 (record { kind = Fixed; key = None; min = 0; max = None })

abbrev loose_of_errors : List DRule
loose_of_errors = drop 1 error_rules

few_of_test : (k : Key) (b : Bool) (v : PlainAvp) → length (of_key k (cond b (v ∷ []) [])) ≤ 1
few_of_test k true v = by (same_key k (key_of v))
  where
    by : (b : Bool) → length (cond b (v ∷ []) []) ≤ 1
    by true = omega arith
    by false = omega arith
few_of_test k false v = omega arith

module _ (d : Dictionary) (rules : List DRule) (p : Parts) (avps : List PlainAvp) (s : IsStock d form.Error rules p avps) where
  few_messages : length (of_key error_message (error_messages d rules p.line)) ≤ 1
  few_messages = by p.line
    where
      by : (o : Option (List ℕ)) → length (of_key error_message (error_messages d rules o)) ≤ 1
      by None = omega arith
      by (Some line) = few_of_test error_message (has_format is_text d error_message && may_hold rules error_message) (record { code = 281; flags = 0; vendor = None; bytes = line })

  few_failed : length (of_key failed_avp (failed_avps d form.Error rules p.failed)) ≤ 1
  few_failed = by p.failed
    where
      by : (o : Option (List ℕ)) → length (of_key failed_avp (failed_avps d form.Error rules o)) ≤ 1
      by None = omega arith
      by (Some bytes) = few_of_test failed_avp (has_format is_nest d failed_avp && may_fail form.Error rules) (own d 279 bytes)

  -- the AVPs of a key that no source but these two has
  of_two : (k : Key) → same_key k session_id ≡ false → of_key k (own d 268 p.code ∷ own d 264 p.host ∷ own d 296 p.realm ∷ []) ≡ [] → same_key k proxy_info ≡ false
      → of_key k avps ≡ of_key k (error_messages d rules p.line) ++ of_key k (failed_avps d form.Error rules p.failed)
  of_two k no_session no_own no_proxy =
      let q : PlainAvp → Bool = λ v. same_key k (key_of v) in
      let owns : List PlainAvp = own d 268 p.code ∷ own d 264 p.host ∷ own d 296 p.realm ∷ [] in
      let message = error_messages d rules p.line in
      let failed = failed_avps d form.Error rules p.failed in
      let copies = map copied s.copies in
      let proxies = map copied s.proxies in
      let session_none = of_session d p.request s.session k s.is_session ∙ ap (λ (b : Bool). cond b s.session []) no_session in
      let proxies_none = none_of k proxy_info proxies (all_of d p.unknown p.levels proxy_info p.request s.proxies s.are_proxies) no_proxy in
      let copies_none : of_key k copies ≡ [] = ap (λ (vs : List PlainAvp). of_key k (map copied vs)) s.are_copies in
      ap (of_key k) s.parts ∙ filter-append q (s.session ++ owns ++ message ++ failed ++ copies) proxies
      ∙ (λ i. of_key k (s.session ++ owns ++ message ++ failed ++ copies) ++ proxies_none i) ∙ append-nil _
      ∙ filter-append q (s.session ++ owns ++ message ++ failed) copies ∙ (λ i. of_key k (s.session ++ owns ++ message ++ failed) ++ copies_none i) ∙ append-nil _
      ∙ filter-append q (s.session ++ owns ++ message) failed
      ∙ ap (λ (vs : List PlainAvp). vs ++ of_key k failed) (filter-append q (s.session ++ owns) message
      ∙ ap (λ (vs : List PlainAvp). vs ++ of_key k message) (filter-append q s.session owns ∙ (λ i. session_none i ++ no_own i)))

  message_count : length (of_key error_message avps) ≤ 1
  message_count =
      let all = of_two error_message refl refl refl in
      let none = of_failed d form.Error rules p.failed error_message refl in
      omega (arith, ap length all, length-append (of_key error_message (error_messages d rules p.line)) (of_key error_message (failed_avps d form.Error rules p.failed)), ap length none, few_messages)

  failed_count : length (of_key failed_avp avps) ≤ 1
  failed_count =
      let all = of_two failed_avp refl refl refl in
      let none = of_messages d rules p.line failed_avp refl in
      omega (arith, ap length all, length-append (of_key failed_avp (error_messages d rules p.line)) (of_key failed_avp (failed_avps d form.Error rules p.failed)), ap length none, few_failed)

  session_count : length s.session ≤ 1
  session_count = by (find (λ v. same_key (key_of v) session_id) p.request) s.is_session
    where
      by : (o : Option PlainAvp) → MatchOption o (s.session ≡ []) (λ v. (TakesData d session_id v.bytes × (s.session ≡ own d 263 v.bytes ∷ [])) ⊎ ((¬ TakesData d session_id v.bytes) × (s.session ≡ [])))
          → length s.session ≤ 1
      by None e = omega (arith, ap length e)
      by (Some v) (inl (takes, e)) = omega (arith, ap length e)
      by (Some v) (inr (other, e)) = omega (arith, ap length e)

  one : (k : Key) (v : PlainAvp) → of_key k avps ≡ v ∷ [] → length (of_key k avps) ≡ 1
  one k v e = ap length e

  no_avp : (k : Key) → of_key k avps ≡ [] → length (of_key k avps) ≡ 0
  no_avp k e = ap length e

pub error_placed : (d : Dictionary) (p : Parts) (avps : List PlainAvp) → AreRules error_rules → IsStock d form.Error error_rules p avps → Placed error_rules (map key_of (in_order error_rules avps))
error_placed d p avps are s =
    let host = one d error_rules p avps s origin_host (own d 264 p.host) (the_origin_host d form.Error error_rules p avps s) in
    let realm = one d error_rules p avps s origin_realm (own d 296 p.realm) (the_origin_realm d form.Error error_rules p avps s) in
    let code = one d error_rules p avps s result_code (own d 268 p.code) (the_result_code d form.Error error_rules p avps s) in
    let state = no_avp d error_rules p avps s (base_key 278) (by_parts d form.Error error_rules p avps s (base_key 278) refl refl refl) in
    let reporter = no_avp d error_rules p avps s (base_key 294) (by_parts d form.Error error_rules p avps s (base_key 294) refl refl refl) in
    let result = no_avp d error_rules p avps s (base_key 297) (by_parts d form.Error error_rules p avps s (base_key 297) refl refl refl) in
    let message = message_count d error_rules p avps s in
    let failed = failed_count d error_rules p avps s in
    let session : length (of_key session_id avps) ≤ 1 = subst (λ (vs : List PlainAvp). length vs ≤ 1) (sym (the_session d form.Error error_rules p avps s)) (session_count d error_rules p avps s) in
    placed (session_rule) loose_of_errors session_id avps are refl refl refl refl (omega arith, session) (
      ((omega (arith, host), omega (arith, host)), refl),
      (
        ((omega (arith, realm), omega (arith, realm)), refl),
        (
          ((omega (arith, code), omega (arith, code)), refl),
          (
            ((omega arith, omega (arith, state)), refl),
            (((omega arith, message), refl), (((omega arith, omega (arith, reporter)), refl), (((omega arith, failed), refl), (((omega arith, omega (arith, result)), refl), (((omega arith, tt), refl), ((refl, refl), tt)))))),
          ),
        ),
      ),
    )
