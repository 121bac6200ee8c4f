-- AVPs in the order of rules are those that there were, those of each key in their order.
use Rattle.std.proofs.Common.{◌≡◌, ℕ, suc, Bool, true, false, cond, not, List, [], ◌∷◌, ◌++◌, length, map, Option, Some, None, refl, sym, ap, ◌∙◌, append_assoc, append-nil, arith}
use Rattle.std.specs.Prelude.{filter, flat_map, slice_get, ◌==◌, ◌&&◌, ◌||◌}
use Rattle.std.specs.List.{list_all}
use Rattle.std.specs.Option.{option_map_or}
use Rattle.std.proofs.lemmas.Bool.{and_parts, eqb-true}
use Rattle.std.proofs.lemmas.List.{length-map}
use Rattle.std.proofs.lemmas.List.Elements.{filter-append}
use Rattle.dia_wire.specs.declared.Key.{Key}
use Rattle.dia_wire.specs.Wire.{PlainAvp, key_of}
use Rattle.dia_book.specs.declared.DRule.{DRule}
use Rattle.dia_book.specs.Keys.{same_key}
use Rattle.dia_book.specs.Dictionary.{AreRules, lists_key}
use Rattle.dia_book.proofs.SameKeys.{same_key-true}
use Rattle.dia_valid.specs.Valid.{is_listed}
use Rattle.dia_answer.specs.declared.held.Held.{Held}
use Rattle.dia_answer.specs.Stocks.{error_message, may_be_unlisted}
use Rattle.dia_answer.specs.Bodies.{AllOf, in_order, of_key, proxy_info}
use Rattle.dia_answer.specs.Helds.{plain_held, plains}

-- a filter of a filter, whose test is the same of each that passes the other
pub filter_by : {X : Type 0} (p q : X → Bool) (b : Bool) (xs : List X) → ((x : X) → p x ≡ true → q x ≡ b) → filter p (filter q xs) ≡ cond b (filter p xs) []
filter_by p q true [] h = refl
filter_by p q false [] h = refl
filter_by {X} p q b (x ∷ xs) h = by (p x) (q x) b refl refl (h x) (filter_by p q b xs h)
  where
    by : (s t c : Bool) → p x ≡ s → q x ≡ t → (p x ≡ true → q x ≡ c) → filter p (filter q xs) ≡ cond c (filter p xs) [] → filter p (cond t (x ∷ filter q xs) (filter q xs)) ≡ cond c (cond s (x ∷ filter p xs) (filter p xs)) []
    by true true true e f g ih = ap (λ (c : Bool). cond c (x ∷ filter p (filter q xs)) (filter p (filter q xs))) e ∙ ap (λ (ys : List X). x ∷ ys) ih
    by true true false e f g ih = absurd (let bad : true ≡ false = sym f ∙ g e in cc)
    by true false true e f g ih = absurd (let bad : false ≡ true = sym f ∙ g e in cc)
    by true false false e f g ih = ih
    by false true true e f g ih = ap (λ (c : Bool). cond c (x ∷ filter p (filter q xs)) (filter p (filter q xs))) e ∙ ih
    by false true false e f g ih = ap (λ (c : Bool). cond c (x ∷ filter p (filter q xs)) (filter p (filter q xs))) e ∙ ih
    by false false true e f g ih = ih
    by false false false e f g ih = ih

filter-flat_map : {X Y : Type 0} (p : Y → Bool) (f : X → List Y) (xs : List X) → filter p (flat_map f xs) ≡ flat_map (λ x. filter p (f x)) xs
filter-flat_map p f [] = refl
filter-flat_map p f (x ∷ xs) = filter-append p (f x) (flat_map f xs) ∙ ap (λ (ys : List _). filter p (f x) ++ ys) (filter-flat_map p f xs)

flat_map-same : {X Y : Type 0} (f g : X → List Y) (xs : List X) → ((x : X) → f x ≡ g x) → flat_map f xs ≡ flat_map g xs
flat_map-same f g [] h = refl
flat_map-same {X} {Y} f g (x ∷ xs) h = ap (λ (ys : List Y). ys ++ flat_map f xs) (h x) ∙ ap (λ (ys : List Y). g x ++ ys) (flat_map-same f g xs h)

-- ---- rules whose keys are distinct

abbrev AreApart : List DRule → Type 0
AreApart rules = (i j : ℕ) (a b : DRule) → slice_get rules i ≡ Some a → slice_get rules j ≡ Some b → a.key ≡ b.key → i ≡ j

apart_tail : (rule : DRule) (rules : List DRule) → AreApart (rule ∷ rules) → AreApart rules
apart_tail rule rules apart i j a b at at' same = let e = apart (suc i) (suc j) a b at at' same in omega (arith, e)

pub lists-key : (key : Key) (rule : DRule) → lists_key key rule ≡ true → rule.key ≡ Some key
lists-key key rule h = by rule.key h
  where
    by : (o : Option Key) → option_map_or (same_key key) o false ≡ true → o ≡ Some key
    by None e = absurd cc
    by (Some other) e = ap (λ (k : Key). Some k) (sym (same_key-true key other e))

-- where it is listed
listed_at : (key : Key) (rules : List DRule) → is_listed rules key ≡ true → (i : ℕ) × (rule : DRule) × (slice_get rules i ≡ Some rule) × (rule.key ≡ Some key)
listed_at key [] h = absurd (let bad : false ≡ true = h in cc)
listed_at key (rule ∷ rules) h = by (lists_key key rule) refl h (listed_at key rules)
  where
    by : (b : Bool) → lists_key key rule ≡ b → b || is_listed rules key ≡ true → (is_listed rules key ≡ true → (i : ℕ) × (r : DRule) × (slice_get rules i ≡ Some r) × (r.key ≡ Some key))
        → (i : ℕ) × (r : DRule) × (slice_get (rule ∷ rules) i ≡ Some r) × (r.key ≡ Some key)
    by true e g ih = (0, rule, refl, lists-key key rule e)
    by false e g ih = let later = ih g in (suc later.0, later.1, later.2, later.3)

-- what is there once for each rule that lists the key is there once
once : {X : Type 0} (key : Key) (xs : List X) (rules : List DRule) → AreApart rules → flat_map (λ rule. cond (lists_key key rule) xs []) rules ≡ cond (is_listed rules key) xs []
once key xs [] apart = refl
once {X} key xs (rule ∷ rules) apart = by (lists_key key rule) (is_listed rules key) refl refl (once key xs rules (apart_tail rule rules apart))
  where
    by : (b c : Bool) → lists_key key rule ≡ b → is_listed rules key ≡ c → flat_map (λ r. cond (lists_key key r) xs []) rules ≡ cond c xs []
        → cond b xs [] ++ flat_map (λ r. cond (lists_key key r) xs []) rules ≡ cond (b || c) xs []
    by true true e f ih =
        let later = listed_at key rules f in
        let same = apart 0 (suc later.0) rule later.1 refl later.2 (lists-key key rule e ∙ sym later.3) in absurd (omega (arith, same))
    by true false e f ih = ap (λ (ys : List X). xs ++ ys) ih ∙ append-nil xs
    by false true e f ih = ih
    by false false e f ih = ih

-- ---- the order

pub order_keeps : (key : Key) (rules : List DRule) (avps : List PlainAvp) → AreRules rules → of_key key (in_order rules avps) ≡ of_key key avps
order_keeps key rules avps are =
    let p : PlainAvp → Bool = λ v. same_key key (key_of v) in
    let by_key : (q : Key → Bool) (v : PlainAvp) → p v ≡ true → q (key_of v) ≡ q key = λ q v e. ap q (sym (same_key-true key (key_of v) e)) in
    let listed : filter p (flat_map (λ rule. filter (λ v. lists_key (key_of v) rule) avps) rules) ≡ cond (is_listed rules key) (filter p avps) [] =
    filter-flat_map p (λ rule. filter (λ v. lists_key (key_of v) rule) avps) rules
    ∙ flat_map-same (λ rule. filter p (filter (λ v. lists_key (key_of v) rule) avps)) (λ rule. cond (lists_key key rule) (filter p avps) []) rules
    (λ rule. filter_by p (λ v. lists_key (key_of v) rule) (lists_key key rule) avps (by_key (λ k. lists_key k rule)))
    ∙ once key (filter p avps) rules are.distinct in
    let others : filter p (filter (λ v. not (is_listed rules (key_of v))) avps) ≡ cond (not (is_listed rules key)) (filter p avps) [] =
    filter_by p (λ v. not (is_listed rules (key_of v))) (not (is_listed rules key)) avps (by_key (λ k. not (is_listed rules k))) in
    filter-append p (flat_map (λ rule. filter (λ v. lists_key (key_of v) rule) avps) rules) (filter (λ v. not (is_listed rules (key_of v))) avps)
    ∙ ap (λ (ys : List PlainAvp). ys ++ filter p (filter (λ v. not (is_listed rules (key_of v))) avps)) listed
    ∙ ap (λ (ys : List PlainAvp). cond (is_listed rules key) (filter p avps) [] ++ ys) others
    ∙ joined (is_listed rules key) (filter p avps)
  where
    joined : (b : Bool) (xs : List PlainAvp) → cond b xs [] ++ cond (not b) xs [] ≡ xs
    joined true xs = append-nil xs
    joined false xs = refl

-- ---- what isn't there

filter_lacks : {X : Type 0} (p q : X → Bool) (xs : List X) → filter p xs ≡ [] → filter p (filter q xs) ≡ []
filter_lacks p q [] h = refl
filter_lacks {X} p q (x ∷ xs) h = by (p x) (q x) refl h (filter_lacks p q xs)
  where
    by : (s t : Bool) → p x ≡ s → cond s (x ∷ filter p xs) (filter p xs) ≡ [] → (filter p xs ≡ [] → filter p (filter q xs) ≡ []) → filter p (cond t (x ∷ filter q xs) (filter q xs)) ≡ []
    by true t e g ih = absurd cc
    by false true e g ih = ap (λ (c : Bool). cond c (x ∷ filter p (filter q xs)) (filter p (filter q xs))) e ∙ ih g
    by false false e g ih = ih g

flat_map-none : {X Y : Type 0} (f : X → List Y) (xs : List X) → ((x : X) → f x ≡ []) → flat_map f xs ≡ []
flat_map-none f [] h = refl
flat_map-none {X} {Y} f (x ∷ xs) h = ap (λ (ys : List Y). ys ++ flat_map f xs) (h x) ∙ flat_map-none f xs h

-- a key that no AVP has is none of theirs in any order
pub order_lacks : (key : Key) (rules : List DRule) (avps : List PlainAvp) → of_key key avps ≡ [] → of_key key (in_order rules avps) ≡ []
order_lacks key rules avps none =
    let p : PlainAvp → Bool = λ v. same_key key (key_of v) in
    let rest = filter (λ v. not (is_listed rules (key_of v))) avps in
    filter-append p (flat_map (λ rule. filter (λ v. lists_key (key_of v) rule) avps) rules) rest
    ∙ ap (λ (ys : List PlainAvp). ys ++ filter p rest)
    (filter-flat_map p (λ rule. filter (λ v. lists_key (key_of v) rule) avps) rules ∙ flat_map-none (λ rule. filter p (filter (λ v. lists_key (key_of v) rule) avps)) rules (λ rule. filter_lacks p (λ v. lists_key (key_of v) rule) avps none))
    ∙ filter_lacks p (λ v. not (is_listed rules (key_of v))) avps none

-- ---- AVPs of one key alone

no_matter : (b : Bool) (avps : List PlainAvp) → avps ≡ cond b avps avps
no_matter true avps = refl
no_matter false avps = refl

-- by a rule, all of them or none
pub of_rule : (key : Key) (q : Key → Bool) (avps : List PlainAvp) → AllOf key avps → filter (λ v. q (key_of v)) avps ≡ cond (q key) avps []
of_rule key q [] h = no_matter (q key) []
of_rule key q (v ∷ avps) h =
    let parts = and_parts (same_key key (key_of v)) (list_all (λ w. same_key key (key_of w)) avps) h in
    by (q (key_of v)) (q key) (ap q (sym (same_key-true key (key_of v) parts.0))) (of_rule key q avps parts.1)
  where
    by : (s t : Bool) → s ≡ t → filter (λ w. q (key_of w)) avps ≡ cond t avps [] → cond s (v ∷ filter (λ w. q (key_of w)) avps) (filter (λ w. q (key_of w)) avps) ≡ cond t (v ∷ avps) []
    by true true e ih = ap (λ (ys : List PlainAvp). v ∷ ys) ih
    by true false e ih = absurd cc
    by false true e ih = absurd cc
    by false false e ih = ih

-- ---- whether each is listed

list_all-append : {X : Type 0} (p : X → Bool) (xs ys : List X) → list_all p (xs ++ ys) ≡ list_all p xs && list_all p ys
list_all-append p [] ys = refl
list_all-append p (x ∷ xs) ys = by (p x) (list_all-append p xs ys)
  where
    by : (b : Bool) → list_all p (xs ++ ys) ≡ list_all p xs && list_all p ys → b && list_all p (xs ++ ys) ≡ (b && list_all p xs) && list_all p ys
    by true e = e
    by false e = refl

list_all-map : {X Y : Type 0} (p : Y → Bool) (f : X → Y) (xs : List X) → list_all p (map f xs) ≡ list_all (λ x. p (f x)) xs
list_all-map p f [] = refl
list_all-map p f (x ∷ xs) = ap (λ (b : Bool). p (f x) && b) (list_all-map p f xs)

not_empty : (v : PlainAvp) (avps : List PlainAvp) → (length (v ∷ avps) == 0) ≡ false
not_empty v avps = by (length (v ∷ avps) == 0) refl
  where
    by : (b : Bool) → (length (v ∷ avps) == 0) ≡ b → b ≡ false
    by true e = absurd (omega (arith, eqb-true (length (v ∷ avps)) 0 e))
    by false e = refl

proxies_listed : (rules : List DRule) (avps : List PlainAvp) → AllOf proxy_info avps → list_all (may_be_unlisted rules) avps ≡ is_listed rules proxy_info || (length avps == 0)
proxies_listed rules [] h = by (is_listed rules proxy_info)
  where
    by : (b : Bool) → true ≡ b || true
    by true = refl
    by false = refl
proxies_listed rules (v ∷ avps) h =
    let parts = and_parts (same_key proxy_info (key_of v)) (list_all (λ w. same_key proxy_info (key_of w)) avps) h in
    ap (λ (k : Key). (same_key k error_message || is_listed rules k) && list_all (may_be_unlisted rules) avps) (sym (same_key-true proxy_info (key_of v) parts.0))
    ∙ by (is_listed rules proxy_info) (length avps == 0) (length (v ∷ avps) == 0) (not_empty v avps) (proxies_listed rules avps parts.1)
  where
    by : (b c e : Bool) → e ≡ false → list_all (may_be_unlisted rules) avps ≡ b || c → b && list_all (may_be_unlisted rules) avps ≡ b || e
    by true c e other ih = ih
    by false c e other ih = sym other

pub all_listed_too : (rules : List DRule) (few proxies : List Held) → AllOf proxy_info (plains proxies)
    → list_all (may_be_unlisted rules) (plains few ++ plains proxies) ≡ list_all (λ h. may_be_unlisted rules (plain_held h)) few && (is_listed rules proxy_info || (length proxies == 0))
all_listed_too rules few proxies h =
    list_all-append (may_be_unlisted rules) (plains few) (plains proxies) ∙ ap (λ (b : Bool). b && list_all (may_be_unlisted rules) (plains proxies)) (list_all-map (may_be_unlisted rules) plain_held few)
    ∙ ap (λ (b : Bool). list_all (λ g. may_be_unlisted rules (plain_held g)) few && b) (proxies_listed rules (plains proxies) h ∙ ap (λ (n : ℕ). is_listed rules proxy_info || (n == 0)) (length-map proxies plain_held))

-- ---- the order, step by step

pub of_rule_too : (rule : DRule) (before : List PlainAvp) (few proxies : List Held) → AllOf proxy_info (plains proxies)
    → (before ++ filter (λ v. lists_key (key_of v) rule) (plains few)) ++ cond (lists_key proxy_info rule) (plains proxies) [] ≡ before ++ filter (λ v. lists_key (key_of v) rule) (plains few ++ plains proxies)
of_rule_too rule before few proxies h =
    let p : PlainAvp → Bool = λ v. lists_key (key_of v) rule in
    append_assoc before (filter p (plains few)) (cond (lists_key proxy_info rule) (plains proxies) [])
    ∙ ap (λ (vs : List PlainAvp). before ++ vs) (ap (λ (vs : List PlainAvp). filter p (plains few) ++ vs) (sym (of_rule proxy_info (λ k. lists_key k rule) (plains proxies) h)) ∙ sym (filter-append p (plains few) (plains proxies)))

pub unlisted_too : (rules : List DRule) (before : List PlainAvp) (few proxies : List Held) → AllOf proxy_info (plains proxies)
    → (before ++ filter (λ v. not (is_listed rules (key_of v))) (plains few)) ++ cond (not (is_listed rules proxy_info)) (plains proxies) []
    ≡ before ++ filter (λ v. not (is_listed rules (key_of v))) (plains few ++ plains proxies)
unlisted_too rules before few proxies h =
    let p : PlainAvp → Bool = λ v. not (is_listed rules (key_of v)) in
    append_assoc before (filter p (plains few)) (cond (not (is_listed rules proxy_info)) (plains proxies) [])
    ∙ ap (λ (vs : List PlainAvp). before ++ vs) (ap (λ (vs : List PlainAvp). filter p (plains few) ++ vs) (sym (of_rule proxy_info (λ k. not (is_listed rules k)) (plains proxies) h)) ∙ sym (filter-append p (plains few) (plains proxies)))
