-- The first of the others that no rule lists is one of a shortest AVP.
use Rattle.std.proofs.Common.{◌≡◌, ℕ, zero, suc, ◌+◌, ◌≤◌, min, max, Bool, true, false, not, List, [], ◌∷◌, ◌++◌, map, Option, Some, None, refl, sym, ap, ◌∙◌, arith, inl, inr}
use Rattle.std.specs.Prelude.{◌&&◌, take, is_some, find, slice_get, slice_index_or, Contains, if◌then◌else◌}
use Rattle.std.specs.List.Sorted.{IsNonDecreasingBy}
use Rattle.std.specs.Option.{option_map_or}
use Rattle.std.proofs.lemmas.List.Sorted.{Contains-permutation}
use Rattle.std.proofs.lemmas.Option.{none-some, same_Some, slice_get_within}
use Rattle.dia_wire.specs.declared.Key.{Key}
use Rattle.dia_book.specs.declared.DRule.{DRule}
use Rattle.dia_book.specs.Keys.{same_key}
use Rattle.dia_book.specs.Dictionary.{Dictionary, DictEntry, PlainDefinition, IsDictionary, definitions, entry_of, lists_key}
use Rattle.dia_book.proofs.SameKeys.{same_key-true}
use Rattle.dia_valid.specs.Valid.{is_listed}
use Rattle.dia_valid.specs.Rules.{rules_in}
use Rattle.dia_valid.proofs.Members.{taken, in_at, at_in, in_contains, contains_in, any_in, IsIn}
use Rattle.dia_terms.specs.declared.Sends.{Sends}
use Rattle.dia_terms.specs.declared.Sends.TheVariants.{Any, Known, Filled, Listed}
use Rattle.dia_breaking_sites.specs.Sent.{is_open}
use Rattle.dia_breaking_shortest.specs.Floors.{shortest_head}
use Rattle.dia_breaking_shortest.proofs.Strangers.{key_in}
use Rattle.dia_breaking_levels.specs.Levels.{FirstIsShortest}
use Rattle.dia_breaking_levels.specs.LevelTests.{too_long, is_outside}
use Rattle.dia_breaking.specs.Lengths.{AreExactlyOthers, costs_by, length_of_entry, listed_length, other_length, prices_where}
use Rattle.dia_breaking.specs.LevelCosts.{PicksShortest}

-- ---- keys that a dictionary doesn't know

some_in : (x : PlainDefinition) (d : Dictionary) (n : ℕ) → slice_get (definitions d) n ≡ Some x → Contains (definitions d) x
some_in x d n at = contains_in (definitions d) x (in_at (definitions d) n x at)

pub lists_some : (key : Key) (r : DRule) → lists_key key r ≡ true → r.key ≡ Some key
lists_some key r h = by r.key refl
  where
    by : (o : Option Key) → r.key ≡ o → r.key ≡ Some key
    by None e = absurd (let f : false ≡ true = sym (ap (λ (o : Option Key). option_map_or (same_key key) o false) e) ∙ h in cc)
    by (Some k) e =
        let same : same_key key k ≡ true = sym (ap (λ (o : Option Key). option_map_or (same_key key) o false) e) ∙ h in
        e ∙ ap (λ (k : Key). Some k) (sym (same_key-true key k same))

pub unlisted : (d : Dictionary) (def : ℕ) (key : Key) → IsDictionary d → entry_of d key ≡ None → is_listed (rules_in d def) key ≡ false
unlisted d def key sound none = by (slice_get (definitions d) def) refl
  where
    rules_of : Option PlainDefinition → List DRule
    rules_of o = option_map_or (λ (x : PlainDefinition). x.rules) o []

    in_rules : (x : PlainDefinition) → slice_get (definitions d) def ≡ Some x → (b : Bool) → is_listed x.rules key ≡ b → b ≡ false
    in_rules x at false e = refl
    in_rules x at true e =
        let r = any_in (lists_key key) x.rules e in
        let known = sound.known_keys x r.0 key (some_in x d def at) (contains_in x.rules r.0 r.1) (lists_some key r.0 r.2) in
        absurd (let f : false ≡ true = sym (ap (λ (o : Option ℕ). is_some o) none) ∙ known in cc)

    by : (o : Option PlainDefinition) → slice_get (definitions d) def ≡ o → is_listed (rules_in d def) key ≡ false
    by None at = ap (λ (o : Option PlainDefinition). is_listed (rules_of o) key) at
    by (Some x) at = ap (λ (o : Option PlainDefinition). is_listed (rules_of o) key) at ∙ in_rules x at (is_listed x.rules key) refl

-- ---- lengths

module _ (d : Dictionary) (lengths : List ℕ) where
  pub of_entry_least : (e : ℕ) → 8 ≤ length_of_entry lengths e
  of_entry_least e = by (slice_get lengths e)
    where
      by : (o : Option ℕ) → 8 ≤ option_map_or (λ n. min (max n 8) too_long) o too_long
      by None = omega arith
      by (Some n) = omega arith

  pub of_entry_most : (e : ℕ) → length_of_entry lengths e ≤ too_long
  of_entry_most e = by (slice_get lengths e)
    where
      by : (o : Option ℕ) → option_map_or (λ n. min (max n 8) too_long) o too_long ≤ too_long
      by None = omega arith
      by (Some n) = omega arith

  pub head_least : (key : Key) → 8 ≤ shortest_head key
  head_least key = by key.vendor
    where
      by : (n : ℕ) → 8 ≤ shortest_head (record { code = key.code; vendor = n })
      by zero = omega arith
      by (suc n) = omega arith

  pub any_least : (key : Key) → 8 ≤ listed_length d Any lengths key
  any_least key = by (entry_of d key)
    where
      by : (o : Option ℕ) → 8 ≤ option_map_or (length_of_entry lengths) o (shortest_head key)
      by None = head_least key
      by (Some e) = of_entry_least e

  known_most : (key : Key) → listed_length d Known lengths key ≤ too_long
  known_most key = by (entry_of d key)
    where
      by : (o : Option ℕ) → option_map_or (length_of_entry lengths) o too_long ≤ too_long
      by None = omega arith
      by (Some e) = of_entry_most e

-- ---- the first of a list in order

indexed : {X : Type 0} (xs : List X) (i : ℕ) (x d : X) → slice_get xs i ≡ Some x → slice_index_or xs i d ≡ x
indexed [] i x d at = absurd (none-some x at)
indexed (y ∷ xs) zero x d at = same_Some y x at
indexed (y ∷ xs) (suc i) x d at = indexed xs i x d at

first_is_least : {X : Type 0} (f : X → ℕ) (x : X) (xs : List X) (y : X) → IsNonDecreasingBy f (x ∷ xs) → IsIn y xs → f x ≤ f y
first_is_least f x xs y sorted i =
    let p = at_in xs y i in
    let le : f x ≤ f (slice_index_or xs p.place x) = sorted 0 (suc p.place) x (omega arith) (let within = slice_get_within xs p.place y p.at in omega (arith, within)) in
    let same : f (slice_index_or xs p.place x) ≡ f y = ap f (indexed xs p.place y x p.at) in
    omega (arith, le, same)

rest_sorted : {X : Type 0} (f : X → ℕ) (x : X) (xs : List X) → IsNonDecreasingBy f (x ∷ xs) → IsNonDecreasingBy f xs
rest_sorted f x xs sorted = λ i j z le within. sorted (suc i) (suc j) z (omega (arith, le)) (omega (arith, within))

pub found_is_least : {X : Type 0} (f : X → ℕ) (p : X → Bool) (xs : List X) (y : X) → IsNonDecreasingBy f xs → IsIn y xs → p y ≡ true → option_map_or f (find p xs) too_long ≤ f y
found_is_least f p [] y sorted i t = absurd i
found_is_least {X} f p (x ∷ xs) y sorted i t = by (p x) refl i (found_is_least f p xs y (rest_sorted f x xs sorted))
  where
    by : (b : Bool) → p x ≡ b → IsIn y (x ∷ xs) → (IsIn y xs → p y ≡ true → option_map_or f (find p xs) too_long ≤ f y) → option_map_or f (if b then Some x else find p xs) too_long ≤ f y
    by true e (inl same) ih = let own : f x ≡ f y = ap f (sym same) in omega (arith, own)
    by true e (inr j) ih = first_is_least f x xs y sorted j
    by false e (inl same) ih = absurd (let bad : false ≡ true = sym e ∙ ap p (sym same) ∙ t in cc)
    by false e (inr j) ih = ih j t

found_most : (f : Key → ℕ) → ((key : Key) → f key ≤ too_long) → (o : Option Key) → option_map_or f o too_long ≤ too_long
found_most f most None = omega arith
found_most f most (Some key) = most key

-- one key more
map_append : {X Y : Type 0} (f : X → Y) (xs ys : List X) → map f (xs ++ ys) ≡ map f xs ++ map f ys
map_append f [] ys = refl
map_append f (x ∷ xs) ys = ap (λ zs. f x ∷ zs) (map_append f xs ys)

pub one_key_more : (entries : List DictEntry) (i : ℕ) (entry : DictEntry) (key : Key) → slice_get entries i ≡ Some entry → key ≡ entry.key
    → map (λ (e : DictEntry). e.key) (take i entries) ++ key ∷ [] ≡ map (λ (e : DictEntry). e.key) (take (i + 1) entries)
one_key_more entries i entry key at same =
    ap (λ (k : Key). map (λ (e : DictEntry). e.key) (take i entries) ++ k ∷ []) same
    ∙ sym (ap (map (λ (e : DictEntry). e.key)) (taken entries i entry at) ∙ map_append (λ (e : DictEntry). e.key) (take i entries) (entry ∷ []))

-- ---- the law

module _ (da db : Dictionary) (lengths : List ℕ) (others : List Key) (sa : IsDictionary da) (sb : IsDictionary db) (x y : ℕ) where
  abbrev test : Key → Bool
  test = is_outside (rules_in da x) (rules_in db y)

  outside : (key : Key) → is_listed (rules_in da x) key ≡ false → is_listed (rules_in db y) key ≡ false → test key ≡ true
  outside key la lb = ap (λ (b : Bool). not b && not (is_listed (rules_in db y) key)) la ∙ ap (λ (b : Bool). not b) lb

  by_any : AreExactlyOthers da db Any lengths others → FirstIsShortest (other_length da Any lengths) others (rules_in da x) (rules_in db y)
  by_any (own, stranger, is) = λ key la lb.
      let na = stranger.strange.0 in
      let vendor = stranger.vendor in
      let passes = outside own (unlisted da x own sa na) (unlisted db y own sb stranger.strange.1) in
      let found : find test others ≡ Some own = ap (find test) is ∙ ap (λ (b : Bool). if b then Some own else None) passes in
      let length_own : listed_length da Any lengths own ≡ 8 = ap (λ (o : Option ℕ). option_map_or (length_of_entry lengths) o (shortest_head own)) na
      ∙ ap (λ (n : ℕ). shortest_head (record { code = own.code; vendor = n })) vendor in
      let is_eight : option_map_or (other_length da Any lengths) (find test others) too_long ≡ 8 = ap (λ (o : Option Key). option_map_or (other_length da Any lengths) o too_long) found ∙ length_own in
      let least = any_least da lengths key in
      omega (arith, is_eight, least)

  by_known : AreExactlyOthers da db Known lengths others → FirstIsShortest (other_length da Known lengths) others (rules_in da x) (rules_in db y)
  by_known (sorted, all, stable) = λ key la lb. by key (outside key la lb) (entry_of da key) refl
    where
      by : (key : Key) → test key ≡ true → (o : Option ℕ) → entry_of da key ≡ o → option_map_or (other_length da Known lengths) (find test others) too_long ≤ other_length da Known lengths key
      by key t (Some i) e =
          let i = key_in da key i e in
          let there = in_contains others key (Contains-permutation (map (λ e. e.key) da.entries) others key all (contains_in (map (λ e. e.key) da.entries) key i)) in
          found_is_least (listed_length da Known lengths) test others key sorted there t
      by key t None e =
          let most = found_most (listed_length da Known lengths) (known_most da lengths) (find test others) in
          let own : listed_length da Known lengths key ≡ too_long = ap (λ (o : Option ℕ). option_map_or (length_of_entry lengths) o too_long) e in
          omega (arith, most, own)

  by_listed : FirstIsShortest (other_length da Listed lengths) others (rules_in da x) (rules_in db y)
  by_listed = λ key la lb. found_most (other_length da Listed lengths) (λ k. omega arith) (find test others)

by_sender : (da db : Dictionary) (who : Sends) (lengths : List ℕ) (others : List Key) → IsDictionary da → IsDictionary db → AreExactlyOthers da db who lengths others
    → (x y : ℕ) → FirstIsShortest (other_length da who lengths) others (rules_in da x) (rules_in db y)
by_sender da db Any lengths others sa sb are x y = by_any da db lengths others sa sb x y are
by_sender da db Known lengths others sa sb are x y = by_known da db lengths others sa sb x y are
by_sender da db Filled lengths others sa sb are x y = by_known da db lengths others sa sb x y are
by_sender da db Listed lengths others sa sb are x y = by_listed da db lengths others sa sb x y

pub first_is_shortest : (da db : Dictionary) (who : Sends) (lengths : List ℕ) (others : List Key) → IsDictionary da → IsDictionary db → AreExactlyOthers da db who lengths others
    → PicksShortest da db (costs_by da who lengths others)
first_is_shortest da db who lengths others sa sb are x y = by (is_open who (rules_in da x))
  where
    by : (b : Bool) → FirstIsShortest (prices_where b (costs_by da who lengths others)).other (prices_where b (costs_by da who lengths others)).others (rules_in da x) (rules_in db y)
    by true = by_sender da db who lengths others sa sb are x y
    by false = λ key la lb. omega arith
