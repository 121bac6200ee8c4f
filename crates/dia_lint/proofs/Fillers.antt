-- The first key that a wildcard lets in is one of a shortest AVP.
use Rattle.std.proofs.Common.{◌≡◌, ℕ, zero, suc, ◌≤◌, Bool, true, false, List, [], ◌∷◌, ◌++◌, take, Option, Some, None, Result, Ok, Err, refl, sym, ap, subst, ◌∙◌, arith, inl, inr, ◌+◌}
use Rattle.std.specs.Prelude.{◌⊎◌, if◌then◌else◌, map, not, find, IfOk, IsSome, slice_get, slice_index_or, Contains}
use Rattle.std.specs.List.Sorted.{IsNonDecreasingBy}
use Rattle.std.specs.Option.{option_map_or}
use Rattle.std.proofs.lemmas.List.Sorted.{Contains-permutation}
use Rattle.std.proofs.lemmas.Option.{none-some, same_Some, slice_get_within}
use Rattle.dia_wire.specs.declared.Key.{Key}
use Rattle.dia_book.specs.declared.DRule.{DRule}
use Rattle.dia_book.specs.Dictionary.{Dictionary, DictEntry, PlainDefinition, IsDictionary, entry_of, definitions}
use Rattle.dia_valid.specs.Valid.{is_listed}
use Rattle.dia_valid.proofs.Members.{IsIn, at_in, contains_in, in_contains, taken}
use Rattle.dia_terms.specs.declared.Sends.{Sends}
use Rattle.dia_terms.specs.declared.Sends.TheVariants.{Any, Known, Filled, Listed}
use Rattle.dia_breaking_levels.specs.LevelTests.{too_long, least_filler}
use Rattle.dia_breaking_levels.specs.Levels.{OtherIsShortest}
use Rattle.dia_breaking_levels.proofs.FloorBounds.{rule_of_listed}
use Rattle.dia_breaking_levels.proofs.LeastLevels.{not_true}
use Rattle.dia_breaking_shortest.specs.Exact.{AreExact, IsFillerLength}
use Rattle.dia_breaking_shortest.specs.Floors.{shortest_head}
use Rattle.dia_breaking_shortest.specs.Least.{IsFirstUnknown}
use Rattle.dia_breaking_shortest.specs.Lengths.{entry_length, unknown_length, length_of}
use Rattle.dia_breaking_shortest.proofs.FloorsOfLengths.{entry_at}
use Rattle.dia_breaking_shortest.proofs.LeafLengths.{head_long, leaf_within}
use Rattle.dia_breaking_shortest.proofs.LessLengths.{group_heads}
use Rattle.dia_breaking_shortest.proofs.Strangers.{key_in}
use Rattle.dia_lint.specs.Costs.{AreOthers, other_length}

-- ---- the first of a list in order

indexed : {X : Type 0} (xs : List X) (i : ℕ) (x d : X) → slice_get xs i ≡ Some x → slice_index_or xs i d ≡ x
indexed [] i x d at = absurd (none-some x at)
indexed (y ∷ xs) zero x d at = same_Some y x at
indexed (y ∷ xs) (suc i) x d at = indexed xs i x d at

first_is_least : {X : Type 0} (f : X → ℕ) (x : X) (xs : List X) (y : X) → IsNonDecreasingBy f (x ∷ xs) → IsIn y xs → f x ≤ f y
first_is_least f x xs y sorted i =
    let p = at_in xs y i in
    let le : f x ≤ f (slice_index_or xs p.place x) = sorted 0 (suc p.place) x (omega arith) (let within = slice_get_within xs p.place y p.at in omega (arith, within)) in
    let same : f (slice_index_or xs p.place x) ≡ f y = ap f (indexed xs p.place y x p.at) in
    omega (arith, le, same)

rest_sorted : {X : Type 0} (f : X → ℕ) (x : X) (xs : List X) → IsNonDecreasingBy f (x ∷ xs) → IsNonDecreasingBy f xs
rest_sorted f x xs sorted = λ i j z le within. sorted (suc i) (suc j) z (omega (arith, le)) (omega (arith, within))

found_is_least : (f : Key → ℕ) (p : Key → Bool) (n : ℕ) (xs : List Key) (y : Key) → IsNonDecreasingBy f xs → IsIn y xs → p y ≡ true → option_map_or f (find p xs) n ≤ f y
found_is_least f p n [] y sorted i t = absurd i
found_is_least f p n (x ∷ xs) y sorted i t = by (p x) refl i (found_is_least f p n xs y (rest_sorted f x xs sorted))
  where
    by : (b : Bool) → p x ≡ b → IsIn y (x ∷ xs) → (IsIn y xs → p y ≡ true → option_map_or f (find p xs) n ≤ f y) → option_map_or f (if b then Some x else find p xs) n ≤ f y
    by true e (inl same) ih = let own : f x ≡ f y = ap f (sym same) in omega (arith, own)
    by true e (inr j) ih = first_is_least f x xs y sorted j
    by false e (inl same) ih = absurd (let bad : false ≡ true = sym e ∙ ap p (sym same) ∙ t in cc)
    by false e (inr j) ih = ih j t

found_passes : (p : Key → Bool) (xs : List Key) (q : Key) → find p xs ≡ Some q → p q ≡ true
found_passes p [] q = λ e. absurd (none-some q e)
found_passes p (x ∷ xs) q = by (p x) refl (found_passes p xs q)
  where
    by : (b : Bool) → p x ≡ b → (find p xs ≡ Some q → p q ≡ true) → (if b then Some x else find p xs) ≡ Some q → p q ≡ true
    by true e ih is = ap p (sym (same_Some x q is)) ∙ e
    by false e ih is = ih is

-- ---- lengths are within bounds

module _ (d : Dictionary) (sends : Sends) (lengths : List ℕ) (exact : AreExact d sends lengths) where
  entry_within : (i : ℕ) (entry : DictEntry) → slice_get d.entries i ≡ Some entry → (8 ≤ entry_length lengths i) × (entry_length lengths i ≤ too_long)
  entry_within i entry at = by entry.group refl
    where
      by : (o : Option PlainDefinition) → entry.group ≡ o → (8 ≤ entry_length lengths i) × (entry_length lengths i ≤ too_long)
      by None e = leaf_within entry (entry_length lengths i) (exact.leaves i entry at e)
      by (Some group) e =
          let (a, is_a, is) = exact.groups i entry group at e in
          let low = group_heads (length_of d sends lengths) a entry.key group.rules in
          (omega (arith, is, low), omega (arith, is))

  pub length_within : (key : Key) → (8 ≤ length_of d sends lengths key) × (length_of d sends lengths key ≤ too_long)
  length_within key = by (entry_of d key) refl
    where
      unknown : (s : Sends) → (8 ≤ unknown_length s key) × (unknown_length s key ≤ too_long)
      unknown Any = (head_long key, short key.vendor)
        where
          short : (n : ℕ) → shortest_head (record { code = key.code; vendor = n }) ≤ too_long
          short zero = omega arith
          short (suc n) = omega arith
      unknown Known = (omega arith, omega arith)
      unknown Filled = (omega arith, omega arith)
      unknown Listed = (omega arith, omega arith)

      by : (o : Option ℕ) → entry_of d key ≡ o
          → (8 ≤ option_map_or (entry_length lengths) o (unknown_length sends key)) × (option_map_or (entry_length lengths) o (unknown_length sends key) ≤ too_long)
      by None e = unknown sends
      by (Some i) e = let h = entry_at d key i e in entry_within i h.entry h.at

-- ---- the first that a wildcard lets in

abbrev unlisted : List DRule → Key → Bool
unlisted rules key = not (is_listed rules key)

module _ (d : Dictionary) (lengths : List ℕ) (is : IsDictionary d) (def : PlainDefinition) (has : Contains (definitions d) def) where
  strange_unlisted : (key : Key) → entry_of d key ≡ None → is_listed def.rules key ≡ false
  strange_unlisted key none = by (is_listed def.rules key) refl
    where
      by : (b : Bool) → is_listed def.rules key ≡ b → b ≡ false
      by false e = refl
      by true e =
          let r = rule_of_listed def.rules key e in
          let some = is.known_keys def r.0 key has (contains_in def.rules r.0 r.1) r.2 in
          let bad : false ≡ true = subst IsSome none some in
          absurd cc

  strange_filler : (key : Key) → IsFirstUnknown d key → least_filler (other_length d Any lengths) (key ∷ []) def.rules ≡ 8
  strange_filler key first =
      let found = ap (λ (b : Bool). option_map_or (other_length d Any lengths) (if not b then Some key else None) too_long) (strange_unlisted key first.unknown) in
      let unknown = ap (λ (o : Option ℕ). option_map_or (entry_length lengths) o (shortest_head key)) first.unknown in
      let short = ap (λ (n : ℕ). shortest_head (record { code = key.code; vendor = n })) first.vendor in
      found ∙ unknown ∙ short

  known_filler : (others : List Key) → AreExact d Known lengths → AreOthers d Known lengths others
      → IsFillerLength d Known lengths def.rules (least_filler (other_length d Known lengths) others def.rules)
  known_filler others exact (sorted, all) = record {
    none_is_shorter = λ key free. none key free (entry_of d key) refl;
    one_is_as_short = one (find (unlisted def.rules) others) refl;
  }
    where
      most : (o : Option Key) → option_map_or (length_of d Known lengths) o too_long ≤ too_long
      most None = omega arith
      most (Some q) = (length_within d Known lengths exact q).1

      none : (key : Key) → is_listed def.rules key ≡ false → (o : Option ℕ) → entry_of d key ≡ o
          → option_map_or (length_of d Known lengths) (find (unlisted def.rules) others) too_long ≤ length_of d Known lengths key
      none key free None e =
          let unknown : length_of d Known lengths key ≡ too_long = ap (λ (o : Option ℕ). option_map_or (entry_length lengths) o too_long) e in
          let le = most (find (unlisted def.rules) others) in
          omega (arith, unknown, le)
      none key free (Some i) e =
          let known = contains_in (map (λ (x : DictEntry). x.key) d.entries) key (key_in d key i e) in
          let there = in_contains others key (Contains-permutation (map (λ (x : DictEntry). x.key) d.entries) others key all known) in
          found_is_least (length_of d Known lengths) (unlisted def.rules) too_long others key sorted there (ap not free)

      one : (o : Option Key) → find (unlisted def.rules) others ≡ o → (option_map_or (length_of d Known lengths) o too_long ≡ too_long)
          ⊎ ((key : Key) × (is_listed def.rules key ≡ false) × (option_map_or (length_of d Known lengths) o too_long ≡ length_of d Known lengths key))
      one None e = inl refl
      one (Some q) e = inr (q, not_true (is_listed def.rules q) (found_passes (unlisted def.rules) others q e), refl)

  pub filler_is : (sends : Sends) (others : List Key) → AreExact d sends lengths → AreOthers d sends lengths others
      → IsFillerLength d sends lengths def.rules (least_filler (other_length d sends lengths) others def.rules)
  filler_is Any others exact (key, first, are) = ap (λ (keys : List Key). least_filler (other_length d Any lengths) keys def.rules) are ∙ strange_filler key first
  filler_is Known others exact are = known_filler others exact are
  filler_is Filled others exact are = ap (λ (keys : List Key). least_filler (other_length d Filled lengths) keys def.rules) are
  filler_is Listed others exact are = ap (λ (keys : List Key). least_filler (other_length d Listed lengths) keys def.rules) are

  -- none that a wildcard lets in is shorter
  pub filler_least : (sends : Sends) (others : List Key) → AreExact d sends lengths → AreOthers d sends lengths others → OtherIsShortest (other_length d sends lengths) others def.rules
  filler_least Any others exact are = λ key free.
      let eight : least_filler (other_length d Any lengths) others def.rules ≡ 8 = filler_is Any others exact are in
      let low = (length_within d Any lengths exact key).0 in
      omega (arith, eight, low)
  filler_least Known others exact are = λ key free. (known_filler others exact are).none_is_shorter key free
  filler_least Filled others exact are = λ key free. let most : least_filler (other_length d Filled lengths) others def.rules ≡ too_long = filler_is Filled others exact are in omega (arith, most)
  filler_least Listed others exact are = λ key free. let most : least_filler (other_length d Listed lengths) others def.rules ≡ too_long = filler_is Listed others exact are in omega (arith, most)

-- ---- keys, one after the other

map_append : {X Y : Type 0} (f : X → Y) (xs ys : List X) → map f (xs ++ ys) ≡ map f xs ++ map f ys
map_append f [] ys = refl
map_append f (x ∷ xs) ys = ap (λ zs. f x ∷ zs) (map_append f xs ys)

pub one_key_more : (entries : List DictEntry) (i : ℕ) (entry : DictEntry) (key : Key) → slice_get entries i ≡ Some entry → key ≡ entry.key
    → map (λ (e : DictEntry). e.key) (take i entries) ++ key ∷ [] ≡ map (λ (e : DictEntry). e.key) (take (i + 1) entries)
one_key_more entries i entry key at same =
    ap (λ (k : Key). map (λ (e : DictEntry). e.key) (take i entries) ++ k ∷ []) same
    ∙ sym (ap (map (λ (e : DictEntry). e.key)) (taken entries i entry at) ∙ map_append (λ (e : DictEntry). e.key) (take i entries) (entry ∷ []))

-- ---- results

pub when_ok : {X E : Type 0} (P Q : X → Type 0) (r : Result X E) → ((x : X) → P x → Q x) → IfOk r P → IfOk r Q
when_ok P Q (Ok x) f h = f x h
when_ok P Q (Err e) f h = tt

pub when_both : {X E : Type 0} (P Q R : X → Type 0) (r : Result X E) → ((x : X) → P x → Q x → R x) → IfOk r P → IfOk r Q → IfOk r R
when_both P Q R (Ok x) f g h = f x g h
when_both P Q R (Err e) f g h = tt
