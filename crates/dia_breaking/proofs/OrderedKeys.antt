-- The keys that are sent, in order: the stranger, and that no key occurs twice.
use Rattle.std.proofs.Common.{◌≡◌, ℕ, zero, suc, ◌+◌, ◌<◌, ◌≤◌, Bool, not, List, [], ◌∷◌, ◌++◌, length, map, Option, Some, None, refl, sym, ap, subst, ◌∙◌, arith, inl, inr}
use Rattle.std.specs.Prelude.{◌⊎◌, is_some, IsSome, slice_get}
use Rattle.std.proofs.lemmas.Bool.{both_ways, cases_lt, not-true}
use Rattle.std.proofs.lemmas.Option.{none-some, same_Some}
use Rattle.dia_wire.specs.declared.Key.{Key}
use Rattle.dia_book.specs.Keys.{same_key}
use Rattle.dia_book.specs.Dictionary.{Dictionary, DictEntry, IsDictionary, entry_of}
use Rattle.dia_book.proofs.Members.{AreApart, AreApart-filter, at_append, at_filter, at_map, position-is_some}
use Rattle.dia_book.proofs.SameKeys.{same_key-equal}
use Rattle.dia_terms.specs.declared.Sends.{Sends}
use Rattle.dia_terms.specs.declared.Sends.TheVariants.{Any, Known, Filled, Listed}
use Rattle.dia_breaking.specs.SentKeys.{AreSentInOrder, IsStrange, IsStranger, entry_keys, keys_of_b_alone}

-- ---- the stranger

-- the first strange key is the stranger, where all codes before it are known
pub is_stranger : (da db : Dictionary) (key : Key) → IsStrange da db key → key.vendor ≡ 0
    → ((code : ℕ) → code < key.code → IsSome (entry_of da (record { code = code; vendor = 0 })) ⊎ IsSome (entry_of db (record { code = code; vendor = 0 }))) → IsStranger da db key
is_stranger da db key strange vendor below = record {
  strange = strange;
  vendor = vendor;
  least = λ other there none. by other there none (cases_lt other.code key.code);
}
  where
    key_of : (other : Key) → other.vendor ≡ 0 → record { code = other.code; vendor = 0 } ≡ other
    key_of other none = λ i. record { code = other.code; vendor = sym none i }

    known : (d : Dictionary) (other : Key) → other.vendor ≡ 0 → entry_of d other ≡ None → IsSome (entry_of d (record { code = other.code; vendor = 0 })) → ⊥
    known d other none missing some = both_ways (is_some (entry_of d other)) (ap (λ (o : Option ℕ). is_some o) missing) (ap (λ (k : Key). is_some (entry_of d k)) (sym (key_of other none)) ∙ some)

    by : (other : Key) → IsStrange da db other → other.vendor ≡ 0 → (other.code < key.code) ⊎ (key.code ≤ other.code) → key.code ≤ other.code
    by other there none (inr le) = le
    by other there none (inl lt) = absurd (clash (below other.code lt))
      where
        clash : IsSome (entry_of da (record { code = other.code; vendor = 0 })) ⊎ IsSome (entry_of db (record { code = other.code; vendor = 0 })) → ⊥
        clash (inl some) = known da other none there.0 some
        clash (inr some) = known db other none there.1 some

-- ---- no key occurs twice

pub apart_map : {X Y : Type 0} (f : X → Y) (xs : List X) → AreApart f xs → AreApart (λ (y : Y). y) (map f xs)
apart_map f xs apart = λ i j x y at at' same.
    let r = at_map f xs i x at in
    let s = at_map f xs j y at' in
    apart i j r.0 s.0 r.1 s.1 (r.2 ∙ same ∙ sym s.2)

pub apart_of_images : {X Y : Type 0} (f : X → Y) (xs : List X) (ys : List Y) → map f xs ≡ ys → AreApart (λ (y : Y). y) ys → AreApart f xs
apart_of_images {X} {Y} f xs ys is apart = λ i j x y at at' same. apart i j (f x) (f y) (into i x at) (into j y at') same
  where
    there : (zs : List X) (n : ℕ) (z : X) → slice_get zs n ≡ Some z → slice_get (map f zs) n ≡ Some (f z)
    there [] n z at = absurd (none-some z at)
    there (w ∷ zs) zero z at = ap (λ v. Some (f v)) (same_Some w z at)
    there (w ∷ zs) (suc n) z at = there zs n z at

    into : (n : ℕ) (z : X) → slice_get xs n ≡ Some z → slice_get ys n ≡ Some (f z)
    into n z at = ap (λ (zs : List Y). slice_get zs n) (sym is) ∙ there xs n z at

apart_append : {X : Type 0} (xs ys : List X) → AreApart (λ (x : X). x) xs → AreApart (λ (x : X). x) ys
    → ((i j : ℕ) (x : X) → slice_get xs i ≡ Some x → slice_get ys j ≡ Some x → ⊥) → AreApart (λ (x : X). x) (xs ++ ys)
apart_append {X} xs ys first second never = λ i j x y at at' same. by i j x y same (at_append xs ys i x at) (at_append xs ys j y at')
  where
    by : (i j : ℕ) (x y : X) → x ≡ y → (slice_get xs i ≡ Some x) ⊎ ((k : ℕ) × (i ≡ length xs + k) × (slice_get ys k ≡ Some x))
        → (slice_get xs j ≡ Some y) ⊎ ((k : ℕ) × (j ≡ length xs + k) × (slice_get ys k ≡ Some y)) → i ≡ j
    by i j x y same (inl at) (inl at') = first i j x y at at' same
    by i j x y same (inl at) (inr r) = absurd (never i r.0 x at (r.2 ∙ ap (λ (z : X). Some z) (sym same)))
    by i j x y same (inr r) (inl at) = absurd (never j r.0 x (at ∙ ap (λ (z : X). Some z) (sym same)) r.2)
    by i j x y same (inr r) (inr s) = let e = second r.0 s.0 x y r.2 s.2 same in omega (arith, e, r.1, s.1)

-- a key of an entry is known
pub known_entry : (d : Dictionary) (i : ℕ) (key : Key) → slice_get (entry_keys d) i ≡ Some key → IsSome (entry_of d key)
known_entry d i key at =
    let r = at_map (λ (e : DictEntry). e.key) d.entries i key at in
    position-is_some (λ (e : DictEntry). same_key key e.key) d.entries i r.0 r.1 (same_key-equal key r.0.key (sym r.2))

unknown_entry : (d : Dictionary) (i : ℕ) (key : Key) → entry_of d key ≡ None → slice_get (entry_keys d) i ≡ Some key → ⊥
unknown_entry d i key none at = both_ways (is_some (entry_of d key)) (ap (λ (o : Option ℕ). is_some o) none) (known_entry d i key at)

module _ (da db : Dictionary) (sa : IsDictionary da) (sb : IsDictionary db) where
  of_a : AreApart (λ (k : Key). k) (entry_keys da)
  of_a = apart_map (λ (e : DictEntry). e.key) da.entries sa.distinct_keys

  abbrev unknown_to_a : Key → Bool
  unknown_to_a key = not (is_some (entry_of da key))

  of_b : AreApart (λ (k : Key). k) (keys_of_b_alone da db)
  of_b = AreApart-filter (λ (k : Key). k) unknown_to_a (entry_keys db) (apart_map (λ (e : DictEntry). e.key) db.entries sb.distinct_keys)

  of_both : AreApart (λ (k : Key). k) (entry_keys da ++ keys_of_b_alone da db)
  of_both = apart_append (entry_keys da) (keys_of_b_alone da db) of_a of_b (λ i j key at at'.
      let r = at_filter unknown_to_a (entry_keys db) j key at' in
      both_ways (is_some (entry_of da key)) (not-true (is_some (entry_of da key)) r.2) (known_entry da i key at))

  one_alone : (stranger : Key) → AreApart (λ (k : Key). k) (stranger ∷ [])
  one_alone stranger zero zero x y at at' same = refl
  one_alone stranger zero (suc j) x y at at' same = absurd (none-some y at')
  one_alone stranger (suc i) j x y at at' same = absurd (none-some x at)

  the_stranger : (stranger : Key) (j : ℕ) (key : Key) → slice_get (stranger ∷ []) j ≡ Some key → stranger ≡ key
  the_stranger stranger zero key at = same_Some stranger key at
  the_stranger stranger (suc j) key at = absurd (none-some key at)

  of_all : (stranger : Key) → IsStranger da db stranger → AreApart (λ (k : Key). k) ((entry_keys da ++ keys_of_b_alone da db) ++ stranger ∷ [])
  of_all stranger is = apart_append (entry_keys da ++ keys_of_b_alone da db) (stranger ∷ []) of_both (one_alone stranger) (λ i j key at at'.
      never i key (the_stranger stranger j key at') (at_append (entry_keys da) (keys_of_b_alone da db) i key at))
    where
      never : (i : ℕ) (key : Key) → stranger ≡ key → (slice_get (entry_keys da) i ≡ Some key) ⊎ ((k : ℕ) × (i ≡ length (entry_keys da) + k) × (slice_get (keys_of_b_alone da db) k ≡ Some key)) → ⊥
      never i key same (inl at) = unknown_entry da i key (ap (entry_of da) (sym same) ∙ is.strange.0) at
      never i key same (inr r) =
          let s = at_filter unknown_to_a (entry_keys db) r.0 key r.2 in
          unknown_entry db s.0 key (ap (entry_of db) (sym same) ∙ is.strange.1) s.1

  pub sent_apart : (who : Sends) (keys : List Key) → AreSentInOrder da db who keys → AreApart (λ (k : Key). k) keys
  sent_apart Any keys (stranger, is, are) = subst (AreApart (λ (k : Key). k)) (sym are) (of_all stranger is)
  sent_apart Known keys are = subst (AreApart (λ (k : Key). k)) (sym are) of_a
  sent_apart Filled keys are = subst (AreApart (λ (k : Key). k)) (sym are) of_a
  sent_apart Listed keys are = subst (AreApart (λ (k : Key). k)) (sym are) of_a
