-- Some key without vendor is unknown to a dictionary, which has fewer entries than there are codes.
use Rattle.std.proofs.Common.{◌≡◌, ℕ, zero, suc, ◌^◌, ◌<◌, ◌≤◌, false, true, List, [], ◌∷◌, length, Option, Some, None, refl, sym, ap, subst, ◌∙◌, arith, inl, inr}
use Rattle.std.specs.Prelude.{◌⊎◌, map, slice_get, option_and_then, IsSome, is_some}
use Rattle.std.proofs.lemmas.Bool.{cases_lt}
use Rattle.std.proofs.lemmas.List.{length-map}
use Rattle.dia_wire.specs.declared.Key.{Key}
use Rattle.dia_book.specs.Limits.{max_parts}
use Rattle.dia_book.specs.Dictionary.{Dictionary, DictEntry, IsDictionary, entry_of}
use Rattle.dia_valid.specs.Valid.{known}
use Rattle.dia_valid.proofs.Members.{in_at, IsIn}
use Rattle.dia_breaking_shortest.specs.Least.{IsFirstUnknown}
use Rattle.dia_breaking_shortest.proofs.FloorsOfLengths.{entry_at}

-- a key without vendor that can be spelled, and that the dictionary doesn't know
pub record IsStranger (d : Dictionary) (key : Key) : Type 0 where
  pub unknown : known d key ≡ None
  pub vendor : key.vendor ≡ 0
  pub code : key.code < 2 ^ 32

-- a list without one of its members
remove_one : {X : Type 0} (xs : List X) (x : X) → IsIn x xs → (rest : List X) × (length xs ≡ suc (length rest)) × ((y : X) → (y ≡ x → ⊥) → IsIn y xs → IsIn y rest)
remove_one [] x i = absurd i
remove_one {X} (z ∷ xs) x (inl e) = (xs, refl, λ y never i. by y never i)
  where
    by : (y : X) → (y ≡ x → ⊥) → (y ≡ z) ⊎ IsIn y xs → IsIn y xs
    by y never (inl f) = absurd (never (f ∙ sym e))
    by y never (inr i) = i
remove_one {X} (z ∷ xs) x (inr i) =
    let (rest, len, kept) = remove_one xs x i in
    (z ∷ rest, ap suc len, λ y never j. by rest kept y never j)
  where
    by : (rest : List X) → ((y : X) → (y ≡ x → ⊥) → IsIn y xs → IsIn y rest) → (y : X) → (y ≡ x → ⊥) → (y ≡ z) ⊎ IsIn y xs → IsIn y (z ∷ rest)
    by rest kept y never (inl f) = inl f
    by rest kept y never (inr i) = inr (kept y never i)

-- the key of a code, without vendor
abbrev pub key_at : ℕ → Key
key_at code = record { code = code; vendor = 0 }

-- a list that has the keys of all codes below n has at least n keys
pub at_most : (n : ℕ) (keys : List Key) → ((code : ℕ) → code < n → IsIn (key_at code) keys) → n ≤ length keys
at_most zero keys all = omega arith
at_most (suc n) keys all =
    let (rest, len, kept) = remove_one keys (key_at n) (all n (omega arith)) in
    let ih = at_most n rest (λ code lt. kept (key_at code) (λ e. let same : code ≡ n = ap (λ (k : Key). k.code) e in omega (arith, lt, same)) (all code (omega (arith, lt)))) in
    omega (arith, len, ih)

pub in_map : {X Y : Type 0} (f : X → Y) (xs : List X) (x : X) → IsIn x xs → IsIn (f x) (map f xs)
in_map f [] x i = absurd i
in_map f (y ∷ xs) x (inl e) = inl (ap f e)
in_map f (y ∷ xs) x (inr i) = inr (in_map f xs x i)

-- a key that the dictionary knows is that of one of its entries
pub key_in : (d : Dictionary) (key : Key) (i : ℕ) → entry_of d key ≡ Some i → IsIn key (map (λ e. e.key) d.entries)
key_in d key i is =
    let h = entry_at d key i is in
    subst (λ (k : Key). IsIn k (map (λ e. e.key) d.entries)) h.own (in_map (λ (e : DictEntry). e.key) d.entries h.entry (in_at d.entries h.place h.entry h.at))

-- the codes below n are known without vendor
abbrev pub AreKnown : Dictionary → ℕ → Type 0
AreKnown d n = (code : ℕ) → code < n → IsSome (entry_of d (key_at code))

pub known_on : (d : Dictionary) (n i : ℕ) → entry_of d (key_at n) ≡ Some i → AreKnown d n → AreKnown d (suc n)
known_on d n i some all = λ code lt. by code (cases_lt code n) lt
  where
    by : (code : ℕ) → (code < n) ⊎ (n ≤ code) → code < suc n → IsSome (entry_of d (key_at code))
    by code (inl less) lt = all code less
    by code (inr le) lt = let same : n ≡ code = omega (arith, le, lt) in subst (λ (k : ℕ). IsSome (entry_of d (key_at k))) same (subst IsSome (sym some) refl)

known_or_not : (d : Dictionary) (n : ℕ) → AreKnown d n ⊎ ((code : ℕ) × (code < n) × (entry_of d (key_at code) ≡ None))
known_or_not d zero = inl (λ code lt. absurd (omega (arith, lt)))
known_or_not d (suc n) = by (entry_of d (key_at n)) refl (known_or_not d n)
  where
    by : (o : Option ℕ) → entry_of d (key_at n) ≡ o → AreKnown d n ⊎ ((code : ℕ) × (code < n) × (entry_of d (key_at code) ≡ None))
        → AreKnown d (suc n) ⊎ ((code : ℕ) × (code < suc n) × (entry_of d (key_at code) ≡ None))
    by o e (inr (code, lt, none)) = inr (code, omega (arith, lt), none)
    by None e (inl all) = inr (n, omega arith, e)
    by (Some i) e (inl all) = inl (known_on d n i e all)

-- a dictionary doesn't know as many
pub not_all_known : (d : Dictionary) (n : ℕ) → IsDictionary d → max_parts < n → AreKnown d n → ⊥
not_all_known d n is many all =
    let le = at_most n (map (λ e. e.key) d.entries) (λ code lt. there code (entry_of d (key_at code)) refl (all code lt)) in
    let size = length-map d.entries (λ e. e.key) in
    let few = is.few in
    omega (arith, le, size, few, many)
  where
    there : (code : ℕ) (o : Option ℕ) → entry_of d (key_at code) ≡ o → IsSome o → IsIn (key_at code) (map (λ e. e.key) d.entries)
    there code None e some = absurd (let bad : false ≡ true = some in cc)
    there code (Some i) e some = key_in d (key_at code) i e

-- the first that isn't known
pub first_unknown : (d : Dictionary) (key : Key) (found : Option ℕ) → found ≡ entry_of d key → is_some found ≡ false → key.vendor ≡ 0 → AreKnown d key.code → IsFirstUnknown d key
first_unknown d key found is none vendor all = record {
  unknown = missing (entry_of d key) (ap is_some (sym is) ∙ none);
  vendor = vendor;
  least = λ other unknown zero_is. by other unknown zero_is (cases_lt other.code key.code);
}
  where
    missing : (o : Option ℕ) → is_some o ≡ false → o ≡ None
    missing None e = refl
    missing (Some i) e = absurd (let bad : true ≡ false = e in cc)

    same : (other : Key) → other.vendor ≡ 0 → key_at other.code ≡ other
    same other zero_is = λ i. record { code = other.code; vendor = sym zero_is i }

    by : (other : Key) → entry_of d other ≡ None → other.vendor ≡ 0 → (other.code < key.code) ⊎ (key.code ≤ other.code) → key.code ≤ other.code
    by other unknown zero_is (inr le) = le
    by other unknown zero_is (inl lt) =
        absurd (let bad : false ≡ true = sym (ap is_some (ap (entry_of d) (same other zero_is) ∙ unknown)) ∙ all other.code lt in cc)

stranger_below : (d : Dictionary) (n : ℕ) → IsDictionary d → max_parts < n → n < 2 ^ 32 → (key : Key) × IsStranger d key
stranger_below d n is many small = by (known_or_not d n)
  where
    by : AreKnown d n ⊎ ((code : ℕ) × (code < n) × (entry_of d (key_at code) ≡ None)) → (key : Key) × IsStranger d key
    by (inl all) = absurd (not_all_known d n is many all)
    by (inr (code, lt, none)) = (
      key_at code,
      record { unknown = ap (λ (o : Option ℕ). option_and_then (λ i. slice_get d.entries i) o) none; vendor = refl; code = omega (arith, lt, small) },
    )

pub stranger : (d : Dictionary) → IsDictionary d → (key : Key) × IsStranger d key
stranger d is = stranger_below d (suc max_parts) is (omega arith) (omega arith)
