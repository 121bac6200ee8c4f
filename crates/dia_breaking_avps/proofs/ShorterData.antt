-- Data that are shorter than the shortest that break are accepted. It is decidable whether data are those of a leaf.
use Rattle.std.proofs.Common.{◌≡◌, ℕ, zero, suc, ◌<◌, ◌≤◌, Bool, true, false, List, [], ◌∷◌, length, map, take, Option, Some, None, refl, sym, ap, subst, arith, inl, inr}
use Rattle.std.specs.Prelude.{◌⊎◌, All, Any, MatchOption, codes, option_and_then, drop, ⊤}
use Rattle.std.specs.Char.{to_ascii_lowercase}
use Rattle.std.specs.List.{list_any}
use Rattle.std.specs.Str.{IsUtf8, is_utf8}
use Rattle.std.proofs.lemmas.Bool.{both_ways, cases_lt, cases_order}
use Rattle.std.proofs.lemmas.Option.{none-some}
use Rattle.std.proofs.lemmas.Str.{IsUtf8-from_is_utf8, is_utf8-from_IsUtf8}
use Rattle.dia_wire.specs.declared.Key.{Key}
use Rattle.dia_data.specs.Number.{number}
use Rattle.dia_data.specs.Plain.{PlainFormat, AnyBytes, FourBytes, EightBytes, Grouped, Address, Utf8String, DiameterIdentity, DiameterUri, Enumerated}
use Rattle.dia_data.specs.Leaf.{IsAddress, IsGraphic, IsLeaf, IsListed, IsWithin, NamesScheme}
use Rattle.dia_data.specs.Ranges.{covers}
use Rattle.dia_data.proofs.Addresses.{address_from_long, long_from_address}
use Rattle.dia_data.proofs.FormatsBelow.{leaf_below}
use Rattle.dia_data.proofs.RangeSets.{any_within}
use Rattle.dia_data.proofs.Schemes.{front_from_scheme, scheme_from_front}
use Rattle.dia_book.specs.declared.DRule.{DRule}
use Rattle.dia_book.specs.Dictionary.{Dictionary, DictEntry, PlainDefinition}
use Rattle.dia_terms.specs.declared.Unknown.{Unknown}
use Rattle.dia_terms.specs.declared.sends.Sends.{Sends}
use Rattle.dia_terms.specs.declared.sends.Sends.TheVariants.{Any as AnySent}
use Rattle.dia_valid.specs.Valid.{Fits, IsLevel, known}
use Rattle.dia_breaking_sites.specs.Sent.{IsSentLevel, IsSentWithin}
use Rattle.dia_breaking_avps.specs.Sent.{IsAcceptedData, IsSentData, IsShortestRefused, group_of}
use Rattle.dia_breaking_avps.proofs.NoLevels.{eight_zeros, empty_level, is_uri, least_uri, no_family, not_empty, not_short, not_zeros, one_letter}

-- ---- what is decidable

abbrev Recorded : Type 0 → Type 0
Recorded P = P ⊎ (¬ P)

both : {P Q : Type 0} → Recorded P → Recorded Q → Recorded (P × Q)
both (inl p) (inl q) = inl (p, q)
both (inr n) q = inr (λ h. n h.0)
both (inl p) (inr n) = inr (λ h. n h.1)

either : {P Q : Type 0} → Recorded P → Recorded Q → Recorded (P ⊎ Q)
either (inl p) q = inl (inl p)
either (inr n) (inl q) = inl (inr q)
either {P} {Q} (inr n) (inr m) = inr neither
  where
    neither : P ⊎ Q → ⊥
    neither (inl p) = n p
    neither (inr q) = m q

same_recorded : (m n : ℕ) → Recorded (m ≡ n)
same_recorded m n = by (cases_order m n)
  where
    by : (m ≡ n) ⊎ ((m < n) ⊎ (n < m)) → Recorded (m ≡ n)
    by (inl e) = inl e
    by (inr (inl lt)) = inr (λ e. omega (arith, lt, e))
    by (inr (inr gt)) = inr (λ e. omega (arith, gt, e))

less_recorded : (m n : ℕ) → Recorded (m < n)
less_recorded m n = by (cases_lt m n)
  where
    by : (m < n) ⊎ (n ≤ m) → Recorded (m < n)
    by (inl lt) = inl lt
    by (inr le) = inr (λ lt. omega (arith, lt, le))

within_recorded : (m n : ℕ) → Recorded (m ≤ n)
within_recorded m n = by (cases_lt n m)
  where
    by : (n < m) ⊎ (m ≤ n) → Recorded (m ≤ n)
    by (inl lt) = inr (λ le. omega (arith, lt, le))
    by (inr le) = inl le

all_recorded : {X : Type 0} (P : X → Type 0) → ((x : X) → Recorded (P x)) → (xs : List X) → Recorded (All P xs)
all_recorded P each [] = inl (λ k d lt. absurd (omega (arith, lt)))
all_recorded {X} P each (x ∷ xs) = by (each x) (all_recorded P each xs)
  where
    cons : P x → All P xs → All P (x ∷ xs)
    cons h rest zero d lt = h
    cons h rest (suc k) d lt = rest k d (omega (arith, lt))

    by : Recorded (P x) → Recorded (All P xs) → Recorded (All P (x ∷ xs))
    by (inl h) (inl rest) = inl (cons h rest)
    by (inl h) (inr n) = inr (λ all. n (λ k d lt. all (suc k) d (omega (arith, lt))))
    by (inr n) rest = inr (λ all. n (all 0 x (omega arith)))

abbrev first_or : List ℕ → ℕ
first_or [] = 0
first_or (x ∷ xs) = x

list_recorded : (xs ys : List ℕ) → Recorded (xs ≡ ys)
list_recorded [] [] = inl refl
list_recorded [] (y ∷ ys) = inr (λ e. let size = ap length e in omega (arith, size))
list_recorded (x ∷ xs) [] = inr (λ e. let size = ap length e in omega (arith, size))
list_recorded (x ∷ xs) (y ∷ ys) = by (same_recorded x y) (list_recorded xs ys)
  where
    by : Recorded (x ≡ y) → Recorded (xs ≡ ys) → Recorded (x ∷ xs ≡ y ∷ ys)
    by (inl e) (inl f) = inl (λ i. e i ∷ f i)
    by (inl e) (inr n) = inr (λ same. n (ap (drop 1) same))
    by (inr n) f = inr (λ same. n (ap first_or same))

-- ---- leaves

address_recorded : (bytes : List ℕ) → Recorded (IsAddress bytes)
address_recorded bytes = by (within_recorded 2 (length bytes)) (same_recorded (number (take 2 bytes)) 1) (same_recorded (number (take 2 bytes)) 2) (same_recorded (length bytes) 6) (same_recorded (length bytes) 18)
  where
    long : 2 ≤ length bytes → (number (take 2 bytes) ≡ 1 → length bytes ≡ 6) → (number (take 2 bytes) ≡ 2 → length bytes ≡ 18) → Recorded (IsAddress bytes)
    long family ipv4 ipv6 = inl (address_from_long bytes (record { family = family; ipv4 = ipv4; ipv6 = ipv6 }))

    by : Recorded (2 ≤ length bytes) → Recorded (number (take 2 bytes) ≡ 1) → Recorded (number (take 2 bytes) ≡ 2) → Recorded (length bytes ≡ 6) → Recorded (length bytes ≡ 18) → Recorded (IsAddress bytes)
    by (inr short) one two six eighteen = inr (λ a. short (long_from_address bytes a).family)
    by (inl le) (inl one) two (inl six) eighteen = long le (λ e. six) (λ e. absurd (omega (arith, one, e)))
    by (inl le) (inl one) two (inr other) eighteen = inr (λ a. other ((long_from_address bytes a).ipv4 one))
    by (inl le) (inr one) (inl two) six (inl eighteen) = long le (λ e. absurd (one e)) (λ e. eighteen)
    by (inl le) (inr one) (inl two) six (inr other) = inr (λ a. other ((long_from_address bytes a).ipv6 two))
    by (inl le) (inr one) (inr two) six eighteen = long le (λ e. absurd (one e)) (λ e. absurd (two e))

text_recorded : (bytes : List ℕ) → Recorded (IsUtf8 bytes)
text_recorded bytes = by (is_utf8 bytes) refl
  where
    by : (b : Bool) → is_utf8 bytes ≡ b → Recorded (IsUtf8 bytes)
    by true e = inl (IsUtf8-from_is_utf8 bytes e)
    by false e = inr (λ text. absurd (both_ways (is_utf8 bytes) e (is_utf8-from_IsUtf8 bytes text)))

graphic_recorded : (bytes : List ℕ) → Recorded (All IsGraphic bytes)
graphic_recorded bytes = all_recorded IsGraphic (λ byte. both (within_recorded 33 byte) (within_recorded byte 126)) bytes

scheme_recorded : (scheme bytes : List ℕ) → Recorded (NamesScheme scheme bytes)
scheme_recorded scheme bytes = by (both (less_recorded (length scheme) (length bytes)) (list_recorded (map to_ascii_lowercase (take (length scheme) bytes)) (map to_ascii_lowercase scheme)))
  where
    by : Recorded ((length scheme < length bytes) × (map to_ascii_lowercase (take (length scheme) bytes) ≡ map to_ascii_lowercase scheme)) → Recorded (NamesScheme scheme bytes)
    by (inl (less, same)) = inl (scheme_from_front scheme bytes less same)
    by (inr n) = inr (λ names. n (front_from_scheme scheme bytes names))

listed_recorded : (ranges : Option (List (ℕ × ℕ))) (n : ℕ) → Recorded (IsListed ranges n)
listed_recorded None n = inl tt
listed_recorded (Some ranges) n = by (list_any (covers n) ranges) refl
  where
    by : (b : Bool) → list_any (covers n) ranges ≡ b → Recorded (Any (IsWithin n) ranges)
    by true e = inl ((any_within n ranges).0 e)
    by false e = inr (λ any. absurd (both_ways (list_any (covers n) ranges) e ((any_within n ranges).1 any)))

leaf_recorded : (f : PlainFormat) (bytes : List ℕ) → Recorded (IsLeaf f bytes)
leaf_recorded (AnyBytes name) bytes = inl tt
leaf_recorded (FourBytes name) bytes = same_recorded (length bytes) 4
leaf_recorded (EightBytes name) bytes = same_recorded (length bytes) 8
leaf_recorded Grouped bytes = inr (λ leaf. leaf)
leaf_recorded Address bytes = address_recorded bytes
leaf_recorded Utf8String bytes = text_recorded bytes
leaf_recorded DiameterIdentity bytes = both (less_recorded 0 (length bytes)) (graphic_recorded bytes)
leaf_recorded DiameterUri bytes = both (either (scheme_recorded (codes "aaa://") bytes) (scheme_recorded (codes "aaas://") bytes)) (graphic_recorded bytes)
leaf_recorded (Enumerated ranges) bytes = both (same_recorded (length bytes) 4) (listed_recorded ranges (number bytes))

-- ---- data that are no level

-- a format of data of 8 bytes or more has some of 8 bytes or fewer that are no level: they are too short, or are zeros
record IsNoLevel (bytes : List ℕ) : Type 0 where
  short : ((0 < length bytes) × (length bytes < 8)) ⊎ (bytes ≡ eight_zeros)

one_byte : IsNoLevel (97 ∷ [])
one_byte = record { short = inl (omega arith, omega arith) }

no_level : (f : PlainFormat) (bytes : List ℕ) → IsLeaf f bytes → 8 ≤ length bytes → (other : List ℕ) × IsLeaf f other × IsNoLevel other
no_level (AnyBytes name) bytes leaf long = (97 ∷ [], tt, one_byte)
no_level (FourBytes name) bytes leaf long = absurd (let e : length bytes ≡ 4 = leaf in omega (arith, e, long))
no_level (EightBytes name) bytes leaf long = (eight_zeros, refl, record { short = inr refl })
no_level Grouped bytes leaf long = absurd leaf
no_level Address bytes leaf long = (0 ∷ 0 ∷ [], no_family, record { short = inl (omega arith, omega arith) })
no_level Utf8String bytes leaf long = (97 ∷ [], leaf_below DiameterIdentity Utf8String tt (97 ∷ []) one_letter, one_byte)
no_level DiameterIdentity bytes leaf long = (97 ∷ [], one_letter, one_byte)
no_level DiameterUri bytes leaf long = (least_uri, is_uri, record { short = inl (omega arith, omega arith) })
no_level (Enumerated ranges) bytes leaf long = absurd (let e : length bytes ≡ 4 = leaf.0 in omega (arith, e, long))

-- ---- shorter data

module _ (da db : Dictionary) (who : Sends) (u : Unknown) (key : Key) (least bytes : List ℕ) (none : group_of da key ≡ None)
    (shortest : IsShortestRefused (IsSentData da who key) (IsAcceptedData db u key) least) (sent : IsSentData da who key bytes) (less : length bytes < length least) where
  abbrev SentBy : Option DictEntry → List ℕ → Type 0
  SentBy o data_bytes = MatchOption o (who ≡ AnySent) (λ e. MatchOption e.group (IsLeaf e.format data_bytes) (λ group. (n : ℕ) × IsSentLevel who (IsSentWithin da who n) group.rules data_bytes))

  abbrev AcceptedBy : Option DictEntry → List ℕ → Type 0
  AcceptedBy o data_bytes = MatchOption o ⊤ (λ e. MatchOption e.group (IsLeaf e.format data_bytes) (λ group. (n : ℕ) × IsLevel (Fits db u n) group.rules data_bytes))

  not_refused : ¬ (¬ IsAcceptedData db u key bytes)
  not_refused never = let le = shortest.least bytes sent never in omega (arith, le, less)

  -- a leaf of A's, or data of an AVP that A doesn't know, has some that are no level and are no longer
  some_other : 8 ≤ length bytes → (other : List ℕ) × IsSentData da who key other × IsNoLevel other
  some_other long = by (known da key) refl none sent
    where
      back : (other : List ℕ) (o : Option DictEntry) → known da key ≡ o → SentBy o other → IsSentData da who key other
      back other o is h = subst (λ (p : Option DictEntry). SentBy p other) (sym is) h

      by_entry : (e : DictEntry) → known da key ≡ Some e → (o : Option PlainDefinition) → e.group ≡ o → o ≡ None
          → MatchOption o (IsLeaf e.format bytes) (λ group. (n : ℕ) × IsSentLevel who (IsSentWithin da who n) group.rules bytes)
          → (other : List ℕ) × IsSentData da who key other × IsNoLevel other
      by_entry e is (Some x) group same leaf = absurd (none-some x (sym same))
      by_entry e is None group same leaf =
          let (other, fits, short) = no_level e.format bytes leaf long in (
            other,
            back other (Some e) is
                (subst (λ (p : Option PlainDefinition). MatchOption p (IsLeaf e.format other) (λ group. (n : ℕ) × IsSentLevel who (IsSentWithin da who n) group.rules other)) (sym group) fits),
            short,
          )

      by : (o : Option DictEntry) → known da key ≡ o → option_and_then (λ (e : DictEntry). e.group) o ≡ None → SentBy o bytes → (other : List ℕ) × IsSentData da who key other × IsNoLevel other
      by None is same any = (97 ∷ [], back (97 ∷ []) None is any, one_byte)
      by (Some e) is same h = by_entry e is e.group refl same h

  module _ (e : DictEntry) (is : known db key ≡ Some e) where
    -- as the entry says
    in_entry : (data_bytes : List ℕ) → IsAcceptedData db u key data_bytes → (o : Option PlainDefinition) → e.group ≡ o
        → MatchOption o (IsLeaf e.format data_bytes) (λ group. (n : ℕ) × IsLevel (Fits db u n) group.rules data_bytes)
    in_entry data_bytes h o group =
        subst (λ (p : Option PlainDefinition). MatchOption p (IsLeaf e.format data_bytes) (λ g. (n : ℕ) × IsLevel (Fits db u n) g.rules data_bytes)) group
        (subst (λ (p : Option DictEntry). AcceptedBy p data_bytes) is h)

    by_leaf : e.group ≡ None → IsLeaf e.format bytes
    by_leaf group = by (leaf_recorded e.format bytes)
      where
        by : Recorded (IsLeaf e.format bytes) → IsLeaf e.format bytes
        by (inl leaf) = leaf
        by (inr never) = absurd (not_refused (λ h. never (in_entry bytes h None group)))

    module _ (x : PlainDefinition) (group : e.group ≡ Some x) where
      abbrev IsLevelHere : List ℕ → Type 0
      IsLevelHere data_bytes = (n : ℕ) × IsLevel (Fits db u n) x.rules data_bytes

      never_level : ¬ (¬ IsLevelHere bytes)
      never_level never = not_refused (λ h. never (in_entry bytes h (Some x) group))

      by_none : bytes ≡ [] → IsLevelHere bytes
      by_none empty = by (all_recorded (λ (rule : DRule). rule.min ≡ 0) (λ rule. same_recorded rule.min 0) x.rules)
        where
          by : Recorded (All (λ (rule : DRule). rule.min ≡ 0) x.rules) → IsLevelHere bytes
          by (inl all) = subst IsLevelHere (sym empty) (empty_level db u x.rules all)
          by (inr asks) = absurd (never_level (λ h. not_empty db u x.rules asks (subst IsLevelHere empty h)))

      not_level : (other : List ℕ) → IsNoLevel other → ¬ IsLevelHere other
      not_level other apart = by apart.short
        where
          by : ((0 < length other) × (length other < 8)) ⊎ (other ≡ eight_zeros) → ¬ IsLevelHere other
          by (inl (some, few)) = not_short db u x.rules other some few
          by (inr zeros) = λ h. not_zeros db u x.rules (subst IsLevelHere zeros h)

      few : (other : List ℕ) → IsNoLevel other → length other ≤ 8
      few other apart = by apart.short
        where
          by : ((0 < length other) × (length other < 8)) ⊎ (other ≡ eight_zeros) → length other ≤ 8
          by (inl (some, less)) = omega (arith, less)
          by (inr zeros) = let size : length other ≡ 8 = ap length zeros in omega (arith, size)

      by_long : 8 ≤ length bytes → IsLevelHere bytes
      by_long long =
          let (other, other_sent, apart) = some_other long in
          let le = shortest.least other other_sent (λ h. not_level other apart (in_entry other h (Some x) group)) in
          absurd (omega (arith, le, few other apart, long, less))

      empty_of : (data_bytes : List ℕ) → length data_bytes ≡ 0 → data_bytes ≡ []
      empty_of [] e = refl
      empty_of (b ∷ more) e = absurd (omega (arith, e))

      by_level : IsLevelHere bytes
      by_level = by (same_recorded (length bytes) 0) (within_recorded 8 (length bytes))
        where
          by : Recorded (length bytes ≡ 0) → Recorded (8 ≤ length bytes) → IsLevelHere bytes
          by (inl none) long = by_none (empty_of bytes none)
          by (inr some) (inl long) = by_long long
          by (inr some) (inr short) = absurd (never_level (not_short db u x.rules bytes (omega (arith, some)) (omega (arith, short))))

    by_entry : (o : Option PlainDefinition) → e.group ≡ o → MatchOption o (IsLeaf e.format bytes) (λ g. (n : ℕ) × IsLevel (Fits db u n) g.rules bytes)
    by_entry None group = by_leaf group
    by_entry (Some x) group = by_level x group

  pub shorter_accepted : IsAcceptedData db u key bytes
  shorter_accepted = by (known db key) refl
    where
      by : (o : Option DictEntry) → known db key ≡ o → IsAcceptedData db u key bytes
      by None is = subst (λ (p : Option DictEntry). AcceptedBy p bytes) (sym is) tt
      by (Some e) is = subst (λ (p : Option DictEntry). AcceptedBy p bytes) (sym is) (by_entry e is e.group refl)
