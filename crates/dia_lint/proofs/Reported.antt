-- The definitions that findings are about, gathered one after the other.
use Rattle.std.proofs.Common.{◌≡◌, ℕ, zero, suc, ◌+◌, ◌<◌, ◌≤◌, Bool, true, false, List, [], ◌∷◌, ◌++◌, length, take, Option, Some, None, refl, sym, ap, subst, ◌∙◌, arith, inl, inr}
use Rattle.std.specs.Prelude.{◌⊎◌, ◌↔◌, if◌then◌else◌, filter_map, nat_le, option_and_then, slice_get, Contains}
use Rattle.std.specs.List.{cons_option}
use Rattle.std.specs.Option.{option_map, option_map_or}
use Rattle.std.proofs.lemmas.Bool.{cases_lt, cases_order, leb-false, leb-true}
use Rattle.std.proofs.lemmas.List.{append-nil}
use Rattle.std.proofs.lemmas.List.Elements.{Contains-append_cases, Contains-append_left, Contains-append_right, filter_map-append}
use Rattle.std.proofs.lemmas.Option.{none-some, same_Some, slice_get_within}
use Rattle.dia_wire.specs.declared.Key.{Key}
use Rattle.dia_book.specs.Keys.{same_key}
use Rattle.dia_book.specs.Dictionary.{Dictionary, DictEntry, PlainDefinition, IsDictionary, entry_of, group_place, groups}
use Rattle.dia_book.proofs.Members.{at_append, position-is_some}
use Rattle.dia_book.proofs.SameKeys.{same_key-refl}
use Rattle.dia_terms.specs.declared.Unknown.{Unknown}
use Rattle.dia_valid.proofs.GroupNumbers.{group_number, group_there, number_of}
use Rattle.dia_valid.proofs.Members.{some_of}
use Rattle.dia_breaking_levels.specs.LevelTests.{too_long}
use Rattle.dia_breaking_shortest.specs.Lengths.{entry_length, length_of, unknown_length}
use Rattle.dia_breaking_shortest.proofs.FloorsOfLengths.{entry_at}
use Rattle.dia_lint.specs.declared.finding.Finding.{Finding}
use Rattle.dia_lint.specs.declared.rule.Rule.{Rule}
use Rattle.dia_lint.specs.Costs.{AreLengths, level_of, sender_of}
use Rattle.dia_lint.specs.Exact.{AreAscending, HasAvp, HasMessage, IsNumbered, NoLevelIsExact, NoMessageIsExact, OthersHaveAvps, OthersHaveMessages, definition_in, is_no_level, is_no_message, reported}
use Rattle.dia_lint.specs.Gathered.{gathered, long_command, long_commands, long_group, long_groups}
use Rattle.dia_lint.proofs.Messages.{no_level_exact, no_message_exact, room_avp, room_message}

-- ---- one more finding

abbrev pub about : (Rule → Bool) → Finding → Option ℕ
about is x = if is x.rule then definition_in x.subject else None

pub one_reported : (is : Rule → Bool) (old : List Finding) (x : Finding) (n : ℕ) → is x.rule ≡ true → definition_in x.subject ≡ Some n → reported is (old ++ x ∷ []) ≡ reported is old ++ n ∷ []
one_reported is old x n holds of =
    let own : about is x ≡ Some n = ap (λ (b : Bool). if b then definition_in x.subject else None) holds ∙ of in
    filter_map-append (about is) old (x ∷ []) ∙ ap (λ (ns : List ℕ). reported is old ++ ns) (by (about is x) own)
  where
    by : (o : Option ℕ) → o ≡ Some n → cons_option o [] ≡ n ∷ []
    by None e = absurd (none-some n e)
    by (Some m) e = ap (λ (k : ℕ). k ∷ []) (same_Some m n e)

pub none_reported : (is : Rule → Bool) (old : List Finding) (x : Finding) → is x.rule ≡ false → reported is (old ++ x ∷ []) ≡ reported is old
none_reported is old x other =
    let own : about is x ≡ None = ap (λ (b : Bool). if b then definition_in x.subject else None) other in
    filter_map-append (about is) old (x ∷ []) ∙ ap (λ (ns : List ℕ). reported is old ++ ns) (by (about is x) own) ∙ append-nil (reported is old)
  where
    by : (o : Option ℕ) → o ≡ None → cons_option o [] ≡ []
    by None e = refl
    by (Some m) e = absurd (none-some m (sym e))

-- ---- what is gathered

pub gathered_in : {X : Type 0} (part : ℕ → List X) (n : ℕ) (x : X) → Contains (gathered part n) x → (i : ℕ) × (i < n) × Contains (part i) x
gathered_in part zero x (k, lt, e) = absurd (omega (arith, lt))
gathered_in {X} part (suc n) x h = by (gathered_in part n x) (Contains-append_cases (gathered part n) (part n) x h)
  where
    by : (Contains (gathered part n) x → (i : ℕ) × (i < n) × Contains (part i) x) → Contains (gathered part n) x ⊎ Contains (part n) x → (i : ℕ) × (i < suc n) × Contains (part i) x
    by ih (inl c) = let (i, lt, own) = ih c in (i, omega (arith, lt), own)
    by ih (inr c) = (n, omega arith, c)

pub in_gathered : {X : Type 0} (part : ℕ → List X) (n i : ℕ) (x : X) → i < n → Contains (part i) x → Contains (gathered part n) x
in_gathered part zero i x lt c = absurd (omega (arith, lt))
in_gathered {X} part (suc n) i x lt c = by (λ less. in_gathered part n i x less c) (cases_lt i n)
  where
    by : (i < n → Contains (gathered part n) x) → (i < n) ⊎ (n ≤ i) → Contains (gathered part n ++ part n) x
    by ih (inl less) = Contains-append_left (gathered part n) (part n) x (ih less)
    by ih (inr le) = let same : i ≡ n = omega (arith, le, lt) in Contains-append_right (gathered part n) (part n) x (subst (λ (k : ℕ). Contains (part k) x) same c)

-- each part has one number at most, a greater one than the parts before it
pub record AreApart (part : ℕ → List ℕ) : Type 0 where
  pub one : (i k x : ℕ) → slice_get (part i) k ≡ Some x → k ≡ 0
  pub greater : (i j x y : ℕ) → i < j → Contains (part i) x → Contains (part j) y → x < y

at_contains : (xs : List ℕ) (i x : ℕ) → slice_get xs i ≡ Some x → Contains xs x
at_contains [] i x at = absurd (none-some x at)
at_contains (y ∷ xs) zero x at = (0, omega arith, same_Some y x at)
at_contains (y ∷ xs) (suc i) x at = let r = at_contains xs i x at in (suc r.0, omega (arith, r.1), r.2)

gathered_ascends : (part : ℕ → List ℕ) → AreApart part → (n : ℕ) → AreAscending (gathered part n)
gathered_ascends part apart zero = λ i j a b lt at_i at_j. absurd (none-some a at_i)
gathered_ascends part apart (suc n) =
    let ih = gathered_ascends part apart n in
    λ i j a b lt at_i at_j. by ih i j a b lt (at_append (gathered part n) (part n) i a at_i) (at_append (gathered part n) (part n) j b at_j)
  where
    by : AreAscending (gathered part n) → (i j a b : ℕ) → i < j → (slice_get (gathered part n) i ≡ Some a) ⊎ ((k : ℕ) × (i ≡ length (gathered part n) + k) × (slice_get (part n) k ≡ Some a))
        → (slice_get (gathered part n) j ≡ Some b) ⊎ ((k : ℕ) × (j ≡ length (gathered part n) + k) × (slice_get (part n) k ≡ Some b)) → a < b
    by ih i j a b lt (inl p) (inl q) = ih i j a b lt p q
    by ih i j a b lt (inl p) (inr (k, e, q)) =
        let (m, less, c) = gathered_in part n a (at_contains (gathered part n) i a p) in
        apart.greater m n a b less c (at_contains (part n) k b q)
    by ih i j a b lt (inr (k, e, p)) (inl q) = let within = slice_get_within (gathered part n) j b q in absurd (omega (arith, within, e, lt))
    by ih i j a b lt (inr (k, e, p)) (inr (l, f, q)) =
        let first = apart.one n k a p in
        let second = apart.one n l b q in
        absurd (omega (arith, e, f, first, second, lt))

-- ---- one number, where a test says so

one_if : (test : Bool) (m k x : ℕ) → slice_get (if test then m ∷ [] else []) k ≡ Some x → k ≡ 0
one_if true m zero x at = refl
one_if true m (suc k) x at = absurd (none-some x at)
one_if false m k x at = absurd (none-some x at)

if_contains : (test : Bool) (m x : ℕ) → Contains (if test then m ∷ [] else []) x → (test ≡ true) × (m ≡ x)
if_contains true m x (zero, lt, e) = (refl, e)
if_contains true m x (suc k, lt, e) = absurd (omega (arith, lt))
if_contains false m x (k, lt, e) = absurd (omega (arith, lt))

contains_if : (test : Bool) (m : ℕ) → test ≡ true → Contains (if test then m ∷ [] else []) m
contains_if true m e = (0, omega arith, refl)
contains_if false m e = absurd (let f : false ≡ true = e in cc)

-- ---- commands

module _ (level : ℕ → ℕ) (first : ℕ) where
  commands_apart : AreApart (long_command level first)
  commands_apart = record {
    one = λ i k x at. one_if (nat_le too_long (level (first + i))) (first + i) k x at;
    greater = λ i j x y lt p q.
        let a = (if_contains (nat_le too_long (level (first + i))) (first + i) x p).1 in
        let b = (if_contains (nat_le too_long (level (first + j))) (first + j) y q).1 in
        omega (arith, a, b, lt);
  }

  long_in : (n i : ℕ) → i < n → Contains (long_commands level first n) (first + i) ↔ (too_long ≤ level (first + i))
  long_in n i lt = (
    λ h.
        let (j, less, c) = gathered_in (long_command level first) n (first + i) h in
        let (test, same) = if_contains (nat_le too_long (level (first + j))) (first + j) (first + i) c in
        let le = leb-true too_long (level (first + j)) test in
        subst (λ (k : ℕ). too_long ≤ level k) same le,
    λ le. in_gathered (long_command level first) n i (first + i) lt (contains_if (nat_le too_long (level (first + i))) (first + i) (test (nat_le too_long (level (first + i))) refl le)),
  )
    where
      test : (b : Bool) → nat_le too_long (level (first + i)) ≡ b → too_long ≤ level (first + i) → b ≡ true
      test true e le = refl
      test false e le = let lt = leb-false too_long (level (first + i)) e in absurd (omega (arith, le, lt))

pub commands_exact : (d : Dictionary) (u : Unknown) (lengths : List ℕ) (others : List Key) (found : List Finding) → IsDictionary d → AreLengths d (sender_of u) lengths others
    → reported is_no_message found ≡ long_commands (level_of d (sender_of u) lengths others) (length (groups d)) (length d.commands) → NoMessageIsExact d u found
commands_exact d u lengths others found is are same = λ i command at numbered.
    let level = level_of d (sender_of u) lengths others in
    let first = length (groups d) in
    let long = long_in level first (length d.commands) i (slice_get_within d.commands i command at) in
    let exact = no_message_exact d u lengths others is are i command at numbered in (
      λ h. exact.0 (long.0 (subst (λ (ns : List ℕ). Contains ns (first + i)) same h)),
      λ none. subst (λ (ns : List ℕ). Contains ns (first + i)) (sym same) (long.1 (exact.1 none)),
    )

pub others_have_messages : (d : Dictionary) (u : Unknown) (lengths : List ℕ) (others : List Key) (found : List Finding) → IsDictionary d → AreLengths d (sender_of u) lengths others
    → reported is_no_message found ≡ long_commands (level_of d (sender_of u) lengths others) (length (groups d)) (length d.commands) → OthersHaveMessages d u found
others_have_messages d u lengths others found is are same = λ i command at numbered. by i command at numbered (cases_lt (level_of d (sender_of u) lengths others (length (groups d) + i)) too_long)
  where
    by : (i : ℕ) (command : PlainDefinition) → slice_get d.commands i ≡ Some command → IsNumbered command.head
        → (level_of d (sender_of u) lengths others (length (groups d) + i) < too_long) ⊎ (too_long ≤ level_of d (sender_of u) lengths others (length (groups d) + i))
        → Contains (reported is_no_message found) (length (groups d) + i) ⊎ HasMessage d u (length (groups d) + i)
    by i command at numbered (inl short) = inr (room_message d u lengths others is are i command at numbered short)
    by i command at numbered (inr le) =
        let long = long_in (level_of d (sender_of u) lengths others) (length (groups d)) (length d.commands) i (slice_get_within d.commands i command at) in
        inl (subst (λ (ns : List ℕ). Contains ns (length (groups d) + i)) (sym same) (long.1 le))

pub commands_ascend : (level : ℕ → ℕ) (first n : ℕ) (found : List Finding) → reported is_no_message found ≡ long_commands level first n → AreAscending (reported is_no_message found)
commands_ascend level first n found same = subst AreAscending (sym same) (gathered_ascends (long_command level first) (commands_apart level first) n)

-- ---- groups

-- fewer come before an earlier one
fewer : {X Y : Type 0} (h : X → Option Y) (xs : List X) (i j : ℕ) (x : X) (y : Y) → i < j → slice_get xs i ≡ Some x → h x ≡ Some y
    → length (filter_map h (take i xs)) < length (filter_map h (take j xs))
fewer h [] i j x y lt at is = absurd (none-some x at)
fewer h (z ∷ xs) i zero x y lt at is = absurd (omega (arith, lt))
fewer {X} {Y} h (z ∷ xs) zero (suc j) x y lt at is = by (h z) (ap h (same_Some z x at) ∙ is)
  where
    by : (o : Option Y) → o ≡ Some y → 0 < length (cons_option o (filter_map h (take j xs)))
    by None e = absurd (none-some y e)
    by (Some w) e = omega arith
fewer {X} {Y} h (z ∷ xs) (suc i) (suc j) x y lt at is = by (h z) (fewer h xs i j x y (omega (arith, lt)) at is)
  where
    by : (o : Option Y) → length (filter_map h (take i xs)) < length (filter_map h (take j xs)) → length (cons_option o (filter_map h (take i xs))) < length (cons_option o (filter_map h (take j xs)))
    by None less = less
    by (Some w) less = omega (arith, less)

module _ (d : Dictionary) (lengths : List ℕ) where
  -- the group whose number is in a part
  group_in : (e x : ℕ) → Contains (long_group d lengths e) x → (group_place d e ≡ Some x) × (nat_le too_long (entry_length lengths e) ≡ true)
  group_in e x = by (group_place d e) refl
    where
      by : (o : Option ℕ) → group_place d e ≡ o → Contains (option_map_or (λ def. if nat_le too_long (entry_length lengths e) then def ∷ [] else []) o []) x
          → (group_place d e ≡ Some x) × (nat_le too_long (entry_length lengths e) ≡ true)
      by None is (k, lt, same) = absurd (omega (arith, lt))
      by (Some m) is c = let (test, same) = if_contains (nat_le too_long (entry_length lengths e)) m x c in (is ∙ ap (λ (k : ℕ). Some k) same, test)

  in_group : (e x : ℕ) → group_place d e ≡ Some x → nat_le too_long (entry_length lengths e) ≡ true → Contains (long_group d lengths e) x
  in_group e x is test =
      subst (λ (o : Option ℕ). Contains (option_map_or (λ def. if nat_le too_long (entry_length lengths e) then def ∷ [] else []) o []) x) (sym is)
      (contains_if (nat_le too_long (entry_length lengths e)) x test)

  pub entry_there : (e n : ℕ) → group_place d e ≡ Some n → (entry : DictEntry) × (slice_get d.entries e ≡ Some entry)
  entry_there e n is = by (slice_get d.entries e) refl is
    where
      by : (o : Option DictEntry) → slice_get d.entries e ≡ o → option_and_then (λ (x : DictEntry). option_map (λ _. number_of d e) x.group) o ≡ Some n
          → (entry : DictEntry) × (slice_get d.entries e ≡ Some entry)
      by None at some = absurd (none-some n some)
      by (Some entry) at some = (entry, at)

  numbers_rise : (i j x y : ℕ) → i < j → group_place d i ≡ Some x → group_place d j ≡ Some y → x < y
  numbers_rise i j x y lt is_x is_y =
      let (a, at_a) = entry_there i x is_x in
      let (b, at_b) = entry_there j y is_y in
      let (g, is_g, def_g) = group_number d i x a at_a is_x in
      let (h, is_h, def_h) = group_number d j y b at_b is_y in
      let same_x = same_Some (number_of d i) x (sym (group_there d i a g at_a is_g).0 ∙ is_x) in
      let same_y = same_Some (number_of d j) y (sym (group_there d j b h at_b is_h).0 ∙ is_y) in
      let less = fewer (λ (e : DictEntry). e.group) d.entries i j a g lt at_a is_g in
      omega (arith, same_x, same_y, less)

  groups_apart : AreApart (long_group d lengths)
  groups_apart = record {
    one = λ i k x at. one i k x (group_place d i) at;
    greater = λ i j x y lt p q. numbers_rise i j x y lt (group_in i x p).0 (group_in j y q).0;
  }
    where
      one : (i k x : ℕ) (o : Option ℕ) → slice_get (option_map_or (λ def. if nat_le too_long (entry_length lengths i) then def ∷ [] else []) o []) k ≡ Some x → k ≡ 0
      one i k x None at = absurd (none-some x at)
      one i k x (Some m) at = one_if (nat_le too_long (entry_length lengths i)) m k x at

  same_entry : (i j n : ℕ) → group_place d i ≡ Some n → group_place d j ≡ Some n → i ≡ j
  same_entry i j n is_i is_j = by (cases_order i j)
    where
      by : (i ≡ j) ⊎ ((i < j) ⊎ (j < i)) → i ≡ j
      by (inl same) = same
      by (inr (inl lt)) = let less = numbers_rise i j n n lt is_i is_j in absurd (omega (arith, less))
      by (inr (inr lt)) = let less = numbers_rise j i n n lt is_j is_i in absurd (omega (arith, less))

  long_at : (e n : ℕ) → e < length d.entries → group_place d e ≡ Some n → Contains (long_groups d lengths (length d.entries)) n ↔ (too_long ≤ entry_length lengths e)
  long_at e n lt is = (
    λ h.
        let (j, less, c) = gathered_in (long_group d lengths) (length d.entries) n h in
        let (place, test) = group_in j n c in
        let le = leb-true too_long (entry_length lengths j) test in
        subst (λ (k : ℕ). too_long ≤ entry_length lengths k) (same_entry j e n place is) le,
    λ le. in_gathered (long_group d lengths) (length d.entries) e n lt (in_group e n is (test (nat_le too_long (entry_length lengths e)) refl le)),
  )
    where
      test : (b : Bool) → nat_le too_long (entry_length lengths e) ≡ b → too_long ≤ entry_length lengths e → b ≡ true
      test true is le = refl
      test false is le = let lt = leb-false too_long (entry_length lengths e) is in absurd (omega (arith, le, lt))

-- an entry is the first with its key
pub own_place : (d : Dictionary) (e : ℕ) (entry : DictEntry) → IsDictionary d → slice_get d.entries e ≡ Some entry → entry_of d entry.key ≡ Some e
own_place d e entry is at =
    let (i, found) = some_of (entry_of d entry.key) (position-is_some (λ (x : DictEntry). same_key entry.key x.key) d.entries e entry at (same_key-refl entry.key)) in
    let h = entry_at d entry.key i found in
    let same : i ≡ e = is.distinct_keys i e h.entry entry h.at at h.own in
    found ∙ ap (λ (k : ℕ). Some k) same

pub groups_exact : (d : Dictionary) (u : Unknown) (lengths : List ℕ) (others : List Key) (found : List Finding) → IsDictionary d → AreLengths d (sender_of u) lengths others
    → reported is_no_level found ≡ long_groups d lengths (length d.entries) → NoLevelIsExact d u found
groups_exact d u lengths others found is are same = λ e n entry at place.
    let long = long_at d lengths e n (slice_get_within d.entries e entry at) place in
    let exact = no_level_exact d u lengths others is are entry.key (are.spelled e entry at) in
    let own : length_of d (sender_of u) lengths entry.key ≡ entry_length lengths e =
    ap (λ (o : Option ℕ). option_map_or (entry_length lengths) o (unknown_length (sender_of u) entry.key)) (own_place d e entry is at) in (
      λ h. let le = long.0 (subst (λ (ns : List ℕ). Contains ns n) same h) in exact.0 (omega (arith, own, le)),
      λ none. let le = exact.1 none in subst (λ (ns : List ℕ). Contains ns n) (sym same) (long.1 (omega (arith, own, le))),
    )

pub others_have_avps : (d : Dictionary) (u : Unknown) (lengths : List ℕ) (others : List Key) (found : List Finding) → IsDictionary d → AreLengths d (sender_of u) lengths others
    → reported is_no_level found ≡ long_groups d lengths (length d.entries) → OthersHaveAvps d u found
others_have_avps d u lengths others found is are same = λ e n entry at place. by e n entry at place (cases_lt (length_of d (sender_of u) lengths entry.key) too_long)
  where
    by : (e n : ℕ) (entry : DictEntry) → slice_get d.entries e ≡ Some entry → group_place d e ≡ Some n
        → (length_of d (sender_of u) lengths entry.key < too_long) ⊎ (too_long ≤ length_of d (sender_of u) lengths entry.key) → Contains (reported is_no_level found) n ⊎ HasAvp d u entry.key
    by e n entry at place (inl short) = inr (room_avp d u lengths others is are entry.key (are.spelled e entry at) short)
    by e n entry at place (inr le) =
        let long = long_at d lengths e n (slice_get_within d.entries e entry at) place in
        let own : length_of d (sender_of u) lengths entry.key ≡ entry_length lengths e =
        ap (λ (o : Option ℕ). option_map_or (entry_length lengths) o (unknown_length (sender_of u) entry.key)) (own_place d e entry is at) in
        inl (subst (λ (ns : List ℕ). Contains ns n) (sym same) (long.1 (omega (arith, own, le))))

pub groups_ascend : (d : Dictionary) (lengths : List ℕ) (n : ℕ) (found : List Finding) → reported is_no_level found ≡ long_groups d lengths n → AreAscending (reported is_no_level found)
groups_ascend d lengths n found same = subst AreAscending (sym same) (gathered_ascends (long_group d lengths) (groups_apart d lengths) n)
