-- The look-ups of a dictionary with Failed-AVP as OctetString, by those of the dictionary.
use Rattle.std.proofs.Common.{◌≡◌, ◌≢◌, ℕ, suc, zero, ◌+◌, ◌-◌, ◌<◌, ◌≤◌, ◌^◌, Bool, true, false, List, [], ◌∷◌, ◌++◌, length, Option, Some, None, inl, refl, sym, ap, ◌∙◌, subst, arith}
use Rattle.std.specs.Prelude.{slice_get, IfSome, position, nat_lt, nat_eq, if◌then◌else◌, option_and_then}
use Rattle.std.specs.Option.{option_map, option_map_or, option_or}
use Rattle.std.proofs.lemmas.Option.{none-some, same_Some, slice_get_within}
use Rattle.std.proofs.lemmas.Bool.{eqb-true, eqb-false, ltb-false}
use Rattle.dia_wire.specs.declared.Key.{Key}
use Rattle.dia_data.specs.Plain.{PlainFormat, AnyBytes, OctetString}
use Rattle.dia_book.specs.declared.Class.{Class}
use Rattle.std.proofs.lemmas.List.{length-append}
use Rattle.dia_book.specs.Limits.{max_parts}
use Rattle.dia_book.proofs.Lists.{length-filter_map}
use Rattle.dia_book.specs.Dictionary.{Dictionary, DictEntry, PlainDefinition, IsDictionary, definitions, groups, group_place, entry_of, selected, is_command}
use Rattle.dia_answer.specs.Dictionaries.{opaque, opaque_at, grouped_failed, octets_at, as_octets, lowered, raised, failed_avp}
use Rattle.dia_answer.proofs.Octets.{IsFrom, entry_from, length-octets_at, position-octets, slice_get-without, without-append, length-without, groups_to, groups-octets, groups_to-within, groups_to-octets}

pub IfSome-from : {X : Type 0} (P : X → Type 0) (o : Option X) → ((x : X) → o ≡ Some x → P x) → IfSome o P
IfSome-from P None h = tt
IfSome-from P (Some x) h = h x refl

pub IfSome-of : {X : Type 0} (P : X → Type 0) (o : Option X) (x : X) → o ≡ Some x → IfSome o P → P x
IfSome-of P o x e h = subst (λ o. IfSome o P) e h

-- whether the entry is the one that is OctetString, and the numbers of definitions
abbrev pub hides : Option (ℕ × ℕ) → ℕ → Bool
hides o i = option_map_or (λ place. nat_eq i place.0) o false

abbrev pub low : Option (ℕ × ℕ) → ℕ → ℕ
low o n = option_map_or (λ place. lowered place.1 n) o n

abbrev pub high : Option (ℕ × ℕ) → ℕ → ℕ
high o n = option_map_or (λ place. raised place.1 n) o n

-- ---- where Failed-AVP is

pub record IsPlaced (d : Dictionary) (place : ℕ × ℕ) : Type 0 where
  pub entry : DictEntry
  pub group : PlainDefinition
  pub at : slice_get d.entries place.0 ≡ Some entry
  pub has : entry.group ≡ Some group
  pub number : place.1 ≡ groups_to place.0 d.entries

pub placed_group : (d : Dictionary) (i n : ℕ) → group_place d i ≡ Some n → (x : DictEntry) × (g : PlainDefinition) × (slice_get d.entries i ≡ Some x) × (x.group ≡ Some g) × (n ≡ groups_to i d.entries)
placed_group d i n e = by (slice_get d.entries i) refl e
  where
    of_entry : (x : DictEntry) (o : Option PlainDefinition) → slice_get d.entries i ≡ Some x → x.group ≡ o → option_map (λ _. groups_to i d.entries) o ≡ Some n
        → (x : DictEntry) × (g : PlainDefinition) × (slice_get d.entries i ≡ Some x) × (x.group ≡ Some g) × (n ≡ groups_to i d.entries)
    of_entry x None here has e = absurd (none-some n e)
    of_entry x (Some g) here has e = (x, g, here, has, sym (same_Some (groups_to i d.entries) n e))

    by : (o : Option DictEntry) → slice_get d.entries i ≡ o → option_and_then (λ x. option_map (λ _. groups_to i d.entries) x.group) o ≡ Some n
        → (x : DictEntry) × (g : PlainDefinition) × (slice_get d.entries i ≡ Some x) × (x.group ≡ Some g) × (n ≡ groups_to i d.entries)
    by None here e = absurd (none-some n e)
    by (Some x) here e = of_entry x x.group here refl e

pub IsPlaced-of : (d : Dictionary) (place : ℕ × ℕ) → grouped_failed d ≡ Some place → IsPlaced d place
IsPlaced-of d place e = by (entry_of d failed_avp) e
  where
    of_group : (i : ℕ) (o : Option ℕ) → group_place d i ≡ o → option_and_then (λ g. Some (i, g)) o ≡ Some place → IsPlaced d place
    of_group i None here e = absurd (none-some place e)
    of_group i (Some n) here e =
        let same : (i, n) ≡ place = same_Some {A = ℕ × ℕ} (i, n) place e in
        let r = placed_group d i n here in
        subst (IsPlaced d) same (record { entry = r.0; group = r.1; at = r.2; has = r.3; number = r.4 })

    by : (o : Option ℕ) → option_and_then (λ e. option_and_then (λ g. Some (e, g)) (group_place d e)) o ≡ Some place → IsPlaced d place
    by None e = absurd (none-some place e)
    by (Some i) e = of_group i (group_place d i) refl e

-- ---- entries

pub entry_same : (d : Dictionary) (o : Option (ℕ × ℕ)) (key : Key) → entry_of (opaque_at d o) key ≡ entry_of d key
entry_same d None key = refl
entry_same d (Some place) key = position-octets key place.0 d.entries

pub entries_many : (d : Dictionary) (o : Option (ℕ × ℕ)) → length (opaque_at d o).entries ≡ length d.entries
entries_many d None = refl
entries_many d (Some place) = length-octets_at place.0 d.entries

pub old_entry : (d : Dictionary) (o : Option (ℕ × ℕ)) (i : ℕ) (x : DictEntry) → slice_get (opaque_at d o).entries i ≡ Some x
    → (y : DictEntry) × (slice_get d.entries i ≡ Some y) × IsFrom y x
old_entry d None i x at = (x, at, inl refl)
old_entry d (Some place) i x at = entry_from place.0 d.entries i x at

octets_other : (k : ℕ) (es : List DictEntry) (i : ℕ) → i ≢ k → slice_get (octets_at k es) i ≡ slice_get es i
octets_other k [] i other = refl
octets_other zero (e ∷ es) zero other = absurd (other refl)
octets_other zero (e ∷ es) (suc i) other = refl
octets_other (suc k) (e ∷ es) zero other = refl
octets_other (suc k) (e ∷ es) (suc i) other = octets_other k es i (λ same. other (ap suc same))

octets_here : (k : ℕ) (es : List DictEntry) (x : DictEntry) → slice_get (octets_at k es) k ≡ Some x → (x.format ≡ AnyBytes OctetString) × (x.group ≡ None)
octets_here k [] x at = absurd (none-some x at)
octets_here zero (e ∷ es) x at = let p = same_Some (as_octets e) x at in (ap (λ (z : DictEntry). z.format) (sym p), ap (λ (z : DictEntry). z.group) (sym p))
octets_here (suc k) (e ∷ es) x at = octets_here k es x at

pub other_entry : (d : Dictionary) (o : Option (ℕ × ℕ)) (i : ℕ) → hides o i ≡ false → slice_get (opaque_at d o).entries i ≡ slice_get d.entries i
other_entry d None i other = refl
other_entry d (Some place) i other = octets_other place.0 d.entries i (eqb-false i place.0 other)

pub hidden_entry : (d : Dictionary) (o : Option (ℕ × ℕ)) (i : ℕ) (x : DictEntry) → hides o i ≡ true → slice_get (opaque_at d o).entries i ≡ Some x → (x.format ≡ AnyBytes OctetString) × (x.group ≡ None)
hidden_entry d None i x same at = absurd (let p : false ≡ true = same in cc)
hidden_entry d (Some place) i x same at = octets_here place.0 d.entries x (ap (slice_get (octets_at place.0 d.entries)) (sym (eqb-true i place.0 same)) ∙ at)

-- ---- groups

pub hidden_group : (d : Dictionary) (o : Option (ℕ × ℕ)) (i : ℕ) → hides o i ≡ true → group_place (opaque_at d o) i ≡ None
hidden_group d o i same = by (slice_get (opaque_at d o).entries i) refl
  where
    by : (p : Option DictEntry) → slice_get (opaque_at d o).entries i ≡ p → option_and_then (λ x. option_map (λ _. groups_to i (opaque_at d o).entries) x.group) p ≡ None
    by None here = refl
    by (Some x) here = ap (option_map (λ _. groups_to i (opaque_at d o).entries)) (hidden_entry d o i x same here).1

pub other_group : (d : Dictionary) (o : Option (ℕ × ℕ)) → o ≡ grouped_failed d → (i : ℕ) → hides o i ≡ false → group_place (opaque_at d o) i ≡ option_map (low o) (group_place d i)
other_group d None e i other = by (group_place d i)
  where
    by : (o : Option ℕ) → o ≡ option_map (low None) o
    by None = refl
    by (Some n) = refl
other_group d (Some place) e i other = of_entry (slice_get d.entries i) refl
  where
    f : IsPlaced d place
    f = IsPlaced-of d place (sym e)

    es : List DictEntry
    es = octets_at place.0 d.entries

    of_place : (x : DictEntry) (o : Option PlainDefinition) → slice_get d.entries i ≡ Some x → x.group ≡ o
        → option_map (λ _. groups_to i es) o ≡ option_map (low (Some place)) (option_map (λ _. groups_to i d.entries) o)
    of_place x None here has = refl
    of_place x (Some g) here has =
        ap (λ n. Some n) (groups_to-octets place.0 d.entries f.entry f.group f.at f.has i x g here has (eqb-false i place.0 other)
        ∙ ap (λ j. lowered j (groups_to i d.entries)) (sym f.number))

    of_entry : (p : Option DictEntry) → slice_get d.entries i ≡ p → group_place (opaque_at d (Some place)) i ≡ option_map (low (Some place)) (group_place d i)
    of_entry None here = ap (option_and_then (λ x. option_map (λ _. groups_to i es) x.group)) (octets_other place.0 d.entries i (eqb-false i place.0 other) ∙ here)
        ∙ ap (λ p. option_map (low (Some place)) (option_and_then (λ x. option_map (λ _. groups_to i d.entries) x.group) p)) (sym here)
    of_entry (Some x) here = ap (option_and_then (λ x. option_map (λ _. groups_to i es) x.group)) (octets_other place.0 d.entries i (eqb-false i place.0 other) ∙ here)
        ∙ of_place x x.group here refl
        ∙ ap (λ p. option_map (low (Some place)) (option_and_then (λ x. option_map (λ _. groups_to i d.entries) x.group) p)) (sym here)

-- ---- definitions

pub groups_many : (d : Dictionary) (o : Option (ℕ × ℕ)) → o ≡ grouped_failed d → (i : ℕ) → low o (length (groups d) + i) ≡ length (groups (opaque_at d o)) + i
groups_many d None e i = refl
groups_many d (Some place) e i = by (nat_lt place.1 (length (groups d) + i)) refl
  where
    f : IsPlaced d place
    f = IsPlaced-of d place (sym e)

    within : place.1 < length (groups d)
    within = omega (arith, groups_to-within place.0 d.entries f.entry f.group f.at f.has, f.number)

    many : suc (length (groups (opaque_at d (Some place)))) ≡ length (groups d)
    many =
        ap (λ gs. suc (length gs)) (groups-octets place.0 d.entries f.entry f.group f.at f.has)
        ∙ length-without (groups_to place.0 d.entries) (groups d) (groups_to-within place.0 d.entries f.entry f.group f.at f.has)

    by : (b : Bool) → nat_lt place.1 (length (groups d) + i) ≡ b → (if b then length (groups d) + i - 1 else length (groups d) + i) ≡ length (groups (opaque_at d (Some place))) + i
    by true here = omega (arith, many)
    by false here = absurd (omega (arith, ltb-false place.1 (length (groups d) + i) here, within))

pub definition_same : (d : Dictionary) (o : Option (ℕ × ℕ)) → o ≡ grouped_failed d → (n : ℕ) → slice_get (definitions (opaque_at d o)) n ≡ slice_get (definitions d) (high o n)
definition_same d None e n = refl
definition_same d (Some place) e n =
    let f = IsPlaced-of d place (sym e) in
    let within = groups_to-within place.0 d.entries f.entry f.group f.at f.has in
    ap (λ gs. slice_get (gs ++ d.commands) n) (groups-octets place.0 d.entries f.entry f.group f.at f.has)
    ∙ ap (λ ds. slice_get ds n) (without-append (groups_to place.0 d.entries) (groups d) d.commands within)
    ∙ slice_get-without (groups_to place.0 d.entries) (definitions d) n
    ∙ ap (λ j. slice_get (definitions d) (raised j n)) (sym f.number)

pub select_same : (d : Dictionary) (o : Option (ℕ × ℕ)) → o ≡ grouped_failed d → (code : ℕ) (class : Class) (app : ℕ)
    → selected (opaque_at d o) code class app ≡ option_map (low o) (selected d code class app)
select_same d None e code class app = by (selected d code class app)
  where
    by : (o : Option ℕ) → o ≡ option_map (low None) o
    by None = refl
    by (Some n) = refl
select_same d (Some place) e code class app =
    by (option_or (position (λ c. is_command code class (Some app) c.head) d.commands) (position (λ c. is_command code class None c.head) d.commands))
  where
    by : (o : Option ℕ) → option_map (λ i. length (groups (opaque_at d (Some place))) + i) o ≡ option_map (low (Some place)) (option_map (λ i. length (groups d) + i) o)
    by None = refl
    by (Some i) = ap (λ n. Some n) (sym (groups_many d (Some place) e i))

-- ---- the bounds of places

pub at_within : {X : Type 0} (xs : List X) (n : ℕ) → n < length xs → (x : X) × (slice_get xs n ≡ Some x)
at_within [] n within = absurd (omega (arith, within))
at_within (x ∷ xs) zero within = (x, refl)
at_within (x ∷ xs) (suc n) within = at_within xs n (omega (arith, within))

pub groups_few : (d : Dictionary) → IsDictionary d → length (groups d) ≤ max_parts
groups_few d s = omega (arith, s.few, length-filter_map (λ (e : DictEntry). e.group) d.entries)

pub definitions_few : (d : Dictionary) → IsDictionary d → length (definitions d) ≤ max_parts
definitions_few d s = omega (arith, s.few, length-append (groups d) d.commands, length-filter_map (λ (e : DictEntry). e.group) d.entries)

pub definition_here : (d : Dictionary) (o : Option (ℕ × ℕ)) → o ≡ grouped_failed d → (n : ℕ) → slice_get (definitions (opaque d)) n ≡ slice_get (definitions d) (high o n)
definition_here d o e n = ap (λ p. slice_get (definitions (opaque_at d p)) n) (sym e) ∙ definition_same d o e n

pub high_within : (d : Dictionary) (o : Option (ℕ × ℕ)) → o ≡ grouped_failed d → (n : ℕ) → n < length (definitions (opaque d)) → high o n < length (definitions d)
high_within d o e n within =
    let f = at_within (definitions (opaque d)) n within in
    slice_get_within (definitions d) (high o n) f.0 (sym (definition_here d o e n) ∙ f.1)

pub group_within : (d : Dictionary) (i n : ℕ) → group_place d i ≡ Some n → n < length (definitions d)
group_within d i n e = let r = placed_group d i n e in omega (arith, r.4, groups_to-within i d.entries r.0 r.1 r.2 r.3, length-append (groups d) d.commands)

-- what holds of an entry by parts that don't change
pub same_field : {X : Type 0} (f : DictEntry → X) → ((y x : DictEntry) → IsFrom y x → f y ≡ f x) → (d : Dictionary) (i : ℕ) (r : X) → IfSome (slice_get d.entries i) (λ e. r ≡ f e)
    → IfSome (slice_get (opaque d).entries i) (λ e. r ≡ f e)
same_field f same d i r h = IfSome-from (λ e. r ≡ f e) (slice_get (opaque d).entries i)
    (λ x at. let y = old_entry d (grouped_failed d) i x at in IfSome-of (λ e. r ≡ f e) (slice_get d.entries i) y.0 y.1 h ∙ same y.0 x y.2)

-- ---- the same of the dictionary that a book has

pub hidden_group_here : (d : Dictionary) (o : Option (ℕ × ℕ)) → o ≡ grouped_failed d → (i : ℕ) → hides o i ≡ true → None ≡ group_place (opaque d) i
hidden_group_here d o e i same = sym (ap (λ p. group_place (opaque_at d p) i) (sym e) ∙ hidden_group d o i same)

pub other_group_here : (d : Dictionary) (o : Option (ℕ × ℕ)) → o ≡ grouped_failed d → (i : ℕ) → hides o i ≡ false → option_map (low o) (group_place d i) ≡ group_place (opaque d) i
other_group_here d o e i other = sym (ap (λ p. group_place (opaque_at d p) i) (sym e) ∙ other_group d o e i other)

pub select_here : (d : Dictionary) (o : Option (ℕ × ℕ)) → o ≡ grouped_failed d → (code : ℕ) (class : Class) (app : ℕ) → option_map (low o) (selected d code class app) ≡ selected (opaque d) code class app
select_here d o e code class app = sym (ap (λ p. selected (opaque_at d p) code class app) (sym e) ∙ select_same d o e code class app)

pub groups_here : (d : Dictionary) (o : Option (ℕ × ℕ)) → o ≡ grouped_failed d → (i : ℕ) → low o (length (groups d) + i) ≡ length (groups (opaque d)) + i
groups_here d o e i = groups_many d o e i ∙ ap (λ p. length (groups (opaque_at d p)) + i) e

pub hidden_format : (d : Dictionary) (o : Option (ℕ × ℕ)) → o ≡ grouped_failed d → (i : ℕ) → hides o i ≡ true → (f : PlainFormat) → f ≡ AnyBytes OctetString
    → IfSome (slice_get (opaque d).entries i) (λ e. f ≡ e.format)
hidden_format d o e i same f is = IfSome-from (λ e. f ≡ e.format) (slice_get (opaque d).entries i)
    (λ x at. is ∙ sym (hidden_entry d o i x same (ap (λ p. slice_get (opaque_at d p).entries i) e ∙ at)).0)

pub other_format : (d : Dictionary) (o : Option (ℕ × ℕ)) → o ≡ grouped_failed d → (i : ℕ) → hides o i ≡ false → (f : PlainFormat) → IfSome (slice_get d.entries i) (λ e. f ≡ e.format)
    → IfSome (slice_get (opaque d).entries i) (λ e. f ≡ e.format)
other_format d o e i other f h = subst (λ p. IfSome p (λ e. f ≡ e.format)) (sym (ap (λ p. slice_get (opaque_at d p).entries i) (sym e) ∙ other_entry d o i other)) h

pub high_small : (d : Dictionary) → IsDictionary d → (n : ℕ) → n < length (definitions d) → n < 2 ^ 31
high_small d s n within = omega (arith, definitions_few d s)
