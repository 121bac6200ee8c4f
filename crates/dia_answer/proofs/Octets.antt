-- A dictionary with Failed-AVP as OctetString is a dictionary: look-ups, and the numbers of its definitions.
use Rattle.std.proofs.Common.{◌≡◌, ◌≢◌, ℕ, suc, zero, ◌+◌, ◌-◌, ◌<◌, ◌≤◌, Bool, true, false, List, [], ◌∷◌, ◌++◌, length, take, Option, Some, None, ◌⊎◌, inl, inr, ⊎_elim, refl, sym, ap, ◌∙◌, subst, arith}
use Rattle.std.specs.Prelude.{slice_get, IsSome, IfSome, IsTrue, Contains, ◌↔◌, position, not, nat_le, nat_lt, if◌then◌else◌}
use Rattle.std.specs.List.{filter_map, cons_option, prefix_len}
use Rattle.std.proofs.lemmas.Option.{none-some, same_Some}
use Rattle.std.proofs.lemmas.Bool.{leb-true, leb-false, ltb-true, ltb-false}
use Rattle.dia_wire.specs.declared.Key.{Key}
use Rattle.dia_terms.specs.Names.{is_name}
use Rattle.dia_data.specs.Plain.{AnyBytes, OctetString, Grouped}
use Rattle.dia_book.specs.declared.DefHead.TheVariants.{Group}
use Rattle.dia_book.specs.Keys.{same_key}
use Rattle.dia_book.specs.Dictionary.{Dictionary, DictEntry, PlainDefinition, IsDictionary, AreRules, definitions, groups}
use Rattle.dia_book.proofs.Members.{All-from_places, at_Contains, at_append, at_filter_map, into_left, into_right}
use Rattle.dia_dict.proofs.Indexing.Selectors.{All-at}
use Rattle.dia_answer.specs.Dictionaries.{opaque, opaque_at, grouped_failed, octets_at, as_octets, lowered, raised}
use Rattle.dia_answer.proofs.OneCommand.{Contains-at}

-- ---- entries

-- an entry is the old one, or it as OctetString
abbrev pub IsFrom : DictEntry → DictEntry → Type 0
IsFrom y x = (y ≡ x) ⊎ (as_octets y ≡ x)

pub entry_from : (k : ℕ) (es : List DictEntry) (i : ℕ) (x : DictEntry) → slice_get (octets_at k es) i ≡ Some x → (y : DictEntry) × (slice_get es i ≡ Some y) × IsFrom y x
entry_from k [] i x at = absurd (none-some x at)
entry_from zero (e ∷ es) zero x at = (e, refl, inr (same_Some (as_octets e) x at))
entry_from zero (e ∷ es) (suc i) x at = (x, at, inl refl)
entry_from (suc k) (e ∷ es) zero x at = (e, refl, inl (same_Some e x at))
entry_from (suc k) (e ∷ es) (suc i) x at = entry_from k es i x at

pub from_key : (y x : DictEntry) → IsFrom y x → y.key ≡ x.key
from_key y x h = ⊎_elim (λ e. ap (λ (z : DictEntry). z.key) e) (λ e. ap (λ (z : DictEntry). z.key) e) h

pub from_name : (y x : DictEntry) → IsFrom y x → y.name ≡ x.name
from_name y x h = ⊎_elim (λ e. ap (λ (z : DictEntry). z.name) e) (λ e. ap (λ (z : DictEntry). z.name) e) h

pub from_rule : (y x : DictEntry) → IsFrom y x → y.rule ≡ x.rule
from_rule y x h = ⊎_elim (λ e. ap (λ (z : DictEntry). z.rule) e) (λ e. ap (λ (z : DictEntry). z.rule) e) h

-- what has a group is the old one
from_group : (y x : DictEntry) (g : PlainDefinition) → IsFrom y x → x.group ≡ Some g → y.group ≡ Some g
from_group y x g h e = ⊎_elim (λ p. ap (λ (z : DictEntry). z.group) p ∙ e) (λ p. absurd (none-some g (ap (λ (z : DictEntry). z.group) p ∙ e))) h

pub length-octets_at : (k : ℕ) (es : List DictEntry) → length (octets_at k es) ≡ length es
length-octets_at k [] = refl
length-octets_at zero (e ∷ es) = refl
length-octets_at (suc k) (e ∷ es) = ap suc (length-octets_at k es)

-- searches by key find the same places
prefix_octets : (key : Key) (k : ℕ) (es : List DictEntry) → prefix_len (λ e. not (same_key key e.key)) (octets_at k es) ≡ prefix_len (λ e. not (same_key key e.key)) es
prefix_octets key k [] = refl
prefix_octets key zero (e ∷ es) = refl
prefix_octets key (suc k) (e ∷ es) = rw (prefix_octets key k es) refl

pub position-octets : (key : Key) (k : ℕ) (es : List DictEntry) → position (λ e. same_key key e.key) (octets_at k es) ≡ position (λ e. same_key key e.key) es
position-octets key k es = rw (prefix_octets key k es, length-octets_at k es) refl

-- ---- groups

-- a list without the item at a place
abbrev pub without : {X : Type 0} → ℕ → List X → List X
without n [] = []
without zero (x ∷ xs) = xs
without (suc n) (x ∷ xs) = x ∷ without n xs

without_before : {X : Type 0} (j : ℕ) (xs : List X) (n : ℕ) → n < j → slice_get (without j xs) n ≡ slice_get xs n
without_before j [] n less = refl
without_before zero (x ∷ xs) n less = absurd (omega (arith, less))
without_before (suc j) (x ∷ xs) zero less = refl
without_before (suc j) (x ∷ xs) (suc n) less = without_before j xs n (omega (arith, less))

without_after : {X : Type 0} (j : ℕ) (xs : List X) (n : ℕ) → j ≤ n → slice_get (without j xs) n ≡ slice_get xs (suc n)
without_after j [] n le = refl
without_after zero (x ∷ xs) n le = refl
without_after (suc j) (x ∷ xs) zero le = absurd (omega (arith, le))
without_after (suc j) (x ∷ xs) (suc n) le = without_after j xs n (omega (arith, le))

pub slice_get-without : {X : Type 0} (j : ℕ) (xs : List X) (n : ℕ) → slice_get (without j xs) n ≡ slice_get xs (raised j n)
slice_get-without {X} j xs n = by (nat_le j n) refl
  where
    by : (b : Bool) → nat_le j n ≡ b → slice_get (without j xs) n ≡ slice_get xs (if b then suc n else n)
    by true here = without_after j xs n (leb-true j n here)
    by false here = without_before j xs n (omega (arith, leb-false j n here))

pub without-append : {X : Type 0} (j : ℕ) (xs ys : List X) → j < length xs → without j xs ++ ys ≡ without j (xs ++ ys)
without-append j [] ys within = absurd (omega (arith, within))
without-append zero (x ∷ xs) ys within = refl
without-append (suc j) (x ∷ xs) ys within = ap (λ zs. x ∷ zs) (without-append j xs ys (omega (arith, within)))

pub length-without : {X : Type 0} (j : ℕ) (xs : List X) → j < length xs → suc (length (without j xs)) ≡ length xs
length-without j [] within = absurd (omega (arith, within))
length-without zero (x ∷ xs) within = refl
length-without (suc j) (x ∷ xs) within = ap suc (length-without j xs (omega (arith, within)))

-- how many groups precede a place
abbrev pub groups_to : ℕ → List DictEntry → ℕ
groups_to i es = length (filter_map (λ y. y.group) (take i es))

kept_group : (o : Option PlainDefinition) (n : ℕ) (gs hs : List PlainDefinition) → hs ≡ without n gs → cons_option o hs ≡ without (length (cons_option o []) + n) (cons_option o gs)
kept_group None n gs hs e = e ∙ ap (λ m. without m gs) (let p : n ≡ 0 + n = omega arith in p)
kept_group (Some g) n gs hs e = ap (λ zs. g ∷ zs) e ∙ ap (λ m. without m (g ∷ gs)) (let p : suc n ≡ 1 + n = omega arith in p)

length-cons_option : (o : Option PlainDefinition) (gs : List PlainDefinition) → length (cons_option o gs) ≡ length (cons_option o []) + length gs
length-cons_option None gs = omega arith
length-cons_option (Some g) gs = omega arith

pub groups-octets : (k : ℕ) (es : List DictEntry) (e : DictEntry) (g : PlainDefinition) → slice_get es k ≡ Some e → e.group ≡ Some g
    → filter_map (λ y. y.group) (octets_at k es) ≡ without (groups_to k es) (filter_map (λ y. y.group) es)
groups-octets k [] e g at has = absurd (none-some e at)
groups-octets zero (x ∷ es) e g at has =
    let x_has : x.group ≡ Some g = ap (λ (z : DictEntry). z.group) (same_Some x e at) ∙ has in
    sym (ap (λ (o : Option PlainDefinition). without 0 (cons_option o (filter_map (λ y. y.group) es))) x_has)
groups-octets (suc k) (x ∷ es) e g at has =
    kept_group x.group (groups_to k es) (filter_map (λ y. y.group) es) (filter_map (λ y. y.group) (octets_at k es)) (groups-octets k es e g at has)
    ∙ ap (λ n. without n (cons_option x.group (filter_map (λ y. y.group) es))) (sym (length-cons_option x.group (filter_map (λ y. y.group) (take k es))))

pub groups_to-within : (k : ℕ) (es : List DictEntry) (e : DictEntry) (g : PlainDefinition) → slice_get es k ≡ Some e → e.group ≡ Some g
    → groups_to k es < length (filter_map (λ y. y.group) es)
groups_to-within k [] e g at has = absurd (none-some e at)
groups_to-within zero (x ∷ es) e g at has =
    let x_has : x.group ≡ Some g = ap (λ (z : DictEntry). z.group) (same_Some x e at) ∙ has in
    let many : length (filter_map (λ y. y.group) (x ∷ es)) ≡ suc (length (filter_map (λ y. y.group) es)) = ap (λ (o : Option PlainDefinition). length (cons_option o (filter_map (λ y. y.group) es))) x_has in
    omega (arith, many)
groups_to-within (suc k) (x ∷ es) e g at has =
    omega (
      arith,
      groups_to-within k es e g at has,
      length-cons_option x.group (filter_map (λ y. y.group) (take k es)),
      length-cons_option x.group (filter_map (λ y. y.group) es),
    )

-- the number of another group
pub groups_to-octets : (k : ℕ) (es : List DictEntry) (e : DictEntry) (g : PlainDefinition) → slice_get es k ≡ Some e → e.group ≡ Some g
    → (i : ℕ) (x : DictEntry) (h : PlainDefinition) → slice_get es i ≡ Some x → x.group ≡ Some h → i ≢ k
    → groups_to i (octets_at k es) ≡ lowered (groups_to k es) (groups_to i es)
groups_to-octets k es e g at has i x h at' has' other = by (nat_lt (groups_to k es) (groups_to i es)) refl (counted k es e g at has i x h at' has' other)
  where
    counted : (k : ℕ) (es : List DictEntry) (e : DictEntry) (g : PlainDefinition) → slice_get es k ≡ Some e → e.group ≡ Some g
        → (i : ℕ) (x : DictEntry) (h : PlainDefinition) → slice_get es i ≡ Some x → x.group ≡ Some h → i ≢ k
        → ((groups_to k es < groups_to i es) × (suc (groups_to i (octets_at k es)) ≡ groups_to i es)) ⊎ ((groups_to i es < groups_to k es) × (groups_to i (octets_at k es) ≡ groups_to i es))
    counted k [] e g at has i x h at' has' other = absurd (none-some e at)
    counted zero (y ∷ es) e g at has zero x h at' has' other = absurd (other refl)
    counted zero (y ∷ es) e g at has (suc i) x h at' has' other =
        let y_has : y.group ≡ Some g = ap (λ (z : DictEntry). z.group) (same_Some y e at) ∙ has in
        let many : groups_to (suc i) (y ∷ es) ≡ suc (groups_to i es) = ap (λ (o : Option PlainDefinition). length (cons_option o (filter_map (λ y. y.group) (take i es)))) y_has in
        inl (omega (arith, many), sym many)
    counted (suc k) (y ∷ es) e g at has zero x h at' has' other =
        let y_has : y.group ≡ Some h = ap (λ (z : DictEntry). z.group) (same_Some y x at') ∙ has' in
        let many : groups_to (suc k) (y ∷ es) ≡ suc (groups_to k es) = ap (λ (o : Option PlainDefinition). length (cons_option o (filter_map (λ y. y.group) (take k es)))) y_has in
        inr (omega (arith, many), refl)
    counted (suc k) (y ∷ es) e g at has (suc i) x h at' has' other =
        let a = length-cons_option y.group (filter_map (λ y. y.group) (take k es)) in
        let b = length-cons_option y.group (filter_map (λ y. y.group) (take i es)) in
        let c = length-cons_option y.group (filter_map (λ y. y.group) (take i (octets_at k es))) in
        ⊎_elim (λ r. inl (omega (arith, a, b, r.0), omega (arith, b, c, r.1))) (λ r. inr (omega (arith, a, b, r.0), omega (arith, b, c, r.1)))
        (counted k es e g at has i x h at' has' (λ same. other (ap suc same)))

    by : (b : Bool) → nat_lt (groups_to k es) (groups_to i es) ≡ b
        → ((groups_to k es < groups_to i es) × (suc (groups_to i (octets_at k es)) ≡ groups_to i es)) ⊎ ((groups_to i es < groups_to k es) × (groups_to i (octets_at k es) ≡ groups_to i es))
        → groups_to i (octets_at k es) ≡ (if b then groups_to i es - 1 else groups_to i es)
    by true here r = ⊎_elim (λ r. omega (arith, r.1)) (λ r. absurd (omega (arith, ltb-true (groups_to k es) (groups_to i es) here, r.0))) r
    by false here r = ⊎_elim (λ r. absurd (omega (arith, ltb-false (groups_to k es) (groups_to i es) here, r.0))) (λ r. r.1) r

pub into_filter_map : {X Y : Type 0} (h : X → Option Y) (xs : List X) (i : ℕ) (x : X) (y : Y) → slice_get xs i ≡ Some x → h x ≡ Some y → (j : ℕ) × (slice_get (filter_map h xs) j ≡ Some y)
into_filter_map h [] i x y at has = absurd (none-some x at)
into_filter_map h (z ∷ xs) zero x y at has = (0, ap (λ o. slice_get (cons_option o (filter_map h xs)) 0) (ap h (same_Some z x at) ∙ has))
into_filter_map {X} {Y} h (z ∷ xs) (suc i) x y at has = by (h z) (into_filter_map h xs i x y at has)
  where
    by : (o : Option Y) → (j : ℕ) × (slice_get (filter_map h xs) j ≡ Some y) → (j : ℕ) × (slice_get (cons_option o (filter_map h xs)) j ≡ Some y)
    by None r = r
    by (Some w) r = (suc r.0, r.1)

octets_no_group : AnyBytes OctetString ≡ Grouped → ⊥
octets_no_group e = let p : AnyBytes OctetString ≡ Grouped = e in cc

-- ---- the dictionary

abbrev HasName : DictEntry → Type 0
HasName x = IsTrue (is_name x.name)

abbrev IsGrouped : DictEntry → Type 0
IsGrouped x = (x.format ≡ Grouped) ↔ IsSome x.group

abbrev HasHead : DictEntry → Type 0
HasHead x = IfSome x.group (λ g. (g.name ≡ x.name) × (g.head ≡ Group x.key))

module _ (d : Dictionary) (s : IsDictionary d) (k : ℕ) where
  abbrev pub octets : Dictionary
  octets = record { entries = octets_at k d.entries; commands = d.commands }

  -- its definitions are the dictionary's
  definition_from : (i : ℕ) (def : PlainDefinition) → slice_get (definitions octets) i ≡ Some def → Contains (definitions d) def
  definition_from i def at = ⊎_elim group command (at_append (groups octets) d.commands i def at)
    where
      group : slice_get (groups octets) i ≡ Some def → Contains (definitions d) def
      group h =
          let found = at_filter_map (λ (y : DictEntry). y.group) (octets_at k d.entries) i def h in
          let old = entry_from k d.entries found.0 found.1 found.2 in
          let m = into_filter_map (λ (y : DictEntry). y.group) d.entries found.0 old.0 def old.1 (from_group old.0 found.1 def old.2 found.3) in
          Contains-at (definitions d) m.0 def (into_left (groups d) d.commands m.0 def m.1)

      command : (j : ℕ) × (i ≡ length (groups octets) + j) × (slice_get d.commands j ≡ Some def) → Contains (definitions d) def
      command h = Contains-at (definitions d) (length (groups d) + h.0) def (into_right (groups d) d.commands h.0 def h.2)

  pub octets_are_sound : IsDictionary octets
  octets_are_sound = record {
    distinct_keys = λ i j x y p q e.
        let a = entry_from k d.entries i x p in
        let b = entry_from k d.entries j y q in
        s.distinct_keys i j a.0 b.0 a.1 b.1 (from_key a.0 x a.2 ∙ e ∙ sym (from_key b.0 y b.2));
    distinct_names = λ i j x y p q e.
        let a = entry_from k d.entries i x p in
        let b = entry_from k d.entries j y q in
        s.distinct_names i j a.0 b.0 a.1 b.1 (from_name a.0 x a.2 ∙ e ∙ sym (from_name b.0 y b.2));
    distinct_commands = s.distinct_commands;
    distinct_selectors = s.distinct_selectors;
    entry_names = All-from_places HasName (octets_at k d.entries) (λ i x p.
        let a = entry_from k d.entries i x p in
        subst (λ (n : List ℕ). IsTrue (is_name n)) (from_name a.0 x a.2) (All-at HasName d.entries i a.0 s.entry_names a.1));
    command_names = s.command_names;
    grouped = All-from_places IsGrouped (octets_at k d.entries) (λ i x p. let a = entry_from k d.entries i x p in grouped_from a.0 x (All-at IsGrouped d.entries i a.0 s.grouped a.1) a.2);
    group_heads = All-from_places HasHead (octets_at k d.entries) (λ i x p. let a = entry_from k d.entries i x p in heads_from a.0 x (All-at HasHead d.entries i a.0 s.group_heads a.1) a.2);
    command_heads = s.command_heads;
    known_keys = λ def r key p q e.
        let m = at_Contains (definitions octets) def p in
        subst IsSome (sym (position-octets key k d.entries)) (s.known_keys def r key (definition_from m.place def m.at) q e);
    rules = All-from_places (λ (c : PlainDefinition). AreRules c.rules) (definitions octets)
        (λ i def p. let m = at_Contains (definitions d) def (definition_from i def p) in All-at (λ (c : PlainDefinition). AreRules c.rules) (definitions d) m.place def s.rules m.at);
    few = omega (arith, s.few, length-octets_at k d.entries);
  }
    where
      grouped_from : (y x : DictEntry) → (y.format ≡ Grouped) ↔ IsSome y.group → IsFrom y x → (x.format ≡ Grouped) ↔ IsSome x.group
      grouped_from y x h from =
          ⊎_elim (λ e. subst (λ (z : DictEntry). (z.format ≡ Grouped) ↔ IsSome z.group) e h)
          (λ e. subst (λ (z : DictEntry). (z.format ≡ Grouped) ↔ IsSome z.group) e ((λ p. absurd (octets_no_group p)), (λ p. absurd (let q : false ≡ true = p in cc)))) from

      heads_from : (y x : DictEntry) → IfSome y.group (λ g. (g.name ≡ y.name) × (g.head ≡ Group y.key)) → IsFrom y x → IfSome x.group (λ g. (g.name ≡ x.name) × (g.head ≡ Group x.key))
      heads_from y x h from =
          ⊎_elim (λ e. subst (λ (z : DictEntry). IfSome z.group (λ g. (g.name ≡ z.name) × (g.head ≡ Group z.key))) e h)
          (λ e. subst (λ (z : DictEntry). IfSome z.group (λ g. (g.name ≡ z.name) × (g.head ≡ Group z.key))) e tt) from

pub opaque_is_sound : (d : Dictionary) → IsDictionary d → IsDictionary (opaque d)
opaque_is_sound d s = by (grouped_failed d)
  where
    by : (o : Option (ℕ × ℕ)) → IsDictionary (opaque_at d o)
    by None = s
    by (Some place) = octets_are_sound d s place.0
