-- What is looked up is what the definitions say: keys of pairs, keys that need none, and the rest.
use Rattle.std.proofs.Common.{◌≡◌, ◌≢◌, ℕ, Bool, true, false, List, map, get_or, Option, Some, None, refl, sym, ap, subst, ◌∙◌, arith, Decides}
use Rattle.std.specs.Prelude.{◌⊎◌, ◌↔◌, ◌&&◌, not, is_some, Contains, slice_get, position, option_and_then, if◌then◌else◌}
use Rattle.std.specs.List.{list_any, list_all}
use Rattle.std.specs.Option.{option_map, option_map_or}
use Rattle.std.specs.Str.{bytes_eq}
use Rattle.std.proofs.lemmas.Bool.Decides.{Decides-and, Decides-or, Decides-like, Decides-at}
use Rattle.std.proofs.lemmas.List.Quantifiers.{position-Some}
use Rattle.std.proofs.lemmas.Option.{none-some, same_Some, get_or_from_slice_get, slice_get-get_or}
use Rattle.std.proofs.lemmas.Slice.Eq.{bytes_eq-Decides}
use Rattle.dia_wire.specs.declared.Key.{Key}
use Rattle.dia_data.specs.Plain.{PlainFormat, AnyBytes, OctetString}
use Rattle.dia_book.specs.declared.MRule.{MRule}
use Rattle.dia_book.specs.declared.MRule.TheVariants.{Must, MustNot, Any as AnyM}
use Rattle.dia_book.specs.Keys.{same_key}
use Rattle.dia_book.proofs.SameKeys.{same_key-refl, same_key-true}
use Rattle.dia_book.proofs.Lists.{position-within}
use Rattle.dia_book.proofs.Members.{position-is_some, at_map, into_map}
use Rattle.dia_book.specs.Dictionary.{Dictionary, DictEntry, PlainDefinition, IsDictionary, entry_of}
use Rattle.dia_terms.specs.declared.Unknown.{Unknown}
use Rattle.dia_terms.specs.declared.Unknown.TheVariants.{Kept, Refused}
use Rattle.dia_valid.specs.Valid.{known}
use Rattle.dia_compat.specs.TableText.{PlainTable}
use Rattle.dia_compat.specs.Below.{IsCoveredAlone, IsCovered, IsKnown}
use Rattle.dia_compat.specs.Closed.{NamesEntry, NamesCommand, IsPairKey}
use Rattle.dia_compat.specs.Tests.{is_kept, may_come}
use Rattle.dia_compat.specs.PairTests.{NamePair, entry_named, command_named, key_named, pairs_key, is_must_not, may_be_clear, is_octets, is_alone, is_paired, is_covered, uncovered_keys, stranger_fits, strangers_fit}
use Rattle.dia_compat.specs.Sides.{Sides, Compared}
use Rattle.dia_valid.proofs.Members.{IsIn, in_at, at_in, in_contains, contains_in, any_in, in_any, in_filter, into_filter}
use Rattle.dia_compat.proofs.FitInSecond.{known_entry, entry_known}
use Rattle.dia_compat.proofs.SetsOfNames.{get_none}
use Rattle.dia_compat.proofs.DecidedTests.{all_in_decides, implied, unless}

-- ---- look-ups by name

-- the member of a name is the one that is found by it
pub found_by_name : {X : Type 0} (name : X → List ℕ) (xs : List X) → ((i j : ℕ) (x y : X) → slice_get xs i ≡ Some x → slice_get xs j ≡ Some y → name x ≡ name y → i ≡ j)
    → (text : List ℕ) (x : X) → Contains xs x → name x ≡ text → (i : ℕ) × (position (λ y. bytes_eq text (name y)) xs ≡ Some i) × (slice_get xs i ≡ Some x)
found_by_name {X} name xs apart text x i e = by (position test xs) refl
  where
    test : X → Bool
    test y = bytes_eq text (name y)

    by : (o : Option ℕ) → position (λ y. bytes_eq text (name y)) xs ≡ o → (k : ℕ) × (position (λ y. bytes_eq text (name y)) xs ≡ Some k) × (slice_get xs k ≡ Some x)
    by None f =
        let p = at_in xs x (in_contains xs x i) in
        let s : is_some (position (λ y. bytes_eq text (name y)) xs) ≡ true = position-is_some (λ y. bytes_eq text (name y)) xs p.place x p.at ((bytes_eq-Decides text (name x)).1 (sym e)) in
        absurd (let w : false ≡ true = ap (λ (o : Option ℕ). is_some o) (sym f) ∙ s in cc)
    by (Some k) f =
        let p = at_in xs x (in_contains xs x i) in
        let q = position-Some (λ y. bytes_eq text (name y)) xs k x f in
        let at = slice_get-get_or xs k x q.0 in
        let y = get_or xs k x in
        let same : text ≡ name y = (bytes_eq-Decides text (name y)).0 q.1 in
        let one : k ≡ p.place = apart k p.place y x at p.at (sym same ∙ sym e) in
        (k, f, ap (slice_get xs) one ∙ p.at)

-- and what is found by a name has it
pub named_at : {X : Type 0} (name : X → List ℕ) (xs : List X) (text : List ℕ) (i : ℕ) → position (λ y. bytes_eq text (name y)) xs ≡ Some i → (x : X) × (slice_get xs i ≡ Some x) × (name x ≡ text)
named_at {X} name xs text i f = by (slice_get xs i) refl
  where
    by : (o : Option X) → slice_get xs i ≡ o → (x : X) × (slice_get xs i ≡ Some x) × (name x ≡ text)
    by None e = absurd (let w = position-within (λ (y : X). bytes_eq text (name y)) xs i f in let z = get_none xs i e in omega (arith, w, z))
    by (Some x) e =
        let q = position-Some (λ (y : X). bytes_eq text (name y)) xs i x f in
        let same = get_or_from_slice_get xs i x x e in
        (x, e, sym ((bytes_eq-Decides text (name x)).0 (ap (λ (z : X). bytes_eq text (name z)) (sym same) ∙ q.1)))

pub entry_found : (d : Dictionary) (name : List ℕ) (e : DictEntry) → IsDictionary d → NamesEntry d name e → (i : ℕ) × (entry_named d name ≡ Some i) × (slice_get d.entries i ≡ Some e)
entry_found d name e sound h = found_by_name (λ (x : DictEntry). x.name) d.entries sound.distinct_names name e h.0 h.1

pub found_entry : (d : Dictionary) (name : List ℕ) (i : ℕ) → entry_named d name ≡ Some i → (e : DictEntry) × (slice_get d.entries i ≡ Some e) × NamesEntry d name e
found_entry d name i f = let r = named_at (λ (x : DictEntry). x.name) d.entries name i f in (r.0, r.1, (contains_in d.entries r.0 (in_at d.entries i r.0 r.1), r.2))

pub command_found : (d : Dictionary) (name : List ℕ) (c : PlainDefinition) → IsDictionary d → NamesCommand d name c → (i : ℕ) × (command_named d name ≡ Some i) × (slice_get d.commands i ≡ Some c)
command_found d name c sound h = found_by_name (λ (x : PlainDefinition). x.name) d.commands sound.distinct_commands name c h.0 h.1

pub found_command : (d : Dictionary) (name : List ℕ) (i : ℕ) → command_named d name ≡ Some i → (c : PlainDefinition) × (slice_get d.commands i ≡ Some c) × NamesCommand d name c
found_command d name i f = let r = named_at (λ (x : PlainDefinition). x.name) d.commands name i f in (r.0, r.1, (contains_in d.commands r.0 (in_at d.commands i r.0 r.1), r.2))

-- ---- keys of pairs

key_here : (d : Dictionary) (name : List ℕ) (i : ℕ) (e : DictEntry) → entry_named d name ≡ Some i → slice_get d.entries i ≡ Some e → key_named d name ≡ Some e.key
key_here d name i e f at = ap (λ (o : Option ℕ). option_and_then (λ k. option_map (λ (x : DictEntry). x.key) (slice_get d.entries k)) o) f ∙ ap (option_map (λ (x : DictEntry). x.key)) at

key_of_name : (d : Dictionary) (name : List ℕ) (key : Key) → key_named d name ≡ Some key → (e : DictEntry) × NamesEntry d name e × (e.key ≡ key)
key_of_name d name key h = by (entry_named d name) refl
  where
    by : (o : Option ℕ) → entry_named d name ≡ o → (e : DictEntry) × NamesEntry d name e × (e.key ≡ key)
    by None f = absurd (none-some key (sym (ap (λ (o : Option ℕ). option_and_then (λ k. option_map (λ (x : DictEntry). x.key) (slice_get d.entries k)) o) f) ∙ h))
    by (Some i) f = let r = found_entry d name i f in (r.0, r.2, same_Some r.0.key key (sym (key_here d name i r.0 f r.1) ∙ h))

key_from_name : (d : Dictionary) (name : List ℕ) (e : DictEntry) → IsDictionary d → NamesEntry d name e → key_named d name ≡ Some e.key
key_from_name d name e sound h = let r = entry_found d name e sound h in key_here d name r.0 e r.1 r.2

module _ (da db : Dictionary) (sa : IsDictionary da) (sb : IsDictionary db) where
  pair_is : (p : NamePair) (key : Key) → pairs_key da db key p ≡ true → (key_named da p.0 ≡ Some key) × (key_named db p.1 ≡ Some key)
  pair_is p key h = by (key_named da p.0) (key_named db p.1) refl refl h
    where
      same : (k l : Key) (b : Bool) → same_key k l ≡ b → option_map_or (λ m. same_key m key) (if b then Some k else None) false ≡ true → (k ≡ key) × (l ≡ key)
      same k l false e g = absurd (let f : false ≡ true = g in cc)
      same k l true e g = let here = same_key-true k key g in (here, sym (same_key-true k l e) ∙ here)

      by : (x y : Option Key) → key_named da p.0 ≡ x → key_named db p.1 ≡ y → option_map_or (λ m. same_key m key)
          (option_and_then (λ k. option_and_then (λ l. if same_key k l then Some k else None) y) x) false ≡ true
          → (key_named da p.0 ≡ Some key) × (key_named db p.1 ≡ Some key)
      by None y e f g = absurd (let w : false ≡ true = g in cc)
      by (Some k) None e f g = absurd (let w : false ≡ true = g in cc)
      by (Some k) (Some l) e f g = let r = same k l (same_key k l) refl g in (e ∙ ap (λ (m : Key). Some m) r.0, f ∙ ap (λ (m : Key). Some m) r.1)

  is_pair_of : (p : NamePair) (key : Key) → key_named da p.0 ≡ Some key → key_named db p.1 ≡ Some key → pairs_key da db key p ≡ true
  is_pair_of p key e f =
      ap (λ (x : Option Key). option_map_or (λ m. same_key m key) (option_and_then (λ k. option_and_then (λ l. if same_key k l then Some k else None) (key_named db p.1)) x) false) e
      ∙ ap (λ (y : Option Key). option_map_or (λ m. same_key m key) (option_and_then (λ l. if same_key key l then Some key else None) y) false) f
      ∙ ap (λ (b : Bool). option_map_or (λ m. same_key m key) (if b then Some key else None) false) (same_key-refl key) ∙ same_key-refl key

  pub paired_decides : (table : PlainTable) (key : Key) → Decides (list_any (pairs_key da db key) table.avps) (IsPairKey da db table key)
  paired_decides table key = (right, back)
    where
      right : list_any (pairs_key da db key) table.avps ≡ true → IsPairKey da db table key
      right g =
          let r = any_in (pairs_key da db key) table.avps g in
          let k = pair_is r.0 key r.2 in
          let e = key_of_name da r.0.0 key k.0 in
          let f = key_of_name db r.0.1 key k.1 in
          (r.0, contains_in table.avps r.0 r.1, e.0, f.0, e.1, f.1, e.2, f.2)

      back : IsPairKey da db table key → list_any (pairs_key da db key) table.avps ≡ true
      back (p, i, e, f, ne, nf, ke, kf) =
          in_any (pairs_key da db key) table.avps p (in_contains table.avps p i)
          (is_pair_of p key (key_from_name da p.0 e sa ne ∙ ap (λ (m : Key). Some m) ke) (key_from_name db p.1 f sb nf ∙ ap (λ (m : Key). Some m) kf))

-- ---- keys that need no pair

known_is : (d : Dictionary) (key : Key) → is_some (known d key) ≡ is_some (entry_of d key)
known_is d key = by (entry_of d key) refl
  where
    by : (o : Option ℕ) → entry_of d key ≡ o → is_some (option_and_then (λ i. slice_get d.entries i) o) ≡ is_some o
    by None e = refl
    by (Some i) e = there (slice_get d.entries i) refl
      where
        there : (p : Option DictEntry) → slice_get d.entries i ≡ p → is_some p ≡ true
        there None f = absurd (let w = position-within (λ (x : DictEntry). same_key key x.key) d.entries i e in let z = get_none d.entries i f in omega (arith, w, z))
        there (Some x) f = refl

pub known_decides : (d : Dictionary) (key : Key) → Decides (is_some (entry_of d key)) (IsKnown d key)
known_decides d key = (λ e. known_is d key ∙ e, λ h. sym (known_is d key) ∙ h)

kept_decides : (u : Unknown) → Decides (is_kept u) (u ≡ Kept)
kept_decides Kept = (λ e. refl, λ h. refl)
kept_decides Refused = (λ e. absurd (let f : false ≡ true = e in cc), λ h. absurd cc)

must_not_decides : (r : MRule) → Decides (is_must_not r) (r ≡ MustNot)
must_not_decides Must = (λ e. absurd (let f : false ≡ true = e in cc), λ h. absurd cc)
must_not_decides MustNot = (λ e. refl, λ h. refl)
must_not_decides AnyM = (λ e. absurd (let f : false ≡ true = e in cc), λ h. absurd cc)

may_be_clear_decides : (r : MRule) → Decides (may_be_clear r) (r ≢ Must)
may_be_clear_decides Must = (λ e. absurd (let f : false ≡ true = e in cc), λ h. absurd (h refl))
may_be_clear_decides MustNot = (λ e h. absurd cc, λ h. refl)
may_be_clear_decides AnyM = (λ e h. absurd cc, λ h. refl)

octets_right : (f : PlainFormat) → is_octets f ≡ true → f ≡ AnyBytes OctetString
octets_right (AnyBytes OctetString) h = refl
octets_right f h = absurd cc

octets_decides : (f : PlainFormat) → Decides (is_octets f) (f ≡ AnyBytes OctetString)
octets_decides f = (octets_right f, λ h. ap is_octets h)

absent_decides : (d : Dictionary) (key : Key) → Decides (not (is_some (entry_of d key))) (known d key ≡ None)
absent_decides d key = Decides-at (not (is_some (entry_of d key))) (not (is_some (known d key))) (ap not (sym (known_is d key))) (by (known d key))
  where
    by : (o : Option DictEntry) → Decides (not (is_some o)) (o ≡ None)
    by None = (λ e. refl, λ h. refl)
    by (Some x) = (λ e. absurd (let f : false ≡ true = e in cc), λ h. absurd (none-some x (sym h)))

rule_decides : (o : Option DictEntry) → Decides (option_map_or (λ e. is_must_not e.rule) o false) ((e : DictEntry) × (o ≡ Some e) × (e.rule ≡ MustNot))
rule_decides None = (λ e. absurd (let f : false ≡ true = e in cc), λ h. absurd (none-some h.0 h.1))
rule_decides (Some x) = Decides-like (is_must_not x.rule) (λ h. (x, refl, h)) (λ h. ap (λ (e : DictEntry). e.rule) (same_Some x h.0 h.1) ∙ h.2) (must_not_decides x.rule)

alone_decides : (s : Sides) (key : Key) → Decides (is_alone s key) (IsCoveredAlone s.first s.second s.unknown key)
alone_decides s key =
    Decides-like (is_alone s key) (λ h. (h.0.0, h.0.1, h.1.0, h.1.1, h.1.2)) (λ (k, n, e, at, r). ((k, n), (e, at, r)))
    (Decides-and (is_kept s.unknown && not (is_some (entry_of s.second key))) (option_map_or (λ e. is_must_not e.rule) (known s.first key) false)
    (Decides-and (is_kept s.unknown) (not (is_some (entry_of s.second key))) (kept_decides s.unknown) (absent_decides s.second key)) (rule_decides (known s.first key)))

-- ---- what is looked up

module _ (c : Compared) (sa : IsDictionary c.sides.first) (sb : IsDictionary c.sides.second) where
  abbrev da : Dictionary
  da = c.sides.first

  abbrev db : Dictionary
  db = c.sides.second

  abbrev u : Unknown
  u = c.sides.unknown

  pub covered_decides : (key : Key) → Decides (is_covered c key) (IsCovered c.sides.first c.sides.second c.sides.unknown (IsPairKey c.sides.first c.sides.second c.table) key)
  covered_decides key = Decides-or (is_paired c key) (is_alone c.sides key) (paired_decides da db sa sb c.table key) (alone_decides c.sides key)

  pub comes_decides : (key : Key) → Decides (may_come c.sides key) ((c.sides.unknown ≡ Kept) ⊎ IsKnown c.sides.first key)
  comes_decides key = Decides-or (is_kept u) (is_some (entry_of da key)) (kept_decides u) (known_decides da key)

  keys_known : (key : Key) → IsIn key (map (λ (e : DictEntry). e.key) da.entries) ↔ IsKnown da key
  keys_known key = (right, back)
    where
      right : IsIn key (map (λ (e : DictEntry). e.key) da.entries) → IsKnown da key
      right i =
          let p = at_in (map (λ (e : DictEntry). e.key) da.entries) key i in
          let e = at_map (λ (x : DictEntry). x.key) da.entries p.place key p.at in
          ap (λ (o : Option DictEntry). is_some o) (entry_known da key e.0 sa (in_at da.entries p.place e.0 e.1) e.2)

      back : IsKnown da key → IsIn key (map (λ (e : DictEntry). e.key) da.entries)
      back h = by (known da key) refl h
        where
          by : (o : Option DictEntry) → known da key ≡ o → is_some o ≡ true → IsIn key (map (λ (e : DictEntry). e.key) da.entries)
          by None e k = absurd (let f : false ≡ true = k in cc)
          by (Some x) e k =
              let r = known_entry da key x e in
              let p = at_in da.entries x r.0 in
              subst (λ (z : Key). IsIn z (map (λ (y : DictEntry). y.key) da.entries)) r.1
              (in_at (map (λ (y : DictEntry). y.key) da.entries) p.place x.key (into_map (λ (y : DictEntry). y.key) da.entries p.place x p.at))

  pub uncovered_is : (key : Key) → IsIn key (uncovered_keys c) ↔ (IsKnown c.sides.first key × (is_covered c key ≡ false))
  uncovered_is key = (right, back)
    where
      test : Key → Bool
      test k = not (is_covered c k)

      not_true : (b : Bool) → not b ≡ true → b ≡ false
      not_true false e = refl
      not_true true e = absurd (let f : false ≡ true = e in cc)

      right : IsIn key (uncovered_keys c) → IsKnown da key × (is_covered c key ≡ false)
      right i =
          let r = in_filter (λ (k : Key). not (is_covered c k)) (map (λ (e : DictEntry). e.key) da.entries) key i in
          ((keys_known key).0 r.0, not_true (is_covered c key) r.1)

      back : IsKnown da key × (is_covered c key ≡ false) → IsIn key (uncovered_keys c)
      back h = into_filter (λ (k : Key). not (is_covered c k)) (map (λ (e : DictEntry). e.key) da.entries) key ((keys_known key).1 h.0) (ap not h.1)

  stranger_decides : (e : DictEntry) → Decides (stranger_fits da e) (¬ IsKnown da e.key → (e.format ≡ AnyBytes OctetString) × (e.rule ≢ Must))
  stranger_decides e = unless (is_some (entry_of da e.key)) (is_octets e.format && may_be_clear e.rule) (known_decides da e.key)
      (Decides-and (is_octets e.format) (may_be_clear e.rule) (octets_decides e.format) (may_be_clear_decides e.rule))

  pub fit_decides : Decides (strangers_fit c.sides)
      (c.sides.unknown ≡ Kept → (key : Key) (e : DictEntry) → known c.sides.second key ≡ Some e → ¬ IsKnown c.sides.first key → (e.format ≡ AnyBytes OctetString) × (e.rule ≢ Must))
  fit_decides =
      implied (is_kept u) (list_all (stranger_fits da) db.entries) (kept_decides u)
      (Decides-like (list_all (stranger_fits da) db.entries)
      (λ h key e at new. let r = known_entry db key e at in h e r.0 (λ k. new (subst (λ (z : Key). IsKnown da z) r.1 k)))
      (λ h e i new. h e.key e (entry_known db e.key e sb i refl) new)
      (all_in_decides (stranger_fits da) (λ e. ¬ IsKnown da e.key → (e.format ≡ AnyBytes OctetString) × (e.rule ≢ Must)) db.entries (λ e i. stranger_decides e)))
