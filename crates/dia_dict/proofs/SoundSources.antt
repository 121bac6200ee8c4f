-- What a sound source means is a dictionary.
use Rattle.std.proofs.Common.{◌≡◌, ◌≢◌, ℕ, ◌+◌, ◌≤◌, true, false, List, ◌++◌, length, map, find, Option, Some, None, ⊎_elim, refl, sym, ap, ◌∙◌, subst, arith}
use Rattle.std.specs.Prelude.{slice_get, is_some, IsSome, IfSome, Contains, not, ◌↔◌, option_and_then, ◌&&◌, IsTrue}
use Rattle.std.specs.List.{list_any}
use Rattle.std.specs.Option.{option_map, option_map_or, option_or}
use Rattle.dia_wire.specs.declared.Key.{Key}
use Rattle.dia_data.specs.Plain.{Grouped, format_of}
use Rattle.dia_book.specs.Limits.{max_parts}
use Rattle.dia_terms.specs.Names.{is_name}
use Rattle.dia_ccf.specs.Names.{is_group}
use Rattle.dia_ccf.specs.CanonicalText.{slot_text}
use Rattle.dia_ccf.specs.Plain.{PlainSource, PlainDecl, PlainDef, PlainRule}
use Rattle.dia_book.specs.Keys.{same_key}
use Rattle.dia_book.specs.declared.DRule.{DRule}
use Rattle.dia_book.specs.declared.DefHead.TheVariants.{Group}
use Rattle.dia_book.specs.Dictionary.{PlainDefinition, DictEntry, IsDictionary, AreRules, IsSameSelector, IsCommandHead, IsLeast, is_fixed, groups as groups_of, definitions, entry_of}
use Rattle.dia_dict.specs.Resolution.{resolved, declared_entry, bare_entry, bare_groups, definition_of, rule_of, head_of, key_of_name, key_of_decl, group_key, names_decl, names_def}
use Rattle.dia_dict.specs.Resolution.{is_bare, agrees_with, is_grouped, slot_name, same_slot}
use Rattle.std.proofs.lemmas.Bool.{and_parts, both_ways, not-false, not-true}
use Rattle.std.proofs.lemmas.List.{map-append, length-map, length-append}
use Rattle.std.proofs.lemmas.List.Filters.{length-filter_both}
use Rattle.std.proofs.lemmas.Option.{none-some, same_Some}
use Rattle.std.proofs.lemmas.Simd.{map-map}
use Rattle.dia_book.proofs.LookUpsByName.{same_bytes-true, same_bytes-refl}
use Rattle.dia_dict.proofs.Duplicates.{same_named, same_command}
use Rattle.dia_book.proofs.Members.{AreApart, into_left, into_right, into_map, All-from_places, at_map, at_append, at_filter, into_filter, at_find, find-found}
use Rattle.dia_book.proofs.Members.{find-is_some, at_Contains, at_filter_map, position-is_some, list_any-none_at, AreApart-filter}
use Rattle.dia_dict.proofs.Distinct.{repeats-distinct}
use Rattle.dia_book.specs.Opened.{front, rest, front-append-rest, list_all-front}
use Rattle.dia_dict.proofs.FaultlessSources.{IsFormed, IsClean, all_defs, avp_names}
use Rattle.dia_book.proofs.SameKeys.{same_key-refl, same_key-equal, same_key-true}
use Rattle.dia_dict.proofs.SoundRules.{same_bytes-equal, is_some-map, same_selector-true, IsSameSelector-sym, head_of-group, head_of-command, format_of-grouped}
use Rattle.dia_dict.proofs.SoundRules.{grouped_format, fixed_kind, fixed_rest, bounded_rule, least_rule, apart_by_name, name_and_key}
use Rattle.dia_dict.proofs.SoundRules.{decl_name, bare_name}

module _ (s : PlainSource) (formed : IsFormed s) (clean : IsClean s) where
  -- names of AVPs mean the keys of entries
  named_key : (text : List ℕ) (key : Key) → key_of_name s text ≡ Some key → (k : ℕ) × (slice_get (avp_names s) k ≡ Some (text, key))
  named_key text key e = by (find (names_decl text) s.avps) refl e
    where
      named_as : {n : List ℕ} (k : Key) → n ≡ text → k ≡ key → ◌≡◌ {A = Option (List ℕ × Key)} (Some (n, k)) (Some (text, key))
      named_as k same same' = λ i. Some (same i, same' i)

      declared : (d : PlainDecl) → find (names_decl text) s.avps ≡ Some d → Some (key_of_decl d) ≡ Some key → (k : ℕ) × (slice_get (avp_names s) k ≡ Some (text, key))
      declared d here same =
          let r = at_find (names_decl text) s.avps d here in (
            r.0,
            into_left (map decl_name s.avps) (map bare_name (bare_groups s)) r.0 _ (into_map decl_name s.avps r.0 d r.1)
                ∙ named_as (key_of_decl d) (sym (same_bytes-true text d.name r.2)) (same_Some _ _ same),
          )

      bare : (g : PlainDef) → find (names_decl text) s.avps ≡ None → find (names_def text) s.groups ≡ Some g
          → Some (group_key g.head) ≡ Some key → (k : ℕ) × (slice_get (avp_names s) k ≡ Some (text, key))
      bare g none here same =
          let r = at_find (names_def text) s.groups g here in
          let named = sym (same_bytes-true text g.name r.2) in
          let undeclared : is_bare s g ≡ true =
          ap not (ap (λ t. list_any (names_decl t) s.avps) named ∙ sym (find-is_some (names_decl text) s.avps) ∙ ap is_some none) in
          let kept = into_filter (is_bare s) s.groups r.0 g r.1 undeclared in (
            length (map decl_name s.avps) + kept.place,
            into_right (map decl_name s.avps) (map bare_name (bare_groups s)) kept.place _ (into_map bare_name (bare_groups s) kept.place g kept.at)
                ∙ named_as (group_key g.head) named (same_Some _ _ same),
          )

      by : (o : Option PlainDecl) → find (names_decl text) s.avps ≡ o
          → option_or (option_map key_of_decl o) (option_map (λ (g : PlainDef). group_key g.head) (find (names_def text) s.groups)) ≡ Some key
          → (k : ℕ) × (slice_get (avp_names s) k ≡ Some (text, key))
      by (Some d) here same = declared d here same
      by None here same = undeclared (find (names_def text) s.groups) refl same
        where
          undeclared : (o : Option PlainDef) → find (names_def text) s.groups ≡ o → option_map (λ (g : PlainDef). group_key g.head) o ≡ Some key
              → (k : ℕ) × (slice_get (avp_names s) k ≡ Some (text, key))
          undeclared None there e' = absurd (none-some key e')
          undeclared (Some g) there e' = bare g here there e'

  names_of_entries : map name_and_key (resolved s).entries ≡ avp_names s
  names_of_entries =
      map-append name_and_key (map (declared_entry s) s.avps) (map (bare_entry s) (bare_groups s))
      ∙ ap (λ ns. ns ++ map name_and_key (map (bare_entry s) (bare_groups s))) (map-map name_and_key (declared_entry s) s.avps)
      ∙ ap (λ ns. map decl_name s.avps ++ ns) (map-map name_and_key (bare_entry s) (bare_groups s))

  entry_named : (i : ℕ) (x : DictEntry) → slice_get (resolved s).entries i ≡ Some x → slice_get (avp_names s) i ≡ Some (x.name, x.key)
  entry_named i x at = ap (λ ns. slice_get ns i) (sym names_of_entries) ∙ into_map name_and_key (resolved s).entries i x at

  distinct_keys : (i j : ℕ) (x y : DictEntry) → slice_get (resolved s).entries i ≡ Some x → slice_get (resolved s).entries j ≡ Some y → x.key ≡ y.key → i ≡ j
  distinct_keys i j x y at at' same =
      repeats-distinct same_named (avp_names s) clean.keys i j (x.name, x.key) (y.name, y.key) (entry_named i x at)
      (entry_named j y at') (same_key-equal x.key y.key same) (same_key-equal y.key x.key (sym same))

  decls_apart : AreApart (λ (d : PlainDecl). d.name) s.avps
  decls_apart = apart_by_name (λ (d : PlainDecl). d.name) s.avps clean.avps

  bares_apart : AreApart (λ (g : PlainDef). g.name) (bare_groups s)
  bares_apart = AreApart-filter (λ (g : PlainDef). g.name) (is_bare s) s.groups (apart_by_name (λ (g : PlainDef). g.name) s.groups clean.groups)

  -- no declaration has the name of a bare group
  bare_undeclared : (i j : ℕ) (d : PlainDecl) (g : PlainDef) → slice_get s.avps i ≡ Some d → slice_get (bare_groups s) j ≡ Some g → d.name ≢ g.name
  bare_undeclared i j d g at at' same =
      let r = at_filter (is_bare s) s.groups j g at' in
      both_ways (names_decl g.name d) (list_any-none_at (names_decl g.name) s.avps (not-true _ r.2) i d at) (same_bytes-equal g.name d.name (sym same))

  -- which side of the entries a place is on
  data Side (i : ℕ) (x : DictEntry) : Type 0 where
    declared_at : (d : PlainDecl) → slice_get s.avps i ≡ Some d → declared_entry s d ≡ x → Side i x
    bare_at : (k : ℕ) (g : PlainDef) → i ≡ length s.avps + k → slice_get (bare_groups s) k ≡ Some g → bare_entry s g ≡ x → Side i x

  side : (i : ℕ) (x : DictEntry) → slice_get (resolved s).entries i ≡ Some x → Side i x
  side i x at =
      ⊎_elim
      (λ h. let r = at_map (declared_entry s) s.avps i x h in declared_at r.0 r.1 r.2)
      (λ h. let r = at_map (bare_entry s) (bare_groups s) h.0 x h.2 in bare_at h.0 r.0 (h.1 ∙ ap (λ n. n + h.0) (length-map s.avps (declared_entry s))) r.1 r.2)
      (at_append (map (declared_entry s) s.avps) (map (bare_entry s) (bare_groups s)) i x at)

  both : {i j : ℕ} {x y : DictEntry} → Side i x → Side j y → x.name ≡ y.name → i ≡ j
  both {i} {j} (declared_at d at e) (declared_at d' at' e') same = decls_apart i j d d' at at' (ap (λ (z : DictEntry). z.name) e ∙ same ∙ sym (ap (λ (z : DictEntry). z.name) e'))
  both {i} {j} (declared_at d at e) (bare_at k g p at' e') same = absurd (bare_undeclared i k d g at at' (ap (λ (z : DictEntry). z.name) e ∙ same ∙ sym (ap (λ (z : DictEntry). z.name) e')))
  both {i} {j} (bare_at k g p at e) (declared_at d at' e') same = absurd (bare_undeclared j k d g at' at (ap (λ (z : DictEntry). z.name) e' ∙ sym same ∙ sym (ap (λ (z : DictEntry). z.name) e)))
  both {i} {j} (bare_at k g p at e) (bare_at k' g' p' at' e') same =
      p ∙ ap (λ n. length s.avps + n) (bares_apart k k' g g' at at' (ap (λ (z : DictEntry). z.name) e ∙ same ∙ sym (ap (λ (z : DictEntry). z.name) e'))) ∙ sym p'

  distinct_names : (i j : ℕ) (x y : DictEntry) → slice_get (resolved s).entries i ≡ Some x → slice_get (resolved s).entries j ≡ Some y → x.name ≡ y.name → i ≡ j
  distinct_names i j x y at at' same = both (side i x at) (side j y at') same

  distinct_commands : (i j : ℕ) (x y : PlainDefinition) → slice_get (resolved s).commands i ≡ Some x → slice_get (resolved s).commands j ≡ Some y → x.name ≡ y.name → i ≡ j
  distinct_commands i j x y at at' same =
      let c = at_map (definition_of s) s.commands i x at in
      let d = at_map (definition_of s) s.commands j y at' in
      let e : c.0.name ≡ d.0.name = ap (λ (z : PlainDefinition). z.name) c.2 ∙ same ∙ sym (ap (λ (z : PlainDefinition). z.name) d.2) in
      apart_by_name (λ (z : PlainDef). z.name) s.commands clean.commands i j c.0 d.0 c.1 d.1 e

  distinct_selectors : (i j : ℕ) (x y : PlainDefinition) → slice_get (resolved s).commands i ≡ Some x → slice_get (resolved s).commands j ≡ Some y → IsSameSelector x.head y.head → i ≡ j
  distinct_selectors i j x y at at' same =
      let c = at_map (definition_of s) s.commands i x at in
      let d = at_map (definition_of s) s.commands j y at' in
      let e : IsSameSelector (head_of c.0.head) (head_of d.0.head) =
      subst (λ (z : PlainDefinition). IsSameSelector (head_of c.0.head) z.head) (sym d.2) (subst (λ (z : PlainDefinition). IsSameSelector z.head y.head) (sym c.2) same) in
      repeats-distinct same_command s.commands clean.selectors i j c.0 d.0 c.1 d.1 (same_selector-true c.0.head d.0.head e)
      (same_selector-true d.0.head c.0.head (IsSameSelector-sym (head_of c.0.head) (head_of d.0.head) e))

  found_decl : (i : ℕ) (d : PlainDecl) → slice_get s.avps i ≡ Some d → find (names_decl d.name) s.avps ≡ Some d
  found_decl i d at =
      let found = find-found (names_decl d.name) s.avps i d at (same_bytes-refl d.name) in
      let r = at_find (names_decl d.name) s.avps found.0 found.1 in
      let same : r.0 ≡ i = decls_apart r.0 i found.0 d r.1 at (sym (same_bytes-true d.name found.0.name r.2)) in
      found.1 ∙ sym r.1 ∙ ap (slice_get s.avps) same ∙ at

  -- a declaration and the group of its name have one key
  agreed : (i : ℕ) (d : PlainDecl) (g : PlainDef) → slice_get s.avps i ≡ Some d → find (names_def d.name) s.groups ≡ Some g → (agrees_with g d ≡ true) × (g.name ≡ d.name) × (is_group g.head ≡ true)
  agreed i d g at here =
      let r = at_find (names_def d.name) s.groups g here in
      let named = same_bytes-true d.name g.name r.2 in
      let found : find (names_decl g.name) s.avps ≡ Some d = ap (λ t. find (names_decl t) s.avps) (sym named) ∙ found_decl i d at in
      (not-false (agrees_with g d) (ap (λ o. option_map_or (λ (e : PlainDecl). not (agrees_with g e)) o false) (sym found) ∙ clean.matched r.0 g r.1), sym named, formed.groups r.0 g r.1)

  grouped_declared : (i : ℕ) (d : PlainDecl) → slice_get s.avps i ≡ Some d → ((declared_entry s d).format ≡ Grouped) ↔ IsSome (declared_entry s d).group
  grouped_declared i d at = (
    λ e. is_some-map (definition_of s) (find (names_def d.name) s.groups) ∙ find-is_some (names_def d.name) s.groups
        ∙ not-false _ (ap (λ b. b && not (list_any (names_def d.name) s.groups)) (sym (format_of-grouped d.format d.values e)) ∙ clean.grouped i d at),
    λ e. by (find (names_def d.name) s.groups) refl (sym (is_some-map (definition_of s) (find (names_def d.name) s.groups)) ∙ e),
  )
    where
      by : (o : Option PlainDef) → find (names_def d.name) s.groups ≡ o → is_some o ≡ true → format_of d.format d.values ≡ Grouped
      by None here e = absurd (let p : false ≡ true = e in cc)
      by (Some g) here e = grouped_format d.format d.values (and_parts (is_grouped d.format) (same_key (group_key g.head) (key_of_decl d)) (agreed i d g at here).0).0

  grouped_on : (i : ℕ) (x : DictEntry) → Side i x → (x.format ≡ Grouped) ↔ IsSome x.group
  grouped_on i x (declared_at d at e) = subst (λ (z : DictEntry). (z.format ≡ Grouped) ↔ IsSome z.group) e (grouped_declared i d at)
  grouped_on i x (bare_at k g p at e) = subst (λ (z : DictEntry). (z.format ≡ Grouped) ↔ IsSome z.group) e (λ h. refl, λ h. refl)

  grouped_at : (i : ℕ) (x : DictEntry) → slice_get (resolved s).entries i ≡ Some x → (x.format ≡ Grouped) ↔ IsSome x.group
  grouped_at i x at = grouped_on i x (side i x at)

  head_declared : (i : ℕ) (d : PlainDecl) → slice_get s.avps i ≡ Some d → IfSome (declared_entry s d).group (λ g. (g.name ≡ d.name) × (g.head ≡ Group (key_of_decl d)))
  head_declared i d at = by (find (names_def d.name) s.groups) refl
    where
      by : (o : Option PlainDef) → find (names_def d.name) s.groups ≡ o → IfSome (option_map (definition_of s) o) (λ g. (g.name ≡ d.name) × (g.head ≡ Group (key_of_decl d)))
      by None here = tt
      by (Some g) here =
          let a = agreed i d g at here in
          let key = same_key-true (group_key g.head) (key_of_decl d) (and_parts (is_grouped d.format) (same_key (group_key g.head) (key_of_decl d)) a.0).1 in
          (a.1, head_of-group g.head a.2 ∙ ap (λ k. Group k) key)

  head_on : (i : ℕ) (x : DictEntry) → Side i x → IfSome x.group (λ g. (g.name ≡ x.name) × (g.head ≡ Group x.key))
  head_on i x (declared_at d at e) = subst (λ (z : DictEntry). IfSome z.group (λ g. (g.name ≡ z.name) × (g.head ≡ Group z.key))) e (head_declared i d at)
  head_on i x (bare_at k g p at e) =
      let r = at_filter (is_bare s) s.groups k g at in
      subst (λ (z : DictEntry). IfSome z.group (λ g. (g.name ≡ z.name) × (g.head ≡ Group z.key))) e (refl, head_of-group g.head (formed.groups r.0 g r.1))

  group_head_at : (i : ℕ) (x : DictEntry) → slice_get (resolved s).entries i ≡ Some x → IfSome x.group (λ g. (g.name ≡ x.name) × (g.head ≡ Group x.key))
  group_head_at i x at = head_on i x (side i x at)

  command_head_at : (i : ℕ) (c : PlainDefinition) → slice_get (resolved s).commands i ≡ Some c → IsCommandHead c.head
  command_head_at i c at =
      let r = at_map (definition_of s) s.commands i c at in
      subst (λ (d : PlainDefinition). IsCommandHead d.head) r.2 (head_of-command r.0.head (formed.commands i r.0 r.1))

  name_on : (i : ℕ) (x : DictEntry) → Side i x → IsTrue (is_name x.name)
  name_on i x (declared_at d at e) = subst (λ (z : DictEntry). IsTrue (is_name z.name)) e (formed.declared_names i d at)
  name_on i x (bare_at k g p at e) =
      let r = at_filter (is_bare s) s.groups k g at in
      subst (λ (z : DictEntry). IsTrue (is_name z.name)) e (formed.defined_names r.0 g (into_left s.groups s.commands r.0 g r.1))

  name_at : (i : ℕ) (x : DictEntry) → slice_get (resolved s).entries i ≡ Some x → IsTrue (is_name x.name)
  name_at i x at = name_on i x (side i x at)

  command_name_at : (i : ℕ) (c : PlainDefinition) → slice_get (resolved s).commands i ≡ Some c → IsTrue (is_name c.name)
  command_name_at i c at =
      let r = at_map (definition_of s) s.commands i c at in
      subst (λ (d : PlainDefinition). IsTrue (is_name d.name)) r.2 (formed.defined_names (length s.groups + i) r.0 (into_right s.groups s.commands i r.0 r.1))

  group_on : (i : ℕ) (x : DictEntry) (d : PlainDefinition) → Side i x → x.group ≡ Some d → (j : ℕ) × (e : PlainDef) × (slice_get (all_defs s) j ≡ Some e) × (definition_of s e ≡ d)
  group_on i x d (declared_at e at same) has = by (find (names_def e.name) s.groups) refl (ap (λ (z : DictEntry). z.group) same ∙ has)
    where
      by : (o : Option PlainDef) → find (names_def e.name) s.groups ≡ o → option_map (definition_of s) o ≡ Some d
          → (j : ℕ) × (f : PlainDef) × (slice_get (all_defs s) j ≡ Some f) × (definition_of s f ≡ d)
      by None here h = absurd (none-some d h)
      by (Some g) here h = let r = at_find (names_def e.name) s.groups g here in (r.0, g, into_left s.groups s.commands r.0 g r.1, same_Some (definition_of s g) d h)
  group_on i x d (bare_at k g p at same) has =
      let r = at_filter (is_bare s) s.groups k g at in
      (r.0, g, into_left s.groups s.commands r.0 g r.1, same_Some (definition_of s g) d (ap (λ (z : DictEntry). z.group) same ∙ has))

  -- each definition is that of a group or a command
  definition_at : (i : ℕ) (d : PlainDefinition) → slice_get (definitions (resolved s)) i ≡ Some d → (j : ℕ) × (e : PlainDef) × (slice_get (all_defs s) j ≡ Some e) × (definition_of s e ≡ d)
  definition_at i d at =
      ⊎_elim
      (λ h. let r = at_filter_map (λ (x : DictEntry). x.group) (resolved s).entries i d h in group_on r.0 r.1 d (side r.0 r.1 r.2) r.3)
      (λ h. let r = at_map (definition_of s) s.commands h.0 d h.2 in (length s.groups + h.0, r.0, into_right s.groups s.commands h.0 r.0 r.1, r.2))
      (at_append (groups_of (resolved s)) (resolved s).commands i d at)

  known_key : (key : Key) (k : ℕ) (text : List ℕ) → slice_get (avp_names s) k ≡ Some (text, key) → IsSome (entry_of (resolved s) key)
  known_key key k text at =
      let r = at_map name_and_key (resolved s).entries k (text, key) (ap (λ ns. slice_get ns k) names_of_entries ∙ at) in
      position-is_some (λ (x : DictEntry). same_key key x.key) (resolved s).entries k r.0 r.1 (same_key-equal key r.0.key (sym (ap (λ (n : List ℕ × Key). n.1) r.2)))

  rule_key : (r : PlainRule) (key : Key) → (rule_of s r).key ≡ Some key → (text : List ℕ) × (r.name ≡ Some text) × (key_of_name s text ≡ Some key)
  rule_key r key e = by r.name refl e
    where
      by : (o : Option (List ℕ)) → r.name ≡ o → option_and_then (key_of_name s) o ≡ Some key → (text : List ℕ) × (r.name ≡ Some text) × (key_of_name s text ≡ Some key)
      by None here h = absurd (none-some key h)
      by (Some text) here h = (text, here, h)

  known_keys : (def : PlainDefinition) (r : DRule) (key : Key) → Contains (definitions (resolved s)) def → Contains def.rules r → r.key ≡ Some key → IsSome (entry_of (resolved s) key)
  known_keys def r key defined ruled e =
      let d = at_Contains (definitions (resolved s)) def defined in
      let source = definition_at d.place def d.at in
      let m = at_Contains def.rules r ruled in
      let rule = at_map (rule_of s) source.1.rules m.place r (ap (λ (z : PlainDefinition). slice_get z.rules m.place) source.3 ∙ m.at) in
      let named = rule_key rule.0 key (ap (λ (z : DRule). z.key) rule.2 ∙ e) in
      let n = named_key named.0 key named.2 in
      known_key key n.0 named.0 n.1

  -- the key of a rule that names an AVP is known
  defined_rule : (i : ℕ) (d : PlainDef) → slice_get (all_defs s) i ≡ Some d → (j : ℕ) (r : PlainRule) → slice_get d.rules j ≡ Some r
      → (text : List ℕ) → r.name ≡ Some text → (key : Key) × (key_of_name s text ≡ Some key)
  defined_rule i d at j r at' text named = by (key_of_name s text) refl
    where
      by : (o : Option Key) → key_of_name s text ≡ o → (key : Key) × (o ≡ Some key)
      by None here = absurd (let p : true ≡ false = ap (λ (k : Option Key). not (is_some k)) (sym here)
          ∙ ap (λ (n : Option (List ℕ)). option_map_or (λ t. not (is_some (key_of_name s t))) n false) (sym named) ∙ clean.defined i j d r at at' in cc)
      by (Some key) here = (key, refl)

  one_slot : (i : ℕ) (d : PlainDef) → slice_get (all_defs s) i ≡ Some d → (j k : ℕ) (x y : PlainRule)
      → slice_get d.rules j ≡ Some x → slice_get d.rules k ≡ Some y → (rule_of s x).key ≡ (rule_of s y).key → j ≡ k
  one_slot i d at j k x y p q same = by x.name y.name refl refl
    where
      alike : slot_name x ≡ slot_name y → j ≡ k
      alike e = repeats-distinct same_slot d.rules (clean.slots i d at) j k x y p q (same_bytes-equal (slot_name x) (slot_name y) e) (same_bytes-equal (slot_name y) (slot_name x) (sym e))

      one_name : (t u : List ℕ) → x.name ≡ Some t → y.name ≡ Some u → t ≡ u
      one_name t u n m =
          let known = defined_rule i d at j x p t n in
          let other : key_of_name s u ≡ Some known.0 = sym (ap (option_and_then (key_of_name s)) m) ∙ sym same ∙ ap (option_and_then (key_of_name s)) n ∙ known.1 in
          let a = named_key t known.0 known.1 in
          let b = named_key u known.0 other in
          let place : a.0 ≡ b.0 = repeats-distinct same_named (avp_names s) clean.keys a.0 b.0 (t, known.0) (u, known.0) a.1 b.1 (same_key-refl known.0) (same_key-refl known.0) in
          ap (λ (z : List ℕ × Key). z.0) (same_Some {A = List ℕ × Key} (t, known.0) (u, known.0) (sym a.1 ∙ ap (slice_get (avp_names s)) place ∙ b.1))

      by : (o o' : Option (List ℕ)) → x.name ≡ o → y.name ≡ o' → j ≡ k
      by None None n m = alike (ap slot_text (n ∙ sym m))
      by (Some t) (Some u) n m = alike (ap slot_text (n ∙ ap (λ (w : List ℕ). Some w) (one_name t u n m) ∙ sym m))
      by (Some t) None n m =
          let known = defined_rule i d at j x p t n in
          absurd (none-some known.0 (sym (sym (ap (option_and_then (key_of_name s)) n ∙ known.1) ∙ same ∙ ap (option_and_then (key_of_name s)) m)))
      by None (Some u) n m =
          let known = defined_rule i d at k y q u m in
          absurd (none-some known.0 (sym (ap (option_and_then (key_of_name s)) n) ∙ same ∙ ap (option_and_then (key_of_name s)) m ∙ known.1))

  fixed_key : (i : ℕ) (d : PlainDef) → slice_get (all_defs s) i ≡ Some d → (j : ℕ) (r : PlainRule) → slice_get d.rules j ≡ Some r → IsTrue (is_fixed (rule_of s r)) → IsSome (rule_of s r).key
  fixed_key i d at j r at' fixed = by r.name refl (formed.named i j d r at at' (sym (fixed_kind s r) ∙ fixed))
    where
      by : (o : Option (List ℕ)) → r.name ≡ o → is_some o ≡ true → is_some (option_and_then (key_of_name s) r.name) ≡ true
      by None n e = absurd (let p : false ≡ true = e in cc)
      by (Some t) n e = let known = defined_rule i d at j r at' t n in ap is_some (ap (option_and_then (key_of_name s)) n ∙ known.1)

  are_rules : (i : ℕ) (d : PlainDef) → slice_get (all_defs s) i ≡ Some d → AreRules (definition_of s d).rules
  are_rules i d at = record {
    fixed_first = (front is_fixed rules, rest is_fixed rules, front-append-rest is_fixed rules, list_all-front is_fixed rules, fixed_rest s d.rules (formed.ordered i d at));
    distinct = λ j k a b p q same.
        let x = at_map (rule_of s) d.rules j a p in
        let y = at_map (rule_of s) d.rules k b q in
        one_slot i d at j k x.0 y.0 x.1 y.1 (ap (λ (r : DRule). r.key) x.2 ∙ same ∙ sym (ap (λ (r : DRule). r.key) y.2));
    fixed_keys = All-from_places _ _ (λ j a p. let x = at_map (rule_of s) d.rules j a p in subst (λ (r : DRule). IsTrue (is_fixed r) → IsSome r.key) x.2 (fixed_key i d at j x.0 x.1));
    bounds = All-from_places _ _ (λ j a p. let x = at_map (rule_of s) d.rules j a p
        in subst (λ (r : DRule). IfSome r.max (λ max. r.min ≤ max)) x.2 (bounded_rule s x.0 (clean.bounded i j d x.0 at x.1)));
    least = All-from_places _ _ (λ j a p. let x = at_map (rule_of s) d.rules j a p
        in subst (λ (r : DRule). IsLeast r.kind r.min) x.2 (least_rule s x.0 (clean.required i j d x.0 at x.1) (clean.optional i j d x.0 at x.1)));
    few = omega (arith, clean.short i d at, length-map d.rules (rule_of s));
  }
    where
      rules : List DRule
      rules = map (rule_of s) d.rules

  pub few : length (resolved s).entries + length (resolved s).commands ≤ max_parts
  few =
      omega (
        arith,
        clean.few,
        length-append (map (declared_entry s) s.avps) (map (bare_entry s) (bare_groups s)),
        length-map s.avps (declared_entry s),
        length-map (bare_groups s) (bare_entry s),
        length-map s.commands (definition_of s),
        length-filter_both (is_bare s) (λ g. not (is_bare s g)) (λ g. refl) s.groups,
      )

  pub sound : IsDictionary (resolved s)
  sound = record {
    distinct_keys = distinct_keys;
    distinct_names = distinct_names;
    distinct_commands = distinct_commands;
    distinct_selectors = distinct_selectors;
    entry_names = All-from_places _ _ name_at;
    command_names = All-from_places _ _ command_name_at;
    grouped = All-from_places _ _ grouped_at;
    group_heads = All-from_places _ _ group_head_at;
    command_heads = All-from_places _ _ command_head_at;
    known_keys = known_keys;
    rules = All-from_places _ _ (λ i d at. let r = definition_at i d at in subst (λ (e : PlainDefinition). AreRules e.rules) r.3 (are_rules r.0 r.1 r.2));
    few = few;
  }
