-- What is wrong with an AVP by its key and flags, and by its data.
use Rattle.std.proofs.Common.{◌≡◌, ℕ, ◌<◌, ◌≤◌, true, false, List, length, take, Option, Some, None, refl, sym, ap, subst, ◌∙◌, arith, inl, inr}
use Rattle.std.specs.Prelude.{slice_get, MatchOption, IfSome, IsSome, is_some, ◌⊎◌, ◌↔◌}
use Rattle.std.specs.List.{filter_map}
use Rattle.std.specs.Option.{option_map}
use Rattle.std.proofs.lemmas.Option.{none-some, same_Some, slice_get_within, MatchOption-at_some, MatchOption-at_none}
use Rattle.dia_wire.specs.declared.Key.{Key}
use Rattle.dia_wire.specs.Wire.{PlainAvp, key_of}
use Rattle.dia_data.specs.Plain.{PlainFormat, Grouped}
use Rattle.dia_data.specs.Leaf.{IsLeaf}
use Rattle.dia_book.specs.declared.MRule.{MRule}
use Rattle.dia_book.specs.declared.DRule.{DRule}
use Rattle.dia_book.specs.Dictionary.{Dictionary, DictEntry, IsDictionary, PlainDefinition, AreRules, definitions, entry_of, group_place}
use Rattle.dia_terms.specs.declared.Unknown.{Unknown}
use Rattle.dia_terms.specs.declared.Levels.{Levels}
use Rattle.dia_valid.proofs.Entries.{all_at, entry_here, not_known, group_definition, group_of_entry, kept_rules}
use Rattle.dia_check.specs.declared.fault.Reason.{Reason}
use Rattle.dia_check.specs.declared.fault.Reason.TheVariants as reason
use Rattle.dia_check.specs.declared.fault.Subject.{Subject}
use Rattle.dia_check.specs.declared.fault.Subject.TheVariants.{Avp}
use Rattle.dia_check.specs.declared.open_levels.OpenLevel.{OpenLevel}
use Rattle.dia_check.specs.declared.open_levels.OpenLevels.{OpenLevels}
use Rattle.dia_check.specs.declared.open_levels.Wrong.{Wrong}
use Rattle.dia_valid.specs.Valid.{known, MHolds, IsAccepted}
use Rattle.dia_check.specs.Levels.{MayOpen}
use Rattle.dia_check.specs.Reasons.{row_of}
use Rattle.dia_check.specs.OpenLevels.{IsMisplaced, missing, not_allowed, too_many, IsWellPlaced, IsFirstMisplaced, SoFar, AreOpen}
use Rattle.dia_valid.specs.Valid.{HasFlags}
use Rattle.dia_check.specs.Admission.{IsWrongFlags, IsRefused, unknown, m_bit, misplaced, IsAdmitted, IsFirstRefused, IsFineData, IsWrongData, IsFineAvp, IsWrongAvp}

-- ---- flags

module _ (d : Dictionary) (u : Unknown) (key : Key) (flags : ℕ) where
  rule_of_entry : (i : ℕ) (rule : MRule) (e : DictEntry) → slice_get d.entries i ≡ Some e → IfSome (slice_get d.entries i) (λ x. rule ≡ x.rule) → rule ≡ e.rule
  rule_of_entry i rule e at h = let k = subst (λ (o : Option DictEntry). IfSome o (λ x. rule ≡ x.rule)) at h in k

  pub known_flags : (i : ℕ) (rule : MRule) → Some i ≡ entry_of d key → IfSome (slice_get d.entries i) (λ x. rule ≡ x.rule) → MHolds rule flags → HasFlags d u key flags
  known_flags i rule is h holds =
      let (e, at, here) = entry_here d key i is in
      subst (λ (o : Option DictEntry). MatchOption o (IsAccepted u flags) (λ x. MHolds x.rule flags)) (sym here) (subst (λ (r : MRule). MHolds r flags) (rule_of_entry i rule e at h) holds)

  pub known_wrong : (i : ℕ) (rule : MRule) → Some i ≡ entry_of d key → IfSome (slice_get d.entries i) (λ x. rule ≡ x.rule) → ¬ MHolds rule flags
      → IsWrongFlags d u key flags (record { reason = reason.MBit; subject = Avp key })
  known_wrong i rule is h bad =
      let (e, at, here) = entry_here d key i is in (
        refl,
        subst (λ (o : Option DictEntry). MatchOption o ((¬ IsAccepted u flags) × (reason.MBit ≡ reason.Unknown)) (λ x. (¬ MHolds x.rule flags) × (reason.MBit ≡ reason.MBit))) (sym here)
            (subst (λ (r : MRule). ¬ MHolds r flags) (rule_of_entry i rule e at h) bad, refl),
      )

  pub unknown_flags : None ≡ entry_of d key → IsAccepted u flags → HasFlags d u key flags
  unknown_flags is h = subst (λ (o : Option DictEntry). MatchOption o (IsAccepted u flags) (λ x. MHolds x.rule flags)) (sym (not_known d key is)) h

  pub unknown_wrong : None ≡ entry_of d key → ¬ IsAccepted u flags → IsWrongFlags d u key flags (record { reason = reason.Unknown; subject = Avp key })
  unknown_wrong is bad = (
    refl,
    subst (λ (o : Option DictEntry). MatchOption o ((¬ IsAccepted u flags) × (reason.Unknown ≡ reason.Unknown)) (λ x. (¬ MHolds x.rule flags) × (reason.Unknown ≡ reason.MBit)))
        (sym (not_known d key is)) (bad, refl),
  )

  -- ---- refused and admitted

  module _ (rules : List DRule) (keys : List Key) where
    late : (r : Reason) (s : Subject) → IsMisplaced rules keys key r s → 9 ≤ row_of r
    late r s (missing i rule first end) = omega arith
    late r s other = omega arith

    pub refused_by_flags : (wrong : Wrong) → IsWrongFlags d u key flags wrong → IsFirstRefused d u rules keys key flags wrong
    refused_by_flags wrong h = by (known d key) refl h.1
      where
        is_wrong : (r : Reason) → wrong.reason ≡ r → wrong ≡ record { reason = r; subject = Avp key }
        is_wrong r e = ap (λ (s : Subject). record { reason = wrong.reason; subject = s }) h.0 ∙ ap (λ (q : Reason). record { reason = q; subject = Avp key }) e

        after_unknown : (r : Reason) (s : Subject) → IsRefused d u rules keys key flags r s → 7 ≤ row_of r
        after_unknown r s (misplaced q t m) = omega (arith, late q t m)
        after_unknown r s other = omega arith

        after_m_bit : (e : DictEntry) → known d key ≡ Some e → (r : Reason) (s : Subject) → IsRefused d u rules keys key flags r s → 8 ≤ row_of r
        after_m_bit e some r s (unknown none bad) = absurd (none-some e (sym none ∙ some))
        after_m_bit e some r s (m_bit x some' bad) = omega arith
        after_m_bit e some r s (misplaced q t m) = omega (arith, late q t m)

        by : (o : Option DictEntry) → known d key ≡ o → MatchOption o ((¬ IsAccepted u flags) × (wrong.reason ≡ reason.Unknown))
            (λ e. (¬ MHolds e.rule flags) × (wrong.reason ≡ reason.MBit)) → IsFirstRefused d u rules keys key flags wrong
        by None none (bad, e) = subst (IsFirstRefused d u rules keys key flags) (sym (is_wrong reason.Unknown e)) (record { refused = unknown none bad; none_sooner = λ r s x. after_unknown r s x })
        by (Some x) some (bad, e) = subst (IsFirstRefused d u rules keys key flags) (sym (is_wrong reason.MBit e))
            (record { refused = m_bit x some bad; none_sooner = λ r s y. after_m_bit x some r s y })

    pub refused_by_place : (wrong : Wrong) → HasFlags d u key flags → IsFirstMisplaced rules keys key wrong → IsFirstRefused d u rules keys key flags wrong
    refused_by_place wrong has first = record {
      refused = misplaced wrong.reason wrong.subject first.misplaced;
      none_sooner = λ r s h. sooner r s h;
    }
      where
        sooner : (r : Reason) (s : Subject) → IsRefused d u rules keys key flags r s → row_of wrong.reason ≤ row_of r
        sooner r s (unknown none bad) = absurd (bad (MatchOption-at_none (IsAccepted u flags) (λ (e : DictEntry). MHolds e.rule flags) none has))
        sooner r s (m_bit e some bad) = absurd (bad (MatchOption-at_some (IsAccepted u flags) (λ (x : DictEntry). MHolds x.rule flags) e some has))
        sooner r s (misplaced q t m) = first.none_sooner q t m

    pub admitted : HasFlags d u key flags → IsWellPlaced rules keys key → IsAdmitted d u rules keys key flags
    admitted has none r s (unknown k bad) = bad (MatchOption-at_none (IsAccepted u flags) (λ (e : DictEntry). MHolds e.rule flags) k has)
    admitted has none r s (m_bit e some bad) = bad (MatchOption-at_some (IsAccepted u flags) (λ (x : DictEntry). MHolds x.rule flags) e some has)
    admitted has none r s (misplaced q t m) = none q t m

-- ---- data

-- what is said of the entry's format
pub answer_at : (d : Dictionary) (i : ℕ) (e : DictEntry) (format : PlainFormat) (bytes : List ℕ) → slice_get d.entries i ≡ Some e → IfSome (slice_get d.entries i) (λ x. format ≡ x.format)
    → IsLeaf format bytes ⊎ (format ≡ Grouped) → IsLeaf e.format bytes ⊎ (e.format ≡ Grouped)
answer_at d i e format bytes at h leaf =
    let same : format ≡ e.format = subst (λ (o : Option DictEntry). IfSome o (λ x. format ≡ x.format)) at h in
    subst (λ (f : PlainFormat). IsLeaf f bytes ⊎ (f ≡ Grouped)) same leaf

module _ (d : Dictionary) (sound : IsDictionary d) (most : Levels) (depth i : ℕ) (e : DictEntry) (at : slice_get d.entries i ≡ Some e) (bytes : List ℕ) where
  grouped : (e.format ≡ Grouped) ↔ IsSome e.group
  grouped = all_at (λ (x : DictEntry). (x.format ≡ Grouped) ↔ IsSome x.group) d.entries i e sound.grouped at

  no_group : None ≡ group_place d i → e.group ≡ None
  no_group is = by e.group (is ∙ group_of_entry d i e at)
    where
      by : (o : Option PlainDefinition) → None ≡ option_map (λ _. length (filter_map (λ y. y.group) (take i d.entries))) o → o ≡ None
      by None h = refl
      by (Some g) h = absurd (none-some (length (filter_map (λ (y : DictEntry). y.group) (take i d.entries))) h)

  pub is_grouped : (n : ℕ) → Some n ≡ group_place d i → e.format ≡ Grouped
  is_grouped n is = let (g, some, here) = group_definition d i e at n is in grouped.1 (ap (λ (o : Option PlainDefinition). is_some o) some)

  pub leaf_data : IsLeaf e.format bytes ⊎ (e.format ≡ Grouped) → None ≡ group_place d i → IsFineData d most depth e bytes None
  leaf_data leaf none = record {
    leaf = leaf;
    opens = λ is. let some : is_some e.group ≡ true = grouped.0 is in
        let other : is_some e.group ≡ false = ap (λ (o : Option PlainDefinition). is_some o) (no_group none) in absurd (let x : true ≡ false = sym some ∙ other in cc);
    definition = no_group none;
  }

  pub group_data : (n : ℕ) → IsLeaf e.format bytes ⊎ (e.format ≡ Grouped) → Some n ≡ group_place d i → MayOpen most depth → IsFineData d most depth e bytes (Some n)
  group_data n leaf some may = record { leaf = leaf; opens = λ is. may; definition = group_definition d i e at n some }

  pub too_deep : (n : ℕ) → IsLeaf e.format bytes ⊎ (e.format ≡ Grouped) → Some n ≡ group_place d i → ¬ MayOpen most depth
      → (IsLeaf e.format bytes ⊎ (e.format ≡ Grouped)) × (e.format ≡ Grouped) × (¬ MayOpen most depth)
  too_deep n leaf some deep = (leaf, is_grouped n some, deep)

-- ---- the innermost level and its definition

pub def_within : (d : Dictionary) (o : OpenLevels) (outer : List SoFar) (level : SoFar) (kept : OpenLevel) → AreOpen (definitions d) o outer level → kept ≡ o.innermost
    → kept.def < length (definitions d)
def_within d o outer level kept now same =
    subst (λ (k : OpenLevel). k.def < length (definitions d)) (sym same) (slice_get_within (definitions d) o.innermost.def now.innermost.definition now.innermost.is_definition)

pub rules_here : (d : Dictionary) (o : OpenLevels) (outer : List SoFar) (level : SoFar) (kept : OpenLevel) (def : PlainDefinition) (rules : List DRule)
    → AreOpen (definitions d) o outer level → kept ≡ o.innermost
    → slice_get (definitions d) kept.def ≡ Some def → rules ≡ def.rules → level.rules ≡ rules
rules_here d o outer level kept def rules now same at is =
    let here : slice_get (definitions d) o.innermost.def ≡ Some def = ap (λ (k : OpenLevel). slice_get (definitions d) k.def) (sym same) ∙ at in
    sym now.innermost.is_rules ∙ ap (λ (x : PlainDefinition). x.rules) (same_Some now.innermost.definition def (sym now.innermost.is_definition ∙ here)) ∙ sym is

pub are_rules_here : (d : Dictionary) (i : ℕ) (def : PlainDefinition) (rules : List DRule) → IsDictionary d → slice_get (definitions d) i ≡ Some def → rules ≡ def.rules → AreRules rules
are_rules_here d i def rules sound at is = subst AreRules (sym is) (kept_rules d i def sound at)

-- ---- an AVP

abbrev pub no_number : Option ℕ
no_number = None

module _ (d : Dictionary) (u : Unknown) (most : Levels) (rules : List DRule) (keys : List Key) (v : PlainAvp) (k : Key) (same : k ≡ key_of v) where
  pub fine_known : (depth deep i : ℕ) (group : Option ℕ) → depth ≡ deep → IsAdmitted d u rules keys k v.flags → Some i ≡ entry_of d k
      → ((e : DictEntry) → slice_get d.entries i ≡ Some e → IsFineData d most depth e v.bytes group) → IsFineAvp d u most deep rules keys v group
  fine_known depth deep i group level admits is says =
      let (e, at, here) = entry_here d k i is in
      subst (λ (x : Key). IsAdmitted d u rules keys x v.flags × MatchOption (known d x) (group ≡ None) (λ y. IsFineData d most deep y v.bytes group)) same (
        admits,
        subst (λ (o : Option DictEntry). MatchOption o (group ≡ None) (λ y. IsFineData d most deep y v.bytes group)) (sym here)
            (subst (λ (n : ℕ). IsFineData d most n e v.bytes group) level (says e at)),
      )

  pub fine_unknown : (deep : ℕ) → IsAdmitted d u rules keys k v.flags → None ≡ entry_of d k → IsFineAvp d u most deep rules keys v None
  fine_unknown deep admits is =
      subst (λ (x : Key). IsAdmitted d u rules keys x v.flags × MatchOption (known d x) (no_number ≡ no_number) (λ y. IsFineData d most deep y v.bytes None)) same
      (admits, subst (λ (o : Option DictEntry). MatchOption o (no_number ≡ no_number) (λ y. IsFineData d most deep y v.bytes None)) (sym (not_known d k is)) refl)

  pub wrong_refused : (deep : ℕ) (wrong : Wrong) → IsFirstRefused d u rules keys k v.flags wrong → IsWrongAvp d u most deep rules keys v wrong
  wrong_refused deep wrong first = inl (subst (λ (x : Key). IsFirstRefused d u rules keys x v.flags wrong) same first)

  pub wrong_data : (depth deep i : ℕ) (r : Reason) → depth ≡ deep → IsAdmitted d u rules keys k v.flags → Some i ≡ entry_of d k
      → ((e : DictEntry) → slice_get d.entries i ≡ Some e → IsWrongData most depth e v.bytes r) → IsWrongAvp d u most deep rules keys v (record { reason = r; subject = Avp k })
  wrong_data depth deep i r level admits is says =
      let (e, at, here) = entry_here d k i is in
      inr (
        subst (λ (x : Key). IsAdmitted d u rules keys x v.flags) same admits,
        ap (λ (x : Key). Avp x) same,
        (e, ap (λ (x : Key). known d x) (sym same) ∙ here, subst (λ (n : ℕ). IsWrongData most n e v.bytes r) level (says e at)),
      )
