-- What is wrong with the data of an AVP, and whether it is a level.
use Rattle.std.proofs.Common.{◌≡◌, ℕ, List, [], ◌∷◌, Option, Some, None, refl, sym, ap, subst, ◌∙◌}
use Rattle.std.specs.Prelude.{slice_get, IsSome, option_and_then, ◌↔◌}
use Rattle.dia_wire.specs.declared.Key.{Key}
use Rattle.dia_wire.specs.Wire.{PlainAvp, key_of}
use Rattle.dia_data.specs.Plain.{PlainFormat, Grouped}
use Rattle.dia_data.specs.Leaf.{LengthFits}
use Rattle.dia_book.specs.Dictionary.{Dictionary, DictEntry, IsDictionary, PlainDefinition, entry_of}
use Rattle.dia_terms.specs.declared.Levels.{Levels}
use Rattle.dia_valid.specs.Valid.{known, group_at}
use Rattle.dia_valid.proofs.Entries.{all_at, entry_here, not_known}
use Rattle.dia_check.specs.declared.fault.Reason.{Reason}
use Rattle.dia_check.specs.declared.fault.Reason.TheVariants as reason
use Rattle.dia_check.specs.declared.fault.Subject.TheVariants.{Avp}
use Rattle.dia_check.specs.Admission.{IsFineData, IsWrongData}
use Rattle.dia_faults.specs.Levels.{IsFilled, IsOpened}
use Rattle.dia_faults.specs.Levels as levels
use Rattle.dia_faults.specs.States.{IsOpenedAs}

module _ (d : Dictionary) (most : Levels) (depth : ℕ) (key : Key) (v : PlainAvp) (is_key : key_of v ≡ key) where
  is_unknown : None ≡ entry_of d key → known d (key_of v) ≡ None
  is_unknown none = ap (known d) is_key ∙ not_known d key none

  pub unknown_filled : None ≡ entry_of d key → IsFilled d most depth v []
  unknown_filled none = levels.unknown (is_unknown none)

  pub unknown_opened : None ≡ entry_of d key → IsOpenedAs d most depth v None
  unknown_opened none = levels.leaf (ap (λ (o : Option DictEntry). option_and_then (λ e. e.group) o) (is_unknown none))

  module _ (sound : IsDictionary d) (i : ℕ) (some : Some i ≡ entry_of d key) (bytes : List ℕ) (is_bytes : v.bytes ≡ bytes) where
    is_known : (e : DictEntry) × (slice_get d.entries i ≡ Some e) × (known d (key_of v) ≡ Some e)
    is_known = let (e, at, here) = entry_here d key i some in (e, at, ap (known d) is_key ∙ here)

    the_group : group_at d v ≡ is_known.0.group
    the_group = ap (λ (o : Option DictEntry). option_and_then (λ e. e.group) o) is_known.2

    pub fine_filled : (group : Option ℕ) → ((e : DictEntry) → slice_get d.entries i ≡ Some e → IsFineData d most depth e bytes group) → IsFilled d most depth v []
    fine_filled group says =
        let fine = subst (λ (b : List ℕ). IsFineData d most depth is_known.0 b group) (sym is_bytes) (says is_known.0 is_known.1) in
        levels.fine is_known.0 is_known.2 (fine.leaf, fine.opens)

    grouped : (is_known.0.format ≡ Grouped) ↔ IsSome is_known.0.group
    grouped = all_at (λ (x : DictEntry). (x.format ≡ Grouped) ↔ IsSome x.group) d.entries i is_known.0 sound.grouped is_known.1

    pub fine_opened : (group : Option ℕ) → ((e : DictEntry) → slice_get d.entries i ≡ Some e → IsFineData d most depth e bytes group) → IsOpenedAs d most depth v group
    fine_opened None says = levels.leaf (the_group ∙ (says is_known.0 is_known.1).definition)
    fine_opened (Some n) says =
        let fine = says is_known.0 is_known.1 in
        let (g, is_group, at) = fine.definition in
        let format = grouped.1 (subst (λ (o : Option PlainDefinition). IsSome o) (sym is_group) refl) in
        (g, at, levels.group g (the_group ∙ is_group) (fine.opens format))

    pub wrong_filled : (r : Reason) → ((e : DictEntry) → slice_get d.entries i ≡ Some e → IsWrongData most depth e bytes r)
        → IsFilled d most depth v (record { reason = r; subject = Avp key } ∷ [])
    wrong_filled r says =
        subst (λ (k : Key). IsFilled d most depth v (record { reason = r; subject = Avp k } ∷ [])) is_key
        (levels.wrong is_known.0 r is_known.2 (subst (λ (b : List ℕ). IsWrongData most depth is_known.0 b r) (sym is_bytes) (says is_known.0 is_known.1)))

    no_leaf : ¬ (is_known.0.format ≡ Grouped) → is_known.0.group ≡ None
    no_leaf single = by is_known.0.group refl
      where
        by : (o : Option PlainDefinition) → is_known.0.group ≡ o → o ≡ None
        by None e = refl
        by (Some g) e = absurd (single (grouped.1 (subst (λ (o : Option PlainDefinition). IsSome o) (sym e) refl)))

    pub wrong_opened : (r : Reason) → ((e : DictEntry) → slice_get d.entries i ≡ Some e → IsWrongData most depth e bytes r) → IsOpenedAs d most depth v None
    wrong_opened r says = by r (says is_known.0 is_known.1)
      where
        by : (q : Reason) → IsWrongData most depth is_known.0 bytes q → IsOpened d most depth v None
        by reason.LeafLength bad = levels.leaf (the_group ∙ no_leaf (λ is. bad (subst (λ (f : PlainFormat). LengthFits f bytes) (sym is) tt)))
        by reason.LeafValue bad = levels.leaf (the_group ∙ no_leaf bad.2)
        by reason.Depth bad = levels.deep bad.2
        by other bad = absurd bad
