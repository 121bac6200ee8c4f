-- No line if and only if both dictionaries mean the same.
use Rattle.std.proofs.Common.{◌≡◌, ℕ, false, true, List, [], length, map, Option, Some, None, refl, sym, ap, subst, ◌∙◌}
use Rattle.std.specs.Prelude.{◌↔◌, IsSome, slice_get}
use Rattle.std.proofs.lemmas.List.{length-map, nil_from_length}
use Rattle.std.proofs.lemmas.Option.{none-some, same_Some}
use Rattle.dia_book.specs.declared.definition.DRule.{DRule}
use Rattle.dia_book.specs.Dictionary.{Dictionary, IsDictionary}
use Rattle.dia_differences.specs.declared.owner.Owner.{Owner}
use Rattle.dia_differences.specs.declared.owner.Owner.TheVariants as owners
use Rattle.dia_differences.specs.Owners.{rules_of}
use Rattle.dia_differences.specs.declared.lines.AvpField.{AvpField}
use Rattle.dia_differences.specs.declared.lines.AvpField.TheVariants as avps
use Rattle.dia_differences.specs.declared.lines.HeadField.{HeadField}
use Rattle.dia_differences.specs.declared.lines.HeadField.TheVariants as heads
use Rattle.dia_differences.specs.declared.lines.Line.{Line}
use Rattle.dia_differences.specs.declared.lines.What.{What}
use Rattle.dia_differences.specs.declared.lines.What.TheVariants as kinds
use Rattle.dia_differences.specs.declared.sides.Side.TheVariants as sides
use Rattle.dia_differences.specs.Same.{IsSameDictionary}
use Rattle.dia_differences.specs.declared.partners.Partners.{Partners}
use Rattle.dia_differences.specs.Partners.{Matches, matches_of, paired}
use Rattle.dia_differences.specs.Matching.{At, IsSameAt, IsSameField, IsSameHeadField, partner_of, rule_place}
use Rattle.dia_differences.specs.Lines.{AddedAvp, AddedAvpAt, AddedCommand, AddedCommandAt, Adds, AreDifferences, AllRules, AloneAvp, AloneCommand, AreLinesBy, AvpAt, AvpLines, AvpsAdded, AvpsOfFirst, CommandAt, CommandLines, CommandsAdded, CommandsOfFirst, FieldLine, FieldLines, HeadLine, HeadLines, OtherRules, OwnRules, RuleLine, RuleLines, Then, Unless, place_of, unmarked}
use Rattle.dia_differences.proofs.EmptyLists.{Before, EmptyIff, empty_alone, empty_each, empty_for, empty_only, empty_rules, empty_then, empty_unless}
use Rattle.dia_differences.proofs.SameThings.{HasSameAvp, HasSameCommand, HasSameRule, HaveSameFields, HaveSameHeads, HaveSameRules}
use Rattle.dia_differences.proofs.Pairing.{ArePaired, are_paired}
use Rattle.dia_differences.proofs.Chains.{adds_then}
use Rattle.dia_differences.proofs.SameMeaning.{no_added_avp, no_added_command, no_avp_line, no_command_line, same_without_lines}

-- ---- rules

rule_line : (a b : Dictionary) (pairs : List (Option ℕ)) (own other : Owner) (i : ℕ) (r : DRule) → EmptyIff (RuleLine own other i r (rules_of b other) (rule_place a b pairs other r)) (HasSameRule a b pairs other i r)
rule_line a b pairs own other i r = by (rule_place a b pairs other r) refl
  where
    by : (o : Option ℕ) → rule_place a b pairs other r ≡ o → EmptyIff (RuleLine own other i r (rules_of b other) o) (HasSameRule a b pairs other i r)
    by None is = empty_for (RuleLine own other i r (rules_of b other) None) ⊥ (HasSameRule a b pairs other i r) (λ h. absurd h) (λ h. none-some h.0 (sym is ∙ h.1)) (empty_only (kinds.Rule sides.First (place_of own i)))
    by (Some j) is =
        empty_for (RuleLine own other i r (rules_of b other) (Some j)) (IsSameAt r i (rules_of b other) j) (HasSameRule a b pairs other i r) (λ s. (j, is, s))
        (λ h. subst (λ (k : ℕ). IsSameAt r i (rules_of b other) k) (same_Some h.0 j (sym h.1 ∙ is)) h.2)
        (empty_unless (IsSameAt r i (rules_of b other) j) (kinds.RuleChange (place_of own i) (place_of other j)))

rule_lines : (a b : Dictionary) (m : Matches) (own other : Owner) → EmptyIff (RuleLines a b m own other) (HaveSameRules a b m own other)
rule_lines a b m own other =
    let OwnAre : Type 0 = (i : ℕ) (r : DRule) → slice_get (rules_of a own) i ≡ Some r → HasSameRule a b m.avps other i r in
    let OthersAre : Type 0 = (j : ℕ) (r : DRule) → slice_get (rules_of b other) j ≡ Some r → IsSome (rule_place b a m.avps_back own r) in
    empty_for (RuleLines a b m own other) (OwnAre × OthersAre) (HaveSameRules a b m own other) (λ h. record { rules = h.0; others = h.1 }) (λ h. (h.rules, h.others))
    (empty_then (OwnRules a b m.avps own other) (OtherRules a b m.avps_back own other) OwnAre OthersAre
    (empty_rules (rules_of a own) (λ i r. RuleLine own other i r (rules_of b other) (rule_place a b m.avps other r)) (λ i r. HasSameRule a b m.avps other i r) (rule_line a b m.avps own other))
    (empty_rules (rules_of b other) (λ j r ws. Unless (IsSome (rule_place b a m.avps_back own r)) (kinds.NewRule own (place_of other j)) ws) (λ j r. IsSome (rule_place b a m.avps_back own r))
    (λ j r. empty_unless (IsSome (rule_place b a m.avps_back own r)) (kinds.NewRule own (place_of other j)))))

-- ---- AVPs and commands

module _ (a b : Dictionary) (i j : ℕ) where
  field_lines : EmptyIff (FieldLines a b i j) (HaveSameFields a b i j)
  field_lines =
      let F : AvpField → Type 0 = λ field. At (IsSameField field) a.entries b.entries i j in
      let L : AvpField → List What → Type 0 = FieldLine a b i j in
      let one : (field : AvpField) → EmptyIff (L field) (F field) = λ field. empty_unless (F field) (kinds.AvpField i j field) in
      empty_for (FieldLines a b i j) ((((F avps.Name × F avps.Code) × F avps.Vendor) × F avps.Format) × F avps.MRule) (HaveSameFields a b i j)
      (λ h. record { name = h.0.0.0.0; code = h.0.0.0.1; vendor = h.0.0.1; format = h.0.1; m_rule = h.1 }) (λ h. ((((h.name, h.code), h.vendor), h.format), h.m_rule))
      (empty_then (Then (Then (Then (L avps.Name) (L avps.Code)) (L avps.Vendor)) (L avps.Format)) (L avps.MRule) (((F avps.Name × F avps.Code) × F avps.Vendor) × F avps.Format) (F avps.MRule)
      (empty_then (Then (Then (L avps.Name) (L avps.Code)) (L avps.Vendor)) (L avps.Format) ((F avps.Name × F avps.Code) × F avps.Vendor) (F avps.Format)
      (empty_then (Then (L avps.Name) (L avps.Code)) (L avps.Vendor) (F avps.Name × F avps.Code) (F avps.Vendor)
      (empty_then (L avps.Name) (L avps.Code) (F avps.Name) (F avps.Code) (one avps.Name) (one avps.Code)) (one avps.Vendor)) (one avps.Format)) (one avps.MRule))

  head_lines : EmptyIff (HeadLines a b i j) (HaveSameHeads a b i j)
  head_lines =
      let F : HeadField → Type 0 = λ field. At (IsSameHeadField field) a.commands b.commands i j in
      let L : HeadField → List What → Type 0 = HeadLine a b i j in
      let one : (field : HeadField) → EmptyIff (L field) (F field) = λ field. empty_unless (F field) (kinds.HeadField i j field) in
      empty_for (HeadLines a b i j) ((((F heads.Name × F heads.Code) × F heads.Class) × F heads.Application) × F heads.Proxiable) (HaveSameHeads a b i j)
      (λ h. record { name = h.0.0.0.0; code = h.0.0.0.1; class = h.0.0.1; app = h.0.1; p = h.1 }) (λ h. ((((h.name, h.code), h.class), h.app), h.p))
      (empty_then (Then (Then (Then (L heads.Name) (L heads.Code)) (L heads.Class)) (L heads.Application)) (L heads.Proxiable) (((F heads.Name × F heads.Code) × F heads.Class) × F heads.Application) (F heads.Proxiable)
      (empty_then (Then (Then (L heads.Name) (L heads.Code)) (L heads.Class)) (L heads.Application) ((F heads.Name × F heads.Code) × F heads.Class) (F heads.Application)
      (empty_then (Then (L heads.Name) (L heads.Code)) (L heads.Class) (F heads.Name × F heads.Code) (F heads.Class)
      (empty_then (L heads.Name) (L heads.Code) (F heads.Name) (F heads.Code) (one heads.Name) (one heads.Code)) (one heads.Class)) (one heads.Application)) (one heads.Proxiable))

module _ (a b : Dictionary) (m : Matches) where
  avp_lines : (i : ℕ) → EmptyIff (AvpLines a b m i (partner_of m.avps i (length b.entries))) (HasSameAvp a b m i)
  avp_lines i = by (partner_of m.avps i (length b.entries)) refl
    where
      by : (o : Option ℕ) → partner_of m.avps i (length b.entries) ≡ o → EmptyIff (AvpLines a b m i o) (HasSameAvp a b m i)
      by None is =
          empty_for (AloneAvp sides.First a i) ⊥ (HasSameAvp a b m i) (λ h. absurd h) (λ h. none-some h.place (sym is ∙ h.is))
          (empty_alone (kinds.Avp sides.First i) (AllRules sides.First (owners.Avp i) (length (rules_of a (owners.Avp i)))))
      by (Some j) is =
          empty_for (AvpLines a b m i (Some j)) (HaveSameFields a b i j × HaveSameRules a b m (owners.Avp i) (owners.Avp j)) (HasSameAvp a b m i) (λ h. record { place = j; is = is; fields = h.0; rules = h.1 }) (λ h.
          let place : h.place ≡ j = same_Some h.place j (sym h.is ∙ is) in
          (subst (λ (k : ℕ). HaveSameFields a b i k) place h.fields, subst (λ (k : ℕ). HaveSameRules a b m (owners.Avp i) (owners.Avp k)) place h.rules))
          (empty_then (FieldLines a b i j) (RuleLines a b m (owners.Avp i) (owners.Avp j)) (HaveSameFields a b i j) (HaveSameRules a b m (owners.Avp i) (owners.Avp j)) (field_lines a b i j) (rule_lines a b m (owners.Avp i) (owners.Avp j)))

  command_lines : (i : ℕ) → EmptyIff (CommandLines a b m i (partner_of m.commands i (length b.commands))) (HasSameCommand a b m i)
  command_lines i = by (partner_of m.commands i (length b.commands)) refl
    where
      by : (o : Option ℕ) → partner_of m.commands i (length b.commands) ≡ o → EmptyIff (CommandLines a b m i o) (HasSameCommand a b m i)
      by None is =
          empty_for (AloneCommand sides.First a i) ⊥ (HasSameCommand a b m i) (λ h. absurd h) (λ h. none-some h.place (sym is ∙ h.is))
          (empty_alone (kinds.Command sides.First i) (AllRules sides.First (owners.Command i) (length (rules_of a (owners.Command i)))))
      by (Some j) is =
          empty_for (CommandLines a b m i (Some j)) (HaveSameHeads a b i j × HaveSameRules a b m (owners.Command i) (owners.Command j)) (HasSameCommand a b m i) (λ h. record { place = j; is = is; fields = h.0; rules = h.1 }) (λ h.
          let place : h.place ≡ j = same_Some h.place j (sym h.is ∙ is) in
          (subst (λ (k : ℕ). HaveSameHeads a b i k) place h.fields, subst (λ (k : ℕ). HaveSameRules a b m (owners.Command i) (owners.Command k)) place h.rules))
          (empty_then (HeadLines a b i j) (RuleLines a b m (owners.Command i) (owners.Command j)) (HaveSameHeads a b i j) (HaveSameRules a b m (owners.Command i) (owners.Command j)) (head_lines a b i j) (rule_lines a b m (owners.Command i) (owners.Command j)))

-- no place
abbrev absent : Option ℕ
absent = None

added_avp : (b : Dictionary) (j : ℕ) (o : Option ℕ) → EmptyIff (AddedAvp b j o) (IsSome o)
added_avp b j None =
    empty_for (AloneAvp sides.Second b j) ⊥ (IsSome absent) (λ h. absurd h) (λ h. let n : false ≡ true = h in cc)
    (empty_alone (kinds.Avp sides.Second j) (AllRules sides.Second (owners.Avp j) (length (rules_of b (owners.Avp j)))))
added_avp b j (Some i) = λ ws e. (λ n. refl, λ h. e)

added_command : (b : Dictionary) (j : ℕ) (o : Option ℕ) → EmptyIff (AddedCommand b j o) (IsSome o)
added_command b j None =
    empty_for (AloneCommand sides.Second b j) ⊥ (IsSome absent) (λ h. absurd h) (λ h. let n : false ≡ true = h in cc)
    (empty_alone (kinds.Command sides.Second j) (AllRules sides.Second (owners.Command j) (length (rules_of b (owners.Command j)))))
added_command b j (Some i) = λ ws e. (λ n. refl, λ h. e)

-- ---- all

pub no_lines : (a b : Dictionary) (m : Matches) → IsDictionary a → IsDictionary b → ArePaired a b m → EmptyIff (AreLinesBy a b m) (IsSameDictionary a b)
no_lines a b m sound_a sound_b are =
    let Avps : ℕ → Type 0 = HasSameAvp a b m in
    let Commands : ℕ → Type 0 = HasSameCommand a b m in
    let Back : ℕ → Type 0 = λ j. IsSome (partner_of m.avps_back j (length a.entries)) in
    let CommandsBack : ℕ → Type 0 = λ j. IsSome (partner_of m.commands_back j (length a.commands)) in
    let n = length a.entries in
    let k = length b.entries in
    empty_for (AreLinesBy a b m) (((Before Avps n × Before Back k) × Before Commands (length a.commands)) × Before CommandsBack (length b.commands)) (IsSameDictionary a b)
    (λ h. same_without_lines a b m sound_a sound_b are h.0.0.0 h.0.0.1 h.0.1 h.1)
    (λ same. (
      ((no_avp_line a b m sound_a sound_b are same, no_added_avp a b m sound_a sound_b are same), no_command_line a b m sound_a sound_b are same),
      no_added_command a b m sound_a sound_b are same,
    ))
    (empty_then (Then (Then (AvpsOfFirst a b m) (AvpsAdded b n m.avps_back)) (CommandsOfFirst a b m)) (CommandsAdded b (length a.commands) m.commands_back)
    ((Before Avps n × Before Back k) × Before Commands (length a.commands)) (Before CommandsBack (length b.commands))
    (empty_then (Then (AvpsOfFirst a b m) (AvpsAdded b n m.avps_back)) (CommandsOfFirst a b m) (Before Avps n × Before Back k) (Before Commands (length a.commands))
    (empty_then (AvpsOfFirst a b m) (AvpsAdded b n m.avps_back) (Before Avps n) (Before Back k)
    (empty_each (AvpAt a b m) Avps n (λ i less. avp_lines a b m i))
    (empty_each (AddedAvpAt b n m.avps_back) Back k (λ j less. added_avp b j (partner_of m.avps_back j n))))
    (empty_each (CommandAt a b m) Commands (length a.commands) (λ i less. command_lines a b m i)))
    (empty_each (AddedCommandAt b (length a.commands) m.commands_back) CommandsBack (length b.commands) (λ j less. added_command b j (partner_of m.commands_back j (length a.commands)))))

-- the same of lines that are those of the differences
no_length : (ws : List What) (lines : List Line) (P : Type 0) → lines ≡ map unmarked ws → (ws ≡ []) ↔ P → (length lines ≡ 0) ↔ P
no_length ws lines P is iff = (
  λ e. iff.0 (nil_from_length ws (sym (length-map ws unmarked) ∙ sym (ap (λ (ls : List Line). length ls) is) ∙ e)),
  λ p. ap (λ (ls : List Line). length ls) is ∙ ap (λ (vs : List What). length (map unmarked vs)) (iff.1 p),
)

pub none_if_same : (a b : Dictionary) (lines : List Line) → IsDictionary a → IsDictionary b → Adds [] lines (AreDifferences a b) → (length lines ≡ 0) ↔ IsSameDictionary a b
none_if_same a b lines sound_a sound_b added =
    no_length added.0 lines (IsSameDictionary a b) added.1 (no_lines a b (matches_of a b) sound_a sound_b (are_paired a b sound_a sound_b) added.0 added.2)

pub all_lines : (a b : Dictionary) (p : Partners) (n m : ℕ) (l0 l1 l2 l3 l4 : List Line) → paired p ≡ matches_of a b → n ≡ length a.entries → m ≡ length a.commands → l0 ≡ []
    → Adds l0 l1 (AvpsOfFirst a b (paired p)) → Adds l1 l2 (AvpsAdded b n p.avps.back.items) → Adds l2 l3 (CommandsOfFirst a b (paired p)) → Adds l3 l4 (CommandsAdded b m p.commands.back.items)
    → Adds [] l4 (AreDifferences a b)
all_lines a b p n m l0 l1 l2 l3 l4 are many commands empty f1 f2 f3 f4 =
    let q = paired p in
    let g2 : Adds l1 l2 (AvpsAdded b (length a.entries) q.avps_back) = subst (λ (k : ℕ). Adds l1 l2 (AvpsAdded b k p.avps.back.items)) many f2 in
    let g4 : Adds l3 l4 (CommandsAdded b (length a.commands) q.commands_back) = subst (λ (k : ℕ). Adds l3 l4 (CommandsAdded b k p.commands.back.items)) commands f4 in
    let all : Adds l0 l4 (AreLinesBy a b q) =
    adds_then (Then (Then (AvpsOfFirst a b q) (AvpsAdded b (length a.entries) q.avps_back)) (CommandsOfFirst a b q)) (CommandsAdded b (length a.commands) q.commands_back) l0 l3 l4
    (adds_then (Then (AvpsOfFirst a b q) (AvpsAdded b (length a.entries) q.avps_back)) (CommandsOfFirst a b q) l0 l2 l3
    (adds_then (AvpsOfFirst a b q) (AvpsAdded b (length a.entries) q.avps_back) l0 l1 l2 f1 g2) f3) g4 in
    subst (λ (ls : List Line). Adds ls l4 (AreDifferences a b)) empty (subst (λ (r : Matches). Adds l0 l4 (AreLinesBy a b r)) are all)
