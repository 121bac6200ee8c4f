-- A source with nothing wrong, member by member.
use Rattle.std.proofs.Common.{◌≡◌, ℕ, ◌+◌, ◌≤◌, Bool, true, false, cond, nat_lt, List, [], ◌∷◌, ◌++◌, length, map, filter, Option, Some, None, ⊎_elim, refl, sym, ap, ◌∙◌, subst}
use Rattle.std.specs.Prelude.{slice_get, IsSome, IsTrue, not, string_bytes, String, if◌then◌else◌}
use Rattle.std.specs.Global.{Global}
use Rattle.std.specs.Option.{option_map}
use Rattle.std.proofs.lemmas.Bool.{ltb-false}
use Rattle.std.proofs.lemmas.List.{map-append}
use Rattle.std.proofs.lemmas.Simd.{map-map}
use Rattle.dia_wire.specs.declared.Key.{Key}
use Rattle.dia_ccf.specs.declared.source.Source.{Source}
use Rattle.dia_ccf.specs.declared.source.Def.{Def}
use Rattle.dia_terms.specs.declared.RuleKind.{RuleKind}
use Rattle.dia_terms.specs.declared.RuleKind.TheVariants.{Fixed, Required, Optional}
use Rattle.dia_terms.specs.Names.{same_bytes, is_name}
use Rattle.dia_ccf.specs.Names.{is_group, is_fixed, is_rule_name, fixed_first}
use Rattle.dia_ccf.specs.Plain.{PlainSource, PlainDecl, PlainDef, PlainRule, plain_source, plain_decl, plain_def, plain_rule}
use Rattle.dia_book.specs.Limits.{max_rules, max_parts}
use Rattle.dia_dict.specs.declared.fault.DictKind.TheVariants as kind
use Rattle.dia_dict.specs.declared.fault.DictKind.{DictKind}
use Rattle.dia_dict.specs.declared.findings.Part.{Part}
use Rattle.dia_dict.specs.declared.findings.PartKind.TheVariants as part
use Rattle.dia_dict.specs.Resolution.{Wrong, wrong, PlainFinding, finding, all_findings, all_wrong, first_wrong, wrong_limits, wrong_names, wrong_entries, wrong_rules, too_many}
use Rattle.dia_dict.specs.Resolution.{part_at, rule_at, placed_avps, placed_groups, placed_commands, placed_defs, placed_rules, placed_names, first_decls, first_defs, firsts, alone, again, repeats}
use Rattle.dia_dict.specs.Resolution.{duplicate_avps, duplicate_defs, same_decl_name, same_def_name, no_groups, header_mismatches, mismatch_of, duplicate_keys, duplicate_commands, bad_rules, bad_in}
use Rattle.dia_dict.specs.Resolution.{repeated_slots, repeated_in, same_slot, slot_name, lacks_group, is_mismatched, is_long, is_bad, is_bare, bare_groups, key_of_decl, group_key}
use Rattle.dia_dict.proofs.Duplicates.{same_named, same_command}
use Rattle.dia_dict.proofs.Firsts.{firsts-all}
use Rattle.dia_dict.proofs.Placing.{placed-members}
use Rattle.dia_dict.proofs.Repeats.{both, repeats-map}
use Rattle.dia_book.proofs.Members.{append-none, first-none, map-none, filter-none_at, flat_map-none_at, list_all_at, at_map, at_append}

-- groups and then commands
abbrev pub all_defs : PlainSource → List PlainDef
all_defs s = s.groups ++ s.commands

abbrev name_and_key : PlainDecl → List ℕ × Key
name_and_key d = (d.name, key_of_decl d)

abbrev name_and_group_key : PlainDef → List ℕ × Key
name_and_group_key g = (g.name, group_key g.head)

abbrev pub placed_name : Part × PlainDecl → Part × (List ℕ × Key)
placed_name d = (d.0, (d.1.name, key_of_decl d.1))

abbrev pub placed_group_name : Part × PlainDef → Part × (List ℕ × Key)
placed_group_name g = (g.0, (g.1.name, group_key g.1.head))

-- the names of AVPs with their keys, in the order of the entries
abbrev pub avp_names : PlainSource → List (List ℕ × Key)
avp_names s = map (λ d. (d.name, key_of_decl d)) s.avps ++ map (λ g. (g.name, group_key g.head)) (bare_groups s)

-- what holds of a source by its types: names, which headers are where, fixed rules first, and no fixed wildcard
pub record IsFormed (s : PlainSource) : Type 0 where
  pub declared_names : (i : ℕ) (d : PlainDecl) → slice_get s.avps i ≡ Some d → IsTrue (is_name d.name)
  pub defined_names : (i : ℕ) (d : PlainDef) → slice_get (all_defs s) i ≡ Some d → IsTrue (is_name d.name)
  pub groups : (i : ℕ) (g : PlainDef) → slice_get s.groups i ≡ Some g → is_group g.head ≡ true
  pub commands : (i : ℕ) (c : PlainDef) → slice_get s.commands i ≡ Some c → not (is_group c.head) ≡ true
  pub ordered : (i : ℕ) (d : PlainDef) → slice_get (all_defs s) i ≡ Some d → fixed_first (map (λ r. r.kind) d.rules) ≡ true
  pub named : (i j : ℕ) (d : PlainDef) (r : PlainRule) → slice_get (all_defs s) i ≡ Some d → slice_get d.rules j ≡ Some r → is_fixed r.kind ≡ true → IsSome r.name

-- nothing is wrong with it
pub record IsClean (s : PlainSource) : Type 0 where
  pub short : (i : ℕ) (d : PlainDef) → slice_get (all_defs s) i ≡ Some d → length d.rules ≤ max_rules
  pub few : length s.avps + length s.groups + length s.commands ≤ max_parts
  pub avps : repeats same_bytes [] (map (λ d. d.name) s.avps) ≡ []
  pub groups : repeats same_bytes [] (map (λ d. d.name) s.groups) ≡ []
  pub commands : repeats same_bytes [] (map (λ d. d.name) s.commands) ≡ []
  pub grouped : (i : ℕ) (d : PlainDecl) → slice_get s.avps i ≡ Some d → lacks_group s d ≡ false
  pub matched : (i : ℕ) (g : PlainDef) → slice_get s.groups i ≡ Some g → is_mismatched s g ≡ false
  pub keys : repeats same_named [] (avp_names s) ≡ []
  pub selectors : repeats same_command [] s.commands ≡ []
  pub slots : (i : ℕ) (d : PlainDef) → slice_get (all_defs s) i ≡ Some d → repeats same_slot [] d.rules ≡ []
  pub defined : (i j : ℕ) (d : PlainDef) (r : PlainRule) → slice_get (all_defs s) i ≡ Some d → slice_get d.rules j ≡ Some r → is_bad kind.UndefinedName s r ≡ false
  pub bounded : (i j : ℕ) (d : PlainDef) (r : PlainRule) → slice_get (all_defs s) i ≡ Some d → slice_get d.rules j ≡ Some r → is_bad kind.MinOverMax s r ≡ false
  pub required : (i j : ℕ) (d : PlainDef) (r : PlainRule) → slice_get (all_defs s) i ≡ Some d → slice_get d.rules j ≡ Some r → is_bad kind.RequiredMin s r ≡ false
  pub optional : (i j : ℕ) (d : PlainDef) (r : PlainRule) → slice_get (all_defs s) i ≡ Some d → slice_get d.rules j ≡ Some r → is_bad kind.OptionalMin s r ≡ false

-- a definition of a source as it lies in memory
definition_in : (s : Source) (i : ℕ) (d : PlainDef) → slice_get (all_defs (plain_source s)) i ≡ Some d → (def : Def) × (plain_def def ≡ d)
definition_in s i d at =
    ⊎_elim (λ h. let r = at_map plain_def s.groups.items i d h in (r.0, r.2)) (λ h. let r = at_map plain_def s.commands.items h.0 d h.2 in (r.0, r.2))
    (at_append (map plain_def s.groups.items) (map plain_def s.commands.items) i d at)

fixed_named : (kind : RuleKind) (name : Option (String Global)) → is_rule_name kind name ≡ true → is_fixed kind ≡ true → IsSome (option_map (λ (n : String Global). string_bytes n) name)
fixed_named kind (Some n) named fixed = refl
fixed_named Fixed None named fixed = absurd (let p : false ≡ true = named in cc)
fixed_named Required None named fixed = absurd (let p : false ≡ true = fixed in cc)
fixed_named Optional None named fixed = absurd (let p : false ≡ true = fixed in cc)

pub formed : (s : Source) → IsFormed (plain_source s)
formed s = record {
  declared_names = λ i d at. let r = at_map plain_decl s.avps.items i d at in subst (λ (x : PlainDecl). IsTrue (is_name x.name)) r.2 r.0.named;
  defined_names = λ i d at. let r = definition_in s i d at in subst (λ (x : PlainDef). IsTrue (is_name x.name)) r.1 r.0.named;
  groups = λ i g at. let r = at_map plain_def s.groups.items i g at in ap (λ (d : PlainDef). is_group d.head) (sym r.2) ∙ list_all_at (λ (d : Def). is_group d.head) s.groups.items s.grouped i r.0 r.1;
  commands = λ i c at. let r = at_map plain_def s.commands.items i c at in ap (λ (d : PlainDef). not (is_group d.head)) (sym r.2)
      ∙ list_all_at (λ (d : Def). not (is_group d.head)) s.commands.items s.commanded i r.0 r.1;
  ordered = λ i d at. let r = definition_in s i d at in
      ap (λ (e : PlainDef). fixed_first (map (λ (x : PlainRule). x.kind) e.rules)) (sym r.1) ∙ ap fixed_first (map-map (λ (x : PlainRule). x.kind) plain_rule r.0.rules.items) ∙ r.0.ordered;
  named = λ i j d r at at' fixed.
      let def = definition_in s i d at in
      let rule = at_map plain_rule def.0.rules.items j r (ap (λ (e : PlainDef). slice_get e.rules j) def.1 ∙ at') in
      subst (λ (x : PlainRule). IsSome x.name) rule.2 (fixed_named rule.0.kind rule.0.name rule.0.named (ap (λ (x : PlainRule). is_fixed x.kind) rule.2 ∙ fixed));
}

filter-map : {X Y : Type 0} (f : X → Y) (p : Y → Bool) (xs : List X) → filter p (map f xs) ≡ map f (filter (λ x. p (f x)) xs)
filter-map f p [] = refl
filter-map {X} {Y} f p (x ∷ xs) = by (p (f x)) (filter-map f p xs)
  where
    by : (b : Bool) → filter p (map f xs) ≡ map f (filter (λ y. p (f y)) xs)
        → cond b (f x ∷ filter p (map f xs)) (filter p (map f xs)) ≡ map f (cond b (x ∷ filter (λ y. p (f y)) xs) (filter (λ y. p (f y)) xs))
    by true e = ap (λ ys. f x ∷ ys) e
    by false e = e

-- ---- no faults of a kind

module _ {X : Type 0} (items : List (Part × X)) (xs : List X) (are : map (λ (x : Part × X). x.1) items ≡ xs) where
  -- a member of the list has a place
  member_placed : (i : ℕ) (x : X) → slice_get xs i ≡ Some x → (y : Part × X) × (slice_get items i ≡ Some y) × (y.1 ≡ x)
  member_placed i x at = at_map (λ (y : Part × X). y.1) items i x (ap (λ ys. slice_get ys i) are ∙ at)

  alone-none : (test : X → Bool) (bad : X → Wrong) → alone test bad items ≡ [] → (i : ℕ) (x : X) → slice_get xs i ≡ Some x → test x ≡ false
  alone-none test bad none i x at =
      let y = member_placed i x at in
      sym (ap test y.2) ∙ filter-none_at (λ (z : Part × X). test z.1) items (map-none (λ (z : Part × X). finding (bad z.1) z.0 None) (filter (λ (z : Part × X). test z.1) items) none) i y.0 y.1

  again-none : (same : X → X → Bool) (bad : X → Wrong) → again same bad items ≡ [] → repeats same [] xs ≡ []
  again-none same bad none =
      sym (ap (repeats same []) are) ∙ repeats-map (λ (x : Part × X). x.1) same [] items
      ∙ ap (map (both (λ (x : Part × X). x.1))) (map-none (λ (p : (Part × X) × (Part × X)). finding (bad p.0.1) p.0.0 (Some p.1.0)) (repeats (λ a b. same a.1 b.1) [] items) none)

  -- members whose names differ are the first of their names
  all-first : (same : X → X → Bool) (bad : X → Wrong) → again same bad items ≡ [] → map (λ (x : Part × X). x.1) (firsts (λ a b. same a.1 b.1) [] items) ≡ xs
  all-first same bad none =
      ap (map (λ (x : Part × X). x.1)) (firsts-all (λ (a b : Part × X). same a.1 b.1) [] items
      (map-none (λ (p : (Part × X) × (Part × X)). finding (bad p.0.1) p.0.0 (Some p.1.0)) (repeats (λ a b. same a.1 b.1) [] items) none)) ∙ are

-- names that differ, without their parts
distinct_names : {X : Type 0} (name : X → List ℕ) (xs : List X) → repeats (λ a b. same_bytes (name a) (name b)) [] xs ≡ [] → repeats same_bytes [] (map name xs) ≡ []
distinct_names name xs none = repeats-map name same_bytes [] xs ∙ ap (map (both name)) none

below_limit : (b : Bool) (n : ℕ) (f : PlainFinding) → nat_lt max_parts n ≡ b → (if b then f ∷ [] else []) ≡ [] → n ≤ max_parts
below_limit true n f here none = absurd (let p : f ∷ [] ≡ [] = none in cc)
below_limit false n f here none = ltb-false max_parts n here

module _ (s : PlainSource) where
  members_avps : map (λ (d : Part × PlainDecl). d.1) (placed_avps s) ≡ s.avps
  members_avps = placed-members (part_at part.Declaration) s.avps

  members_groups : map (λ (d : Part × PlainDef). d.1) (placed_groups s) ≡ s.groups
  members_groups = placed-members (part_at part.Group) s.groups

  members_commands : map (λ (d : Part × PlainDef). d.1) (placed_commands s) ≡ s.commands
  members_commands = placed-members (part_at part.Command) s.commands

  members_defs : map (λ (d : Part × PlainDef). d.1) (placed_defs s) ≡ all_defs s
  members_defs = map-append (λ (d : Part × PlainDef). d.1) (placed_groups s) (placed_commands s) ∙ (λ i. members_groups i ++ members_commands i)

  declared_names : map (λ (d : Part × PlainDecl). d.1) (first_decls (placed_avps s)) ≡ s.avps
      → map (λ (n : Part × (List ℕ × Key)). n.1) (map placed_name (first_decls (placed_avps s))) ≡ map name_and_key s.avps
  declared_names avps =
      map-map (λ (n : Part × (List ℕ × Key)). n.1) placed_name (first_decls (placed_avps s))
      ∙ sym (map-map name_and_key (λ (d : Part × PlainDecl). d.1) (first_decls (placed_avps s))) ∙ ap (map name_and_key) avps

  bare_names : map (λ (d : Part × PlainDef). d.1) (first_defs (placed_groups s)) ≡ s.groups
      → map (λ (n : Part × (List ℕ × Key)). n.1) (map placed_group_name (filter (λ g. is_bare s g.1) (first_defs (placed_groups s)))) ≡ map name_and_group_key (bare_groups s)
  bare_names groups =
      map-map (λ (n : Part × (List ℕ × Key)). n.1) placed_group_name (filter (λ g. is_bare s g.1) (first_defs (placed_groups s)))
      ∙ sym (map-map name_and_group_key (λ (d : Part × PlainDef). d.1) (filter (λ g. is_bare s g.1) (first_defs (placed_groups s))))
      ∙ ap (map name_and_group_key) (sym (filter-map (λ (d : Part × PlainDef). d.1) (is_bare s) (first_defs (placed_groups s))) ∙ ap (filter (is_bare s)) groups)

  -- the names with their keys, without their places
  members_names : map (λ (d : Part × PlainDecl). d.1) (first_decls (placed_avps s)) ≡ s.avps → map (λ (d : Part × PlainDef). d.1) (first_defs (placed_groups s)) ≡ s.groups
      → map (λ (n : Part × (List ℕ × Key)). n.1) (placed_names s) ≡ avp_names s
  members_names avps groups =
      map-append (λ (n : Part × (List ℕ × Key)). n.1) (map placed_name (first_decls (placed_avps s))) (map placed_group_name (filter (λ g. is_bare s g.1) (first_defs (placed_groups s))))
      ∙ (λ i. declared_names avps i ++ bare_names groups i)

  -- a definition with its place
  placed_def_at : (i : ℕ) (d : PlainDef) → slice_get (all_defs s) i ≡ Some d → (e : Part × PlainDef) × (slice_get (placed_defs s) i ≡ Some e) × (e.1 ≡ d)
  placed_def_at = member_placed (placed_defs s) (all_defs s) members_defs

  no_bad_rules : (k : DictKind) → bad_rules k s (placed_defs s) ≡ []
      → (i j : ℕ) (d : PlainDef) (r : PlainRule) → slice_get (all_defs s) i ≡ Some d → slice_get d.rules j ≡ Some r → is_bad k s r ≡ false
  no_bad_rules k none i j d r at at' =
      let e = placed_def_at i d at in
      alone-none (placed_rules e.0) e.0.1.rules (placed-members (rule_at e.0.0) e.0.1.rules) (is_bad k s) (λ (x : PlainRule). wrong k e.0.1.name (slot_name x))
      (flat_map-none_at (bad_in k s) (placed_defs s) none i e.0 e.1) j r (ap (λ (x : PlainDef). slice_get x.rules j) e.2 ∙ at')

  no_repeated_slots : repeated_slots (placed_defs s) ≡ [] → (i : ℕ) (d : PlainDef) → slice_get (all_defs s) i ≡ Some d → repeats same_slot [] d.rules ≡ []
  no_repeated_slots none i d at =
      let e = placed_def_at i d at in
      sym (ap (λ (x : PlainDef). repeats same_slot [] x.rules) e.2)
      ∙ again-none (placed_rules e.0) e.0.1.rules (placed-members (rule_at e.0.0) e.0.1.rules) same_slot (λ (r : PlainRule). wrong kind.RepeatedSlot e.0.1.name (slot_name r))
      (flat_map-none_at repeated_in (placed_defs s) none i e.0 e.1)

  pub no_findings : all_findings s ≡ [] → IsClean s
  no_findings none =
      let rules = append-none _ (wrong_rules s) none in
      let entries = append-none _ (wrong_entries s) rules.0 in
      let names = append-none (wrong_limits s) (wrong_names s) entries.0 in
      let limits = append-none _ (too_many s) names.0 in
      let command_names = append-none _ (duplicate_defs (placed_commands s)) names.1 in
      let both_names = append-none (duplicate_avps (placed_avps s)) (duplicate_defs (placed_groups s)) command_names.0 in
      let name_wrong = λ (d : PlainDef). wrong kind.DuplicateName d.name [] in
      let decl_wrong = λ (d : PlainDecl). wrong kind.DuplicateName d.name [] in
      let avps = all-first (placed_avps s) s.avps members_avps same_decl_name decl_wrong both_names.0 in
      let groups = all-first (placed_groups s) s.groups members_groups same_def_name name_wrong both_names.1 in
      let commands = all-first (placed_commands s) s.commands members_commands same_def_name name_wrong command_names.1 in
      let selectors = append-none _ (duplicate_commands s) entries.1 in
      let keys = append-none _ (duplicate_keys s) selectors.0 in
      let headers = append-none (no_groups s) (header_mismatches s) keys.0 in
      let optional = append-none _ (bad_rules kind.OptionalMin s (placed_defs s)) rules.1 in
      let required = append-none _ (bad_rules kind.RequiredMin s (placed_defs s)) optional.0 in
      let bounds = append-none _ (bad_rules kind.MinOverMax s (placed_defs s)) required.0 in
      let defined = append-none (bad_rules kind.UndefinedName s (placed_defs s)) (repeated_slots (placed_defs s)) bounds.0 in
      record {
        short = λ i d at. ltb-false max_rules (length d.rules) (alone-none (placed_defs s) (all_defs s) members_defs is_long (λ (x : PlainDef). wrong kind.Limit x.name []) limits.0 i d at);
        few = below_limit (nat_lt max_parts (length s.avps + length s.groups + length s.commands)) _ (record { wrong = wrong kind.Limit [] []; part = None; other = None }) refl limits.1;
        avps = distinct_names (λ (d : PlainDecl). d.name) s.avps (again-none (placed_avps s) s.avps members_avps same_decl_name decl_wrong both_names.0);
        groups = distinct_names (λ (d : PlainDef). d.name) s.groups (again-none (placed_groups s) s.groups members_groups same_def_name name_wrong both_names.1);
        commands = distinct_names (λ (d : PlainDef). d.name) s.commands (again-none (placed_commands s) s.commands members_commands same_def_name name_wrong command_names.1);
        grouped = alone-none (first_decls (placed_avps s)) s.avps avps (lacks_group s) (λ (d : PlainDecl). wrong kind.NoGroupFormat d.name []) headers.0;
        matched = λ i g at.
            let e = member_placed (first_defs (placed_groups s)) s.groups groups i g at in
            sym (ap (is_mismatched s) e.2) ∙ filter-none_at (λ (x : Part × PlainDef). is_mismatched s x.1) (first_defs (placed_groups s))
            (map-none (mismatch_of s) (filter (λ (x : Part × PlainDef). is_mismatched s x.1) (first_defs (placed_groups s))) headers.1) i e.0 e.1;
        keys = again-none (placed_names s) (avp_names s) (members_names avps groups) same_named (λ (n : List ℕ × Key). wrong kind.DuplicateKey n.0 []) keys.1;
        selectors = again-none (first_defs (placed_commands s)) s.commands commands same_command (λ (d : PlainDef). wrong kind.DuplicateCommand d.name []) selectors.1;
        slots = no_repeated_slots defined.1;
        defined = no_bad_rules kind.UndefinedName defined.0;
        bounded = no_bad_rules kind.MinOverMax bounds.1;
        required = no_bad_rules kind.RequiredMin required.1;
        optional = no_bad_rules kind.OptionalMin optional.1;
      }

pub clean : (s : PlainSource) → all_wrong s ≡ [] → IsClean s
clean s none = no_findings s (map-none (λ (f : PlainFinding). f.wrong) (all_findings s) none)

pub none_found : (s : PlainSource) → first_wrong s ≡ None → all_findings s ≡ []
none_found s none = map-none (λ (f : PlainFinding). f.wrong) (all_findings s) (first-none (all_wrong s) none)
