-- What a source means, and what is wrong with one that means nothing.
use Rattle.std.specs.Prelude.{◌≡◌, ℕ, ◌+◌, nat_lt, nat_eq, Bool, true, false, not, ◌==◌, ◌&&◌, if◌then◌else◌, List, [], ◌∷◌, ◌++◌, length}
use Rattle.std.specs.Prelude.{map, filter, Option, Some, None, option_and_then, unwrap_or, find, is_some, slice_get, string_bytes, ⊤}
use Rattle.std.specs.Bool.{beq}
use Rattle.std.specs.List.{enumerate_from, flat_map, list_any}
use Rattle.std.specs.Option.{option_eq, option_map, option_map_or, option_or}
use Rattle.dia_terms.specs.declared.Pxy.{Pxy}
use Rattle.dia_terms.specs.declared.Pxy.TheVariants.{Clear, Set}
use Rattle.dia_wire.specs.declared.Key.{Key}
use Rattle.dia_data.specs.Plain.{Grouped, format_of}
use Rattle.dia_ccf.specs.declared.FormatName.{FormatName}
use Rattle.dia_ccf.specs.declared.FormatName.TheVariants as name
use Rattle.dia_terms.specs.declared.MRule.TheVariants as m_rule
use Rattle.dia_ccf.specs.declared.Head.{Head}
use Rattle.dia_ccf.specs.declared.Head.TheVariants as head
use Rattle.dia_ccf.specs.declared.Qual.{Qual}
use Rattle.dia_terms.specs.declared.RuleKind.{RuleKind}
use Rattle.dia_terms.specs.declared.RuleKind.TheVariants.{Fixed, Required, Optional}
use Rattle.dia_terms.specs.Names.{same_bytes}
use Rattle.dia_ccf.specs.Plain.{PlainDecl, PlainRule, PlainDef, PlainSource}
use Rattle.dia_ccf.specs.CanonicalText.{slot_text}
use Rattle.dia_book.specs.Keys.{same_key}
use Rattle.dia_book.specs.Limits.{max_rules, max_parts}
use Rattle.dia_book.specs.declared.Class.{Class}
use Rattle.dia_book.specs.declared.Class.TheVariants as classes
use Rattle.dia_book.specs.declared.DefHead.{DefHead}
use Rattle.dia_book.specs.declared.DefHead.TheVariants.{Group, Command, Error}
use Rattle.dia_book.specs.declared.DRule.{DRule}
use Rattle.dia_dict.specs.declared.fault.DictKind.{DictKind}
use Rattle.dia_dict.specs.declared.fault.DictKind.TheVariants as kind
use Rattle.dia_dict.specs.declared.fault.DictFault.{DictFault}
use Rattle.dia_dict.specs.declared.fault.DictFault.TheVariants as fault
use Rattle.dia_dict.specs.declared.findings.Part.{Part}
use Rattle.dia_dict.specs.declared.findings.PartKind.{PartKind}
use Rattle.dia_dict.specs.declared.findings.PartKind.TheVariants as part
use Rattle.dia_book.specs.Dictionary.{PlainDefinition, DictEntry, Dictionary}

-- ---- the meaning

abbrev pub key_of_decl : PlainDecl → Key
key_of_decl d = record { code = d.code; vendor = d.vendor }

abbrev pub group_key : Head → Key
group_key (head.Group code vendor) = record { code = code; vendor = vendor }
group_key (head.Command code request pxy app) = record { code = code; vendor = 0 }
group_key (head.Error pxy) = record { code = 0; vendor = 0 }

abbrev pub names_decl : List ℕ → PlainDecl → Bool
names_decl text d = same_bytes text d.name

abbrev pub names_def : List ℕ → PlainDef → Bool
names_def text d = same_bytes text d.name

abbrev pub is_bare : PlainSource → PlainDef → Bool
is_bare s g = not (list_any (names_decl g.name) s.avps)

-- groups without a declaration, in the order of the text
abbrev pub bare_groups : PlainSource → List PlainDef
bare_groups s = filter (is_bare s) s.groups

-- the key that a name means
abbrev pub key_of_name : PlainSource → List ℕ → Option Key
key_of_name s text = option_or (option_map key_of_decl (find (names_decl text) s.avps)) (option_map (λ g. group_key g.head) (find (names_def text) s.groups))

-- a rule's bounds (RFC 6733 section 3.2): without a qualifier exactly 1, or 0 or 1; an absent min is 1 if required, else 0
abbrev pub least : RuleKind → Option Qual → ℕ
least Optional None = 0
least kind None = 1
least Required (Some q) = unwrap_or q.min 1
least kind (Some q) = unwrap_or q.min 0

abbrev pub greatest : Option Qual → Option ℕ
greatest None = Some 1
greatest (Some q) = q.max

abbrev pub rule_of : PlainSource → PlainRule → DRule
rule_of s r = record { kind = r.kind; key = option_and_then (key_of_name s) r.name; min = least r.kind r.qual; max = greatest r.qual }

abbrev pub class_of : Bool → Class
class_of true = classes.Request
class_of false = classes.Answer

abbrev pub proxy_of : Bool → Pxy
proxy_of true = Set
proxy_of false = Clear

abbrev pub head_of : Head → DefHead
head_of (head.Group code vendor) = Group (record { code = code; vendor = vendor })
head_of (head.Command code request pxy app) = Command code (class_of request) app (proxy_of pxy)
head_of (head.Error pxy) = Error pxy

abbrev pub definition_of : PlainSource → PlainDef → PlainDefinition
definition_of s d = record { name = d.name; head = head_of d.head; rules = map (rule_of s) d.rules }

abbrev pub declared_entry : PlainSource → PlainDecl → DictEntry
declared_entry s d = record {
  name = d.name;
  key = key_of_decl d;
  format = format_of d.format d.values;
  rule = d.rule;
  group = option_map (definition_of s) (find (names_def d.name) s.groups);
}

abbrev pub bare_entry : PlainSource → PlainDef → DictEntry
bare_entry s g = record { name = g.name; key = group_key g.head; format = Grouped; rule = m_rule.Any; group = Some (definition_of s g) }

-- the dictionary that the source names: the declarations, then the groups without one, and the commands
abbrev pub resolved : PlainSource → Dictionary
resolved s = record {
  entries = map (declared_entry s) s.avps ++ map (bare_entry s) (bare_groups s);
  commands = map (definition_of s) s.commands;
}

-- ---- what is wrong, and where: by kind, faults of declarations, groups and commands, each in text order. The first is reported

-- what is reported of a fault
pub record Wrong : Type 0 where
  pub kind : DictKind
  pub name : List ℕ
  pub slot : List ℕ

abbrev pub wrong : DictKind → List ℕ → List ℕ → Wrong
wrong kind name slot = record { kind = kind; name = name; slot = slot }

-- a fault, the part or rule that has it, and what it conflicts with: the first of those that are alike, or a group's declaration
pub record PlainFinding : Type 0 where
  pub wrong : Wrong
  pub part : Option Part
  pub other : Option Part

abbrev pub finding : Wrong → Part → Option Part → PlainFinding
finding recorded own other = record { wrong = recorded; part = Some own; other = other }

-- ---- the parts and the rules, each with its place

abbrev pub part_at : PartKind → ℕ → Part
part_at kind i = record { kind = kind; index = i; rule = None }

abbrev pub rule_at : Part → ℕ → Part
rule_at d i = record { kind = d.kind; index = d.index; rule = Some i }

abbrev pub placed : {X : Type 0} → (ℕ → Part) → List X → List (Part × X)
placed at xs = map (λ n. (at n.0, n.1)) (enumerate_from 0 xs)

abbrev pub placed_avps : PlainSource → List (Part × PlainDecl)
placed_avps s = placed (part_at part.Declaration) s.avps

abbrev pub placed_groups : PlainSource → List (Part × PlainDef)
placed_groups s = placed (part_at part.Group) s.groups

abbrev pub placed_commands : PlainSource → List (Part × PlainDef)
placed_commands s = placed (part_at part.Command) s.commands

-- groups and then commands
abbrev pub placed_defs : PlainSource → List (Part × PlainDef)
placed_defs s = placed_groups s ++ placed_commands s

abbrev pub placed_rules : Part × PlainDef → List (Part × PlainRule)
placed_rules d = placed (rule_at d.0) d.1.rules

-- ---- members that are alike

-- the members that are like an earlier one, each with the first that it is like
abbrev pub repeats : {X : Type 0} → (X → X → Bool) → List X → List X → List (X × X)
repeats same earlier [] = []
repeats same earlier (x ∷ xs) = option_map_or (λ y. (x, y) ∷ repeats same (earlier ++ x ∷ []) xs) (find (same x) earlier) (repeats same (earlier ++ x ∷ []) xs)

-- the members that are like no earlier one
abbrev pub firsts : {X : Type 0} → (X → X → Bool) → List X → List X → List X
firsts same earlier [] = []
firsts same earlier (x ∷ xs) = if list_any (same x) earlier then firsts same (earlier ++ x ∷ []) xs else x ∷ firsts same (earlier ++ x ∷ []) xs

-- the faults of those that pass a test
abbrev pub alone : {X : Type 0} → (X → Bool) → (X → Wrong) → List (Part × X) → List PlainFinding
alone test bad xs = map (λ x. finding (bad x.1) x.0 None) (filter (λ x. test x.1) xs)

-- the faults of those that are like an earlier one
abbrev pub again : {X : Type 0} → (X → X → Bool) → (X → Wrong) → List (Part × X) → List PlainFinding
again same bad xs = map (λ p. finding (bad p.0.1) p.0.0 (Some p.1.0)) (repeats (λ x y. same x.1 y.1) [] xs)

-- ---- limits

abbrev pub is_long : PlainDef → Bool
is_long d = nat_lt max_rules (length d.rules)

abbrev pub too_many_rules : List (Part × PlainDef) → List PlainFinding
too_many_rules defs = alone is_long (λ d. wrong kind.Limit d.name []) defs

abbrev pub too_many : PlainSource → List PlainFinding
too_many s = if nat_lt max_parts (length s.avps + length s.groups + length s.commands) then record { wrong = wrong kind.Limit [] []; part = None; other = None } ∷ [] else []

-- ---- names

abbrev pub same_decl_name : PlainDecl → PlainDecl → Bool
same_decl_name a b = same_bytes a.name b.name

abbrev pub same_def_name : PlainDef → PlainDef → Bool
same_def_name a b = same_bytes a.name b.name

abbrev pub duplicate_avps : List (Part × PlainDecl) → List PlainFinding
duplicate_avps ds = again same_decl_name (λ d. wrong kind.DuplicateName d.name []) ds

abbrev pub duplicate_defs : List (Part × PlainDef) → List PlainFinding
duplicate_defs ds = again same_def_name (λ d. wrong kind.DuplicateName d.name []) ds

-- the first declaration, group and command of each name
abbrev pub first_decls : List (Part × PlainDecl) → List (Part × PlainDecl)
first_decls ds = firsts (λ a b. same_decl_name a.1 b.1) [] ds

abbrev pub first_defs : List (Part × PlainDef) → List (Part × PlainDef)
first_defs ds = firsts (λ a b. same_def_name a.1 b.1) [] ds

-- ---- declarations and headers, of the first part of each name

abbrev pub is_grouped : FormatName → Bool
is_grouped name.Grouped = true
is_grouped f = false

abbrev pub lacks_group : PlainSource → PlainDecl → Bool
lacks_group s d = is_grouped d.format && not (list_any (names_def d.name) s.groups)

abbrev pub no_groups : PlainSource → List PlainFinding
no_groups s = alone (lacks_group s) (λ d. wrong kind.NoGroupFormat d.name []) (first_decls (placed_avps s))

abbrev pub agrees_with : PlainDef → PlainDecl → Bool
agrees_with g d = is_grouped d.format && same_key (group_key g.head) (key_of_decl d)

abbrev pub is_mismatched : PlainSource → PlainDef → Bool
is_mismatched s g = option_map_or (λ d. not (agrees_with g d)) (find (names_decl g.name) s.avps) false

-- the place of a name's declaration
abbrev pub declared_at : PlainSource → List ℕ → Option Part
declared_at s text = option_map (λ d. d.0) (find (λ d. names_decl text d.1) (placed_avps s))

abbrev pub mismatch_of : PlainSource → Part × PlainDef → PlainFinding
mismatch_of s g = finding (wrong kind.HeaderMismatch g.1.name []) g.0 (declared_at s g.1.name)

abbrev pub header_mismatches : PlainSource → List PlainFinding
header_mismatches s = map (mismatch_of s) (filter (λ g. is_mismatched s g.1) (first_defs (placed_groups s)))

-- the names of AVPs with their keys, in the order of the entries
abbrev pub placed_names : PlainSource → List (Part × (List ℕ × Key))
placed_names s = map (λ d. (d.0, (d.1.name, key_of_decl d.1))) (first_decls (placed_avps s))
    ++ map (λ g. (g.0, (g.1.name, group_key g.1.head))) (filter (λ g. is_bare s g.1) (first_defs (placed_groups s)))

abbrev pub duplicate_keys : PlainSource → List PlainFinding
duplicate_keys s = again (λ a b. same_key a.1 b.1) (λ n. wrong kind.DuplicateKey n.0 []) (placed_names s)

abbrev pub same_selector : Head → Head → Bool
same_selector (head.Command c r p a) (head.Command d t q b) = (c == d) && beq r t && option_eq nat_eq a b
same_selector (head.Error p) (head.Error q) = true
same_selector g h = false

abbrev pub duplicate_commands : PlainSource → List PlainFinding
duplicate_commands s = again (λ a b. same_selector a.head b.head) (λ d. wrong kind.DuplicateCommand d.name []) (first_defs (placed_commands s))

-- ---- rules

abbrev pub is_undefined : PlainSource → PlainRule → Bool
is_undefined s r = option_map_or (λ name. not (is_some (key_of_name s name))) r.name false

-- what a rule's AVP is called in a fault
abbrev pub slot_name : PlainRule → List ℕ
slot_name r = slot_text r.name

abbrev pub same_slot : PlainRule → PlainRule → Bool
same_slot a b = same_bytes (slot_name a) (slot_name b)

abbrev pub repeated_in : Part × PlainDef → List PlainFinding
repeated_in d = again same_slot (λ r. wrong kind.RepeatedSlot d.1.name (slot_name r)) (placed_rules d)

abbrev pub repeated_slots : List (Part × PlainDef) → List PlainFinding
repeated_slots defs = flat_map repeated_in defs

abbrev pub is_min_over_max : PlainRule → Bool
is_min_over_max r = option_map_or (λ max. nat_lt max (least r.kind r.qual)) (greatest r.qual) false

abbrev pub is_required_min : PlainRule → Bool
is_required_min r = elim r.kind [ Fixed ↦ false | Required ↦ least Required r.qual == 0 | Optional ↦ false ]

abbrev pub is_optional_min : PlainRule → Bool
is_optional_min r = elim r.kind [ Fixed ↦ false | Required ↦ false | Optional ↦ nat_lt 0 (least Optional r.qual) ]

-- a rule that has the fault by itself
abbrev pub is_bad : DictKind → PlainSource → PlainRule → Bool
is_bad kind.UndefinedName s r = is_undefined s r
is_bad kind.MinOverMax s r = is_min_over_max r
is_bad kind.RequiredMin s r = is_required_min r
is_bad kind.OptionalMin s r = is_optional_min r
is_bad kind s r = false

abbrev pub bad_in : DictKind → PlainSource → Part × PlainDef → List PlainFinding
bad_in kind s d = alone (is_bad kind s) (λ r. wrong kind d.1.name (slot_name r)) (placed_rules d)

abbrev pub bad_rules : DictKind → PlainSource → List (Part × PlainDef) → List PlainFinding
bad_rules kind s defs = flat_map (bad_in kind s) defs

-- ---- all

abbrev pub wrong_limits : PlainSource → List PlainFinding
wrong_limits s = too_many_rules (placed_defs s) ++ too_many s

abbrev pub wrong_names : PlainSource → List PlainFinding
wrong_names s = duplicate_avps (placed_avps s) ++ duplicate_defs (placed_groups s) ++ duplicate_defs (placed_commands s)

abbrev pub wrong_entries : PlainSource → List PlainFinding
wrong_entries s = no_groups s ++ header_mismatches s ++ duplicate_keys s ++ duplicate_commands s

abbrev pub wrong_rules : PlainSource → List PlainFinding
wrong_rules s = bad_rules kind.UndefinedName s (placed_defs s) ++ repeated_slots (placed_defs s) ++ bad_rules kind.MinOverMax s (placed_defs s)
    ++ bad_rules kind.RequiredMin s (placed_defs s) ++ bad_rules kind.OptionalMin s (placed_defs s)

-- all that is wrong, as it is reported. A part with an earlier one's name is reported for its name, and not compared further
abbrev pub all_findings : PlainSource → List PlainFinding
all_findings s = wrong_limits s ++ wrong_names s ++ wrong_entries s ++ wrong_rules s

abbrev pub all_wrong : PlainSource → List Wrong
all_wrong s = map (λ f. f.wrong) (all_findings s)

abbrev pub first_wrong : PlainSource → Option Wrong
first_wrong s = slice_get (all_wrong s) 0

-- the fault that is reported is the first
abbrev pub IsRecordedOf : PlainSource → DictFault → Type 0
IsRecordedOf s (fault.Stands kind name slot) = first_wrong s ≡ Some (wrong kind (string_bytes name) (string_bytes slot))
IsRecordedOf s fault.NoMemory = ⊤
