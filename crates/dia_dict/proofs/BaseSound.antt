-- The base dictionary's source is sound.
use Rattle.std.proofs.Common.{◌≡◌, ℕ, List, [], ◌++◌, map, filter, None, String, refl, sym, ap, subst, ◌∙◌}
use Rattle.std.proofs.lemmas.Option.{none-some}
use Rattle.std.specs.Global.{Global}
use Rattle.dia_wire.specs.declared.Key.{Key}
use Rattle.dia_ccf.specs.Plain.{PlainSource, PlainDecl, PlainDef}
use Rattle.dia_dict.specs.declared.fault.DictKind.{DictKind}
use Rattle.dia_dict.specs.declared.fault.DictKind.TheVariants.{NoGroupFormat, DuplicateKey}
use Rattle.dia_dict.specs.declared.fault.DictFault.{DictFault}
use Rattle.dia_dict.specs.declared.fault.DictFault.TheVariants.{Stands}
use Rattle.dia_dict.specs.declared.findings.Part.{Part}
use Rattle.dia_dict.specs.Base.{base_source}
use Rattle.dia_dict.specs.Resolution.{first_wrong, IsRecordedOf, wrong_limits, wrong_names, no_groups, header_mismatches, duplicate_keys, duplicate_commands, wrong_rules}
use Rattle.dia_dict.specs.Resolution.{wrong, alone, again, placed_avps, placed_groups, first_decls, first_defs, same_decl_name, same_def_name, lacks_group, is_bare}
use Rattle.dia_dict.proofs.Duplicates.{same_named}
use Rattle.dia_dict.proofs.FaultlessSources.{placed_name, placed_group_name}
use Rattle.dia_dict.proofs.Firsts.{firsts-all}

-- each kind of fault by itself, which takes less memory than all at once
wrong_names-base_source : wrong_names base_source ≡ []
wrong_names-base_source = refl

header_mismatches-base_source : header_mismatches base_source ≡ []
header_mismatches-base_source = refl

duplicate_commands-base_source : duplicate_commands base_source ≡ []
duplicate_commands-base_source = refl

wrong_rules-base_source : wrong_rules base_source ≡ []
wrong_rules-base_source = refl

-- `firsts` takes long to compute, and is left out where the names differ
no_groups-by : (s : PlainSource) → first_decls (placed_avps s) ≡ placed_avps s
    → alone (lacks_group s) (λ d. wrong NoGroupFormat d.name []) (placed_avps s) ≡ [] → no_groups s ≡ []
no_groups-by s avps none = ap (alone (lacks_group s) (λ (d : PlainDecl). wrong NoGroupFormat d.name [])) avps ∙ none

duplicate_keys-by : (s : PlainSource) → first_decls (placed_avps s) ≡ placed_avps s → first_defs (placed_groups s) ≡ placed_groups s
    → again same_named (λ n. wrong DuplicateKey n.0 []) (map placed_name (placed_avps s) ++ map placed_group_name (filter (λ g. is_bare s g.1) (placed_groups s))) ≡ []
    → duplicate_keys s ≡ []
duplicate_keys-by s avps groups none =
    (λ i. again same_named (λ (n : List ℕ × Key). wrong DuplicateKey n.0 []) (map placed_name (avps i) ++ map placed_group_name (filter (λ (g : Part × PlainDef). is_bare s g.1) (groups i)))) ∙ none

first_avps : first_decls (placed_avps base_source) ≡ placed_avps base_source
first_avps = firsts-all (λ (a b : Part × PlainDecl). same_decl_name a.1 b.1) [] (placed_avps base_source) refl

first_groups : first_defs (placed_groups base_source) ≡ placed_groups base_source
first_groups = firsts-all (λ (a b : Part × PlainDef). same_def_name a.1 b.1) [] (placed_groups base_source) refl

no_groups-base_source : no_groups base_source ≡ []
no_groups-base_source = no_groups-by base_source first_avps refl

duplicate_keys-base_source : duplicate_keys base_source ≡ []
duplicate_keys-base_source = duplicate_keys-by base_source first_avps first_groups refl

none_wrong : (s : PlainSource) → wrong_limits s ≡ [] → wrong_names s ≡ [] → no_groups s ≡ [] → header_mismatches s ≡ []
    → duplicate_keys s ≡ [] → duplicate_commands s ≡ [] → wrong_rules s ≡ [] → first_wrong s ≡ None
none_wrong s a b c d e f g = rw (a, b, c, d, e, f, g) refl

pub first_wrong-base_source : first_wrong base_source ≡ None
first_wrong-base_source = none_wrong base_source
    refl wrong_names-base_source no_groups-base_source header_mismatches-base_source duplicate_keys-base_source duplicate_commands-base_source wrong_rules-base_source

-- no fault of a sound source can be reported
pub none_recorded : (s : PlainSource) (fault : DictFault) (kind : DictKind) (name slot : String Global) → first_wrong s ≡ None → fault ≡ Stands kind name slot → IsRecordedOf s fault → ⊥
none_recorded s fault kind name slot sound occurs recorded = let recorded_so : IsRecordedOf s (Stands kind name slot) = subst (IsRecordedOf s) occurs recorded in none-some _ (sym sound ∙ recorded_so)
