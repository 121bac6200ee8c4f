-- The lines of AVPs.
use Rattle.std.specs.Prelude.{ℕ, Bool, true, false, ◌==◌, if◌then◌else◌, List, [], ◌∷◌, ◌++◌, Option, codes, flat_map, slice_get, option_and_then}
use Rattle.std.specs.Fmt.{decimal}
use Rattle.std.specs.Option.{option_map, option_map_or}
use Rattle.dia_wire.specs.declared.Key.{Key}
use Rattle.dia_terms.specs.declared.RuleKind.{RuleKind}
use Rattle.dia_terms.specs.declared.RuleKind.TheVariants.{Fixed, Required, Optional}
use Rattle.dia_book.specs.declared.definition.DRule.{DRule}
use Rattle.dia_book.specs.Dictionary.{Dictionary, DictEntry, entry_of}
use Rattle.dia_places.specs.declared.places.By.{By}
use Rattle.dia_places.specs.declared.places.By.TheVariants.{Rule, Wildcard}
use Rattle.dia_places.specs.Names.{names_of}
use Rattle.dia_places.specs.Paths.{Path, rules_at}
use Rattle.dia_places.specs.Places.{by_of, rule_of}

-- ---- in words

-- `3`, `0..1` or `1..*`
abbrev pub range_text : ℕ → ℕ → List ℕ
range_text min max = if max == min then decimal min else decimal min ++ codes ".." ++ decimal max

abbrev pub counts_text : DRule → List ℕ
counts_text rule = option_map_or (range_text rule.min) rule.max (decimal rule.min ++ codes "..*")

abbrev pub wildcard_text : RuleKind → List ℕ
wildcard_text Fixed = codes " by < AVP >"
wildcard_text Required = codes " by { AVP }"
wildcard_text Optional = codes " by [ AVP ]"

abbrev pub by_text : By → List ℕ
by_text (Rule rule) = codes " " ++ counts_text rule
by_text (Wildcard rule) = wildcard_text rule.kind

-- the command, and the groups after slashes
abbrev pub path_text : List (List ℕ) → List ℕ
path_text [] = []
path_text (command ∷ groups) = command ++ flat_map (λ group. codes "/" ++ group) groups

-- the name of an AVP that the dictionary knows
abbrev pub name_of : Dictionary → Key → Option (List ℕ)
name_of d key = option_map (λ (e : DictEntry). e.name) (option_and_then (slice_get d.entries) (entry_of d key))

abbrev pub avp_text : Dictionary → Key → List ℕ
avp_text d key = option_map_or (λ name. name) (name_of d key) (decimal key.code ++ codes ":" ++ decimal key.vendor)

abbrev pub words_of : List (List ℕ) → List ℕ → By → List ℕ
words_of names avp by = path_text names ++ codes ": " ++ avp ++ by_text by ++ codes "\n"

-- ---- as objects (RFC 8259)

abbrev pub name_text : List ℕ → List ℕ
name_text name = codes "\"" ++ name ++ codes "\""

abbrev pub key_text : Key → List ℕ
key_text key = codes "\"code\":" ++ decimal key.code ++ codes ",\"vendor\":" ++ decimal key.vendor ++ codes "}"

abbrev pub avp_object : Dictionary → Key → List ℕ
avp_object d key = option_map_or (λ name. codes "{\"name\":" ++ name_text name ++ codes "," ++ key_text key) (name_of d key) (codes "{" ++ key_text key)

abbrev pub groups_text : List (List ℕ) → List ℕ
groups_text [] = []
groups_text (group ∷ groups) = name_text group ++ flat_map (λ g. codes "," ++ name_text g) groups

abbrev pub path_object : List (List ℕ) → List ℕ
path_object [] = []
path_object (command ∷ groups) = codes ",\"command\":" ++ name_text command ++ codes ",\"path\":[" ++ groups_text groups ++ codes "]"

abbrev pub by_word : By → List ℕ
by_word (Rule rule) = codes "rule"
by_word (Wildcard rule) = codes "wildcard"

abbrev pub by_object : By → List ℕ
by_object by =
    codes ",\"by\":" ++ name_text (by_word by) ++ codes ",\"min\":" ++ decimal (rule_of by).min ++ codes ",\"max\":" ++ option_map_or decimal (rule_of by).max (codes "null")

abbrev pub object_of : List (List ℕ) → List ℕ → By → List ℕ
object_of names avp by = codes "{\"avp\":" ++ avp ++ path_object names ++ by_object by ++ codes "}\n"

-- ---- lines

abbrev pub avp_of : Bool → Dictionary → Key → List ℕ
avp_of true d key = avp_object d key
avp_of false d key = avp_text d key

abbrev pub line_of : Bool → List (List ℕ) → List ℕ → By → List ℕ
line_of true names avp by = object_of names avp by
line_of false names avp by = words_of names avp by

abbrev pub is_rule : By → Bool
is_rule (Rule rule) = true
is_rule (Wildcard rule) = false

abbrev pub is_wildcard : By → Bool
is_wildcard (Rule rule) = false
is_wildcard (Wildcard rule) = true

-- the line of a definition, if by one of this kind it lets in the AVP
abbrev pub line_at : Bool → Dictionary → (By → Bool) → Key → Path → List ℕ
line_at json d is_kind key path =
    option_map_or (λ (by : By). if is_kind by then line_of json (names_of d path) (avp_of json d key) by else []) (by_of (rules_at d path.def) key) []

-- those by rules, and then those by wildcards
abbrev pub lines_of : Bool → Dictionary → List Path → Key → List ℕ
lines_of json d paths key = flat_map (line_at json d is_rule key) paths ++ flat_map (line_at json d is_wildcard key) paths
