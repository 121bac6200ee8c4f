-- Where a dictionary's text has what a line of `breaking` is about. A place is the offset of a byte.
use Rattle.std.specs.Prelude.{ℕ, Bool, List, codes, find, Option, None, option_and_then, unwrap_or}
use Rattle.std.specs.Option.{option_map, option_map_or, option_or}
use Rattle.std.specs.Str.{bytes_eq}
use Rattle.dia_ccf.specs.declared.source.Decl.{Decl}
use Rattle.dia_ccf.specs.declared.source.Def.{Def}
use Rattle.dia_ccf.specs.declared.source.Head.{Head}
use Rattle.dia_ccf.specs.declared.source.Head.TheVariants as heads
use Rattle.dia_ccf.specs.declared.source.Rule.{Rule}
use Rattle.dia_ccf.specs.CanonicalText.{slot_text}
use Rattle.dia_ccf.specs.Plain.{plain_rule}
use Rattle.dia_breaking_places.specs.declared.matter.Matter.{Matter}
use Rattle.dia_breaking_places.specs.declared.matter.MatterKind.{MatterKind}
use Rattle.dia_breaking_places.specs.declared.matter.MatterKind.TheVariants as kinds
use Rattle.dia_breaking_places.specs.declared.texts.By.{By}
use Rattle.dia_breaking_places.specs.declared.texts.By.TheVariants.{Name, Number, Code}
use Rattle.dia_breaking_places.specs.PartLists.{Parts}
use Rattle.dia_breaking_places.specs.Tables.{first_by}
use Rattle.dia_breaking_places.specs.Texts.{code_text, command_text, decl_text, def_text}

-- ---- AVPs: the declaration of one, else its definition

abbrev pub decl_by : By → Parts → List ℕ → Option Decl
decl_by by p text = first_by (decl_text by) p.avps text

abbrev pub group_by : By → Parts → List ℕ → Option Def
group_by by p text = first_by (def_text by) p.groups text

abbrev pub command_by : By → Parts → List ℕ → Option Def
command_by by p text = first_by (def_text by) p.commands text

-- the number of the AVP of this name
abbrev pub number_of : Parts → List ℕ → Option (List ℕ)
number_of p name = option_or (option_map (decl_text Number) (decl_by Name p name)) (option_map (def_text Number) (group_by Name p name))

-- the name of the AVP of this number
abbrev pub name_of : Parts → List ℕ → Option (List ℕ)
name_of p number = option_or (option_map (decl_text Name) (decl_by Number p number)) (option_map (def_text Name) (group_by Number p number))

abbrev pub avp_place : Parts → List ℕ → Option ℕ
avp_place p name = option_or (option_map (λ d. d.at) (decl_by Name p name)) (option_map (λ d. d.at) (group_by Name p name))

abbrev pub avp_place_of : Parts → List ℕ → Option ℕ
avp_place_of p number = option_or (option_map (λ d. d.at) (decl_by Number p number)) (option_map (λ d. d.at) (group_by Number p number))

-- ---- rules

abbrev pub slot_named : List ℕ → Rule → Bool
slot_named name r = bytes_eq (slot_text (plain_rule r).name) name

-- the rule for an AVP, else the wildcard, else the definition
abbrev pub rule_place : List ℕ → Def → ℕ
rule_place name d = option_map_or (λ r. r.at) (option_or (find (slot_named name) d.rules.items) (find (slot_named (codes "AVP")) d.rules.items)) d.at

-- ---- commands

-- the one for this application, else the one without, else the first of the code and the class
abbrev pub command_for : Parts → (code : ℕ) → (request : Bool) → Option ℕ → Option Def
command_for p code request app = option_or (command_by Number p (command_text code request app))
    (option_or (command_by Number p (code_text code request)) (command_by Code p (code_text code request)))

-- the one that has the messages of another dictionary's command: for the wanted application, if there is one
abbrev pub same_command : Parts → Option ℕ → Head → Option Def
same_command p wanted (heads.Group code vendor) = None
same_command p wanted (heads.Command code request pxy app) = command_for p code request (option_or wanted app)
same_command p wanted (heads.Error pxy) = command_by Number p (codes "ERR")

-- ---- what a line is about

-- the command and the application of its path, its last group if it has one, and the name or the `CODE:VENDOR` of the AVP, or `AVP`
pub record PlainMatter : Type 0 where
  pub kind : MatterKind
  pub command : List ℕ
  pub application : Option ℕ
  pub group : Option (List ℕ)
  pub subject : List ℕ

abbrev pub plain_matter : Matter → PlainMatter
plain_matter m = record { kind = m.kind; command = m.command.now; application = m.application; group = option_map (λ g. g.now) m.group; subject = m.subject.now }

-- A's definition of the level
abbrev pub level_of : Parts → PlainMatter → Option Def
level_of a m = option_map_or (group_by Name a) m.group (command_by Name a m.command)

-- B's command for A's
abbrev pub other_command : Parts → Parts → PlainMatter → Option Def
other_command a b m = option_and_then (λ d. same_command b m.application d.head) (command_by Name a m.command)

-- B's group for A's of this name: the one of its number
abbrev pub other_group : Parts → Parts → List ℕ → Option Def
other_group a b name = option_and_then (group_by Number b) (number_of a name)

-- B's definition of the level
abbrev pub other_level : Parts → Parts → PlainMatter → Option Def
other_level a b m = option_map_or (other_group a b) m.group (other_command a b m)

-- B's name of the AVP of a number; that of the wildcard where B has none
abbrev pub name_or_wildcard : Parts → List ℕ → List ℕ
name_or_wildcard b number = unwrap_or (name_of b number) (codes "AVP")

-- B's name of an AVP that A doesn't have, which a line calls by this name or `CODE:VENDOR`
abbrev pub own_name : Parts → List ℕ → List ℕ
own_name b text = unwrap_or (name_of b text) text

-- B's name of the AVP that a line calls so
abbrev pub other_name : Parts → Parts → List ℕ → List ℕ
other_name a b text = option_map_or (name_or_wildcard b) (number_of a text) (own_name b text)

abbrev pub own_place : Parts → List ℕ → Option ℕ
own_place b text = option_or (avp_place b text) (avp_place_of b text)

-- where A has what the line is about
abbrev pub place_in_first : MatterKind → Parts → PlainMatter → Option ℕ
place_in_first kinds.Head a m = option_map (λ d. d.at) (command_by Name a m.command)
place_in_first kinds.Rule a m = option_map (rule_place m.subject) (level_of a m)
place_in_first kinds.Avp a m = avp_place a m.subject

-- and B: the AVP of the same number, or of this name or number where A has none of the name
abbrev pub place_in_second : MatterKind → Parts → Parts → PlainMatter → Option ℕ
place_in_second kinds.Head a b m = option_map (λ d. d.at) (other_command a b m)
place_in_second kinds.Rule a b m = option_map (rule_place (other_name a b m.subject)) (other_level a b m)
place_in_second kinds.Avp a b m = option_map_or (avp_place_of b) (number_of a m.subject) (own_place b m.subject)

abbrev pub first_place : Parts → PlainMatter → Option ℕ
first_place a m = place_in_first m.kind a m

abbrev pub second_place : Parts → Parts → PlainMatter → Option ℕ
second_place a b m = place_in_second m.kind a b m
