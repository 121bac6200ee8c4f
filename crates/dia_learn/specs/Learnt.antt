-- The dictionary text of what messages have, written by that of the dictionary that reads them.
use Rattle.std.specs.Prelude.{◌≡◌, ◌↔◌, Contains, ℕ, zero, suc, ◌-◌, nat_lt, Bool, true, false, not, ◌==◌, ◌||◌, ◌&&◌, if◌then◌else◌, List, [], ◌++◌, length, map, filter, drop, codes}
use Rattle.std.specs.Prelude.{Option, Some, None, option_and_then, option_to_list, slice_get}
use Rattle.std.specs.List.{filter_map, list_any}
use Rattle.std.specs.Option.{option_map, option_map_or}
use Rattle.std.specs.Fmt.{decimal}
use Rattle.dia_terms.specs.Names.{same_bytes}
use Rattle.dia_terms.specs.declared.MRule.{MRule}
use Rattle.dia_terms.specs.declared.MRule.TheVariants.{Must, MustNot, Any}
use Rattle.dia_terms.specs.declared.Pxy.{Pxy}
use Rattle.dia_terms.specs.declared.Pxy.TheVariants.{Clear, Set, Either}
use Rattle.dia_terms.specs.declared.FormatName.TheVariants as format
use Rattle.dia_terms.specs.declared.RuleKind.TheVariants.{Optional}
use Rattle.dia_wire.specs.declared.Key.{Key}
use Rattle.dia_ccf.specs.declared.Head.{Head}
use Rattle.dia_ccf.specs.declared.Head.TheVariants as head
use Rattle.dia_ccf.specs.declared.Qual.{Qual}
use Rattle.dia_ccf.specs.Names.{is_fixed}
use Rattle.dia_ccf.specs.Plain.{PlainDecl, PlainRule, PlainDef, PlainSource}
use Rattle.dia_book.specs.declared.DRule.{DRule}
use Rattle.dia_book.specs.Dictionary.{DictEntry, Dictionary, definitions, entry_of, group_place, groups}
use Rattle.dia_valid.specs.Valid.{is_listed, is_wildcard, known}
use Rattle.dia_dict.specs.Resolution.{group_key, key_of_decl, names_def}
use Rattle.dia_learn.specs.declared.place.Place.{Place}
use Rattle.dia_learn.specs.Levels.{PlainLevel, of_group}
use Rattle.dia_learn.specs.Facts.{AreFacts, PlainFacts, is_in_levels, is_seen, key_of_pair, place_of}

-- ---- names (ours)

abbrev pub has_avp : Dictionary → List ℕ → Bool
has_avp d text = list_any (λ e. same_bytes text e.name) d.entries

abbrev pub vendor_suffix : ℕ → List ℕ
vendor_suffix vendor = if vendor == 0 then [] else codes "-" ++ decimal vendor

-- `Unknown-CODE`, with `-VENDOR` if there is one
abbrev pub code_name : ℕ × ℕ → List ℕ
code_name p = codes "Unknown-" ++ decimal p.1 ++ vendor_suffix p.0

-- and with `Unknown-` once more if the dictionary has that name
abbrev pub unknown_name : Dictionary → ℕ × ℕ → List ℕ
unknown_name d p = if has_avp d (code_name p) then codes "Unknown-" ++ code_name p else code_name p

abbrev pub avp_name : Dictionary → Key → List ℕ
avp_name d k = option_map_or (λ e. e.name) (known d k) (unknown_name d (k.vendor, k.code))

-- `NAME-APPLICATION`
abbrev pub with_application : List ℕ → ℕ → List ℕ
with_application name app = name ++ codes "-" ++ decimal app

-- and with `-APPLICATION` once more if the source has a command of that name
abbrev pub application_name : PlainSource → List ℕ → ℕ → List ℕ
application_name s name app = if list_any (names_def (with_application name app)) s.commands then with_application (with_application name app) app else with_application name app

-- the name stays if the command has an Application-ID, or the one that was seen is 0
abbrev pub command_name : PlainSource → List ℕ → Head → ℕ → List ℕ
command_name s name (head.Command code request pxy None) app = if app == 0 then name else application_name s name app
command_name s name h app = name

-- ---- AVPs

-- `any` becomes what the M flags are
abbrev pub m_rule_of : Bool → Bool → MRule
m_rule_of set clear = if set then (if clear then Any else Must) else MustNot

abbrev pub m_rule : PlainFacts → MRule → Key → MRule
m_rule f Must k = Must
m_rule f MustNot k = MustNot
m_rule f Any k = m_rule_of (f.set k) (f.clear k)

abbrev pub is_any : MRule → Bool
is_any Must = false
is_any MustNot = false
is_any Any = true

-- a declaration, if its AVP was seen
abbrev pub declared : PlainFacts → PlainDecl → Option PlainDecl
declared f a =
    if is_seen f (key_of_decl a)
    then Some (record { name = a.name; code = a.code; vendor = a.vendor; format = a.format; values = a.values; rule = m_rule f a.rule (key_of_decl a) })
    else None

-- the declaration of a group that has none, if it was seen, and unless `any` M flag is right
abbrev pub declared_group : PlainFacts → DictEntry → Option PlainDecl
declared_group f e =
    if is_seen f e.key && not (is_any (m_rule f e.rule e.key))
    then Some (record { name = e.name; code = e.key.code; vendor = e.key.vendor; format = format.Grouped; values = None; rule = m_rule f e.rule e.key })
    else None

abbrev pub declared_unknown : Dictionary → PlainFacts → ℕ × ℕ → PlainDecl
declared_unknown d f p = record {
  name = unknown_name d p;
  code = p.1;
  vendor = p.0;
  format = format.OctetString;
  values = None;
  rule = m_rule_of (f.set (key_of_pair p)) (f.clear (key_of_pair p));
}

-- the entries that follow those of the declarations are groups that have none
abbrev pub learnt_avps : PlainSource → Dictionary → PlainFacts → List PlainDecl
learnt_avps s d f = filter_map (declared f) s.avps ++ filter_map (declared_group f) (drop (length s.avps) d.entries) ++ map (declared_unknown d f) f.unknown

-- ---- the rules of a level

-- the AVPs that come by the wildcard, if there is one: those of the dictionary in its order, then unknown ones
abbrev pub others : Dictionary → PlainFacts → Place → List DRule → List Key
others d f w own =
    if list_any is_wildcard own
    then filter (λ k. is_in_levels f w k && not (is_listed own k)) (map (λ e. e.key) d.entries ++ map key_of_pair f.unknown)
    else []

-- more than one of them is in some level
abbrev pub is_often : PlainFacts → Place → Key → Bool
is_often f w k = nat_lt 1 (f.most w k)

-- rules for these AVPs would allow counts that the wildcard doesn't
abbrev pub exceeds : PlainFacts → Place → List Key → DRule → Bool
exceeds f w keys r = nat_lt 0 r.min || option_map_or (λ max. list_any (is_often f w) keys || nat_lt max (length keys)) r.max false

-- so it stays
abbrev pub stays : Dictionary → PlainFacts → Place → List DRule → Bool
stays d f w own = list_any (λ r. is_wildcard r && exceeds f w (others d f w own) r) own

-- `*0 [ X ]`: no AVP of that name
abbrev pub no_count : Option Qual
no_count = Some (record { min = None; max = Some 0 })

abbrev pub never : PlainRule → PlainRule
never r = record { kind = Optional; name = r.name; qual = no_count }

-- a rule of the text, by what it means: it stays if its AVP is in some level of the place; where the wildcard stays, other AVPs
-- that were seen are excluded
abbrev pub listed_rule : PlainFacts → Place → Bool → PlainRule → Key → Option PlainRule
listed_rule f w wild r k = if is_in_levels f w k then Some r else if wild && is_seen f k then Some (never r) else None

abbrev pub kept_rule : PlainFacts → Place → Bool → PlainRule → DRule → Option PlainRule
kept_rule f w wild r own = option_map_or (listed_rule f w wild r) own.key (if wild then Some r else None)

-- the rule with this number
abbrev pub rule_at : PlainFacts → Place → Bool → List DRule → List PlainRule → ℕ → Option PlainRule
rule_at f w wild own rules i = option_and_then (λ r. option_and_then (kept_rule f w wild r) (slice_get own i)) (slice_get rules i)

-- one of the rules that come first, or of the others
abbrev pub if_first : Bool → Option PlainRule → Option PlainRule
if_first first o = option_and_then (λ r. if is_fixed r.kind then (if first then Some r else None) else (if first then None else Some r)) o

-- of the first n rules
abbrev pub kept_rules : (ℕ → Option PlainRule) → Bool → ℕ → List PlainRule
kept_rules at first zero = []
kept_rules at first (suc n) = kept_rules at first n ++ option_to_list (if_first first (at n))

-- `[ X ]`, or `* [ X ]`
abbrev pub any_count : Option Qual
any_count = Some (record { min = None; max = None })

abbrev pub other_rule : Dictionary → PlainFacts → Place → Key → PlainRule
other_rule d f w k = record { kind = Optional; name = Some (avp_name d k); qual = if is_often f w k then any_count else None }

-- fixed rules come first, and rules for what came by the wildcard last
abbrev pub learnt_rules : Dictionary → PlainFacts → Place → List DRule → List PlainRule → List PlainRule
learnt_rules d f w own rules =
    let at = rule_at f w (stays d f w own) own rules in
    kept_rules at true (length rules) ++ kept_rules at false (length rules) ++ map (other_rule d f w) (if stays d f w own then [] else others d f w own)

-- ---- groups and commands

abbrev pub own_rules : Dictionary → ℕ → List DRule
own_rules d n = option_map_or (λ x. x.rules) (slice_get (definitions d) n) []

abbrev pub learnt_def : Dictionary → PlainFacts → Place → List ℕ → Head → List PlainRule → PlainDef
learnt_def d f w name h rules = record { name = name; head = h; rules = learnt_rules d f w (own_rules d w.def) rules }

-- a group of which an AVP was seen
abbrev pub learnt_group : Dictionary → PlainFacts → PlainDef → Option PlainDef
learnt_group d f g =
    if is_seen f (group_key g.head)
    then option_map (λ n. learnt_def d f (of_group n) g.name g.head g.rules) (option_and_then (group_place d) (entry_of d (group_key g.head)))
    else None

-- P as it was seen
abbrev pub p_rule_of : Bool → Bool → Pxy
p_rule_of set clear = if set then (if clear then Either else Set) else Clear

abbrev pub p_rule : PlainFacts → Pxy → Pxy
p_rule f Clear = Clear
p_rule f Set = Set
p_rule f Either = p_rule_of f.proxied f.direct

-- for the Application-ID that was seen, or for any error
abbrev pub learnt_head : PlainFacts → Head → ℕ → Head
learnt_head f (head.Group code vendor) app = head.Group code vendor
learnt_head f (head.Command code request pxy a) app = head.Command code request pxy (Some app)
learnt_head f (head.Error pxy) app = head.Error (p_rule f pxy)

-- the place of the command with this number among the commands
abbrev pub command_index : Dictionary → ℕ → Option ℕ
command_index d n = if nat_lt n (length (groups d)) then None else if nat_lt n (length (definitions d)) then Some (n - length (groups d)) else None

abbrev pub learnt_command : PlainSource → Dictionary → PlainFacts → ℕ × ℕ → Option PlainDef
learnt_command s d f p =
    option_and_then (λ i. option_map (λ c. learnt_def d f (place_of p) (command_name s c.name c.head p.1) (learnt_head f c.head p.1) c.rules) (slice_get s.commands i)) (command_index d p.0)

abbrev pub learnt_source : PlainSource → Dictionary → PlainFacts → PlainSource
learnt_source s d f = record {
  avps = learnt_avps s d f;
  groups = filter_map (learnt_group d f) s.groups;
  commands = filter_map (learnt_command s d f) f.places;
}

-- these have the same members, in whatever order and however often
abbrev pub HaveSame : {X : Type 0} → List X → List X → Type 0
HaveSame {X} xs ys = (x : X) → Contains xs x ↔ Contains ys x

-- the source that is learnt from these levels, and from errors with these P flags
abbrev pub IsLearnt : PlainSource → Dictionary → List PlainLevel → List Bool → PlainSource → Type 0
IsLearnt s d ls flags learnt = (f : PlainFacts) × AreFacts d ls flags f × (learnt ≡ learnt_source s d f)
