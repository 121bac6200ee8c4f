-- Rules without which a definition has the same levels (RFC 6733 section 3.2): a finding for each.
use Rattle.std.specs.Prelude.{ℕ, ◌+◌, nat_eq, nat_lt, Bool, false, not, ◌&&◌, ◌||◌, if◌then◌else◌, List, [], ◌++◌, length, Option, Some, None, is_some, option_and_then, option_to_list, slice_get}
use Rattle.std.specs.Option.{option_map, option_map_or}
use Rattle.dia_wire.specs.declared.Key.{Key}
use Rattle.dia_book.specs.declared.DRule.{DRule}
use Rattle.dia_book.specs.Dictionary.{Dictionary, group_place, groups, is_fixed}
use Rattle.dia_valid.specs.Rules.{rules_in, wildcard_of}
use Rattle.dia_valid.specs.Valid.{is_wildcard}
use Rattle.dia_lint.specs.declared.detail.Detail.{Detail}
use Rattle.dia_lint.specs.declared.detail.Detail.TheVariants as detail
use Rattle.dia_lint.specs.declared.finding.Finding.{Finding}
use Rattle.dia_lint.specs.declared.finding.Named.{Named}
use Rattle.dia_lint.specs.declared.finding.Named.TheVariants as named
use Rattle.dia_lint.specs.declared.finding.Place.TheVariants as place
use Rattle.dia_lint.specs.declared.finding.Subject.TheVariants as subject
use Rattle.dia_lint.specs.declared.rule.Rule.TheVariants as rule
use Rattle.dia_lint.specs.Gathered.{gathered}
use Rattle.dia_lint.specs.Guidelines.{lets_in}

abbrev pub named_by : Option Key → Named
named_by None = named.Others
named_by (Some key) = named.Key key

-- a wildcard lets in AVPs that no rule lists
abbrev pub lets_others_in : Option DRule → Bool
lets_others_in wildcard = option_map_or lets_in wildcard false

-- neither the rule nor the wildcard counts, and the AVPs may follow in any order
abbrev pub is_any_number : DRule → DRule → Bool
is_any_number r wild = not (is_fixed r) && (not (is_some r.max) && (nat_eq wild.min 0 && not (is_some wild.max)))

-- an AVP that no rule lists would be counted as this one is: nothing lets either in, or both come any number of times
abbrev pub why_nothing : Option DRule → DRule → Option Detail
why_nothing wildcard r =
    if nat_lt 0 r.min then None
    else if is_wildcard r || not (lets_others_in wildcard) then (if not (lets_in r) then Some detail.NothingLetsItIn else None)
    else if option_map_or (is_any_number r) wildcard false then Some detail.WildcardSaysIt
    else None

abbrev pub says_nothing : ℕ → Option DRule → ℕ → DRule → Option Finding
says_nothing def wildcard i r =
    option_map (λ what. record { rule = rule.SaysNothing; place = place.Rule def i; subject = subject.Within def (named_by r.key); detail = what }) (why_nothing wildcard r)

-- those of the rules of a definition
abbrev pub rule_part : ℕ → List DRule → ℕ → List Finding
rule_part def rules i = option_to_list (option_and_then (says_nothing def (wildcard_of rules) i) (slice_get rules i))

abbrev pub rule_lines : Dictionary → ℕ → List Finding
rule_lines d def = gathered (rule_part def (rules_in d def)) (length (rules_in d def))

-- those of the group of an entry, and of the command at a place
abbrev pub rules_of_entry : Dictionary → ℕ → List Finding
rules_of_entry d e = option_map_or (rule_lines d) (group_place d e) []

abbrev pub rules_of_command : Dictionary → ℕ → List Finding
rules_of_command d i = rule_lines d (length (groups d) + i)

-- those of a dictionary: of its groups, and then of its commands
abbrev pub says_nothing_lines : Dictionary → List Finding
says_nothing_lines d = gathered (rules_of_entry d) (length d.entries) ++ gathered (rules_of_command d) (length d.commands)
