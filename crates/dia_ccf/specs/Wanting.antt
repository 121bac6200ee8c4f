-- What fits in a state of the machine.
use Rattle.std.specs.Prelude.{ℕ, Bool, true, false, not, ◌&&◌, ◌||◌, cond, List, [], ◌∷◌, Option, Some, None, is_some, codes}
use Rattle.dia_terms.specs.declared.RuleKind.TheVariants.{Required, Optional}
use Rattle.dia_ccf.specs.declared.wanted.Wanted.{Wanted}
use Rattle.dia_ccf.specs.declared.wanted.Wanted.TheVariants as wants
use Rattle.dia_ccf.specs.declared.wanted.InDeclaration.{InDeclaration}
use Rattle.dia_ccf.specs.declared.wanted.InDeclaration.TheVariants as declaration
use Rattle.dia_ccf.specs.declared.wanted.InDefinition.{InDefinition}
use Rattle.dia_ccf.specs.declared.wanted.InDefinition.TheVariants as definition
use Rattle.dia_ccf.specs.declared.wanted.InHead.{InHead}
use Rattle.dia_ccf.specs.declared.wanted.InHead.TheVariants as head
use Rattle.dia_ccf.specs.declared.wanted.InRules.{InRules}
use Rattle.dia_ccf.specs.declared.wanted.InRules.TheVariants as rules
use Rattle.dia_ccf.specs.Tokens.{Token, Less, Greater, Open_brace, Open_bracket, Close_bracket, Open_parenthesis, Close_parenthesis, Star, Comma, Dots, Assign, Colon, Declares}
use Rattle.dia_ccf.specs.Limits.{max_number, max_command_code, max_value}
use Rattle.dia_ccf.specs.Machine.{HeadPlace, Head_word, Diameter_word, Avp_word, Diameter_colon, Avp_colon, Command_code, Group_code, Flags, Group_vendor}
use Rattle.dia_ccf.specs.Machine.{Error_word, Error_flags, Error_either, Error_close, Head_end, Place, Between, Decl_name, Decl_code, Decl_vendor, Decl_number}
use Rattle.dia_ccf.specs.Machine.{Decl_format, Decl_rule, Decl_values, In_values, After_value, After_dots, Def_name, Def_close, Def_assign, Head_open, In_head}
use Rattle.dia_ccf.specs.Machine.{Rules, Qual_min, Qual_star, Qual_done, Fixed_name, Fixed_close, Angle_name, Angle_close, After_angle, Loose_name, Loose_close}
use Rattle.dia_ccf.specs.Machine.{same_sign, is_word, is_keyword, is_number, number_at, name_at, format_at, rule_at, slot_at, is_none, all_fixed, closing_sign, begins_qualifier, begins_loose}
use Rattle.dia_terms.specs.Formats.{is_enumerated}

-- ---- which tokens

abbrev pub is_number_to : ℕ → Token → Bool
is_number_to most token = is_some (number_at 0 most token)

abbrev pub is_name_token : Token → Bool
is_name_token token = is_some (name_at token)

abbrev pub begins_item : Token → Bool
begins_item token = same_sign Declares token || same_sign Less token || is_name_token token

abbrev pub fits_declaration : InDeclaration → Token → Bool
fits_declaration declaration.Name token = is_name_token token
fits_declaration declaration.Code token = is_number_to max_number token
fits_declaration declaration.VendorOrFormat token = is_word (codes "vendor") token || is_some (format_at token)
fits_declaration declaration.Vendor token = is_number_to max_number token
fits_declaration declaration.Format token = is_some (format_at token)
fits_declaration (declaration.MRule is_enumerated) token = is_some (rule_at token)
fits_declaration declaration.ValuesOrItem token = same_sign Open_parenthesis token || begins_item token
fits_declaration declaration.FirstValue token = is_number_to max_value token
fits_declaration (declaration.DotsOrValue low) token = same_sign Dots token || same_sign Close_parenthesis token || is_number_to max_value token
fits_declaration (declaration.High low) token = is_some (number_at low max_value token)
fits_declaration declaration.NextValue token = same_sign Close_parenthesis token || is_number_to max_value token

abbrev pub fits_definition : InDefinition → Token → Bool
fits_definition definition.Name token = is_name_token token
fits_definition definition.Close token = same_sign Greater token
fits_definition definition.Assign token = same_sign Assign token
fits_definition definition.Head token = same_sign Less token

-- a comma, where none was read
abbrev pub or_comma : Bool → Token → Bool
or_comma comma token = not comma && same_sign Comma token

-- what does not end the head
abbrev pub goes_on : InHead → Token → Bool
goes_on head.Word token = is_keyword (codes "avp") token || is_keyword (codes "avp-header") token || is_keyword (codes "diameter") token || is_keyword (codes "diameter-header") token
goes_on (head.Header is_group) token = is_keyword (codes "header") token
goes_on (head.Colon is_group) token = same_sign Colon token
goes_on head.CommandCode token = is_keyword (codes "code") token || is_number_to max_command_code token
goes_on head.GroupCode token = is_number_to max_number token
goes_on (head.Flags request pxy comma) token =
    or_comma comma token || (not (request || pxy) && is_keyword (codes "req") token) || (not pxy && is_keyword (codes "pxy") token) || is_number_to max_number token
goes_on (head.Vendor comma) token = or_comma comma token || is_number_to max_number token
goes_on (head.ErrorWord comma) token = or_comma comma token || is_keyword (codes "err") token
goes_on (head.ErrorProxy comma) token = or_comma comma token || is_keyword (codes "pxy") token || (not comma && same_sign Open_bracket token)
goes_on (head.ErrorEither comma) token = or_comma comma token || is_keyword (codes "pxy") token
goes_on head.EitherClose token = same_sign Close_bracket token
goes_on head.Close token = false

abbrev pub may_end_head : InHead → Bool
may_end_head (head.Flags request pxy comma) = not comma
may_end_head (head.Vendor comma) = not comma
may_end_head (head.ErrorProxy comma) = not comma
may_end_head head.Close = true
may_end_head place = false

abbrev pub begins_rule : Token → Bool
begins_rule token = same_sign Less token || is_number_to max_number token || same_sign Star token || begins_loose token || begins_item token

abbrev pub opens_rule : Bool → Token → Bool
opens_rule only_fixed token = (only_fixed && same_sign Less token) || begins_loose token

abbrev pub fits_rules : InRules → Token → Bool
fits_rules (rules.Rule only_fixed) token = begins_rule token
fits_rules (rules.Star only_fixed) token = same_sign Star token
fits_rules (rules.Greatest only_fixed) token = is_number_to max_number token || opens_rule only_fixed token
fits_rules (rules.Bracket only_fixed) token = opens_rule only_fixed token
fits_rules rules.FixedName token = is_name_token token
fits_rules rules.FixedClose token = same_sign Greater token
fits_rules (rules.AngledName only_fixed) token = is_name_token token
fits_rules (rules.AngledClose only_fixed) token = same_sign Greater token
fits_rules (rules.Angled only_fixed) token = same_sign Assign token || (only_fixed && begins_rule token)
fits_rules (rules.LooseName kind) token = is_some (slot_at token)
fits_rules (rules.LooseClose kind) token = same_sign (closing_sign kind) token

-- the token fits there
abbrev pub fits : Wanted → Token → Bool
fits wants.Item token = begins_item token
fits (wants.Declaration place) token = fits_declaration place token
fits (wants.Definition place) token = fits_definition place token
fits (wants.Head place) token = (may_end_head place && same_sign Greater token) || goes_on place token
fits (wants.Rules place) token = fits_rules place token

-- the text can end there
abbrev pub may_end : Wanted → Bool
may_end wants.Item = true
may_end (wants.Declaration declaration.ValuesOrItem) = true
may_end (wants.Rules (rules.Rule only_fixed)) = true
may_end (wants.Rules (rules.Angled only_fixed)) = only_fixed
may_end place = false

-- ---- states of the machine

abbrev pub wanted_in_head : HeadPlace → InHead
wanted_in_head Head_word = head.Word
wanted_in_head Diameter_word = head.Header false
wanted_in_head Avp_word = head.Header true
wanted_in_head Diameter_colon = head.Colon false
wanted_in_head Avp_colon = head.Colon true
wanted_in_head Command_code = head.CommandCode
wanted_in_head Group_code = head.GroupCode
wanted_in_head (Flags code request pxy comma) = head.Flags request pxy comma
wanted_in_head (Group_vendor code comma) = head.Vendor comma
wanted_in_head (Error_word comma) = head.ErrorWord comma
wanted_in_head (Error_flags comma) = head.ErrorProxy comma
wanted_in_head (Error_either comma) = head.ErrorEither comma
wanted_in_head Error_close = head.EitherClose
wanted_in_head (Head_end h) = head.Close

abbrev pub wanted_at : Place → Wanted
wanted_at Between = wants.Item
wanted_at Decl_name = wants.Declaration declaration.Name
wanted_at (Decl_code name) = wants.Declaration declaration.Code
wanted_at (Decl_vendor name code) = wants.Declaration declaration.VendorOrFormat
wanted_at (Decl_number name code) = wants.Declaration declaration.Vendor
wanted_at (Decl_format name code vendor) = wants.Declaration declaration.Format
wanted_at (Decl_rule name code vendor format) = wants.Declaration (declaration.MRule (is_enumerated format))
wanted_at (Decl_values d) = cond (is_enumerated d.format) (wants.Declaration declaration.ValuesOrItem) wants.Item
wanted_at (In_values d ranges) = wants.Declaration (cond (is_none ranges) declaration.FirstValue declaration.NextValue)
wanted_at (After_value d ranges n) = wants.Declaration (declaration.DotsOrValue n)
wanted_at (After_dots d ranges low) = wants.Declaration (declaration.High low)
wanted_at Def_name = wants.Definition definition.Name
wanted_at (Def_close name) = wants.Definition definition.Close
wanted_at (Def_assign name) = wants.Definition definition.Assign
wanted_at (Head_open name) = wants.Definition definition.Head
wanted_at (In_head name place) = wants.Head (wanted_in_head place)
wanted_at (Rules d) = wants.Rules (rules.Rule (all_fixed d.rules))
wanted_at (Qual_min d n) = wants.Rules (rules.Star (all_fixed d.rules))
wanted_at (Qual_star d min) = wants.Rules (rules.Greatest (all_fixed d.rules))
wanted_at (Qual_done d qual) = wants.Rules (rules.Bracket (all_fixed d.rules))
wanted_at (Fixed_name d qual) = wants.Rules rules.FixedName
wanted_at (Fixed_close d qual name) = wants.Rules rules.FixedClose
wanted_at (Angle_name d) = wants.Rules (rules.AngledName (all_fixed d.rules))
wanted_at (Angle_close d name) = wants.Rules (rules.AngledClose (all_fixed d.rules))
wanted_at (After_angle d name) = wants.Rules (rules.Angled (all_fixed d.rules))
wanted_at (Loose_name d kind qual) = wants.Rules (rules.LooseName kind)
wanted_at (Loose_close d rule) = wants.Rules (rules.LooseClose rule.kind)

-- ---- what fits after a token that fits

-- a number of the limit's size, and 0 for any other token
abbrev pub small_value : Option ℕ → ℕ
small_value None = 0
small_value (Some n) = n

abbrev pub value_of : Token → ℕ
value_of token = small_value (number_at 0 max_number token)

abbrev pub after_item : Token → Wanted
after_item token =
    cond (same_sign Declares token) (wants.Declaration declaration.Name)
    (cond (same_sign Less token) (wants.Definition definition.Name) (wants.Definition definition.Assign))

abbrev pub after_value : Token → Wanted
after_value token = cond (same_sign Close_parenthesis token) wants.Item (wants.Declaration (declaration.DotsOrValue (value_of token)))

abbrev pub after_in_declaration : InDeclaration → Token → Wanted
after_in_declaration declaration.Name token = wants.Declaration declaration.Code
after_in_declaration declaration.Code token = wants.Declaration declaration.VendorOrFormat
after_in_declaration declaration.VendorOrFormat token =
    wants.Declaration (cond (is_word (codes "vendor") token) declaration.Vendor (declaration.MRule (is_word (codes "Enumerated") token)))
after_in_declaration declaration.Vendor token = wants.Declaration declaration.Format
after_in_declaration declaration.Format token = wants.Declaration (declaration.MRule (is_word (codes "Enumerated") token))
after_in_declaration (declaration.MRule is_enumerated) token = cond is_enumerated (wants.Declaration declaration.ValuesOrItem) wants.Item
after_in_declaration declaration.ValuesOrItem token = cond (same_sign Open_parenthesis token) (wants.Declaration declaration.FirstValue) (after_item token)
after_in_declaration declaration.FirstValue token = after_value token
after_in_declaration (declaration.DotsOrValue low) token = cond (same_sign Dots token) (wants.Declaration (declaration.High low)) (after_value token)
after_in_declaration (declaration.High low) token = wants.Declaration declaration.NextValue
after_in_declaration declaration.NextValue token = after_value token

abbrev pub after_in_definition : InDefinition → Wanted
after_in_definition definition.Name = wants.Definition definition.Close
after_in_definition definition.Close = wants.Definition definition.Assign
after_in_definition definition.Assign = wants.Definition definition.Head
after_in_definition definition.Head = wants.Head head.Word

abbrev pub after_first_word : Token → InHead
after_first_word token =
    cond (is_keyword (codes "avp") token) (head.Header true)
    (cond (is_keyword (codes "avp-header") token) (head.Colon true)
    (cond (is_keyword (codes "diameter") token) (head.Header false) (head.Colon false)))

abbrev pub after_flag : Bool → Bool → Token → InHead
after_flag request pxy token =
    cond (same_sign Comma token) (head.Flags request pxy true)
    (cond (is_keyword (codes "req") token) (head.Flags true pxy false)
    (cond (is_keyword (codes "pxy") token) (head.Flags request true false) head.Close))

abbrev pub next_wanted : InHead → Token → InHead
next_wanted head.Word token = after_first_word token
next_wanted (head.Header is_group) token = head.Colon is_group
next_wanted (head.Colon is_group) token = cond is_group head.GroupCode head.CommandCode
next_wanted head.CommandCode token = cond (is_keyword (codes "code") token) (head.ErrorWord false) (head.Flags false false false)
next_wanted head.GroupCode token = head.Vendor false
next_wanted (head.Flags request pxy comma) token = after_flag request pxy token
next_wanted (head.Vendor comma) token = cond (same_sign Comma token) (head.Vendor true) head.Close
next_wanted (head.ErrorWord comma) token = cond (same_sign Comma token) (head.ErrorWord true) (head.ErrorProxy false)
next_wanted (head.ErrorProxy comma) token = cond (same_sign Comma token) (head.ErrorProxy true) (cond (is_keyword (codes "pxy") token) head.Close (head.ErrorEither false))
next_wanted (head.ErrorEither comma) token = cond (same_sign Comma token) (head.ErrorEither true) head.EitherClose
next_wanted head.EitherClose token = head.Close
next_wanted head.Close token = head.Close

abbrev pub after_in_head : InHead → Token → Wanted
after_in_head place token = cond (same_sign Greater token) (wants.Rules (rules.Rule true)) (wants.Head (next_wanted place token))

abbrev pub after_loose : Token → InRules
after_loose token = rules.LooseName (cond (same_sign Open_brace token) Required Optional)

abbrev pub after_bracket : Token → InRules
after_bracket token = cond (same_sign Less token) rules.FixedName (after_loose token)

abbrev pub after_rule : Bool → Token → Wanted
after_rule only_fixed token =
    cond (same_sign Less token) (wants.Rules (rules.AngledName only_fixed))
    (cond (begins_qualifier token) (wants.Rules (cond (is_number token) (rules.Star only_fixed) (rules.Greatest only_fixed)))
    (cond (begins_loose token) (wants.Rules (after_loose token)) (after_item token)))

abbrev pub after_in_rules : InRules → Token → Wanted
after_in_rules (rules.Rule only_fixed) token = after_rule only_fixed token
after_in_rules (rules.Star only_fixed) token = wants.Rules (rules.Greatest only_fixed)
after_in_rules (rules.Greatest only_fixed) token = wants.Rules (cond (is_number token) (rules.Bracket only_fixed) (after_bracket token))
after_in_rules (rules.Bracket only_fixed) token = wants.Rules (after_bracket token)
after_in_rules rules.FixedName token = wants.Rules rules.FixedClose
after_in_rules rules.FixedClose token = wants.Rules (rules.Rule true)
after_in_rules (rules.AngledName only_fixed) token = wants.Rules (rules.AngledClose only_fixed)
after_in_rules (rules.AngledClose only_fixed) token = wants.Rules (rules.Angled only_fixed)
after_in_rules (rules.Angled only_fixed) token = cond (same_sign Assign token) (wants.Definition definition.Head) (after_rule only_fixed token)
after_in_rules (rules.LooseName kind) token = wants.Rules (rules.LooseClose kind)
after_in_rules (rules.LooseClose kind) token = wants.Rules (rules.Rule false)

abbrev pub following : Wanted → Token → Wanted
following wants.Item token = after_item token
following (wants.Declaration place) token = after_in_declaration place token
following (wants.Definition place) token = after_in_definition place
following (wants.Head place) token = after_in_head place token
following (wants.Rules place) token = after_in_rules place token

-- after these tokens, from a place on
abbrev pub after_all : Wanted → List Token → Wanted
after_all place [] = place
after_all place (token ∷ tokens) = after_all (following place token) tokens
