-- The grammar as a machine over tokens: what has been read, and what may come next. The private functions of
-- the reader are specified by it; that it reads the grammar is proved in proofs/.
use Rattle.std.specs.Prelude.{ℕ, nat_le, nat_lt, Bool, true, false, not, ◌&&◌, ◌||◌, cond, List, [], ◌∷◌, ◌++◌, length, map, Option, Some, None, is_some, codes}
use Rattle.std.specs.List.{find, list_all}
use Rattle.std.specs.Option.{option_map}
use Rattle.std.specs.Char.{to_ascii_lowercase}
use Rattle.dia_terms.specs.declared.FormatName.{FormatName}
use Rattle.dia_terms.specs.declared.MRule.{MRule}
use Rattle.dia_terms.specs.declared.MRule.TheVariants.{Must, MustNot, Any}
use Rattle.dia_terms.specs.declared.Pxy.TheVariants.{Clear, Set, Either}
use Rattle.dia_terms.specs.Formats.{format_named, is_enumerated}
use Rattle.dia_ccf.specs.declared.source.Head.{Head}
use Rattle.dia_ccf.specs.declared.source.Head.TheVariants.{Group, Command, Error}
use Rattle.dia_terms.specs.declared.RuleKind.{RuleKind}
use Rattle.dia_terms.specs.declared.RuleKind.TheVariants.{Fixed, Required, Optional}
use Rattle.dia_ccf.specs.declared.source.Qual.{Qual}
use Rattle.dia_ccf.specs.declared.reading.refusal.Refusal.{Refusal}
use Rattle.dia_ccf.specs.declared.reading.refusal.Refusal.TheVariants as refusal
use Rattle.dia_ccf.specs.Names.{is_name, is_fixed, same_bytes}
use Rattle.dia_ccf.specs.Plain.{PlainDecl, PlainRule, PlainDef, PlainSource}
use Rattle.dia_ccf.specs.Tokens.{Token, Less, Greater, Open_brace, Close_brace, Open_bracket, Close_bracket, Open_parenthesis}
use Rattle.dia_ccf.specs.Tokens.{Close_parenthesis, Star, Comma, Dots, Assign, Colon, Declares, Number, Name}
use Rattle.dia_ccf.specs.Grammar.{rule_word}
use Rattle.dia_ccf.specs.Limits.{max_name, max_number, max_command_code, max_value}

-- ---- places

-- in a head, after its `<`
pub data HeadPlace : Type 0 where
  Head_word : HeadPlace
  Diameter_word : HeadPlace
  Avp_word : HeadPlace
  Diameter_colon : HeadPlace
  Avp_colon : HeadPlace
  Command_code : HeadPlace
  Group_code : HeadPlace
  -- after a command's code and the flags so far, and whether a comma follows them
  Flags : (code : ℕ) (request pxy comma : Bool) → HeadPlace
  Group_vendor : (code : ℕ) (comma : Bool) → HeadPlace
  -- after `code`, `ERR` and `[`, and whether a comma follows
  Error_word : (comma : Bool) → HeadPlace
  Error_flags : (comma : Bool) → HeadPlace
  Error_either : (comma : Bool) → HeadPlace
  Error_close : HeadPlace
  Head_end : (head : Head) → HeadPlace

pub data Place : Type 0 where
  Between : Place
  -- in a declaration
  Decl_name : Place
  Decl_code : (name : List ℕ) → Place
  Decl_vendor : (name : List ℕ) (code : ℕ) → Place
  Decl_number : (name : List ℕ) (code : ℕ) → Place
  Decl_format : (name : List ℕ) (code vendor : ℕ) → Place
  Decl_rule : (name : List ℕ) (code vendor : ℕ) (format : FormatName) → Place
  Decl_values : (decl : PlainDecl) → Place
  In_values : (decl : PlainDecl) (ranges : List (ℕ × ℕ)) → Place
  After_value : (decl : PlainDecl) (ranges : List (ℕ × ℕ)) (value : ℕ) → Place
  After_dots : (decl : PlainDecl) (ranges : List (ℕ × ℕ)) (low : ℕ) → Place
  -- in a definition
  Def_name : Place
  Def_close : (name : List ℕ) → Place
  Def_assign : (name : List ℕ) → Place
  Head_open : (name : List ℕ) → Place
  In_head : (name : List ℕ) (at : HeadPlace) → Place
  -- after a definition, whose rules may go on
  Rules : (def : PlainDef) → Place
  Qual_min : (def : PlainDef) (min : ℕ) → Place
  Qual_star : (def : PlainDef) (min : Option ℕ) → Place
  Qual_done : (def : PlainDef) (qual : Qual) → Place
  Fixed_name : (def : PlainDef) (qual : Qual) → Place
  Fixed_close : (def : PlainDef) (qual : Qual) (name : List ℕ) → Place
  -- in angle brackets that hold a fixed rule or begin the next definition
  Angle_name : (def : PlainDef) → Place
  Angle_close : (def : PlainDef) (name : List ℕ) → Place
  After_angle : (def : PlainDef) (name : List ℕ) → Place
  Loose_name : (def : PlainDef) (kind : RuleKind) (qual : Option Qual) → Place
  Loose_close : (def : PlainDef) (rule : PlainRule) → Place

-- what has been read whole, and the machine's place
abbrev pub State : Type 0
State = PlainSource × Place

-- ---- tokens

abbrev pub same_sign : Token → Token → Bool
same_sign Less Less = true
same_sign Greater Greater = true
same_sign Open_brace Open_brace = true
same_sign Close_brace Close_brace = true
same_sign Open_bracket Open_bracket = true
same_sign Close_bracket Close_bracket = true
same_sign Open_parenthesis Open_parenthesis = true
same_sign Close_parenthesis Close_parenthesis = true
same_sign Star Star = true
same_sign Comma Comma = true
same_sign Dots Dots = true
same_sign Assign Assign = true
same_sign Colon Colon = true
same_sign Declares Declares = true
same_sign sign token = false

abbrev pub is_word : List ℕ → Token → Bool
is_word text (Name name) = same_bytes name text
is_word text token = false

abbrev pub is_keyword : List ℕ → Token → Bool
is_keyword text (Name name) = same_bytes (map to_ascii_lowercase name) text
is_keyword text token = false

abbrev pub is_number : Token → Bool
is_number (Number n) = true
is_number token = false

-- ---- what is read of one token

abbrev pub sign_at : Token → Token → Option (Unit {0})
sign_at sign token = cond (same_sign sign token) (Some tt) None

abbrev pub keyword_at : List ℕ → Token → Option (Unit {0})
keyword_at text token = cond (is_keyword text token) (Some tt) None

abbrev pub number_at : ℕ → ℕ → Token → Option ℕ
number_at least most (Number n) = cond (nat_le least n && nat_le n most) (Some n) None
number_at least most token = None

abbrev pub name_at : Token → Option (List ℕ)
name_at (Name text) = cond (is_name text) (Some text) None
name_at token = None

abbrev pub format_at : Token → Option FormatName
format_at (Name word) = format_named word
format_at token = None

abbrev pub rule_named : List ℕ → Option MRule
rule_named word = find (λ r. same_bytes word (rule_word r)) (Must ∷ MustNot ∷ Any ∷ [])

abbrev pub rule_at : Token → Option MRule
rule_at (Name word) = rule_named word
rule_at token = None

-- `AVP` is the wildcard
abbrev pub slot_at : Token → Option (Option (List ℕ))
slot_at token = cond (is_word (codes "AVP") token) (Some None) (option_map (λ text. Some text) (name_at token))

-- ---- heads

-- the head, where it may end
abbrev pub head_at : HeadPlace → Option Head
head_at (Flags code request pxy false) = Some (Command code request pxy None)
head_at (Group_vendor code false) = Some (Group code 0)
head_at (Error_flags false) = Some (Error Clear)
head_at (Head_end head) = Some head
head_at place = None

abbrev pub next_flag : ℕ → Bool → Bool → Token → Option HeadPlace
next_flag code request pxy token =
    cond (is_keyword (codes "req") token) (cond (request || pxy) None (Some (Flags code true pxy false)))
    (cond (is_keyword (codes "pxy") token) (cond pxy None (Some (Flags code request true false)))
    (option_map (λ n. Head_end (Command code request pxy (Some n))) (number_at 0 max_number token)))

-- a comma, where none was read yet, or what else may come
abbrev pub on_comma : Bool → HeadPlace → Option HeadPlace → Token → Option HeadPlace
on_comma comma to other token = cond (same_sign Comma token) (cond comma None (Some to)) other

abbrev pub next_in_head : HeadPlace → Token → Option HeadPlace
next_in_head Head_word token =
    cond (is_keyword (codes "avp") token) (Some Avp_word)
    (cond (is_keyword (codes "avp-header") token) (Some Avp_colon)
    (cond (is_keyword (codes "diameter") token) (Some Diameter_word)
    (option_map (λ u. Diameter_colon) (keyword_at (codes "diameter-header") token))))
next_in_head Diameter_word token = option_map (λ u. Diameter_colon) (keyword_at (codes "header") token)
next_in_head Avp_word token = option_map (λ u. Avp_colon) (keyword_at (codes "header") token)
next_in_head Diameter_colon token = option_map (λ u. Command_code) (sign_at Colon token)
next_in_head Avp_colon token = option_map (λ u. Group_code) (sign_at Colon token)
next_in_head Command_code token = cond (is_keyword (codes "code") token) (Some (Error_word false)) (option_map (λ n. Flags n false false false) (number_at 0 max_command_code token))
next_in_head Group_code token = option_map (λ n. Group_vendor n false) (number_at 0 max_number token)
next_in_head (Flags code request pxy comma) token = on_comma comma (Flags code request pxy true) (next_flag code request pxy token) token
next_in_head (Group_vendor code comma) token = on_comma comma (Group_vendor code true) (option_map (λ n. Head_end (Group code n)) (number_at 0 max_number token)) token
next_in_head (Error_word comma) token = on_comma comma (Error_word true) (option_map (λ u. Error_flags false) (keyword_at (codes "err") token)) token
next_in_head (Error_flags comma) token =
    on_comma comma (Error_flags true) (cond (is_keyword (codes "pxy") token) (Some (Head_end (Error Set))) (cond comma None (option_map (λ u. Error_either false) (sign_at Open_bracket token)))) token
next_in_head (Error_either comma) token = on_comma comma (Error_either true) (option_map (λ u. Error_close) (keyword_at (codes "pxy") token)) token
next_in_head Error_close token = option_map (λ u. Head_end (Error Either)) (sign_at Close_bracket token)
next_in_head (Head_end head) token = None

-- ---- whole items

abbrev pub with_values : PlainDecl → List (ℕ × ℕ) → PlainDecl
with_values d ranges = record d { values = Some ranges }

abbrev pub with_rule : PlainDef → PlainRule → PlainDef
with_rule d rule = record d { rules = d.rules ++ rule ∷ [] }

abbrev pub fixed_rule : List ℕ → Option Qual → PlainRule
fixed_rule name qual = record { kind = Fixed; name = Some name; qual = qual }

abbrev pub add_decl : PlainSource → PlainDecl → PlainSource
add_decl done d = record done { avps = done.avps ++ d ∷ [] }

abbrev pub add_by_head : PlainSource → PlainDef → Head → PlainSource
add_by_head done d (Group code vendor) = record done { groups = done.groups ++ d ∷ [] }
add_by_head done d (Command code request pxy app) = record done { commands = done.commands ++ d ∷ [] }
add_by_head done d (Error pxy) = record done { commands = done.commands ++ d ∷ [] }

abbrev pub add_def : PlainSource → PlainDef → PlainSource
add_def done d = add_by_head done d d.head

abbrev pub all_fixed : List PlainRule → Bool
all_fixed rules = list_all (λ rule. is_fixed rule.kind) rules

abbrev pub is_none : {X : Type 0} → List X → Bool
is_none [] = true
is_none (x ∷ xs) = false

-- the bracket after the name of a rule
abbrev pub closing_sign : RuleKind → Token
closing_sign Fixed = Greater
closing_sign Required = Close_brace
closing_sign Optional = Close_bracket

-- ---- steps

-- the token that begins an item
abbrev pub on_item : PlainSource → Token → Option State
on_item done token =
    cond (same_sign Declares token) (Some (done, Decl_name))
    (cond (same_sign Less token) (Some (done, Def_name))
    (option_map (λ name. (done, Def_assign name)) (name_at token)))

abbrev pub on_values : PlainSource → PlainDecl → List (ℕ × ℕ) → Token → Option State
on_values done d ranges token =
    cond (not (is_none ranges) && same_sign Close_parenthesis token) (Some (add_decl done (with_values d ranges), Between))
    (option_map (λ n. (done, After_value d ranges n)) (number_at 0 max_value token))

-- the bracket that opens a rule that is not fixed
abbrev pub on_loose : PlainSource → PlainDef → Option Qual → Token → Option State
on_loose done d qual token =
    cond (same_sign Open_brace token) (Some (done, Loose_name d Required qual))
    (option_map (λ u. (done, Loose_name d Optional qual)) (sign_at Open_bracket token))

-- the bracket that opens a rule with a qualifier
abbrev pub on_bracket : PlainSource → PlainDef → Qual → Token → Option State
on_bracket done d qual token = cond (all_fixed d.rules && same_sign Less token) (Some (done, Fixed_name d qual)) (on_loose done d (Some qual) token)

abbrev pub on_star : PlainSource → PlainDef → Option ℕ → Token → Option State
on_star done d min token =
    cond (is_number token) (option_map (λ n. (done, Qual_done d (record { min = min; max = Some n }))) (number_at 0 max_number token))
    (on_bracket done d (record { min = min; max = None }) token)

abbrev pub begins_qualifier : Token → Bool
begins_qualifier token = is_number token || same_sign Star token

abbrev pub on_qualifier : PlainSource → PlainDef → Token → Option State
on_qualifier done d token =
    cond (is_number token) (option_map (λ n. (done, Qual_min d n)) (number_at 0 max_number token))
    (option_map (λ u. (done, Qual_star d None)) (sign_at Star token))

abbrev pub begins_loose : Token → Bool
begins_loose token = same_sign Open_brace token || same_sign Open_bracket token

-- a rule, or the item after the definition
abbrev pub on_rules : PlainSource → PlainDef → Token → Option State
on_rules done d token =
    cond (same_sign Less token) (Some (done, Angle_name d))
    (cond (begins_qualifier token) (on_qualifier done d token)
    (cond (begins_loose token) (on_loose done d None token)
    (on_item (add_def done d) token)))

abbrev pub step : PlainSource → Place → Token → Option State
step done Between token = on_item done token
step done Decl_name token = option_map (λ name. (done, Decl_code name)) (name_at token)
step done (Decl_code name) token = option_map (λ n. (done, Decl_vendor name n)) (number_at 0 max_number token)
step done (Decl_vendor name code) token = cond (is_word (codes "vendor") token) (Some (done, Decl_number name code)) (option_map (λ f. (done, Decl_rule name code 0 f)) (format_at token))
step done (Decl_number name code) token = option_map (λ n. (done, Decl_format name code n)) (number_at 0 max_number token)
step done (Decl_format name code vendor) token = option_map (λ f. (done, Decl_rule name code vendor f)) (format_at token)
step done (Decl_rule name code vendor f) token = option_map (λ rule. (done, Decl_values (record { name = name; code = code; vendor = vendor; format = f; values = None; rule = rule }))) (rule_at token)
step done (Decl_values d) token = cond (is_enumerated d.format && same_sign Open_parenthesis token) (Some (done, In_values d [])) (on_item (add_decl done d) token)
step done (In_values d ranges) token = on_values done d ranges token
step done (After_value d ranges n) token = cond (same_sign Dots token) (Some (done, After_dots d ranges n)) (on_values done d (ranges ++ (n, n) ∷ []) token)
step done (After_dots d ranges low) token = option_map (λ n. (done, In_values d (ranges ++ (low, n) ∷ []))) (number_at low max_value token)
step done Def_name token = option_map (λ name. (done, Def_close name)) (name_at token)
step done (Def_close name) token = option_map (λ u. (done, Def_assign name)) (sign_at Greater token)
step done (Def_assign name) token = option_map (λ u. (done, Head_open name)) (sign_at Assign token)
step done (Head_open name) token = option_map (λ u. (done, In_head name Head_word)) (sign_at Less token)
step done (In_head name at) token =
    cond (same_sign Greater token) (option_map (λ h. (done, Rules (record { name = name; head = h; rules = [] }))) (head_at at))
    (option_map (λ to. (done, In_head name to)) (next_in_head at token))
step done (Rules d) token = on_rules done d token
step done (Qual_min d n) token = option_map (λ u. (done, Qual_star d (Some n))) (sign_at Star token)
step done (Qual_star d min) token = on_star done d min token
step done (Qual_done d qual) token = on_bracket done d qual token
step done (Fixed_name d qual) token = option_map (λ name. (done, Fixed_close d qual name)) (name_at token)
step done (Fixed_close d qual name) token = option_map (λ u. (done, Rules (with_rule d (fixed_rule name (Some qual))))) (sign_at Greater token)
step done (Angle_name d) token = option_map (λ name. (done, Angle_close d name)) (name_at token)
step done (Angle_close d name) token = option_map (λ u. (done, After_angle d name)) (sign_at Greater token)
step done (After_angle d name) token =
    cond (same_sign Assign token) (Some (add_def done d, Head_open name))
    (cond (all_fixed d.rules) (on_rules done (with_rule d (fixed_rule name None)) token) None)
step done (Loose_name d kind qual) token = option_map (λ name. (done, Loose_close d (record { kind = kind; name = name; qual = qual }))) (slot_at token)
step done (Loose_close d rule) token = option_map (λ u. (done, Rules (with_rule d rule))) (sign_at (closing_sign rule.kind) token)

abbrev pub next : State → Token → Option State
next state token = step state.0 state.1 token

-- the source, where the text may end
abbrev pub whole_at : PlainSource → Place → Option PlainSource
whole_at done Between = Some done
whole_at done (Decl_values d) = Some (add_decl done d)
whole_at done (Rules d) = Some (add_def done d)
whole_at done (After_angle d name) = cond (all_fixed d.rules) (Some (add_def done (with_rule d (fixed_rule name None)))) None
whole_at done place = None

abbrev pub whole : State → Option PlainSource
whole state = whole_at state.0 state.1

-- ---- whole runs

-- the least number that may be at a place where one may
abbrev pub least_at : Place → ℕ
least_at (After_dots d ranges low) = low
least_at place = 0

-- why a token is refused, by whether a number, and whether a name, would fit
abbrev pub why : Bool → Bool → Token → Refusal
why numbers names (Number n) = cond numbers refusal.Number refusal.Syntax
why numbers names (Name text) = cond (nat_lt max_name (length text) && names) refusal.Limit refusal.Syntax
why numbers names token = refusal.Syntax

abbrev pub refused : State → Token → Refusal
refused state token = why (is_some (next state (Number (least_at state.1)))) (is_some (next state (Name (codes "a")))) token

-- the whole source, or why the token ahead is refused, and the rest from it on
pub data Outcome : Type 0 where
  Reads : (source : PlainSource) → Outcome
  Stops : (refusal : Refusal) (left : List Token) → Outcome

abbrev pub ended : Option PlainSource → Outcome
ended (Some source) = Reads source
ended None = Stops refusal.Syntax []

abbrev pub gone_on : Option State → Outcome → (State → Outcome) → Outcome
gone_on (Some state) stopped on = on state
gone_on None stopped on = stopped

abbrev pub outcome : State → List Token → Outcome
outcome state [] = ended (whole state)
outcome state (token ∷ tokens) = gone_on (next state token) (Stops (refused state token) (token ∷ tokens)) (λ to. outcome to tokens)
