-- The grammar of dictionary texts: RFC 6733 section 3.2, with declarations of AVPs.
-- Each class of the grammar is a set of lists of tokens.
use Rattle.std.specs.Prelude.{◌≡◌, ℕ, ◌≤◌, ◌⊎◌, Bool, true, false, List, [], ◌∷◌, ◌++◌, map, Option, Some, None, codes, IsTrue}
use Rattle.std.specs.List.{filter_map, AllByRecursion}
use Rattle.std.specs.Char.{to_ascii_lowercase}
use Rattle.dia_terms.specs.declared.FormatName.{FormatName}
use Rattle.dia_terms.specs.declared.FormatName.TheVariants as format
use Rattle.dia_terms.specs.declared.Pxy.{Pxy}
use Rattle.dia_terms.specs.declared.Pxy.TheVariants.{Clear, Set, Either}
use Rattle.dia_terms.specs.Formats.{format_word}
pub use Rattle.dia_terms.specs.MRules.{rule_word}
use Rattle.dia_ccf.specs.declared.source.Head.{Head}
use Rattle.dia_ccf.specs.declared.source.Head.TheVariants.{Group, Command, Error}
use Rattle.dia_terms.specs.declared.RuleKind.{RuleKind}
use Rattle.dia_terms.specs.declared.RuleKind.TheVariants.{Fixed, Required, Optional}
use Rattle.dia_ccf.specs.declared.source.Qual.{Qual}
use Rattle.dia_ccf.specs.Limits.{max_number, max_command_code, max_value}
use Rattle.dia_ccf.specs.Names.{is_name}
use Rattle.dia_ccf.specs.Plain.{PlainDecl, PlainRule, PlainDef, PlainSource}
use Rattle.dia_ccf.specs.Tokens.{Token, Less, Greater, Open_brace, Close_brace, Open_bracket, Close_bracket, Open_parenthesis}
use Rattle.dia_ccf.specs.Tokens.{Close_parenthesis, Star, Comma, Dots, Assign, Colon, Declares, Number, Name}

abbrev pub Tokens : Type 1
Tokens = List Token → Type 0

infixr 30 ◌then◌
-- one class and then another
abbrev pub ◌then◌ : Tokens → Tokens → Tokens
(first then second) ts = (front : List Token) × (rest : List Token) × (ts ≡ front ++ rest) × first front × second rest

abbrev pub one : Token → Tokens
one token ts = ts ≡ token ∷ []

abbrev pub nothing : Tokens
nothing ts = ts ≡ []

-- the class or nothing
abbrev pub maybe : Tokens → Tokens
maybe class ts = nothing ts ⊎ class ts

abbrev pub either : Tokens → Tokens → Tokens
either first second ts = first ts ⊎ second ts

-- a word in the case written here, and in either case
abbrev pub word : List ℕ → Tokens
word text = one (Name text)

abbrev pub keyword : List ℕ → Tokens
keyword text ts = (spelled : List ℕ) × (map to_ascii_lowercase spelled ≡ text) × (ts ≡ Name spelled ∷ [])

-- a name that is free to choose
abbrev pub name : List ℕ → Tokens
name text ts = IsTrue (is_name text) × one (Name text) ts

abbrev pub number : ℕ → ℕ → Tokens
number most n ts = (n ≤ most) × one (Number n) ts

abbrev pub each : {X : Type 0} → (X → Tokens) → List X → Tokens
each class [] ts = nothing ts
each class (x ∷ xs) ts = (class x then each class xs) ts

-- ---- declarations

-- a vendor of 0 and no vendor are one
abbrev pub vendor : ℕ → Tokens
vendor n ts = (nothing ts × (n ≡ 0)) ⊎ (word (codes "vendor") then number max_number n) ts

-- a number alone is a range of one
abbrev pub range : ℕ × ℕ → Tokens
range r ts = (r.0 ≤ r.1) × either (λ us. (r.0 ≡ r.1) × number max_value r.0 us) (number max_value r.0 then one Dots then number max_value r.1) ts

-- a list only after Enumerated, and with one range at least
abbrev pub values : FormatName → Option (List (ℕ × ℕ)) → Tokens
values f None ts = nothing ts
values format.Enumerated (Some (r ∷ rs)) ts = (one Open_parenthesis then each range (r ∷ rs) then one Close_parenthesis) ts
values f (Some rs) ts = ⊥

abbrev pub declaration : PlainDecl → Tokens
declaration d = one Declares then name d.name then number max_number d.code then vendor d.vendor
    then word (format_word d.format) then word (rule_word d.rule) then values d.format d.values

-- ---- definitions

abbrev pub diameter_header : Tokens
diameter_header = either (keyword (codes "diameter") then keyword (codes "header")) (keyword (codes "diameter-header")) then one Colon

abbrev pub avp_header : Tokens
avp_header = either (keyword (codes "avp") then keyword (codes "header")) (keyword (codes "avp-header")) then one Colon

abbrev pub comma : Tokens
comma = maybe (one Comma)

-- a flag that is there or not
abbrev pub flag : Bool → List ℕ → Tokens
flag false text = nothing
flag true text = comma then keyword text

abbrev pub application : Option ℕ → Tokens
application None = nothing
application (Some n) = comma then number max_number n

abbrev pub group_vendor : ℕ → Tokens
group_vendor n ts = (nothing ts × (n ≡ 0)) ⊎ (comma then number max_number n) ts

abbrev pub error_proxy : Pxy → Tokens
error_proxy Clear = nothing
error_proxy Set = comma then keyword (codes "pxy")
error_proxy Either = one Open_bracket then comma then keyword (codes "pxy") then one Close_bracket

abbrev pub head : Head → Tokens
head (Group code n) = avp_header then number max_number code then group_vendor n
head (Command code request pxy app) = diameter_header then number max_command_code code then flag request (codes "req") then flag pxy (codes "pxy") then application app
head (Error pxy) = diameter_header then keyword (codes "code") then comma then keyword (codes "err") then error_proxy pxy

abbrev pub count : Option ℕ → Tokens
count None = nothing
count (Some n) = number max_number n

abbrev pub qualifier : Option Qual → Tokens
qualifier None = nothing
qualifier (Some q) = count q.min then one Star then count q.max

-- the name in a rule that is not fixed: `AVP` is the wildcard
abbrev pub slot : Option (List ℕ) → Tokens
slot None = word (codes "AVP")
slot (Some text) = name text

abbrev pub bracketed : RuleKind → Option (List ℕ) → Tokens
bracketed Fixed (Some text) = one Less then name text then one Greater
bracketed Fixed None = λ ts. ⊥
bracketed Required text = one Open_brace then slot text then one Close_brace
bracketed Optional text = one Open_bracket then slot text then one Close_bracket

abbrev pub rule : PlainRule → Tokens
rule r = qualifier r.qual then bracketed r.kind r.name

abbrev pub IsFixed : PlainRule → Type 0
IsFixed r = r.kind ≡ Fixed

-- the fixed rules come first
abbrev pub FixedFirst : List PlainRule → Type 0
FixedFirst rules = (fixed : List PlainRule) × (loose : List PlainRule) × (rules ≡ fixed ++ loose) × AllByRecursion IsFixed fixed × AllByRecursion (λ r. ¬ IsFixed r) loose

abbrev pub definition : PlainDef → Tokens
definition d ts = FixedFirst d.rules
    × (either (one Less then name d.name then one Greater) (name d.name)
    then one Assign then one Less then head d.head then one Greater then each rule d.rules) ts

-- ---- texts

pub data Item : Type 0 where
  Declaration : (decl : PlainDecl) → Item
  Definition : (def : PlainDef) → Item

abbrev pub item : Item → Tokens
item (Declaration d) = declaration d
item (Definition d) = definition d

abbrev pub declared : Item → Option PlainDecl
declared (Declaration d) = Some d
declared (Definition d) = None

abbrev pub group_of_head : Head → PlainDef → Option PlainDef
group_of_head (Group code n) d = Some d
group_of_head (Command code request pxy app) d = None
group_of_head (Error pxy) d = None

abbrev pub command_of_head : Head → PlainDef → Option PlainDef
command_of_head (Group code n) d = None
command_of_head (Command code request pxy app) d = Some d
command_of_head (Error pxy) d = Some d

abbrev pub item_group : Item → Option PlainDef
item_group (Declaration d) = None
item_group (Definition d) = group_of_head d.head d

abbrev pub item_command : Item → Option PlainDef
item_command (Declaration d) = None
item_command (Definition d) = command_of_head d.head d

-- the declarations, the groups and the commands, each in the order of the text
abbrev pub source_of : List Item → PlainSource
source_of items = record { avps = filter_map declared items; groups = filter_map item_group items; commands = filter_map item_command items }

-- the grammar derives the tokens for the source
abbrev pub Derives : List Token → PlainSource → Type 0
Derives ts source = (items : List Item) × each item items ts × (source ≡ source_of items)
