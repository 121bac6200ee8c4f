-- The canonical text of a source.
use Rattle.std.specs.Prelude.{ℕ, Bool, true, false, ◌==◌, if◌then◌else◌, List, [], ◌∷◌, ◌++◌, Option, Some, None, codes}
use Rattle.std.specs.List.{flat_map}
use Rattle.std.specs.Fmt.{decimal}
use Rattle.dia_terms.specs.declared.Pxy.{Pxy}
use Rattle.dia_terms.specs.declared.Pxy.TheVariants.{Clear, Set, Either}
use Rattle.dia_ccf.specs.declared.source.Head.{Head}
use Rattle.dia_ccf.specs.declared.source.Head.TheVariants.{Group, Command, Error}
use Rattle.dia_terms.specs.declared.RuleKind.{RuleKind}
use Rattle.dia_terms.specs.declared.RuleKind.TheVariants.{Fixed, Required, Optional}
use Rattle.dia_ccf.specs.declared.source.Qual.{Qual}
use Rattle.dia_ccf.specs.Plain.{PlainDecl, PlainRule, PlainDef, PlainSource}
use Rattle.dia_terms.specs.Formats.{format_word}
use Rattle.dia_ccf.specs.Grammar.{rule_word}

abbrev pub line_feed : List ℕ
line_feed = 10 ∷ []

abbrev pub range_text : ℕ × ℕ → List ℕ
range_text r = if r.0 == r.1 then decimal r.0 else decimal r.0 ++ codes ".." ++ decimal r.1

abbrev pub values_text : Option (List (ℕ × ℕ)) → List ℕ
values_text None = []
values_text (Some rs) = codes " ( " ++ flat_map (λ r. range_text r ++ codes " ") rs ++ codes ")"

abbrev pub vendor_text : ℕ → List ℕ
vendor_text vendor = if vendor == 0 then [] else codes " vendor " ++ decimal vendor

abbrev pub declaration_line : PlainDecl → List ℕ
declaration_line d = codes "%avp " ++ d.name ++ codes " " ++ decimal d.code ++ vendor_text d.vendor ++ codes " "
    ++ format_word d.format ++ codes " " ++ rule_word d.rule ++ values_text d.values ++ line_feed

abbrev pub flag_text : Bool → List ℕ → List ℕ
flag_text true text = text
flag_text false text = []

abbrev pub application_text : Option ℕ → List ℕ
application_text None = []
application_text (Some app) = codes ", " ++ decimal app

abbrev pub error_proxy_text : Pxy → List ℕ
error_proxy_text Clear = []
error_proxy_text Set = codes ", PXY"
error_proxy_text Either = codes " [, PXY]"

abbrev pub head_text : Head → List ℕ
head_text (Group code vendor) = codes "AVP Header: " ++ decimal code ++ (if vendor == 0 then [] else codes " " ++ decimal vendor)
head_text (Command code request pxy app) = codes "Diameter Header: " ++ decimal code ++ flag_text request (codes ", REQ") ++ flag_text pxy (codes ", PXY") ++ application_text app
head_text (Error pxy) = codes "Diameter Header: code, ERR" ++ error_proxy_text pxy

abbrev pub count_text : Option ℕ → List ℕ
count_text None = []
count_text (Some n) = decimal n

abbrev pub qualifier_text : Option Qual → List ℕ
qualifier_text None = []
qualifier_text (Some q) = count_text q.min ++ codes "*" ++ count_text q.max ++ codes " "

abbrev pub slot_text : Option (List ℕ) → List ℕ
slot_text None = codes "AVP"
slot_text (Some name) = name

abbrev pub bracketed_text : RuleKind → List ℕ → List ℕ
bracketed_text Fixed name = codes "< " ++ name ++ codes " >"
bracketed_text Required name = codes "{ " ++ name ++ codes " }"
bracketed_text Optional name = codes "[ " ++ name ++ codes " ]"

abbrev pub rule_line : PlainRule → List ℕ
rule_line r = codes "  " ++ qualifier_text r.qual ++ bracketed_text r.kind (slot_text r.name) ++ line_feed

abbrev pub definition_lines : PlainDef → List ℕ
definition_lines d = codes "<" ++ d.name ++ codes "> ::= < " ++ head_text d.head ++ codes " >" ++ line_feed ++ flat_map rule_line d.rules

abbrev pub canonical : PlainSource → List ℕ
canonical s = flat_map declaration_line s.avps ++ flat_map definition_lines s.groups ++ flat_map definition_lines s.commands
