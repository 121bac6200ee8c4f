-- The words of AVPs, headers and rules.
use Rattle.std.specs.Prelude.{◌≡◌, ℕ, ◌+◌, ◌==◌, if◌then◌else◌, List, [], ◌++◌, Option, Some, None, codes, slice_get}
use Rattle.std.specs.Fmt.{decimal}
use Rattle.std.specs.List.{flat_map}
use Rattle.std.specs.Option.{option_map_or}
use Rattle.std.specs.Prelude.{String, string_bytes}
use Rattle.dia_terms.specs.declared.Pxy.{Pxy}
use Rattle.dia_terms.specs.declared.Pxy.TheVariants as pxy
use Rattle.dia_terms.specs.declared.MRule.{MRule}
use Rattle.dia_terms.specs.declared.RuleKind.{RuleKind}
use Rattle.dia_terms.specs.declared.RuleKind.TheVariants.{Fixed, Required, Optional}
use Rattle.dia_terms.specs.MRules.{rule_word}
use Rattle.dia_wire.specs.declared.Key.{Key}
use Rattle.dia_data.specs.Plain.{PlainFormat, Enumerated, word_of}
use Rattle.dia_data.specs.Ranges.{IsSetOf}
use Rattle.dia_book.specs.declared.definition.Class.{Class}
use Rattle.dia_book.specs.declared.definition.Class.TheVariants as classes
use Rattle.dia_book.specs.declared.definition.DefHead.{DefHead}
use Rattle.dia_book.specs.declared.definition.DefHead.TheVariants.{Group, Command, Error}
use Rattle.dia_book.specs.declared.definition.DRule.{DRule}
use Rattle.dia_book.specs.Dictionary.{Dictionary, DictEntry, PlainDefinition}
use Rattle.dia_valid.specs.Valid.{known}
use Rattle.dia_differences.specs.Counts.{counts_text}
use Rattle.dia_differences.specs.Owners.{rules_of}
use Rattle.dia_differences.specs.declared.lines.AvpField.{AvpField}
use Rattle.dia_differences.specs.declared.lines.AvpField.TheVariants as avps
use Rattle.dia_differences.specs.declared.lines.HeadField.{HeadField}
use Rattle.dia_differences.specs.declared.lines.HeadField.TheVariants as heads
use Rattle.dia_differences.specs.declared.lines.RulePlace.{RulePlace}
use Rattle.dia_differences.specs.Headers.{pxy_of, selector}

-- a text of R is added
abbrev pub AddsText : {Z : Type 0} → String Z → String Z → (List ℕ → Type 0) → Type 0
AddsText old new R = (text : List ℕ) × (string_bytes new ≡ string_bytes old ++ text) × R text

-- a front, and then a text of R
abbrev pub After : List ℕ → (List ℕ → Type 0) → List ℕ → Type 0
After front R text = (rest : List ℕ) × R rest × (text ≡ front ++ rest)

-- ---- formats

abbrev pub range_words : ℕ × ℕ → List ℕ
range_words r = if r.0 == r.1 then codes " " ++ decimal r.0 else codes " " ++ decimal r.0 ++ codes ".." ++ decimal r.1

abbrev pub list_words : List (ℕ × ℕ) → List ℕ
list_words numbers = codes " (" ++ flat_map range_words numbers ++ codes " )"

abbrev pub ranges_of_format : PlainFormat → Option (List (ℕ × ℕ))
ranges_of_format (Enumerated ranges) = ranges
ranges_of_format format = None

-- the numbers of a list, in as few ranges as can be; nothing where every number is one
abbrev pub IsListOf : Option (List (ℕ × ℕ)) → List ℕ → Type 0
IsListOf None text = text ≡ []
IsListOf (Some ranges) text = (numbers : List (ℕ × ℕ)) × IsSetOf numbers (Some ranges) × (text ≡ list_words numbers)

abbrev pub IsFormat : PlainFormat → List ℕ → Type 0
IsFormat format = After (word_of format) (IsListOf (ranges_of_format format))

-- ---- AVPs

abbrev pub vendor_words : ℕ → List ℕ
vendor_words vendor = if vendor == 0 then [] else codes "vendor " ++ decimal vendor ++ codes " "

abbrev pub declared_words : Key → PlainFormat → MRule → List ℕ
declared_words key format rule = decimal key.code ++ codes " " ++ vendor_words key.vendor ++ word_of format ++ codes " " ++ rule_word rule

-- what a declaration says after the name
abbrev pub IsDeclaration : Key → PlainFormat → MRule → List ℕ → Type 0
IsDeclaration key format rule = After (declared_words key format rule) (IsListOf (ranges_of_format format))

abbrev pub IsAvpField : AvpField → DictEntry → List ℕ → Type 0
IsAvpField avps.Name e text = text ≡ e.name
IsAvpField avps.Code e text = text ≡ decimal e.key.code
IsAvpField avps.Vendor e text = text ≡ decimal e.key.vendor
IsAvpField avps.Format e text = IsFormat e.format text
IsAvpField avps.MRule e text = text ≡ rule_word e.rule

-- a field of an AVP, or its declaration
abbrev pub IsAvpWords : Option AvpField → DictEntry → List ℕ → Type 0
IsAvpWords None e = IsDeclaration e.key e.format e.rule
IsAvpWords (Some field) e = IsAvpField field e

-- ---- headers

abbrev pub request_word : Class → List ℕ
request_word classes.Request = codes ", REQ"
request_word classes.Answer = []
request_word classes.Error = []

abbrev pub set_word : Pxy → List ℕ
set_word pxy.Clear = []
set_word pxy.Set = codes ", PXY"
set_word pxy.Either = []

abbrev pub error_word : Pxy → List ℕ
error_word pxy.Clear = []
error_word pxy.Set = codes ", PXY"
error_word pxy.Either = codes " [, PXY]"

abbrev pub application_words : Option ℕ → List ℕ
application_words None = []
application_words (Some app) = codes ", " ++ decimal app

-- the header of a command, as `render` writes it
abbrev pub header_words : DefHead → List ℕ
header_words (Group key) = codes " >"
header_words (Command code class app p) = codes "< Diameter Header: " ++ decimal code ++ request_word class ++ set_word p ++ application_words app ++ codes " >"
header_words (Error p) = codes "< Diameter Header: code, ERR" ++ error_word p ++ codes " >"

abbrev pub number_words : Option ℕ → List ℕ
number_words None = codes "none"
number_words (Some number) = decimal number

abbrev pub class_words : Class → List ℕ
class_words classes.Request = codes "request"
class_words classes.Answer = codes "answer"
class_words classes.Error = codes "error"

abbrev pub pxy_words : Pxy → List ℕ
pxy_words pxy.Clear = codes "clear"
pxy_words pxy.Set = codes "set"
pxy_words pxy.Either = codes "either"

abbrev pub head_field_words : HeadField → PlainDefinition → List ℕ
head_field_words heads.Name x = x.name
head_field_words heads.Code x = number_words (selector x.head).0
head_field_words heads.Class x = class_words (selector x.head).1
head_field_words heads.Application x = number_words (selector x.head).2
head_field_words heads.Proxiable x = pxy_words (pxy_of x.head)

-- a field of a command, or its header
abbrev pub command_words : Option HeadField → PlainDefinition → List ℕ
command_words None x = header_words x.head
command_words (Some field) x = head_field_words field x

-- ---- rules

abbrev pub open_word : RuleKind → List ℕ
open_word Fixed = codes "<"
open_word Required = codes "{"
open_word Optional = codes "["

abbrev pub close_word : RuleKind → List ℕ
close_word Fixed = codes ">"
close_word Required = codes "}"
close_word Optional = codes "]"

-- the name of a rule's AVP; `AVP` for the wildcard
abbrev pub avp_words : Dictionary → Option Key → List ℕ
avp_words d None = codes "AVP"
avp_words d (Some key) = option_map_or (λ e. e.name) (known d key) (codes "AVP")

-- the place of a fixed rule, from 1
abbrev pub place_words : RuleKind → ℕ → List ℕ
place_words Fixed i = codes " at " ++ decimal (i + 1)
place_words Required i = []
place_words Optional i = []

abbrev pub rule_words : Dictionary → DRule → ℕ → List ℕ
rule_words d rule i =
    open_word rule.kind ++ codes " " ++ avp_words d rule.key ++ codes " " ++ close_word rule.kind ++ codes " " ++ counts_text rule ++ place_words rule.kind i

abbrev pub place_rule_words : Dictionary → RulePlace → List ℕ
place_rule_words d place = option_map_or (λ rule. rule_words d rule place.rule) (slice_get (rules_of d place.of) place.rule) []
