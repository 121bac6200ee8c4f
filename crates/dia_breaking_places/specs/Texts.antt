-- The texts by which the parts of a dictionary are looked up: names, numbers of AVPs, and the heads of commands.
use Rattle.std.specs.Prelude.{ℕ, Bool, true, false, List, [], ◌++◌, codes, string_bytes, Option, Some, None}
use Rattle.std.specs.Fmt.{decimal}
use Rattle.dia_ccf.specs.declared.source.Decl.{Decl}
use Rattle.dia_ccf.specs.declared.source.Def.{Def}
use Rattle.dia_ccf.specs.declared.source.Head.{Head}
use Rattle.dia_ccf.specs.declared.source.Head.TheVariants as heads
use Rattle.dia_breaking_places.specs.declared.texts.By.{By}
use Rattle.dia_breaking_places.specs.declared.texts.By.TheVariants.{Name, Number, Code}

-- the code and the vendor of an AVP
abbrev pub number_text : (code vendor : ℕ) → List ℕ
number_text code vendor = decimal code ++ (codes ":" ++ decimal vendor)

abbrev pub class_word : Bool → List ℕ
class_word true = codes " REQ"
class_word false = codes " ANS"

-- the code and the class of a command
abbrev pub code_text : (code : ℕ) → (request : Bool) → List ℕ
code_text code request = decimal code ++ class_word request

abbrev pub app_text : Option ℕ → List ℕ
app_text (Some app) = codes " " ++ decimal app
app_text None = []

-- and its application, if it has one
abbrev pub command_text : (code : ℕ) → (request : Bool) → Option ℕ → List ℕ
command_text code request app = code_text code request ++ app_text app

abbrev pub head_text : Head → List ℕ
head_text (heads.Group code vendor) = number_text code vendor
head_text (heads.Command code request pxy app) = command_text code request app
head_text (heads.Error pxy) = codes "ERR"

abbrev pub head_code : Head → List ℕ
head_code (heads.Group code vendor) = number_text code vendor
head_code (heads.Command code request pxy app) = code_text code request
head_code (heads.Error pxy) = codes "ERR"

abbrev pub def_text : By → Def → List ℕ
def_text Name d = string_bytes d.name
def_text Number d = head_text d.head
def_text Code d = head_code d.head

abbrev pub decl_text : By → Decl → List ℕ
decl_text Name d = string_bytes d.name
decl_text Number d = number_text d.code d.vendor
decl_text Code d = number_text d.code d.vendor
