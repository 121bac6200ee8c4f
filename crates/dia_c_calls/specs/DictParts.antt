-- The commands and the AVPs of a dictionary, as records of C.
use Rattle.std.specs.Prelude.{◌≡◌, ℕ, ◌+◌, List, length, min, Option, None, Some, slice_get, unwrap_or}
use Rattle.dia_terms.specs.declared.MRule.{MRule}
use Rattle.dia_terms.specs.declared.MRule.TheVariants as rule
use Rattle.dia_terms.specs.declared.Pxy.{Pxy}
use Rattle.dia_terms.specs.declared.Pxy.TheVariants as pxy
use Rattle.dia_data.specs.Plain.{name_of}
use Rattle.dia_book.specs.Dictionary.{Dictionary, DictEntry, PlainDefinition, groups}
use Rattle.dia_book.specs.declared.definition.Class.{Class}
use Rattle.dia_book.specs.declared.definition.Class.TheVariants as class
use Rattle.dia_book.specs.declared.definition.DefHead.{DefHead}
use Rattle.dia_book.specs.declared.definition.DefHead.TheVariants.{Group, Command, Error}
use Rattle.dia_c_calls.specs.Avps.{format_number, in_array}
use Rattle.dia_c_calls.specs.declared.dict_records.DictAvp.{DictAvp}
use Rattle.dia_c_calls.specs.declared.dict_records.DictCommand.{DictCommand}

-- the number of a class of messages (RFC 6733 section 3)
abbrev pub class_number : Class → ℕ
class_number class.Request = 0
class_number class.Answer = 1
class_number class.Error = 2

-- that of what the P flag may be (RFC 6733 section 3)
abbrev pub proxy_number : Pxy → ℕ
proxy_number pxy.Clear = 0
proxy_number pxy.Set = 1
proxy_number pxy.Either = 2

-- that of what the M flag may be (RFC 6733 section 4.1)
abbrev pub mandatory_number : MRule → ℕ
mandatory_number rule.Any = 0
mandatory_number rule.Must = 1
mandatory_number rule.MustNot = 2

-- 1, or 0 where there is none
abbrev pub has_one : Option ℕ → ℕ
has_one None = 0
has_one (Some n) = 1

-- the record of a command with this number, name and header (RFC 6733 section 3.2); one of the class Error has no code
abbrev pub IsCommandRecord : ℕ → List ℕ → DefHead → DictCommand → Type 0
IsCommandRecord n name (Command code class app p) r = r ≡ record {
  name_count = min (length name) 128;
  command = n;
  code = code;
  kind = class_number class;
  proxy = proxy_number p;
  has_app = has_one app;
  app = unwrap_or app 0;
  name = in_array name;
}
IsCommandRecord n name (Error p) r = r ≡ record {
  name_count = min (length name) 128;
  command = n;
  code = 0;
  kind = 2;
  proxy = proxy_number p;
  has_app = 0;
  app = 0;
  name = in_array name;
}
IsCommandRecord n name (Group key) r = ⊥

-- the dictionary has this command at an index; its number counts the groups, too, as in verdicts
abbrev pub IsCommandAt : Dictionary → ℕ → DictCommand → Type 0
IsCommandAt d i r = (c : PlainDefinition) × (slice_get d.commands i ≡ Some c) × IsCommandRecord (length (groups d) + i) c.name c.head r

-- the record of an AVP of a dictionary
abbrev pub entry_record : DictEntry → DictAvp
entry_record e = record {
  name_count = min (length e.name) 128;
  code = e.key.code;
  vendor = e.key.vendor;
  format = format_number (name_of e.format);
  mandatory = mandatory_number e.rule;
  name = in_array e.name;
}

-- the dictionary has this AVP at an index
abbrev pub IsAvpAt : Dictionary → ℕ → DictAvp → Type 0
IsAvpAt d i r = (e : DictEntry) × (slice_get d.entries i ≡ Some e) × (r ≡ entry_record e)
