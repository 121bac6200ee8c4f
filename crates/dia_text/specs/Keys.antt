-- Which AVP or command the first word of a line names, and what the dictionary says of it.
use Rattle.std.specs.Prelude.{ℕ, ◌+◌, ◌^◌, ◌==◌, nat_lt, Bool, not, if◌then◌else◌, List, length, take, drop, Option, Some, None, is_some, unwrap_or, slice_get, option_and_then, Result}
use Rattle.std.specs.Option.{option_map, option_or}
use Rattle.std.specs.List.{prefix_len, find}
use Rattle.dia_terms.specs.Names.{same_bytes}
use Rattle.dia_terms.specs.declared.MRule.{MRule}
use Rattle.dia_terms.specs.declared.MRule.TheVariants.{Must, MustNot, Any}
use Rattle.dia_terms.specs.declared.Pxy.{Pxy}
use Rattle.dia_terms.specs.declared.Pxy.TheVariants.{Clear, Set, Either}
use Rattle.dia_wire.specs.declared.Key.{Key}
use Rattle.dia_data.specs.Plain.{PlainFormat}
use Rattle.dia_book.specs.declared.Class.{Class}
use Rattle.dia_book.specs.declared.Class.TheVariants as classes
use Rattle.dia_book.specs.declared.DefHead.{DefHead}
use Rattle.dia_book.specs.declared.DefHead.TheVariants.{Group, Command, Error}
use Rattle.dia_book.specs.Dictionary.{Dictionary, DictEntry, PlainDefinition, entry_of}
use Rattle.dia_text.specs.declared.fault.Kind.{Kind}
use Rattle.dia_text.specs.declared.fault.Kind.TheVariants.{Name}
use Rattle.dia_text.specs.declared.keys.AvpCode.{AvpCode}
use Rattle.dia_text.specs.declared.commands.Start.{Start}
use Rattle.dia_text.specs.Numbers.{number_below}
use Rattle.dia_text.specs.Reading.{some_or}

-- ---- AVPs

abbrev pub is_other : ℕ → ℕ → Bool
is_other mark c = not (c == mark)

abbrev pub with_vendor : ℕ → ℕ → AvpCode
with_vendor code vendor = record { code = code; vendor = Some vendor }

-- CODE, a mark, and VENDOR
abbrev pub parted_code : ℕ → List ℕ → Option AvpCode
parted_code mark word =
    let at = prefix_len (is_other mark) word in
    if at == length word then None
    else option_and_then (λ code. option_map (with_vendor code) (number_below (2 ^ 32) (drop (at + 1) word))) (number_below (2 ^ 32) (take at word))

-- CODE/VENDOR, or CODE:VENDOR
abbrev pub vendor_code : List ℕ → Option AvpCode
vendor_code word = option_or (parted_code 47 word) (parted_code 58 word)

-- CODE, or one with a vendor
abbrev pub numbered : List ℕ → Option AvpCode
numbered word = option_or (option_map (λ code. record { code = code; vendor = None }) (number_below (2 ^ 32) word)) (vendor_code word)

abbrev pub code_of_key : Key → AvpCode
code_of_key key = record { code = key.code; vendor = if key.vendor == 0 then None else Some key.vendor }

-- a code without Vendor-ID is that of an AVP of vendor 0
abbrev pub key_of_code : AvpCode → Key
key_of_code c = record { code = c.code; vendor = unwrap_or c.vendor 0 }

abbrev pub entry_named : Dictionary → List ℕ → Option DictEntry
entry_named d word = find (λ e. same_bytes e.name word) d.entries

-- numbers, or else a name of the dictionary
abbrev pub code_of : Dictionary → List ℕ → Result AvpCode Kind
code_of d word = some_or (option_or (numbered word) (option_map (λ e. code_of_key e.key) (entry_named d word))) Name

-- what the dictionary knows of an AVP
abbrev pub entry_at : Dictionary → AvpCode → Option DictEntry
entry_at d c = option_and_then (slice_get d.entries) (entry_of d (key_of_code c))

abbrev pub format_at : Dictionary → AvpCode → Option PlainFormat
format_at d c = option_map (λ e. e.format) (entry_at d c)

-- the M flag, unless the dictionary's rule is that it has to be clear, or the dictionary doesn't know the AVP
abbrev pub m_flag : Option MRule → ℕ
m_flag (Some Must) = 64
m_flag (Some Any) = 64
m_flag (Some MustNot) = 0
m_flag None = 0

-- V where there is a Vendor-ID, and M
abbrev pub default_flags : Dictionary → AvpCode → ℕ
default_flags d c = (if is_some c.vendor then 128 else 0) + m_flag (option_map (λ e. e.rule) (entry_at d c))

-- ---- commands

abbrev pub class_flags : Class → ℕ
class_flags classes.Request = 128
class_flags classes.Answer = 0
class_flags classes.Error = 32

abbrev pub p_flag : Pxy → ℕ
p_flag Clear = 0
p_flag Set = 64
p_flag Either = 64

-- the code of a command, and its flags and application where the text has no others
abbrev pub start_of : DefHead → Option Start
start_of (Group key) = None
start_of (Error p) = None
start_of (Command code class app p) =
    if nat_lt code (2 ^ 24) then Some (record { code = code; flags = Some (class_flags class + p_flag p); app = Some (unwrap_or app 0) }) else None

abbrev pub command_named : Dictionary → List ℕ → Option PlainDefinition
command_named d word = find (λ c. same_bytes c.name word) d.commands

abbrev pub start_named : Dictionary → List ℕ → Result Start Kind
start_named d word = some_or (option_and_then (λ c. start_of c.head) (command_named d word)) Name
