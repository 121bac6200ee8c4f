-- What is reported of an input that is refused.
use Rattle.std.specs.Prelude.{ℕ, List, [], ◌∷◌, ◌++◌, codes, string_bytes, ⊤}
use Rattle.std.specs.Fmt.{decimal}
use Rattle.dia_ccf.specs.declared.CcfFault.{CcfFault}
use Rattle.dia_ccf.specs.declared.CcfFault.TheVariants as ccf
use Rattle.dia_dict.specs.Resolution.{Wrong, wrong}
use Rattle.dia_dict.specs.Words.{kind_word}
use Rattle.dia_wire.specs.declared.header.MessageFault.{MessageFault}
use Rattle.dia_wire.specs.declared.header.MessageFault.TheVariants.{Short, Version, Length, Truncated, Trailing}
use Rattle.dia_report.specs.declared.refusing.Refused.{Refused}
use Rattle.dia_report.specs.declared.refusing.Refused.TheVariants.{Bad, NoMemory}
use Rattle.dia_report.specs.declared.bad_input.BadInput.{BadInput}
use Rattle.dia_report.specs.declared.bad_input.BadInput.TheVariants.{Dictionary, Table, Message}
use Rattle.dia_report.specs.declared.bad_input.BadDictionary.{BadDictionary}
use Rattle.dia_report.specs.declared.bad_input.BadDictionary.TheVariants as dictionary
use Rattle.dia_report.specs.declared.bad_input.BadTable.{BadTable}
use Rattle.dia_report.specs.declared.bad_input.BadTable.TheVariants as table
use Rattle.dia_report.specs.declared.bad_input.BadMessage.{BadMessage}
use Rattle.dia_report.specs.declared.bad_input.BadMessage.TheVariants as message

-- ---- dictionaries

abbrev pub fault_at : List ℕ → ℕ → List ℕ
fault_at what n = what ++ codes " at line " ++ decimal n

abbrev pub fault_text : CcfFault → List ℕ
fault_text (ccf.Syntax token n) = fault_at (codes "syntax") n
fault_text (ccf.Number n) = fault_at (codes "number") n
fault_text (ccf.Limit n) = fault_at (codes "limit") n
fault_text ccf.NoMemory = []

-- a name, or a dash for none
abbrev pub or_dash : List ℕ → List ℕ
or_dash [] = codes "-"
or_dash (c ∷ cs) = c ∷ cs

abbrev pub wrong_text : Wrong → List ℕ
wrong_text w = kind_word w.kind ++ codes " " ++ or_dash w.name ++ codes " " ++ or_dash w.slot

abbrev pub bad_dictionary_text : BadDictionary → List ℕ
bad_dictionary_text dictionary.TooLong = codes "too long"
bad_dictionary_text (dictionary.NotText place) = codes "not text"
bad_dictionary_text (dictionary.NoSource misfit) = fault_text misfit.fault
bad_dictionary_text (dictionary.Wrong found) = wrong_text (wrong found.kind (string_bytes found.name) (string_bytes found.slot))

-- what is reported of a dictionary by its number
abbrev pub dictionary_line : ℕ → List ℕ → List ℕ
dictionary_line number why = codes "dictionary " ++ decimal number ++ codes ": " ++ why

-- ---- tables and messages

abbrev pub bad_table_text : BadTable → List ℕ
bad_table_text table.TooLong = codes "too long"
bad_table_text (table.NotText place) = codes "not text"
bad_table_text (table.Syntax n) = fault_at (codes "syntax") n
bad_table_text (table.Limit n) = fault_at (codes "limit") n

-- what is reported of a table
abbrev pub table_line : List ℕ → List ℕ
table_line why = codes "table: " ++ why

abbrev pub message_fault_word : MessageFault → List ℕ
message_fault_word Short = codes "short"
message_fault_word Version = codes "version"
message_fault_word Length = codes "length"
message_fault_word Truncated = codes "truncated"
message_fault_word Trailing = codes "trailing"

abbrev pub bad_message_word : BadMessage → List ℕ
bad_message_word message.TooLong = codes "too long"
bad_message_word message.NotHexadecimal = codes "not hexadecimal"
bad_message_word (message.NoMessage fault) = message_fault_word fault

-- ---- all of them

-- the line, without its line feed
abbrev pub bad_input_text : BadInput → List ℕ
bad_input_text (Dictionary number why) = dictionary_line number (bad_dictionary_text why)
bad_input_text (Table why) = table_line (bad_table_text why)
bad_input_text (Message why) = codes "message: " ++ bad_message_word why

-- what is reported holds, unless memory was refused
abbrev pub RecordsOf : (List ℕ → Type 0) → Refused → Type 0
RecordsOf P (Bad bad) = P (bad_input_text bad)
RecordsOf P NoMemory = ⊤
