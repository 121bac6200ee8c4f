-- Where the texts of the inputs come from.
use Rattle.std.specs.Prelude.{ℕ, nat_lt, Bool, true, false, if◌then◌else◌, List, [], ◌∷◌, count_by, codes}
use Rattle.std.specs.Borrow.{Bor}
use Rattle.std.specs.Str.{bytes_eq}
use Rattle.clap.specs.Lexer.{usize_max}
use Rattle.dia_ccf.specs.Limits.{max_text}
use Rattle.dia_terms.specs.Limits.{max_table}
use Rattle.dia_terms.specs.Limits.{max_message_text}
use Rattle.dia_cli.specs.declared.origin.Origin.{Origin}
use Rattle.dia_cli.specs.declared.origin.Origin.TheVariants.{Base, Empty, File, Nowhere, StandardInput}
use Rattle.dia_cli.specs.declared.origin.Origins.{Origins}

-- `-` is standard input, and any other word is the name of a file
abbrev pub origin_within : Bor (List ℕ) → ℕ → Origin
origin_within word limit = if bytes_eq word.now (codes "-") then StandardInput limit else File word limit

-- `@base` names the base dictionary, and `@none` the dictionary without lines
abbrev pub dictionary_origin : Bor (List ℕ) → Origin
dictionary_origin word = if bytes_eq word.now (codes "@base") then Base
    else (if bytes_eq word.now (codes "@none") then Empty else origin_within word max_text)

-- as a table or a list, `@none` has no lines
abbrev pub table_origin : Bor (List ℕ) → Origin
table_origin word = if bytes_eq word.now (codes "@none") then Nowhere else origin_within word max_table

abbrev pub message_origin : Bor (List ℕ) → Origin
message_origin word = origin_within word max_message_text

-- messages that are read a piece at a time have no limit
abbrev pub messages_origin : Bor (List ℕ) → Origin
messages_origin word = origin_within word usize_max

abbrev pub is_standard_input : Origin → Bool
is_standard_input (StandardInput limit) = true
is_standard_input origin = false

-- two of the inputs are standard input, which can be read once
abbrev pub reads_twice : Origins → Bool
reads_twice origins = nat_lt 1 (count_by is_standard_input
    (origins.first ∷ origins.second ∷ origins.table ∷ origins.message ∷ origins.messages ∷ []))
