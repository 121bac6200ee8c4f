-- The limits of names and of the texts of inputs (our profile). That of a dictionary's text is dia_ccf's `max_text`.
use Rattle.std.specs.Prelude.{ℕ}

-- the bytes of a name
abbrev pub max_name : ℕ
max_name = 128

-- the bytes of a message's text, white space included
abbrev pub max_message_text : ℕ
max_message_text = 67108864

-- the bytes of a table's text
abbrev pub max_table : ℕ
max_table = 33554432
