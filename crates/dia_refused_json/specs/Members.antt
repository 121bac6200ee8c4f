-- Members that the objects of several answers have (RFC 8259), in their order. `compact_text` is the text of a value without blanks,
-- and `quoted` escapes its strings.
use Rattle.std.specs.Prelude.{ℕ, List, codes}
use Rattle.serde_json.specs.Data.{Members, member, no_members, number, object, string, unsigned}
use Rattle.serde_json.specs.Written.{compact_text}
use Rattle.dia_wire.specs.declared.Key.{Key}
use Rattle.dia_run.specs.Texts.{line}

-- the object of these members, on a line
abbrev pub json_line : Members → List ℕ
json_line members = line (compact_text (object members))

-- an AVP by its code and vendor, which is 0 for none
abbrev pub key_members : Key → Members
key_members key = member (codes "code") (number (unsigned key.code)) (member (codes "vendor") (number (unsigned key.vendor)) no_members)

abbrev pub named_members : List ℕ → Key → Members
named_members name key = member (codes "name") (string name) (key_members key)

abbrev pub verdict_members : List ℕ → Members → Members
verdict_members word rest = member (codes "verdict") (string word) rest

-- an input that is refused, and the kind of what is wrong
abbrev pub refused_members : (input kind : List ℕ) → Members → Members
refused_members input kind rest = member (codes "error") (string input) (member (codes "kind") (string kind) rest)
