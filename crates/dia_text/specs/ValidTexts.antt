-- Texts that follow a dictionary: their lines name its AVPs, with the flags, the places and the data that it gives them.
use Rattle.std.specs.Prelude.{◌≡◌, ℕ, ◌<◌, ◌^◌, List, [], ◌∷◌, ◌++◌, Some, None, unwrap_or, IfSome, slice_get, Result, Ok, Err, ⊤}
use Rattle.std.specs.List.{AllByRecursion}
use Rattle.dia_wire.specs.declared.Header.{Header}
use Rattle.dia_wire.specs.declared.Key.{Key}
use Rattle.dia_wire.specs.Wire.{HasR, HasE, HasT}
use Rattle.dia_data.specs.Leaf.{IsLeaf}
use Rattle.dia_book.specs.declared.DefHead.{DefHead}
use Rattle.dia_book.specs.declared.DefHead.TheVariants.{Group, Command, Error}
use Rattle.dia_book.specs.Dictionary.{Dictionary, DictEntry, PlainDefinition, definitions, selected}
use Rattle.dia_terms.specs.declared.Unknown.{Unknown}
use Rattle.dia_terms.specs.declared.Levels.TheVariants as levels
use Rattle.dia_valid.specs.Valid.{Placed, AllowsP, class_of, IsValid}
use Rattle.dia_text.specs.declared.fault.Fault.{Fault}
use Rattle.dia_text.specs.declared.fault.Kind.TheVariants.{Limit}
use Rattle.dia_text.specs.declared.line.Head.{Head}
use Rattle.dia_text.specs.declared.commands.Start.{Start}
use Rattle.dia_text.specs.Keys.{entry_at, default_flags, command_named}
use Rattle.dia_text.specs.PlainLines.{Blank, Leaf, Open, Close}
use Rattle.dia_text.specs.Lines.{line_of, header_of}
use Rattle.dia_text.specs.Made.{lines}

-- ---- dictionaries

-- a key whose numbers fit their fields (RFC 6733 section 4.1)
abbrev pub KeyFits : Key → Type 0
KeyFits key = (key.code < 2 ^ 32) × (key.vendor < 2 ^ 32)

-- an Application-ID that fits its field (RFC 6733 section 3)
abbrev pub AppFits : DefHead → Type 0
AppFits (Group key) = ⊤
AppFits (Command code class app p) = IfSome app (λ a. a < 2 ^ 32)
AppFits (Error p) = ⊤

-- the dictionary's numbers fit their fields, as those of every book do
abbrev pub NumbersFit : Dictionary → Type 0
NumbersFit d = AllByRecursion (λ e. KeyFits e.key) d.entries × AllByRecursion (λ c. AppFits c.head) d.commands

-- ---- AVPs

-- an AVP of the dictionary, with the flags that it gives and no length of the line's own
pub record IsOwn (d : Dictionary) (head : Head) (e : DictEntry) : Type 0 where
  pub known : entry_at d head.code ≡ Some e
  pub flags : head.flags ≡ default_flags d head.code
  pub length : head.said_length ≡ None

abbrev pub key_at : Head → Key
key_at head = record { code = head.code.code; vendor = unwrap_or head.code.vendor 0 }

-- the lines of a level whose AVPs have these keys. Data is of its format, and the members of a group are as its definition
-- says (RFC 6733 section 4.4)
pub data IsValidLevel (d : Dictionary) : List (List ℕ) → List Key → Type 0 where
  end : {ls : List (List ℕ)} {keys : List Key} → ls ≡ [] → keys ≡ [] → IsValidLevel d ls keys
  blank : {ls : List (List ℕ)} {keys : List Key} (l : List ℕ) (more : List (List ℕ)) → line_of d l ≡ Ok Blank → IsValidLevel d more keys
      → ls ≡ l ∷ more → IsValidLevel d ls keys
  leaf : {ls : List (List ℕ)} {keys : List Key} (l : List ℕ) (more : List (List ℕ)) (head : Head) (e : DictEntry) (bytes : List ℕ)
      (others : List Key) → line_of d l ≡ Ok (Leaf head bytes None) → IsOwn d head e → e.group ≡ None → IsLeaf e.format bytes
      → IsValidLevel d more others → ls ≡ l ∷ more → keys ≡ key_at head ∷ others → IsValidLevel d ls keys
  group : {ls : List (List ℕ)} {keys : List Key} (l close : List ℕ) (inner more : List (List ℕ)) (head : Head) (e : DictEntry)
      (definition : PlainDefinition) (members others : List Key) → line_of d l ≡ Ok (Open head) → IsOwn d head e → e.group ≡ Some definition
      → IsValidLevel d inner members → Placed definition.rules members → line_of d close ≡ Ok (Close None)
      → IsValidLevel d more others → ls ≡ l ∷ (inner ++ (close ∷ more)) → keys ≡ key_at head ∷ others → IsValidLevel d ls keys

-- ---- messages

-- the header selects this command of the dictionary, and has flags that it may have
pub record IsHeaderOf (d : Dictionary) (h : Header) (command : PlainDefinition) : Type 0 where
  pub number : ℕ
  pub select : selected d h.code (class_of h.flags) h.app ≡ Some number
  pub is_command : slice_get (definitions d) number ≡ Some command
  pub proxiable : AllowsP command.head h.flags
  pub no_error_request : HasR h.flags → ¬ HasE h.flags
  pub no_repeated_answer : HasT h.flags → HasR h.flags

-- the command of a name, and that its messages may have the flags which a header by this name has
pub record HasOwnFlags (d : Dictionary) (name : List ℕ) (start : Start) : Type 0 where
  pub command : PlainDefinition
  pub flags : ℕ
  pub named : command_named d name ≡ Some command
  pub said : start.flags ≡ Some flags
  pub proxiable : AllowsP command.head flags
  pub no_error_request : HasR flags → ¬ HasE flags
  pub no_repeated_answer : HasT flags → HasR flags

-- lines without words, a header, and the lines of a level as its command has them
pub record IsValidText (d : Dictionary) (text : List ℕ) : Type 0 where
  pub before : List (List ℕ)
  pub first : List ℕ
  pub body : List (List ℕ)
  pub header : Header
  pub command : PlainDefinition
  pub keys : List Key
  pub parts : lines text ≡ before ++ (first ∷ body)
  pub blanks : AllByRecursion (λ l. header_of d l ≡ Ok None) before
  pub is_first : header_of d first ≡ Ok (Some header)
  pub is_header : IsHeaderOf d header command
  pub level : IsValidLevel d body keys
  pub placed : Placed command.rules keys

-- a valid message, with any number of levels; or an AVP or the whole is longer than its Length field can say
abbrev pub IsValidOrLong : Dictionary → Unknown → Result (List ℕ) Fault → Type 0
IsValidOrLong d u (Ok bytes) = IsValid d u levels.Any bytes
IsValidOrLong d u (Err fault) = fault.kind ≡ Limit
