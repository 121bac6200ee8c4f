-- The words that name the inputs of a task, and where these come from.
use Rattle.std.specs.Prelude.{◌≡◌, List, Option, Some, None}
use Rattle.std.specs.Borrow.{Bor}
use Rattle.clap.specs.Walk.{Row, Text, first_of}
use Rattle.dia_cli.specs.Origins.{dictionary_origin, message_origin, messages_origin, table_origin}
use Rattle.dia_cli.specs.declared.origin.Origin.{Origin}
use Rattle.dia_cli.specs.declared.origin.Origin.TheVariants.{Nowhere}
use Rattle.dia_cli.specs.declared.origin.Origins.{Origins}

-- a text for each input that a task has: its word, or the argument that takes it
pub record InputTexts : Type 0 where
  pub first : Option Text
  pub second : Option Text
  pub table : Option Text
  pub message : Option Text
  pub messages : Option Text

-- a dictionary alone
abbrev pub one_text : Text → InputTexts
one_text dictionary = record { first = Some dictionary; second = None; table = None; message = None; messages = None }

-- two dictionaries
abbrev pub pair_texts : Text → Text → InputTexts
pair_texts first second = record { first = Some first; second = Some second; table = None; message = None; messages = None }

-- the origin is that of this word
abbrev pub IsNamed : (Bor Text → Origin) → Option Text → Origin → Type 0
IsNamed origin_of None origin = origin ≡ Nowhere
IsNamed origin_of (Some text) origin = (word : Bor Text) × (word.now ≡ text) × (origin ≡ origin_of word)

abbrev pub AreNamed : InputTexts → Origins → Type 0
AreNamed words origins =
    IsNamed dictionary_origin words.first origins.first × IsNamed dictionary_origin words.second origins.second
    × IsNamed table_origin words.table origins.table × IsNamed message_origin words.message origins.message
    × IsNamed messages_origin words.messages origins.messages

-- the origin is that of the word that was found for this argument
abbrev pub IsFound : (Bor Text → Origin) → Option Text → Origin → List Row → Type 0
IsFound origin_of None origin rows = origin ≡ Nowhere
IsFound origin_of (Some id) origin rows = (word : Bor Text) × (first_of id rows ≡ Some word.now) × (origin ≡ origin_of word)

abbrev pub AreFound : InputTexts → Origins → List Row → Type 0
AreFound ids origins rows =
    IsFound dictionary_origin ids.first origins.first rows × IsFound dictionary_origin ids.second origins.second rows
    × IsFound table_origin ids.table origins.table rows × IsFound message_origin ids.message origins.message rows
    × IsFound messages_origin ids.messages origins.messages rows

-- a dictionary alone
abbrev pub one_origin : Origin → Origins
one_origin first = record { first = first; second = Nowhere; table = Nowhere; message = Nowhere; messages = Nowhere }

-- two dictionaries
abbrev pub pair_origins : Origin → Origin → Origins
pair_origins first second = record { first = first; second = second; table = Nowhere; message = Nowhere; messages = Nowhere }
