-- What a command line gives to the options and the inputs of a command.
use Rattle.std.specs.Prelude.{◌&&◌, ◌||◌, Bool, true, false, if◌then◌else◌, not, List, [], ◌∷◌, ◌++◌, Option, Some, None, codes, is_some, length, nat_le}
use Rattle.std.specs.List.{list_all}
use Rattle.std.specs.Option.{option_map_or}
use Rattle.std.specs.Str.{bytes_eq}
use Rattle.clap.specs.Lexer.{strip_byte, usize_max}
use Rattle.clap.specs.ValueTests.{is_unsigned_in}
use Rattle.clap.specs.Walk.{Text}
use Rattle.dia_terms.specs.declared.Sends.{Sends}
use Rattle.dia_terms.specs.declared.Sends.TheVariants.{Any, Known, Filled, Listed}
use Rattle.dia_terms.specs.declared.Unknown.{Unknown}
use Rattle.dia_terms.specs.declared.Unknown.TheVariants.{Kept, Refused}

-- an option or an input, by its name, with what it is given
pub data Slot : Type 0 where
  -- `--name`, or not
  flag : Text → Bool → Slot
  -- `--name WORD`, one of the words that this option knows
  choice : Text → Option Text → Slot
  -- `--name WORD`, any word
  text : Text → Option Text → Slot
  -- `--name N`, a number of 32 bits
  number : Text → Option Text → Slot
  -- an input of one word, and one of all words that are left
  word : Text → Text → Slot
  words : Text → List Text → Slot

abbrev pub slot_id : Slot → Text
slot_id (flag id given) = id
slot_id (choice id given) = id
slot_id (text id given) = id
slot_id (number id given) = id
slot_id (word id given) = id
slot_id (words id given) = id

-- the name of an option as a word, after two hyphens (45)
abbrev pub long_word : Text → Text
long_word id = 45 ∷ 45 ∷ id

abbrev pub flag_words : Text → Bool → List Text
flag_words id false = []
flag_words id true = long_word id ∷ []

abbrev pub option_words : Text → Option Text → List Text
option_words id None = []
option_words id (Some value) = long_word id ∷ value ∷ []

abbrev pub slot_words : Slot → List Text
slot_words (flag id given) = flag_words id given
slot_words (choice id given) = option_words id given
slot_words (text id given) = option_words id given
slot_words (number id given) = option_words id given
slot_words (word id given) = given ∷ []
slot_words (words id given) = given

abbrev pub words_of_slots : List Slot → List Text
words_of_slots [] = []
words_of_slots (slot ∷ rest) = slot_words slot ++ words_of_slots rest

-- `-`, or a word that doesn't begin with `-`, which is 45
abbrev pub is_plain : Text → Bool
is_plain w = bytes_eq w (codes "-") || not (is_some (strip_byte 45 w))

abbrev pub is_plain_slot : Slot → Bool
is_plain_slot (flag id given) = true
is_plain_slot (choice id given) = true
is_plain_slot (text id given) = option_map_or is_plain given true
is_plain_slot (number id given) = option_map_or (λ n. is_plain n && is_unsigned_in 0 4294967295 n) given true
is_plain_slot (word id given) = is_plain given
is_plain_slot (words id given) = list_all is_plain given && nat_le (length given) usize_max

-- whether the option of this name is given, which has no value. Slots that don't have it aren't given it
abbrev pub is_given_slot : Text → List Slot → Bool
is_given_slot id [] = false
is_given_slot id (flag name given ∷ rest) = if bytes_eq name id then given else is_given_slot id rest
is_given_slot id (slot ∷ rest) = is_given_slot id rest

-- ---- slots of several commands

-- a word of an option is left out where it says what holds without it
abbrev pub policy_given : Unknown → Option Text
policy_given Kept = None
policy_given Refused = Some (codes "refused")

abbrev pub sender_given : Sends → Option Text
sender_given Any = None
sender_given Known = Some (codes "known")
sender_given Filled = Some (codes "filled")
sender_given Listed = Some (codes "listed")

abbrev pub unknown_slot : Unknown → Slot
unknown_slot unknown = choice (codes "unknown") (policy_given unknown)

abbrev pub pair_slots : Text → Text → Slot → List Slot
pair_slots first second third = word (codes "A") first ∷ word (codes "B") second ∷ third ∷ []
