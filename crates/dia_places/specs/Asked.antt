-- The AVPs that words ask for.
use Rattle.std.specs.Prelude.{◌≡◌, ℕ, ◌<◌, List, Option, Some, None, slice_get, IsSome, map}
use Rattle.std.specs.Option.{option_map, option_or}
use Rattle.dia_wire.specs.declared.Key.{Key}
use Rattle.dia_book.specs.Dictionary.{Dictionary, DictEntry}
use Rattle.dia_text.specs.Keys.{entry_named, key_of_code, numbered}

-- the key of the AVP of this name, or else of the code and vendor that the word writes
abbrev pub key_of : Dictionary → List ℕ → Option Key
key_of d word = option_or (option_map (λ (e : DictEntry). e.key) (entry_named d word)) (option_map key_of_code (numbered word))

-- the keys of the words, in order
abbrev pub AreKeysOf : Dictionary → List (List ℕ) → List Key → Type 0
AreKeysOf d words keys = map (key_of d) words ≡ map (λ (key : Key). Some key) keys

-- the first word that names no AVP
pub record IsFirstUnknown (d : Dictionary) (words : List (List ℕ)) (word : List ℕ) : Type 0 where
  pub place : ℕ
  pub is_word : slice_get words place ≡ Some word
  pub unknown : key_of d word ≡ None
  pub before : (i : ℕ) (other : List ℕ) → i < place → slice_get words i ≡ Some other → IsSome (key_of d other)
