-- What `lint` is asked for.
use Rattle.std.specs.Prelude.{ℕ, Bool, if◌then◌else◌, List, Option, None, Some, string_bytes, codes}
use Rattle.dia_terms.specs.Names.{same_bytes}
use Rattle.dia_cli.specs.declared.origin.Origin.{Origin}
use Rattle.dia_cli.specs.declared.task.Linting.{Linting}
use Rattle.dia_lint_text.specs.Asking.{Question}
use Rattle.dia_driver.specs.Tasks.{word_of}

-- names with commas: none for the word of no table
abbrev pub list_of : List ℕ → Option (List ℕ)
list_of word = if same_bytes word (codes "@none") then None else Some word

-- the options, and the word for the dictionary
abbrev pub question_of : Linting → Bool → Origin → Question
question_of asked json first = record {
  unknown = asked.unknown;
  only = list_of (string_bytes asked.only);
  except = list_of (string_bytes asked.except);
  json = json;
  file = word_of first;
}
