-- What is found of values that are given, or not.
use Rattle.std.proofs.Common.{◌≡◌, ◌∙◌, Bool, true, false, List, [], ◌∷◌, Option, Some, None, refl, sym, ap, codes}
use Rattle.std.specs.Prelude.{option_and_then, option_map, slice_get, unwrap_or}
use Rattle.clap.specs.Simple.{Shape}
use Rattle.clap.specs.Walk.{Row, Text, all_of, first_of}
use Rattle.clap.specs.declared.parser.matches.ValueSource.TheVariants.{CommandLine, DefaultValue}
use Rattle.dia_terms.specs.declared.Sends.{Sends}
use Rattle.dia_terms.specs.declared.Sends.TheVariants.{Any, Known, Filled, Listed}
use Rattle.dia_terms.specs.declared.Unknown.{Unknown}
use Rattle.dia_terms.specs.declared.Unknown.TheVariants.{Kept, Refused}
use Rattle.dia_cli.specs.Slots.{Slot, policy_given, sender_given}
use Rattle.dia_cli.specs.Words.{flag_word, is_given, policy_word, sends_word}
use Rattle.dia_cli.proofs.Forms.Ends.{Finds}
use Rattle.dia_cli.proofs.Forms.Lookup.{Found, all_found, default_found, first_found, or_found, values_from}
use Rattle.dia_cli.proofs.Forms.Steps.{flag_values, option_values, values_of}
use Rattle.dia_cli.proofs.Forms.Walks.{following}

-- the names of commands that are found, where there are any
abbrev pub some_names : List Text → Option (List Text)
some_names [] = None
some_names (name ∷ names) = Some (name ∷ names)

-- ---- values, given or not

abbrev pub first_value : Option Found → Option Text
first_value found = option_and_then (λ (f : Found). slice_get f.0 0) found

abbrev default : Text → Option Found
default word = Some (word ∷ [], Some DefaultValue)

pub flag_found : (given : Bool) → first_value (or_found (values_from CommandLine (flag_values given)) (default (codes "false"))) ≡ Some (flag_word given)
flag_found false = refl
flag_found true = refl

-- `--json` is given, or not
pub flag_given : (given : Bool) {word : Option Text} → word ≡ Some (flag_word given) → given ≡ is_given word
flag_given false is = sym (ap is_given is)
flag_given true is = sym (ap is_given is)

-- or its command doesn't have it
pub not_given : {word : Option Text} → word ≡ None → false ≡ is_given word
not_given is = sym (ap is_given is)

pub policy_found : (unknown : Unknown) → first_value (or_found (values_from CommandLine (option_values (policy_given unknown))) (default (codes "kept"))) ≡ Some (policy_word unknown)
policy_found Kept = refl
policy_found Refused = refl

pub sender_found : (sends : Sends) → first_value (or_found (values_from CommandLine (option_values (sender_given sends))) (default (codes "any"))) ≡ Some (sends_word sends)
sender_found Any = refl
sender_found Known = refl
sender_found Filled = refl
sender_found Listed = refl

pub text_found : (given : Option Text) (word : Text) → first_value (or_found (values_from CommandLine (option_values given)) (default word)) ≡ Some (unwrap_or given word)
text_found None word = refl
text_found (Some text) word = refl

pub number_found : (given : Option Text) → first_value (or_found (values_from CommandLine (option_values given)) None) ≡ given
number_found None = refl
number_found (Some number) = refl

pub names_found : (names : List Text) → option_map (λ (f : Found). f.0) (or_found (values_from CommandLine names) None) ≡ some_names names
names_found [] = refl
names_found (name ∷ names) = refl

-- ---- what is found

module _ (s : Shape) (slots : List Slot) (rows : List Row) (finds : Finds s slots rows) where
  pub first_is : (id : Text) → first_of id rows ≡ first_value (or_found (values_from CommandLine (values_of id (following slots []))) (default_found id s.rules))
  first_is id = first_found id rows ∙ ap first_value (finds id)

  pub all_are : (id : Text) → all_of id rows ≡ option_map (λ (f : Found). f.0) (or_found (values_from CommandLine (values_of id (following slots []))) (default_found id s.rules))
  all_are id = all_found id rows ∙ ap (λ (o : Option Found). option_map (λ (f : Found). f.0) o) (finds id)
