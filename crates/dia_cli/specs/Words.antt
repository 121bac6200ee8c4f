-- The values of options and inputs: their words, and what is found of them.
use Rattle.std.specs.Prelude.{◌≡◌, ◌<◌, ◌^◌, ◌&&◌, ◌||◌, Bool, true, false, not, List, Option, Some, None, codes, is_some}
use Rattle.std.specs.Option.{option_map_or}
use Rattle.std.specs.Str.{bytes_eq}
use Rattle.std.specs.Str.Parse.{IsNumeral, digits_value, without_leading_plus}
use Rattle.clap.specs.ValueTests.{is_unsigned_in}
use Rattle.clap.specs.Walk.{Row, Text, first_of}
use Rattle.dia_terms.specs.declared.Levels.{Levels}
use Rattle.dia_terms.specs.declared.Levels.TheVariants.{Any, AtMost}
use Rattle.dia_terms.specs.declared.Sends.{Sends}
use Rattle.dia_terms.specs.declared.Sends.TheVariants as sent
use Rattle.dia_terms.specs.declared.Unknown.{Unknown}
use Rattle.dia_terms.specs.declared.Unknown.TheVariants.{Kept, Refused}
use Rattle.dia_cli.specs.Apart.{mask_apart, show_apart}
use Rattle.dia_cli.specs.declared.apart.Apart.{Apart}

abbrev pub flag_word : Bool → Text
flag_word false = codes "false"
flag_word true = codes "true"

abbrev pub sends_word : Sends → Text
sends_word sent.Any = codes "any"
sends_word sent.Known = codes "known"
sends_word sent.Filled = codes "filled"
sends_word sent.Listed = codes "listed"

abbrev pub policy_word : Unknown → Text
policy_word Kept = codes "kept"
policy_word Refused = codes "refused"

-- there is no limit without a word, and a word is a decimal number below 2 ^ 32, which a `+` may begin
abbrev pub IsLimitOf : Option Text → Levels → Type 0
IsLimitOf None levels = levels ≡ Any
IsLimitOf (Some word) levels = IsNumeral 10 (without_leading_plus word)
    × (digits_value 10 (without_leading_plus word) < 2 ^ 32) × (levels ≡ AtMost (digits_value 10 (without_leading_plus word)))

-- the policy that was found
abbrev pub IsPolicy : Unknown → List Row → Type 0
IsPolicy unknown rows = first_of (codes "unknown") rows ≡ Some (policy_word unknown)

-- the policies of `check` and `refute`
abbrev pub AreJudged : Unknown → Levels → List Row → Type 0
AreJudged unknown levels rows = IsPolicy unknown rows × IsLimitOf (first_of (codes "levels") rows) levels

-- whether an option without a value was found
abbrev pub IsFlag : Text → Bool → List Row → Type 0
IsFlag id given rows = first_of id rows ≡ Some (flag_word given)

-- whether an option without a value was given. A command that has no such option isn't given it
abbrev pub is_given : Option Text → Bool
is_given word = option_map_or (λ w. bytes_eq w (codes "true")) word false

-- a word that isn't `@none`
abbrev pub is_file : Option Text → Bool
is_file word = option_map_or (λ w. not (bytes_eq w (codes "@none"))) word false

-- two options of `show` that are given, and don't go together
abbrev pub apart_in : List Row → Option Apart
apart_in rows = show_apart (is_given (first_of (codes "as-text") rows)) (is_given (first_of (codes "names") rows))
    (is_file (first_of (codes "values") rows)) (is_given (first_of (codes "lines") rows)) (is_given (first_of (codes "json") rows))

-- and two of `mask`
abbrev pub masked_apart_in : List Row → Option Apart
masked_apart_in rows =
    mask_apart (is_file (first_of (codes "keep") rows)) (is_file (first_of (codes "mask") rows)) (is_file (first_of (codes "only") rows))

-- ---- whether they are found

abbrev pub is_flag : Option Text → Bool
is_flag word = option_map_or (λ w. bytes_eq w (codes "true") || bytes_eq w (codes "false")) word false

abbrev pub is_policy : Option Text → Bool
is_policy word = option_map_or (λ w. bytes_eq w (codes "kept") || bytes_eq w (codes "refused")) word false

abbrev pub is_sender : Option Text → Bool
is_sender word =
    option_map_or (λ w. bytes_eq w (codes "any") || (bytes_eq w (codes "known") || (bytes_eq w (codes "filled") || bytes_eq w (codes "listed")))) word false

-- no word, or a decimal number below 2 ^ 32, which a `+` may begin
abbrev pub is_limit : Option Text → Bool
is_limit word = option_map_or (is_unsigned_in 0 4294967295) word true

-- a word was found for this id
abbrev pub has_word : Text → List Row → Bool
has_word id rows = is_some (first_of id rows)

-- the two dictionaries
abbrev pub has_pair : List Row → Bool
has_pair rows = has_word (codes "A") rows && has_word (codes "B") rows

-- `--unknown POLICY`
abbrev pub has_policy : List Row → Bool
has_policy rows = is_policy (first_of (codes "unknown") rows)

-- the policies of `check` and `refute`
abbrev pub is_judged : List Row → Bool
is_judged rows = has_policy rows && is_limit (first_of (codes "levels") rows)
