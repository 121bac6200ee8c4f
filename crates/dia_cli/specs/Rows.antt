-- The rows of the commands: of each its name, its options and its inputs, and its declaration for clap.
use Rattle.std.specs.Prelude.{ℕ, Bool, true, false, List, [], ◌∷◌, map, fold, Option, Some, None, codes}
use Rattle.std.specs.Borrow.{Bor}
use Rattle.clap.specs.Lexer.{usize_max}
use Rattle.clap.specs.Walk.{Rule, Text}
use Rattle.clap.specs.Simple.{App, Shape, new_app, new_rule, with_rule, with_subcommand}
use Rattle.clap.specs.declared.builder.action.ArgAction.{ArgAction}
use Rattle.clap.specs.declared.builder.action.ArgAction.TheVariants.{SetTrue}
use Rattle.clap.specs.declared.builder.range.ValueRange.{ValueRange}
use Rattle.clap.specs.declared.builder.value_parser.ValueParser.{ValueParser}
use Rattle.clap.specs.declared.builder.value_parser.ValueParser.TheVariants.{Names, Unsigned}

-- the value of an option: none; a policy, by default `kept`; what the side of A sends, by default `any`;
-- any word, with its default; or a number of 32 bits
pub data Value : Type 0 where
  no_value : Value
  policy : Value
  sender : Value
  any_word : Text → Value
  a_number : Value

-- how many words an input has: one, one or more, or any number
pub data Count : Type 0 where
  one : Count
  some : Count
  any : Count

pub record OptionRow : Type 0 where
  pub id : Text
  pub value : Value

pub record InputRow : Type 0 where
  pub id : Text
  pub count : Count

pub record CommandRow : Type 0 where
  pub name : Text
  pub options : List OptionRow
  pub inputs : List InputRow

-- ---- the commands of the program

abbrev pub option : Text → Value → OptionRow
option id value = record { id = id; value = value }

abbrev pub input : Text → Count → InputRow
input id count = record { id = id; count = count }

abbrev pub quiet_option : OptionRow
quiet_option = option (codes "quiet") no_value

abbrev pub unknown_option : OptionRow
unknown_option = option (codes "unknown") policy

abbrev pub levels_option : OptionRow
levels_option = option (codes "levels") a_number

abbrev pub json_option : OptionRow
json_option = option (codes "json") no_value

abbrev pub dict_option : OptionRow
dict_option = option (codes "dict") (any_word (codes "@base"))

abbrev pub values_option : OptionRow
values_option = option (codes "values") (any_word (codes "@none"))

abbrev pub show_row : CommandRow
show_row = record {
  name = codes "show";
  options = quiet_option ∷ dict_option ∷ option (codes "as-text") no_value ∷ option (codes "names") no_value
      ∷ values_option ∷ option (codes "lines") no_value ∷ json_option ∷ [];
  inputs = input (codes "MESSAGE") one ∷ [];
}

abbrev pub make_row : CommandRow
make_row = record { name = codes "make"; options = quiet_option ∷ dict_option ∷ values_option ∷ []; inputs = input (codes "TEXT") one ∷ [] }

abbrev pub check_row : CommandRow
check_row = record {
  name = codes "check";
  options = quiet_option ∷ unknown_option ∷ levels_option ∷ option (codes "lines") no_value ∷ option (codes "stream") no_value
      ∷ option (codes "all") no_value ∷ json_option ∷ [];
  inputs = input (codes "D") one ∷ input (codes "MESSAGE") one ∷ [];
}

abbrev pub render_row : CommandRow
render_row = record { name = codes "render"; options = quiet_option ∷ []; inputs = input (codes "D") one ∷ [] }

abbrev pub compare_row : CommandRow
compare_row = record {
  name = codes "compare";
  options = quiet_option ∷ unknown_option ∷ json_option ∷ [];
  inputs = input (codes "A") one ∷ input (codes "B") one ∷ input (codes "TABLE") one ∷ [];
}

abbrev pub refute_row : CommandRow
refute_row = record {
  name = codes "refute";
  options = quiet_option ∷ unknown_option ∷ levels_option ∷ option (codes "lines") no_value ∷ json_option ∷ [];
  inputs = input (codes "A") one ∷ input (codes "B") one ∷ input (codes "MESSAGE") one ∷ [];
}

abbrev pub propose_row : CommandRow
propose_row = record {
  name = codes "propose";
  options = quiet_option ∷ unknown_option ∷ json_option ∷ [];
  inputs = input (codes "A") one ∷ input (codes "B") one ∷ input (codes "COMMAND") some ∷ [];
}

abbrev pub breaking_row : CommandRow
breaking_row = record {
  name = codes "breaking";
  options = quiet_option ∷ unknown_option ∷ option (codes "sends") sender ∷ option (codes "messages") no_value ∷ option (codes "once") no_value
      ∷ option (codes "meaning") no_value ∷ option (codes "accepted") (any_word (codes "@none")) ∷ option (codes "stale-allowed") no_value
      ∷ option (codes "explain") no_value ∷ json_option ∷ [];
  inputs = input (codes "A") one ∷ input (codes "B") one ∷ input (codes "COMMAND") any ∷ [];
}

abbrev pub answer_row : CommandRow
answer_row = record {
  name = codes "answer";
  options = quiet_option ∷ unknown_option ∷ levels_option ∷ option (codes "host") (any_word (codes "host.invalid"))
      ∷ option (codes "realm") (any_word (codes "invalid")) ∷ option (codes "lines") no_value ∷ [];
  inputs = input (codes "D") one ∷ input (codes "MESSAGE") one ∷ [];
}

abbrev pub follow_row : CommandRow
follow_row = record {
  name = codes "follow";
  options = quiet_option ∷ dict_option ∷ option (codes "middle") no_value ∷ option (codes "check") no_value ∷ unknown_option ∷ levels_option
      ∷ json_option ∷ [];
  inputs = input (codes "CONNECTION") one ∷ [];
}

abbrev pub mask_row : CommandRow
mask_row = record {
  name = codes "mask";
  options = quiet_option ∷ option (codes "keep") (any_word (codes "@none")) ∷ option (codes "mask") (any_word (codes "@none"))
      ∷ option (codes "only") (any_word (codes "@none")) ∷ json_option ∷ [];
  inputs = input (codes "D") one ∷ input (codes "MESSAGES") one ∷ [];
}

abbrev pub uses_row : CommandRow
uses_row = record {
  name = codes "uses";
  options = quiet_option ∷ json_option ∷ [];
  inputs = input (codes "D") one ∷ input (codes "AVP") some ∷ [];
}

abbrev pub diff_row : CommandRow
diff_row = record {
  name = codes "diff";
  options = quiet_option ∷ unknown_option ∷ option (codes "sends") sender ∷ json_option ∷ [];
  inputs = input (codes "A") one ∷ input (codes "B") one ∷ [];
}

abbrev pub lint_row : CommandRow
lint_row = record {
  name = codes "lint";
  options = quiet_option ∷ unknown_option ∷ option (codes "only") (any_word (codes "exact,guidelines"))
      ∷ option (codes "except") (any_word (codes "@none")) ∷ option (codes "accepted") (any_word (codes "@none")) ∷ json_option ∷ [];
  inputs = input (codes "D") one ∷ [];
}

abbrev pub examples_row : CommandRow
examples_row = record {
  name = codes "examples";
  options = quiet_option ∷ unknown_option ∷ option (codes "text") no_value ∷ json_option ∷ [];
  inputs = input (codes "D") one ∷ input (codes "COMMAND") any ∷ [];
}

abbrev pub command_rows : List CommandRow
command_rows = show_row ∷ make_row ∷ check_row ∷ render_row ∷ compare_row ∷ refute_row ∷ propose_row ∷ breaking_row ∷ answer_row ∷ follow_row
    ∷ mask_row ∷ uses_row ∷ diff_row ∷ lint_row ∷ examples_row ∷ []

-- ---- the declaration of a row for clap

abbrev pub value_action : Value → Option ArgAction
value_action no_value = Some SetTrue
value_action value = None

abbrev pub value_names : Value → ℕ
value_names no_value = 0
value_names value = 1

abbrev pub value_defaults : Value → List Text
value_defaults policy = codes "kept" ∷ []
value_defaults sender = codes "any" ∷ []
value_defaults (any_word default) = default ∷ []
value_defaults value = []

abbrev pub is_required : Count → Bool
is_required any = false
is_required count = true

abbrev pub count_range : Count → Option ValueRange
count_range one = None
count_range count = Some (record { start_inclusive = 1; end_inclusive = usize_max })

abbrev pub input_rule : InputRow → Rule
input_rule row = record (new_rule row.id) { required = is_required row.count; range = count_range row.count }

-- a command line with these inputs too
abbrev pub with_inputs : App → List InputRow → App
with_inputs line rows = fold with_rule line (map input_rule rows)

-- the words that `--unknown` and `--sends` take
module _ (policies senders : Bor (List (Bor Text))) where
  abbrev pub value_parser : Value → Option ValueParser
  value_parser policy = Some (Names policies)
  value_parser sender = Some (Names senders)
  value_parser a_number = Some (Unsigned 0 4294967295)
  value_parser value = None

  abbrev pub option_rule : OptionRow → Rule
  option_rule row = record (new_rule row.id) {
    long = Some row.id;
    action = value_action row.value;
    value_names = value_names row.value;
    defaults = value_defaults row.value;
    parser = value_parser row.value;
  }

  -- a command line with these options too
  abbrev pub with_options : App → List OptionRow → App
  with_options line rows = fold with_rule line (map option_rule rows)

  abbrev pub row_shape : CommandRow → Shape
  row_shape row = (with_inputs (with_options (new_app row.name) row.options) row.inputs).top

  -- a command line with these commands too
  abbrev pub with_commands : App → List CommandRow → App
  with_commands line rows = fold with_subcommand line (map row_shape rows)
