-- What the rows of the code say.
use Rattle.std.specs.Prelude.{◌≡◌, Bool, true, false, map, codes}
use Rattle.clap.specs.Simple.{App, Shape, new_app, on_top, shape_of}
use Rattle.clap.specs.declared.builder.command.Command.{Command}
use Rattle.clap.specs.declared.builder.command.Command.TheViews.{out-Command}
use Rattle.dia_cli.specs.Rows.{CommandRow, Count, InputRow, OptionRow, Value, a_number, any, any_word, no_value, one, policy, sender, some}
use Rattle.dia_cli.specs.declared.rows.CommandRow.{CommandRow as CodeRow}
use Rattle.dia_cli.specs.declared.rows.OptionRow.{OptionRow as CodeOption}
use Rattle.dia_cli.specs.declared.rows.InputRow.{InputRow as CodeInput}
use Rattle.dia_cli.specs.declared.rows.Value.{Value as CodeValue}
use Rattle.dia_cli.specs.declared.rows.Value.TheVariants as value
use Rattle.dia_cli.specs.declared.rows.Count.{Count as CodeCount}
use Rattle.dia_cli.specs.declared.rows.Count.TheVariants as count

abbrev pub value_of : CodeValue → Value
value_of value.Nothing = no_value
value_of value.Policy = policy
value_of value.Sender = sender
value_of (value.Word name default) = any_word default.now
value_of value.Number = a_number

abbrev pub count_of : CodeCount → Count
count_of count.One = one
count_of count.Some = some
count_of count.Any = any

abbrev pub option_of : CodeOption → OptionRow
option_of row = record { id = row.id.now; value = value_of row.value }

abbrev pub input_of : CodeInput → InputRow
input_of row = record { id = row.id.now; count = count_of row.count }

abbrev pub command_of : CodeRow → CommandRow
command_of row = record { name = row.name.now; options = map option_of row.options.now; inputs = map input_of row.inputs.now }

abbrev pub has_globals : Command → Bool
has_globals line = (out-Command line).has_globals

-- a subcommand's line
abbrev pub IsLine : Shape → Command → Type 0
IsLine shape line = (shape_of line ≡ shape) × (has_globals line ≡ false)

-- the program's line without its subcommands, of which one has to be given
abbrev pub program_app : App
program_app = on_top (λ shape. record shape { has_version = true; subcommand_required = true }) (new_app (codes "diacmd"))
