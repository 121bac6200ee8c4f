-- Options that don't go together.
use Rattle.std.specs.Prelude.{Bool, if◌then◌else◌, Option, Some, None, codes}
use Rattle.clap.specs.Walk.{Text}
use Rattle.dia_cli.specs.declared.apart.Apart.{Apart}
use Rattle.dia_cli.specs.declared.apart.Apart.TheVariants.{LinesAndStream, AllAndLines, AllAndStream, AllAndJson, AsTextAndNames, AsTextAndValues, AsTextAndLines, AsTextAndJson, OnlyAndKeep, OnlyAndMask, TextAndJson}

-- the name of the first option
abbrev pub first_option : Apart → Text
first_option LinesAndStream = codes "lines"
first_option AllAndLines = codes "all"
first_option AllAndStream = codes "all"
first_option AllAndJson = codes "all"
first_option AsTextAndNames = codes "as-text"
first_option AsTextAndValues = codes "as-text"
first_option AsTextAndLines = codes "as-text"
first_option AsTextAndJson = codes "as-text"
first_option OnlyAndKeep = codes "only"
first_option OnlyAndMask = codes "only"
first_option TextAndJson = codes "text"

-- and of the second
abbrev pub second_option : Apart → Text
second_option LinesAndStream = codes "stream"
second_option AllAndLines = codes "lines"
second_option AllAndStream = codes "stream"
second_option AllAndJson = codes "json"
second_option AsTextAndNames = codes "names"
second_option AsTextAndValues = codes "values"
second_option AsTextAndLines = codes "lines"
second_option AsTextAndJson = codes "json"
second_option OnlyAndKeep = codes "keep"
second_option OnlyAndMask = codes "mask"
second_option TextAndJson = codes "json"

-- of the options of `show`: `--as-text` goes with none of the others; the first two of those that are given
abbrev pub show_apart : (as_text names values lines json : Bool) → Option Apart
show_apart as_text names values lines json =
    if as_text then (if names then Some AsTextAndNames else (if values then Some AsTextAndValues
    else (if lines then Some AsTextAndLines else (if json then Some AsTextAndJson else None))))
    else None

-- of the options of `mask`: `--only` goes with neither of the others
abbrev pub mask_apart : (keep mask only : Bool) → Option Apart
mask_apart keep mask only =
    if only then (if keep then Some OnlyAndKeep else (if mask then Some OnlyAndMask else None)) else None
