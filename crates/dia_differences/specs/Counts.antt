-- The counts of rules, in words.
use Rattle.std.specs.Prelude.{ℕ, ◌==◌, if◌then◌else◌, List, [], ◌++◌, Option, Some, None, codes}
use Rattle.std.specs.Fmt.{decimal}
use Rattle.dia_book.specs.declared.definition.DRule.{DRule}

-- `3`, `0..1` or `1..*`
abbrev pub max_text : ℕ → Option ℕ → List ℕ
max_text min None = codes "..*"
max_text min (Some max) = if max == min then [] else codes ".." ++ decimal max

abbrev pub counts_text : DRule → List ℕ
counts_text rule = decimal rule.min ++ max_text rule.min rule.max
