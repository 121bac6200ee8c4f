-- The findings of a definition that was looked up.
use Rattle.std.proofs.Common.{◌≡◌, ℕ, List, [], Option, Some, ap, ◌∙◌}
use Rattle.std.specs.Prelude.{slice_get}
use Rattle.std.specs.Option.{option_map_or}
use Rattle.dia_book.specs.Dictionary.{Dictionary, PlainDefinition, definitions}
use Rattle.dia_lint.specs.declared.finding.Finding.{Finding}
use Rattle.dia_lint.specs.declared.guidelines.Head.{Head}
use Rattle.dia_lint.specs.Guidelines.{command_head, command_lines, own_lines}

abbrev by_head : ℕ → PlainDefinition → Option Head → List Finding
by_head def x o = option_map_or (λ (head : Head). own_lines def head x.rules) o []

pub lines_of : (d : Dictionary) (def : ℕ) (x : PlainDefinition) (o : Option Head) → slice_get (definitions d) def ≡ Some x → command_head x.head ≡ o → command_lines d def ≡ by_head def x o
lines_of d def x o at is = ap (λ (y : Option PlainDefinition). option_map_or (λ (z : PlainDefinition). by_head def z (command_head z.head)) y []) at ∙ ap (by_head def x) is
