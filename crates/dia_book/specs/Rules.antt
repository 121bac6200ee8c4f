-- The rules of definitions (RFC 6733 section 3.2).
use Rattle.std.specs.Prelude.{Bool, true, false}
use Rattle.dia_terms.specs.declared.RuleKind.TheVariants.{Fixed, Required, Optional}
use Rattle.dia_book.specs.declared.definition.DRule.{DRule}

abbrev pub is_fixed : DRule → Bool
is_fixed rule = elim rule.kind [ Fixed ↦ true | Required ↦ false | Optional ↦ false ]
