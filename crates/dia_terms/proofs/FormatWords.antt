-- The words of formats are distinct.
use Rattle.std.proofs.Common.{◌≡◌, Some, refl}
use Rattle.std.specs.Prelude.{codes}
use Rattle.dia_terms.specs.declared.formats.FormatName.{FormatName}
use Rattle.dia_terms.specs.declared.formats.FormatName.TheVariants as format
use Rattle.dia_terms.specs.Formats.{format_named, format_word, is_enumerated}
use Rattle.dia_terms.specs.Names.{same_bytes}

pub format_named-word : (f : FormatName) → format_named (format_word f) ≡ Some f
format_named-word format.OctetString = refl
format_named-word f = refl

pub enumerated_is : (f : FormatName) → is_enumerated f ≡ same_bytes (format_word f) (codes "Enumerated")
enumerated_is format.OctetString = refl
enumerated_is f = refl
