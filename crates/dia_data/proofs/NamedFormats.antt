-- A format of a name has that name.
use Rattle.std.proofs.Common.{◌≡◌, ℕ, List, Option, refl, sym, ap, ◌∙◌}
use Rattle.dia_terms.specs.declared.FormatName.{FormatName}
use Rattle.dia_terms.specs.declared.FormatName.TheVariants as name
use Rattle.dia_data.specs.Plain.{Grouped, format_of, name_of}

pub name_of-format : (f : FormatName) (ranges : Option (List (ℕ × ℕ))) → name_of (format_of f ranges) ≡ f
name_of-format name.OctetString ranges = refl
name_of-format f ranges = refl

pub name_of-grouped : (f : FormatName) (ranges : Option (List (ℕ × ℕ))) → format_of f ranges ≡ Grouped → f ≡ name.Grouped
name_of-grouped f ranges e = sym (name_of-format f ranges) ∙ ap name_of e
