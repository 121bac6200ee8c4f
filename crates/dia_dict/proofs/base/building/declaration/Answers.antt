use Rattle.std.proofs.Common.{◌≡◌, ℕ, Option, Some, None, refl, ap, ◌∙◌}
use Rattle.std.proofs.Math.Bool.{and-true}
use Rattle.std.specs.Option.{option_map}
use Rattle.std.specs.Global.{Vec}
use Rattle.dia_ccf.specs.declared.FormatName.{FormatName}
use Rattle.dia_ccf.specs.declared.FormatName.TheVariants.{Enumerated}
use Rattle.dia_ccf.specs.Names.{is_name, is_number, fits_values}
use Rattle.dia_dict.specs.BaseTables.{is_values_row}
use Rattle.std.proofs.lemmas.Bool.{and_parts}
use Rattle.dia_dict.proofs.base.building.declaration.Goals as goal

-- a list in memory fits a format where its ranges do
fits_values-items : (format : FormatName) (values : Option (Vec (ℕ × ℕ))) → fits_values format values ≡ is_values_row format (option_map (λ v. v.items) values)
fits_values-items format None = refl
fits_values-items Enumerated (Some v) = refl
fits_values-items format (Some v) = refl

pub invariant_of-result-clause-named : goal.invariant_of-result-clause-named
invariant_of-result-clause-named c = ap is_name c.in_ok-from_str.ensures.ok ∙ (and_parts _ _ (and_parts _ _ c.requires).0).0

pub invariant_of-result-clause-numbered : goal.invariant_of-result-clause-numbered
invariant_of-result-clause-numbered c = and-true (is_number c.args.row.now.code) ∙ (and_parts _ _ (and_parts _ _ c.requires).0).1

pub invariant_of-result-clause-listed : goal.invariant_of-result-clause-listed
invariant_of-result-clause-listed c =
    fits_values-items c.args.row.now.format c.in_ok-values.field-0 ∙ ap (is_values_row c.args.row.now.format) c.in_ok-values.ensures ∙ (and_parts _ _ c.requires).1
