use Rattle.std.proofs.Common.{◌≡◌, ap, ◌∙◌, rules}
use Rattle.std.specs.Prelude.{FitsSigned}
use Rattle.std.proofs.lemmas.Int.{to_z-of_z}
use Rattle.std.specs.Int.{w64, cast_signed}
use Rattle.std.specs.Fmt.{decimal, signed_decimal}
use Rattle.dia_data.specs.Number.{number}
use Rattle.dia_data.proofs.ShownValues.{number_of_all}
use Rattle.dia_data.proofs.print.push_eight.Goals as goal

pub returns-in-Signed : goal.returns-in-Signed
returns-in-Signed c =
    let bytes = c.args.bytes.now in
    let n : c.read_i64.result ≡ cast_signed w64 (number bytes) = c.read_i64.ensures ∙ ap (cast_signed w64) (number_of_all 8 bytes c.requires) in
    let fits : FitsSigned w64 c.read_i64.result = search rules in
    rw c.in-Signed.is (rw (ap signed_decimal (to_z-of_z w64 c.read_i64.result fits ∙ n)) at c.push_number.ensures)

pub returns-in-Unsigned : goal.returns-in-Unsigned
returns-in-Unsigned c =
    rw c.in-Unsigned.is (rw (ap decimal (c.read_u64.ensures ∙ number_of_all 8 c.args.bytes.now c.requires)) at c.push_number-in-Unsigned.ensures)
