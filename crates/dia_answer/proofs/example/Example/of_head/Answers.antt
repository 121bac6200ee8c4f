use Rattle.std.proofs.Common.{ℕ, refl, ap}
use Rattle.std.specs.Prelude.{slice_index}
use Rattle.dia_wire.specs.declared.Key.{Key}
use Rattle.dia_answer.specs.declared.example.Example.{Example}
use Rattle.dia_answer.proofs.Heads.{corrected_whole}
use Rattle.dia_answer.proofs.example.Example.of_head.Goals as goal

pub returns-else-level-head_length : goal.returns-else-level-head_length
returns-else-level-head_length g c =
    let code = c.number_at.result in
    let vendor = c.vendor_in-vendor.result in
    let made : Example = record { code = code; flags = slice_index c.filled-head.result 4; vendor = vendor; least = c.least_data.result } in
    let key : Key = record { code = code; vendor = c.unwrap_or.result } in
    corrected_whole (g.B.Book.meaning c.args.book.now) c.args.level.now c.filled-head.result made c.head_length.result key c.filled-head.ensures (c.number_at.ensures, refl, c.vendor_in-vendor.ensures) c.head_length.ensures
    c.if-level-head_length.false (ap (λ (v : ℕ). record { code = code; vendor = v }) c.unwrap_or.ensures) c.least_data.ensures
