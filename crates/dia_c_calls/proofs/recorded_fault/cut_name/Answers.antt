use Rattle.std.proofs.Common.{refl}
use Rattle.dia_c_calls.proofs.NamesInArrays.{in_zeros}
use Rattle.dia_c_calls.proofs.recorded_fault.cut_name.Goals as goal

pub returns-clause-bytes : goal.returns-clause-bytes
returns-clause-bytes c =
    in_zeros c.args.name.now _ _ _ refl (rw c.as_bytes.ensures.value at c.copied_from-count.ensures.count) (rw c.as_bytes.ensures.value at c.copied_from-count.ensures.copied)
    c.copied_from-count.ensures.rest
