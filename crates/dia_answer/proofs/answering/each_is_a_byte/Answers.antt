use Rattle.std.proofs.Common.{arith}
use Rattle.dia_answer.proofs.Writings.{are_bytes}
use Rattle.dia_answer.proofs.answering.each_is_a_byte.Goals as goal

pub returns : goal.returns
returns c = are_bytes c.args.bytes.now (λ k. omega (arith, c.type_inv.bytes k))
