use Rattle.std.proofs.Common.{arith}
use Rattle.std.proofs.lemmas.List.{take_rest}
use Rattle.dia_wire.proofs.FlagsAndLength.{flags_of_word, length_of_word}
use Rattle.dia_wire.proofs.opening.flags_and_length.Goals as goal

pub returns-clause-flags : goal.returns-clause-flags
returns-clause-flags c = rw (c.read_u32-word.ensures, take_rest) (flags_of_word c.args.bytes.now c.requires (λ k. omega (arith, c.type_inv.bytes k)))

pub returns-clause-length : goal.returns-clause-length
returns-clause-length c = rw (c.read_u32-word.ensures, take_rest) (length_of_word c.args.bytes.now c.requires (λ k. omega (arith, c.type_inv.bytes k)))
