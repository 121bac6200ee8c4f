use Rattle.std.proofs.Common.{rules, List, ℕ, sym, ap, ◌∙◌, arith}
use Rattle.std.proofs.lemmas.List.{take_rest}
use Rattle.byteorder.specs.Endian.{big_from}
use Rattle.dia_wire.proofs.HeaderRead.{head_at, below_three_bytes}
use Rattle.dia_wire.proofs.reading.read_header.Goals as goal

pub returns-clause-head : goal.returns-clause-head
returns-clause-head c =
    head_at c.args.bytes.now _ _ c.if-bytes-lt-HEADER_LENGTH.false c.if-bytes-ne1.false
    c.read_u24-length.ensures c.flags_and_length-flags.ensures.flags
    (c.flags_and_length-flags.ensures.length ∙ ap (λ (f : List ℕ). big_from 0 3 f) (sym (take_rest c.args.bytes.now 5)))
    c.read_u32.ensures c.read_u32-2.ensures c.read_u32-3.ensures

pub returns-clause-bounded : goal.returns-clause-bounded
returns-clause-bounded c = below_three_bytes 1 _ c.args.bytes.now (λ k. omega (arith, c.type_inv.bytes k)) c.read_u24-length.ensures

pub returns-clause-fits : goal.returns-clause-fits
returns-clause-fits c = below_three_bytes 5 _ c.args.bytes.now (λ k. search rules)
    (c.flags_and_length-flags.ensures.length ∙ ap (λ (f : List ℕ). big_from 0 3 f) (sym (take_rest c.args.bytes.now 5)))
