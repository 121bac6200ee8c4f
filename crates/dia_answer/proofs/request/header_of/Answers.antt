use Rattle.std.proofs.Common.{arith, rules, refl}
use Rattle.dia_wire.proofs.HeaderRead.{below_three_bytes}
use Rattle.dia_answer.proofs.Fronts.{read_field}
use Rattle.dia_answer.proofs.request.header_of.Goals as goal

pub returns-clause-reads : goal.returns-clause-reads
returns-clause-reads c =
    let long = c.if-bytes-lt-HEADER_LENGTH.false in record {
      long = long;
      flags = refl;
      code = read_field 5 3 c.read_u24.result c.args.bytes.now (omega (arith, long)) c.read_u24.ensures;
      app = read_field 8 4 c.read_u32.result c.args.bytes.now (omega (arith, long)) c.read_u32.ensures;
      hop = read_field 12 4 c.read_u32-2.result c.args.bytes.now (omega (arith, long)) c.read_u32-2.ensures;
      e2e = read_field 16 4 c.read_u32-3.result c.args.bytes.now (omega (arith, long)) c.read_u32-3.ensures;
    }

pub returns-clause-fits : goal.returns-clause-fits
returns-clause-fits c = below_three_bytes 5 _ c.args.bytes.now (λ k. search rules) c.read_u24.ensures
