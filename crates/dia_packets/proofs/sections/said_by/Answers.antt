use Rattle.std.proofs.Common.{ℕ, subst, sym}
use Rattle.std.specs.Prelude.{IfOk}
use Rattle.dia_packets.specs.declared.blocks.BlockKind.{BlockKind}
use Rattle.dia_packets.specs.Blocks.{Says}
use Rattle.dia_packets.specs.Sections.{found_of, now_of}
use Rattle.dia_packets.proofs.sections.said_by.Goals as goal

pub returns-in-Data-clause-says : goal.returns-in-Data-clause-says
returns-in-Data-clause-says c =
    let head = c.args.head.now in
    subst (λ (k : BlockKind). IfOk c.packet_in.result (λ said. (n : ℕ) → Says k head.order head.size c.args.interfaces.now n c.args.bytes.now (found_of n said) (now_of c.args.interfaces.now said)))
    (sym c.in-Data.is) c.packet_in.ensures.says
