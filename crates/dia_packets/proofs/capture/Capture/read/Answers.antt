use Rattle.std.proofs.Common.{◌≡◌, ◌++◌, arith, rules}
use Rattle.dia_packets.proofs.UnderWayRead.{ReadsPiece-made, left_over}
use Rattle.dia_packets.proofs.capture.Capture.read.Goals as goal

pub returns-in_ok-self-clause-reads : goal.returns-in_ok-self-clause-reads
returns-in_ok-self-clause-reads c =
    let is_all : c.as_slice-bytes.result.now ≡ c.args.self.now.bytes.items ++ c.args.piece.now = search rules in
    ReadsPiece-made c.args.self.now _ c.args.packets.now.items c.read_whole.new.packets.items c.args.piece.now c.as_slice-bytes.result.now c.in_ok-rest.rest.now
    is_all c.in_ok-rest.ensures.reads c.in_ok-rest.ensures.part c.in_ok-self.ensures.items

pub returns-else-rest-bytes-clause-reads : goal.returns-else-rest-bytes-clause-reads
returns-else-rest-bytes-clause-reads c =
    let is_all : c.as_slice-bytes.result.now ≡ c.args.self.now.bytes.items ++ c.args.piece.now = search rules in
    let left = left_over c.args.self.now.position c.read_whole.new.self c.args.packets.now.items c.read_whole.new.packets.items c.as_slice-bytes.result.now
    c.in_ok-rest.rest.now c.in_ok-rest.ensures.reads (omega arith) in
    ReadsPiece-made c.args.self.now _ c.args.packets.now.items c.read_whole.new.packets.items c.args.piece.now c.as_slice-bytes.result.now c.in_ok-rest.rest.now
    is_all c.in_ok-rest.ensures.reads c.in_ok-rest.ensures.part (let same : _ ≡ c.in_ok-rest.rest.now = cc (left, c.as_slice-bytes.ensures.value) in same)
