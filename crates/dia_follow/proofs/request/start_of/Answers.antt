use Rattle.std.proofs.Common.{sym, arith}
use Rattle.std.proofs.lemmas.List.{take_all, length-take-le}
use Rattle.dia_follow.proofs.request.start_of.Goals as goal

pub slice_bounds-result-end : goal.slice_bounds-result-end
slice_bounds-result-end c = sym (length-take-le 256 c.args.bytes.now (omega arith))

pub returns-then-bytes-le-SESSION_START : goal.returns-then-bytes-le-SESSION_START
returns-then-bytes-le-SESSION_START c = sym (take_all 256 c.args.bytes.now c.if-bytes-le-SESSION_START.true)
