use Rattle.std.proofs.Common.{ap, arith}
use Rattle.dia_check.specs.declared.open_levels.OpenLevel.{OpenLevel}
use Rattle.dia_check.proofs.UnderWay.{found_broken}
use Rattle.dia_check.proofs.BodyContinuations.{size_left, too_few}
use Rattle.dia_check.proofs.stream.parts.begin_head.Goals as goal

pub returns-then-innermost-at-lt-AVP_HEAD_LENGTH : goal.returns-then-innermost-at-lt-AVP_HEAD_LENGTH
returns-then-innermost-at-lt-AVP_HEAD_LENGTH c d u most bytes good sound w =
    let o = c.args.open_levels.now in let at = c.args.at in
    let same = ap (λ (k : OpenLevel). k.end) c.innermost.ensures in
    let size = size_left d sound u most bytes good o at w in
    rw c.broken.ensures (found_broken d sound u most bytes good o at w (omega (arith, size, c.requires.within))
    (too_few d sound u most bytes good o at w (omega (arith, same, c.if-innermost-at-lt-AVP_HEAD_LENGTH.true))))
