use Rattle.std.proofs.Common.{arith}
use Rattle.dia_breaking.proofs.AllLines.{lines_free, lines_corrected}
use Rattle.dia_breaking.proofs.ExactFloors.{kept_floors}
use Rattle.dia_breaking.proofs.laws.the_lines_are_all.Goals as goal

pub returns : goal.returns
returns c = λ s command sites lines sa sb few are.
    let f = are.facts in
    let floors = kept_floors s.sender s.sends f.least are.made.lengths sa f.are_least f.are_lengths in (
      lines_free s.sender s.receiver s.sends s.unknown are.made are.start command sites lines sa sb f floors are.head_is are.is_start are.is_listing (omega (arith, few)),
      lines_corrected s.sender s.receiver s.sends s.unknown are.made are.start command sites lines sa sb f floors are.head_is are.is_start are.is_listing (omega (arith, few)),
    )
