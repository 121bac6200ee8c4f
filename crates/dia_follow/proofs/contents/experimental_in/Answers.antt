use Rattle.std.proofs.Common.{◌∙◌}
use Rattle.dia_follow.specs.Contents.{both_numbers}
use Rattle.dia_follow.proofs.contents.experimental_in.Goals as goal

pub returns : goal.returns
returns c =
    let (inner, left, front) = c.know_front.ensures in
    (inner, left, front, c.both_numbers.ensures ∙ (λ i. both_numbers (c.first_number-vendor.ensures inner left front i) (c.first_number-code.ensures inner left front i)))
