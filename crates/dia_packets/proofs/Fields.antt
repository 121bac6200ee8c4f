-- Fields at the front of bytes, however these go on.
use Rattle.std.proofs.Common.{◌≡◌, ℕ, ◌+◌, ◌≤◌, List, ◌++◌, length, drop, ap, ◌∙◌, arith}
use Rattle.std.proofs.lemmas.List.{drop-append-le, length-drop}
use Rattle.byteorder.specs.Numbers.{big_from-append, little_from-append}
use Rattle.dia_packets.specs.declared.order.Order.{Order}
use Rattle.dia_packets.specs.declared.order.Order.TheVariants.{Big, Little}
use Rattle.dia_packets.specs.Fields.{field, number_in}

number_on : (order : Order) (width : ℕ) (xs more : List ℕ) → width ≤ length xs → number_in order width (xs ++ more) ≡ number_in order width xs
number_on Big width xs more h = big_from-append width xs more h
number_on Little width xs more h = little_from-append width xs more h

pub field_on : (order : Order) (width at : ℕ) (xs more : List ℕ) → at + width ≤ length xs → field order width at (xs ++ more) ≡ field order width at xs
field_on order width at xs more h =
    ap (λ (b : List ℕ). number_in order width b) (drop-append-le at xs more (omega (arith, h)))
    ∙ number_on order width (drop at xs) more (omega (arith, length-drop at xs, h))
