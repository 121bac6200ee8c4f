use Rattle.std.proofs.Common.{◌++◌, ◌∙◌, List, ℕ, take, true, Option, sym, subst, ap}
use Rattle.dia_streams.specs.StreamUnderWay.{Takes}
use Rattle.dia_streams.proofs.PairsTaken.{Takes-pairs}
use Rattle.dia_streams.proofs.StreamsUnderWay.{has_none}
use Rattle.dia_streams.proofs.digits.Digits.take_pairs.Goals as goal

pub returns-in-Some : goal.returns-in-Some
returns-in-Some c =
    let old = c.args.self.now in
    let new = c.extend_from_slice.new.self.items in
    let decoded = rw c.in-Some.is at c.in_ok-count.ensures.spelled in
    let grows = c.in_ok-extend_from_slice.ensures.items ∙ ap (λ (s : List ℕ). old.bytes.items ++ take c.in-Some.count s) c.deref.ensures.value in
    subst (λ (half : Option ℕ). Takes true half half old.bytes.items new c.args.text.now) (sym (has_none old.half (sym c.if-is_none.ensures)))
    (Takes-pairs old.bytes.items new (take c.in-Some.count c.decode_digits.new.space.items) c.args.text.now decoded grows)
