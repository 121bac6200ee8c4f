use Rattle.std.proofs.Common.{◌≡◌, ◌++◌, ◌-◌, [], length, take, sym, ap, ◌∙◌, arith}
use Rattle.std.proofs.lemmas.List.{length-take, take-take}
use Rattle.std.proofs.lemmas.Slice.{take-put_mid}
use Rattle.dia_data.proofs.Fronts.{take-append_room, take_least}
use Rattle.dia_check.specs.Front.{front_bytes}
use Rattle.dia_check.proofs.stream.front.Front.take_from.Goals as goal

pub returns : goal.returns
returns c =
    let old = c.args.self.now in
    let bytes = c.args.piece.now in
    let after = c.copy_from_slice-2.ensures.after in
    let count = ap length after in
    let room : take c.min-taken.result bytes ≡ take (20 - old.count) bytes = ap (λ n. take n bytes) c.min-taken.ensures ∙ take_least (20 - old.count) bytes in
    let kept : length (front_bytes old) ≡ old.count = omega (arith, length-take old.count old.bytes) in
    take-put_mid old.count _ old.bytes _ _ (omega (arith, length-take c.min-taken.result bytes)) (omega arith) ∙ ap (λ p. front_bytes old ++ p)
    (after ∙ room ∙ ap (λ n. take (20 - n) bytes) (sym kept)) ∙ take-append_room 20 (front_bytes old) bytes (omega arith)

pub returns-then-piece-ge-ROOM : goal.returns-then-piece-ge-ROOM
returns-then-piece-ge-ROOM c =
    let old = c.args.self.now in
    let bytes = c.args.piece.now in
    let empty : old.count ≡ 0 = omega (arith, c.if-self-eq0.true) in
    let none : front_bytes old ≡ [] = ap (λ n. take n old.bytes) empty in
    ap (take 20) c.copy_from_slice.ensures.after ∙ take-take 20 20 bytes (omega arith) ∙ ap (λ f. take 20 (f ++ bytes)) (sym none)
