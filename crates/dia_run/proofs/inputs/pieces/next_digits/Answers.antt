use Rattle.std.proofs.Common.{refl, sym, ap, ◌∙◌, take, length, Ok, Err, arith, ◌/◌, ℕ, ◌≡◌, ◌⊎◌, inl, inr, ⊎_elim}
use Rattle.std.proofs.lemmas.List.{length-take-le}
use Rattle.hex.specs.Hex.{decode_of}
use Rattle.dia_run.proofs.DecodedPieces.{spells, spells_none, written}
use Rattle.dia_run.proofs.inputs.pieces.next_digits.Goals as goal

pub returns-in-Ok-clause-spells : goal.returns-in-Ok-clause-spells
returns-in-Ok-clause-spells c =
    spells c.args.text.now c.decode_to_slice.new.out _ (c.take_digits-count.result.count / 2) c.take_digits-count.result.taken
    (ap decode_of (sym c.take_digits-count.ensures.digits)
    ∙ written (take c.take_digits-count.result.count c.take_digits-count.new.digits) c.decode_to_slice.new.out (length (take (c.take_digits-count.result.count / 2) c.args.bytes.now)) (Ok tt) refl
    c.in-Ok.ensures.value) (let o = c.decode_to_slice.auto.out in omega (arith, o, length-take-le (c.take_digits-count.result.count / 2) c.args.bytes.now (omega arith)))

pub returns-in-Err-clause-err : goal.returns-in-Err-clause-err
returns-in-Err-clause-err c =
    let digits = take c.take_digits-count.result.count c.take_digits-count.new.digits in
    let (room, within) = c.take_digits-count.ensures.within in
    let size : length digits ≡ c.take_digits-count.result.count = length-take-le c.take_digits-count.result.count c.take_digits-count.new.digits (omega arith) in
    let half : length (take (c.take_digits-count.result.count / 2) c.args.bytes.now) ≡ c.take_digits-count.result.count / 2 =
    length-take-le (c.take_digits-count.result.count / 2) c.args.bytes.now (omega arith) in
    let stops : (length digits ≡ 8192) ⊎ (c.take_digits-count.result.taken ≡ length c.args.text.now) = ⊎_elim
    (λ (full : c.take_digits-count.result.count ≡ 8192). inl (size ∙ full)) (λ (end : c.take_digits-count.result.taken ≡ length c.args.text.now). inr end) c.take_digits-count.ensures.all in (
      refl,
      spells_none c.args.text.now digits c.decode_to_slice.new.out (length (take (c.take_digits-count.result.count / 2) c.args.bytes.now)) c.take_digits-count.result.taken
          (Err c.in-Err.field-0) c.take_digits-count.ensures.digits stops (half ∙ ap (λ (k : ℕ). k / 2) (sym size)) (λ ok. let no = ok in cc no) c.in-Err.ensures.value,
    )
