use Rattle.std.proofs.Common.{◌≡◌, ◌-◌, true, false, length, take, drop, sym, ◌∙◌}
use Rattle.std.proofs.lemmas.List.{take_rest}
use Rattle.dia_book.specs.Dictionary.{plain_definition}
use Rattle.dia_answer.proofs.Shown.{of_body}
use Rattle.dia_answer.proofs.failed.failed_data.Goals as goal

pub returns-in-Some : goal.returns-in-Some
returns-in-Some g c =
    let bytes = c.args.bytes.now in
    of_body (λ v. v.items) (g.B.Book.meaning c.args.book.now) c.args.header.now bytes (take (length bytes - 20) (drop 20 bytes)) c.args.fault.now c.in-Some.def (plain_definition c.def.result.now) c.deref.result.now
    (λ is. let bad : true ≡ false = sym (c.is_of_header.ensures.1 is) ∙ c.if-is_of_header.false in cc) c.in-Some.ensures c.def.ensures c.deref.ensures.value (take_rest bytes 20) c.in_body.result c.in_body.ensures
