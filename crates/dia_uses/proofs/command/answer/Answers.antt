use Rattle.std.proofs.Common.{map, string_bytes, String, subst, sym}
use Rattle.std.specs.Global.{Global}
use Rattle.dia_places.specs.Asked.{AreKeysOf}
use Rattle.dia_uses.proofs.Answers.{of_keys, of_unknown}
use Rattle.dia_uses.proofs.command.answer.Goals as goal

pub returns-in-Ok : goal.returns-in-Ok
returns-in-Ok g c =
    let d = g.B.Book.meaning c.args.book.now in
    let words = map (λ (avp : String Global). string_bytes avp) c.args.avps.now in
    of_keys c.args.json d words c.deref.result.now c.uses.result (subst (AreKeysOf d words) (sym c.deref.ensures.value) (rw c.in-Ok.is at c.in_ok-keys.ensures.known)) c.uses.ensures

pub returns-in-Err : goal.returns-in-Err
returns-in-Err g c =
    of_unknown c.args.json (g.B.Book.meaning c.args.book.now) (map (λ (avp : String Global). string_bytes avp) c.args.avps.now) c.in-Err.word.now c.unknown.result
    (rw c.in-Err.is at c.in_ok-keys.ensures.unknown) c.unknown.ensures.text c.unknown.ensures.exit
