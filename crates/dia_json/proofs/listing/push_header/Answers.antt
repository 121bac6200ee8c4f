use Rattle.std.proofs.lemmas.Result.{on_ok_weaker}
use Rattle.dia_json.proofs.Objects.{header_recorded}
use Rattle.dia_json.proofs.listing.push_header.Goals as goal

pub returns : goal.returns
returns c =
    on_ok_weaker c.write-3.result
    (λ e name is. header_recorded c.args.header.now c.args.size name _ _ _ _ _ is c.in_ok-write.ensures.bytes c.in_ok-write-2.ensures.bytes e)
    c.write-3.ensures.bytes
