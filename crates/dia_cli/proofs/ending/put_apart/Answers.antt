use Rattle.std.proofs.KnownBytes.{Appends-trans}
use Rattle.std.proofs.lemmas.Result.{on_ok_weaker}
use Rattle.dia_cli.proofs.ending.put_apart.Goals as goal

pub returns-clause-text : goal.returns-clause-text
returns-clause-text g c =
    let one = rw c.as_bytes.ensures.value at c.in_ok-put_all.ensures.ok in
    let two = Appends-trans _ _ _ _ _ one (rw c.as_bytes-2.ensures.value at c.in_ok-put_all-2.ensures.ok) in
    let three = Appends-trans _ _ _ _ _ two (rw c.as_bytes-3.ensures.value at c.in_ok-put_all-3.ensures.ok) in
    let four = Appends-trans _ _ _ _ _ three (rw c.as_bytes-4.ensures.value at c.in_ok-put_all-4.ensures.ok) in
    on_ok_weaker c.put_all-5.result (λ last. Appends-trans _ _ _ _ _ four (rw c.as_bytes-5.ensures.value at last)) c.put_all-5.ensures.ok
