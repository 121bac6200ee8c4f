use Rattle.std.proofs.lemmas.Result.{IfOk-weaker}
use Rattle.dia_json.proofs.Objects.{word_recorded}
use Rattle.dia_json.proofs.listing.noted.Goals as goal

pub returns-in_ok-word-in-Some : goal.returns-in_ok-word-in-Some
returns-in_ok-word-in-Some c =
    rw c.in-Some.is (IfOk-weaker c.format.result _ _ (λ text is. word_recorded c.in-Some.word.now _ _ _ _ c.in_ok-word-in-Some.ensures c.in_ok-last.ensures is) c.format.ensures.ok)
