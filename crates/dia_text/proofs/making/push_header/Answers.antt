use Rattle.std.proofs.lemmas.Result.{on_ok_weaker}
use Rattle.dia_text.proofs.Drafting.{header_written}
use Rattle.dia_text.proofs.making.push_header.Goals as goal

pub returns : goal.returns
returns c =
    on_ok_weaker c.push_u32-3.result
    (λ e. header_written _ _ _ _ _ _ _ _ _ _ _ c.in_ok-push_byte_and_u24.ensures c.in_ok-push_byte_and_u24-2.ensures c.in_ok-push_u32.ensures c.in_ok-push_u32-2.ensures e)
    c.push_u32-3.ensures
