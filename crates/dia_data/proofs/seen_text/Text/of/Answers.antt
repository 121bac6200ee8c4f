use Rattle.std.proofs.Common.{take, drop, subst}
use Rattle.std.proofs.lemmas.List.{take-append-drop, take_rest}
use Rattle.dia_data.specs.State.{IsSeenOfText}
use Rattle.dia_data.proofs.SeenTexts.{IsSeenOfText-following}
use Rattle.dia_data.proofs.seen_text.Text.of.Goals as goal

pub returns : goal.returns
returns c =
    let bytes = c.args.bytes.now in
    let n = c.whole_len.result in
    let rest : IsSeenOfText c.unfinished.result (drop n bytes) = c.unfinished.ensures (drop n bytes) (rw (c.new-pending.ensures, take_rest) at c.take_from.ensures) c.whole_len.ensures.rest in
    subst (IsSeenOfText c.unfinished.result) (take-append-drop n bytes) (IsSeenOfText-following c.unfinished.result (take n bytes) (drop n bytes) c.whole_len.ensures.text rest)
