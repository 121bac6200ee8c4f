use Rattle.std.proofs.Common.{◌≡◌, ℕ, List, ◌++◌, length, take, drop, subst, ap, ◌∙◌, append_assoc, arith}
use Rattle.std.specs.Str.{IsUtf8, StartsWithNoChar}
use Rattle.std.proofs.lemmas.List.{length-take, take_rest}
use Rattle.dia_data.specs.Front.{front_bytes}
use Rattle.dia_data.specs.State.{IsOpen, IsSeenOfText}
use Rattle.dia_data.proofs.SeenTexts.{IsSeenOfText-past, IsSeenOfText-within, StartsWithNoChar-within}
use Rattle.dia_data.proofs.seen_text.Text.fed.Goals as goal

pub returns-in_default : goal.returns-in_default
returns-in_default c = λ bytes seen more.
    let broken : (more : List ℕ) → ¬ IsUtf8 (bytes ++ more) = subst (λ t. IsSeenOfText t bytes) c.in_default.is seen in
    λ text. broken (c.args.piece.now ++ more) (subst IsUtf8 (append_assoc bytes c.args.piece.now more) text)

pub returns-then-held-whole : goal.returns-then-held-whole
returns-then-held-whole c = λ bytes seen.
    let pending = front_bytes c.in-Open.pending in
    let piece = c.args.piece.now in
    let n = c.whole_len-whole.result in
    let opened : IsOpen pending bytes = subst (λ t. IsSeenOfText t bytes) c.in-Open.is seen in
    let joined : c.as_slice.result.now ≡ take 4 (pending ++ piece) = c.as_slice.ensures ∙ c.take_from.ensures in
    let held = ap length c.as_slice-held.ensures in
    let most = ap length joined in
    IsSeenOfText-past c.of.result pending bytes piece n opened (omega (arith, length-take 4 (pending ++ piece)))
    (subst (λ l. IsUtf8 (take n l)) joined c.whole_len-whole.ensures.text) (omega arith) (rw (c.as_slice-held.ensures, take_rest) at c.of.ensures)

pub returns-else-held-whole : goal.returns-else-held-whole
returns-else-held-whole c = λ bytes seen.
    let pending = front_bytes c.in-Open.pending in
    let piece = c.args.piece.now in
    let n = c.whole_len-whole.result in
    let opened : IsOpen pending bytes = subst (λ t. IsSeenOfText t bytes) c.in-Open.is seen in
    let joined : c.as_slice.result.now ≡ take 4 (pending ++ piece) = c.as_slice.ensures ∙ c.take_from.ensures in
    let held = ap length c.as_slice-held.ensures in
    let none : StartsWithNoChar (pending ++ piece) = StartsWithNoChar-within pending bytes piece n opened (omega arith)
    (subst (λ l. IsUtf8 (take n l)) joined c.whole_len-whole.ensures.text) (subst (λ l. StartsWithNoChar (drop n l)) joined c.whole_len-whole.ensures.rest) in
    IsSeenOfText-within c.unfinished.result pending bytes piece opened (c.unfinished.ensures (pending ++ piece) c.take_from.ensures none)
