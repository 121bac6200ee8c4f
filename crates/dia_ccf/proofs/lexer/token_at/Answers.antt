use Rattle.std.proofs.Common.{arith, ◌+◌, ◌∙◌, drop, length, Some, IsCharBoundary, refl, ap, sym, subst}
use Rattle.std.specs.List.{prefix_len}
use Rattle.std.proofs.lemmas.List.{length-drop}
use Rattle.dia_ccf.specs.Names.{is_run_byte}
use Rattle.dia_ccf.specs.Front.{front, run_front}
use Rattle.dia_ccf.specs.LexerTokens.{shown_sign}
use Rattle.dia_ccf.specs.Tokens.{Other, sign, run_token}
use Rattle.dia_ccf.proofs.TokensFromPlaces.{run_front-other, front-run, rest_of_bytes, IsCharBoundary-after_run, capped-shown_sign}
use Rattle.dia_ccf.proofs.lexer.token_at.Goals as goal

pub returns-in-Some-clause-token : goal.returns-in-Some-clause-token
returns-in-Some-clause-token c =
    let rest = rest_of_bytes c.args.text.now c.as_bytes.result.now c.args.at c.as_bytes.ensures.value in
    (shown_sign c.in-Some.sign, capped-shown_sign c.in-Some.sign, ap front (sym rest) ∙ c.in-Some.ensures.some)

pub returns-then-len-eq0-clause-token : goal.returns-then-len-eq0-clause-token
returns-then-len-eq0-clause-token c =
    let text = c.args.text.now in
    let at = c.args.at in
    let rest = rest_of_bytes text c.as_bytes.result.now at c.as_bytes.ensures.value in
    let none = c.sign_at_front.ensures.none c.in_default.is in
    let empty = ap (prefix_len is_run_byte) (sym rest) ∙ sym c.run_len-len.ensures.len ∙ c.if-len-eq0.true in
    (Other, refl, ap front (sym rest) ∙ none ∙ ap run_front rest ∙ run_front-other (drop at text) (omega (arith, length-drop at text)) empty)

pub range-requires-clause-end_boundary : goal.range-requires-clause-end_boundary
range-requires-clause-end_boundary c =
    let text = c.args.text.now in
    let at = c.args.at in
    let rest = rest_of_bytes text c.as_bytes.result.now at c.as_bytes.ensures.value in
    let same = c.run_len-len.ensures.len ∙ ap (prefix_len is_run_byte) rest in
    subst (λ n. IsCharBoundary text (at + n)) (sym same) (IsCharBoundary-after_run text at c.utf8.text (omega arith)
    (omega (arith, same, c.run_len-len.ensures.within, ap length rest, length-drop at text)))

pub returns-clause-token : goal.returns-clause-token
returns-clause-token c =
    let there = front-run c.args.text.now c.as_bytes.result.now c.args.at c.run_len-len.result c.as_bytes.ensures.value
    (c.sign_at_front.ensures.none c.in_default.is) c.run_len-len.ensures.len (omega arith) in
    (run_token c.range.result.now, c.run_token.ensures, there ∙ ap (λ run. Some (sign (run_token run) c.run_len-len.result)) (sym c.range.ensures.value))
