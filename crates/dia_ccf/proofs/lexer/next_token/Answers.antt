use Rattle.std.proofs.Common.{arith, Some, sym, ap, ◌∙◌}
use Rattle.dia_ccf.specs.LexerTokens.{tokens_from}
use Rattle.dia_ccf.proofs.TokensFromPlaces.{tokens_from-front}
use Rattle.dia_ccf.proofs.lexer.next_token.Goals as goal

pub returns : goal.returns
returns c =
    let text = c.args.text.now in
    let at = c.skip_blanks-at.result in
    let len = c.token_at-len.result.1 in
    let found = c.token_at-len.ensures.token in
    let bytes = c.as_bytes.ensures.value in
    let skipped = c.skip_blanks-at.ensures in
    record {
      token = found.0;
      same = found.1;
      first = ap (λ t. tokens_from t c.args.from) (sym bytes) ∙ skipped.same ∙ ap (λ t. tokens_from t at) bytes;
      rest = tokens_from-front text at len (Some found.0) found.2 c.token_at-len.ensures.long;
      begins = skipped.begins;
      long = omega (arith, c.token_at-len.ensures.long);
      within = c.token_at-len.ensures.within;
    }
