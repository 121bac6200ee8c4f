use Rattle.std.proofs.Common.{arith, ◌≡◌, ◌<◌, ◌^◌, ℕ, min, ap}
use Rattle.std.specs.Str.Parse.{digits_value}
use Rattle.std.proofs.lemmas.Result.{OkIff-at_err}
use Rattle.std.proofs.lemmas.Str.Parse.{parse_digits}
use Rattle.dia_ccf.specs.Tokens.{Number}
use Rattle.dia_ccf.proofs.TokensOfTexts.{digits_model}
use Rattle.dia_ccf.proofs.lexer.number_token.Goals as goal

at_most : (v : ℕ) → ¬ (v < 2 ^ 32) → min v 4294967296 ≡ 4294967296
at_most v great = omega arith

pub returns-in-Err : goal.returns-in-Err
returns-in-Err c =
    let run = c.args.run.now in
    let read = parse_digits digits_model 32 run c.parse.result c.parse.ensures.value.0 c.requires.digits in
    ap Number (at_most (digits_value 10 run) (λ small. OkIff-at_err c.parse.result _ (digits_value 10 run) c.in-Err.field-0 read c.in-Err.is (c.requires.long, small)))
