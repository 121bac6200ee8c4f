use Rattle.std.proofs.Common.{◌≡◌, true, rules}
use Rattle.std.specs.List.{list_all}
use Rattle.std.specs.Char.{is_ascii_digit}
use Rattle.dia_text.proofs.NumbersOfWords.{digits_are_text}
use Rattle.dia_text.proofs.numbers.number_of.Goals as goal

pub returns-in-Err : goal.returns-in-Err
returns-in-Err c =
    let all : list_all is_ascii_digit c.args.word.now ≡ true = search rules in
    absurd (c.in-Err.ensures.cases.0 (digits_are_text c.args.word.now all))
