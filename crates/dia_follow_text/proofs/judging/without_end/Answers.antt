use Rattle.std.proofs.Common.{Some, None, sym, ◌∙◌, arith}
use Rattle.std.proofs.lemmas.List.{same_from_push}
use Rattle.std.proofs.lemmas.Str.Pattern.{strip_suffix_char}
use Rattle.dia_follow_text.proofs.judging.without_end.Goals as goal

pub returns-in-Some : goal.returns-in-Some
returns-in-Some c = λ text is. (same_from_push _ _ _ _ (sym (strip_suffix_char 10 c.args.line.now (Some c.in-Some.front) c.in-Some.ensures.cases (omega arith)) ∙ is)).0

pub returns-in-None : goal.returns-in-None
returns-in-None c = λ text is. absurd (strip_suffix_char 10 c.args.line.now None c.in-None.ensures.cases (omega arith) text is)
