use Rattle.std.proofs.Common.{◌≡◌, ◌++◌, ◌+◌, ◌<◌, [], length, map}
use Rattle.std.specs.Prelude.{IfSome}
use Rattle.std.specs.Option.{option_copied}
use Rattle.dia_lint_text.specs.Asking.{words_from, words_of}
use Rattle.dia_lint_text.proofs.choice.words_in.Given as goal

abbrev pub invariant-loop : goal.invariant-loop
invariant-loop l = record {
  words : map (λ w. w.now) l.words.items ++ words_of (option_copied l.rest) ≡ words_from [] l.text;
  short : IfSome l.rest (λ r. length r.now + l.counter < length l.text + 1);
}
