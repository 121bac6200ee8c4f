use Rattle.std.proofs.Common.{length, arith}
use Rattle.dia_lint_text.proofs.Searches.{used_up}
use Rattle.dia_lint_text.proofs.choice.words_in.Goals as goal

pub push_last-requires : goal.push_last-requires
push_last-requires c = used_up (λ r. r.now) c.loop.rest c.loop.counter (length c.args.text.now) (omega (arith, c.loop-test.false)) c.loop.invariant.short
