use Rattle.std.proofs.Common.{length, drop, sym, subst, arith}
use Rattle.std.specs.Str.{IsValidUpTo}
use Rattle.std.proofs.lemmas.List.{length-drop}
use Rattle.dia_data.proofs.Texts.{StartsWithNoChar-empty, StartsWithNoChar-following}
use Rattle.dia_data.proofs.seen_text.whole_len.Goals as goal

pub returns-in-Ok-clause-rest : goal.returns-in-Ok-clause-rest
returns-in-Ok-clause-rest c =
    let bytes = c.args.bytes.now in
    StartsWithNoChar-empty (drop (length bytes) bytes) (omega (arith, length-drop (length bytes) bytes))

pub returns-in-Err-clause-rest : goal.returns-in-Err-clause-rest
returns-in-Err-clause-rest c =
    StartsWithNoChar-following c.args.bytes.now _ (subst (IsValidUpTo c.args.bytes.now) (sym c.valid_up_to.ensures) c.in-Err.ensures.cases.1)
