use Rattle.std.proofs.Common.{subst, sym, arith}
use Rattle.std.proofs.lemmas.Bool.{false≢true}
use Rattle.std.proofs.lemmas.List.{take_all}
use Rattle.dia_run.specs.Texts.{IsMessageText}
use Rattle.dia_captures.proofs.OneMessage.{refused_flaw}
use Rattle.dia_captures.proofs.spelling.spell_line.Goals as goal

pub returns-in-Ok-clause-message : goal.returns-in-Ok-clause-message
returns-in-Ok-clause-message c = subst (IsMessageText c.args.line.now) (sym (take_all _ c.in-Ok.bytes.items (omega arith))) c.in-Ok.ensures.message

pub returns-in_ok-flaw-in-Err-clause-refused : goal.returns-in_ok-flaw-in-Err-clause-refused
returns-in_ok-flaw-in-Err-clause-refused c =
    refused_flaw c.args.line.now c.in-Err.refused c.in_ok-flaw-in-Err.flaw c.in_ok-flaw-in-Err.ensures.bad (λ none. false≢true (c.in_ok-flaw-in-Err.ensures.memory none)) c.in-Err.ensures.recorded
