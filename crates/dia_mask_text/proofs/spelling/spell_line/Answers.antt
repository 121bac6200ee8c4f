use Rattle.std.proofs.Common.{subst}
use Rattle.dia_report.specs.Refusals.{RecordsOf}
use Rattle.dia_run.specs.Texts.{IsNoMessageText}
use Rattle.dia_mask_text.proofs.Unread.{no_hexadecimal}
use Rattle.dia_mask_text.proofs.spelling.spell_line.Goals as goal

pub returns-in-Err-Bad-clause-unread : goal.returns-in-Err-Bad-clause-unread
returns-in-Err-Bad-clause-unread c =
    no_hexadecimal c.args.line.now c.in-Some.text.now _ c.in-Some.ensures.some
    (subst (RecordsOf (IsNoMessageText c.args.line.now)) c.in-Err-Bad.field-0-is c.in-Err-Bad.ensures.recorded)
