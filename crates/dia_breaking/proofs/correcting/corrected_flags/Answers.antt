use Rattle.std.proofs.Common.{sym, ◌∙◌}
use Rattle.dia_breaking.proofs.CorrectedHeaders.{kept_bit, p_kept, p_turned}
use Rattle.dia_breaking.proofs.correcting.corrected_flags.Goals as goal

pub returns-then-allows : goal.returns-then-allows
returns-then-allows c =
    record {
      holds = p_kept c.args.header.now.flags c.args.p c.is_proxiable.result c.is_proxiable.ensures (sym c.allows.ensures ∙ c.if-allows.true);
      others = λ bit other. (λ set. set, λ set. set);
    }

pub returns-else-allows : goal.returns-else-allows
returns-else-allows c =
    let flags = c.args.header.now.flags in
    record { holds = p_turned flags c.args.p c.is_proxiable.result c.is_proxiable.ensures (sym c.allows.ensures ∙ c.if-allows.false); others = λ bit other. kept_bit flags bit other }
