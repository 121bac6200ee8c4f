use Rattle.std.proofs.Common.{[], ◌∷◌, ◌++◌, refl, Some, ap, ◌∙◌, arith}
use Rattle.dia_captures.specs.declared.reasons.Reasons.{Reasons}
use Rattle.dia_captures.specs.declared.reasons.Seen.{Seen}
use Rattle.dia_captures.proofs.ReasonsCounted.{counted_full, counted_new, pushed}
use Rattle.dia_captures.proofs.reasons.Reasons.add_new.Goals as goal

pub returns-then-len-lt-MOST_REASONS : goal.returns-then-len-lt-MOST_REASONS
returns-then-len-lt-MOST_REASONS c = λ mets was_live h none.
    let new : Reasons = record { kept = c.push_new.new.kept; others = c.args.self.now.others; refused = c.err-self.result } in
    let kept = pushed c.push_new.result c.err-self.result c.err-self.ensures.value c.push_new.ensures in
    counted_new c.args.self.now new mets c.args.place c.args.reason.now was_live h none (omega (arith, c.if-len-lt-MOST_REASONS.true, c.len.ensures)) refl
    (λ live. kept live ∙ ap (λ (s : Seen). c.args.self.now.kept.items ++ (record { flaw = c.args.reason.now; seen = s }) ∷ []) c.once.ensures)

pub returns-else-len-lt-MOST_REASONS : goal.returns-else-len-lt-MOST_REASONS
returns-else-len-lt-MOST_REASONS c = λ mets was_live h none.
    let new : Reasons = record { kept = c.args.self.now.kept; others = Some c.more.result; refused = c.args.self.now.refused } in
    counted_full c.args.self.now new mets c.args.place c.args.reason.now refl h none (omega (arith, c.if-len-lt-MOST_REASONS.false, c.len.ensures)) c.more.ensures refl
