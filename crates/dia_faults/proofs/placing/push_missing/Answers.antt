use Rattle.std.proofs.Common.{ℕ, arith, inl, inr, refl, get_or}
use Rattle.std.proofs.lemmas.Option.{slice_get-get_or}
use Rattle.dia_book.specs.declared.DRule.{DRule}
use Rattle.dia_faults.specs.States.{count_of}
use Rattle.dia_faults.proofs.Missing.{no_rule, started, stepped, next}
use Rattle.dia_faults.proofs.placing.push_missing.Goals.{then-of-rules+in_ok-push, else-of-rules}
use Rattle.dia_faults.proofs.placing.push_missing.Goals as goal

pub loop-rule-init : goal.loop-rule-init
loop-rule-init c =
    started (λ (i : ℕ) (rule : DRule). count_of c.args.counts.now.counts.entries c.args.start i) c.args.rules.now c.args.from c.args.to c.args.at c.args.found.now c.first_wanted-rule.result
    c.first_wanted-rule.ensures

pub loop-rule-preserved : goal.loop-rule-preserved
loop-rule-preserved c =
    let count = λ (i : ℕ) (rule : DRule). count_of c.args.counts.now.counts.entries c.args.start i in
    let at = slice_get-get_or c.args.rules.now c.loop-rule.rule no_rule (omega (arith, c.loop-rule-test.true, c.requires.within.1)) in
    next count c.args.rules.now c.args.from c.args.to c.args.at c.args.found.now c.loop-rule.found c.if-of-rules.found c.loop-rule.rule (get_or c.args.rules.now c.loop-rule.rule no_rule) _ _ _ c.loop-rule-test.true at refl (omega arith)
    c.first_wanted-rule-in-loop-rule.ensures c.loop-rule.invariant
    (stepped count c.args.rules.now c.args.from c.args.to c.args.at c.loop-rule.found c.if-of-rules.found c.loop-rule.rule c.of.result (get_or c.args.rules.now c.loop-rule.rule no_rule) c.of.ensures (elim c.if-of-rules.branch [
      | then-of-rules+in_ok-push w ↦ inl (w.if-of-rules.true, (w.missing.result, w.push.new.self, w.missing.ensures, w.found-is, w.in_ok-push.ensures))
      | else-of-rules w ↦ inr (w.if-of-rules.false, w.found-is)
    ]))
