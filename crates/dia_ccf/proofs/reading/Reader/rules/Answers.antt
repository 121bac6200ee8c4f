use Rattle.std.proofs.Common.{◌≡◌, ◌<◌, ℕ, List, [], ◌∷◌, ◌++◌, true, arith, ap, sym, ◌∙◌, map}
use Rattle.dia_ccf.specs.declared.reading.definitions.After.{After}
use Rattle.dia_ccf.specs.declared.source.Head.{Head}
use Rattle.dia_ccf.specs.declared.source.Rule.{Rule}
use Rattle.dia_terms.specs.declared.RuleKind.TheVariants.{Fixed}
use Rattle.dia_ccf.specs.Plain.{PlainDef, PlainRule, plain_rule}
use Rattle.dia_ccf.specs.Machine.{Rules, with_rule}
use Rattle.dia_ccf.specs.ReaderFunctions.{course, after_rules}
use Rattle.dia_ccf.proofs.ReaderInRules.{rules_append, fixed_more, order_more, kind_recorded}
use Rattle.dia_ccf.specs.ReaderFunctions.{nothing_read}
use Rattle.dia_ccf.proofs.ReaderPlaces.{same_text, no_head, rules_more, rules_still, from_place, never_back}
use Rattle.std.specs.Prelude.{string_bytes}
use Rattle.dia_ccf.specs.Places.{opened}
use Rattle.dia_ccf.proofs.reading.Reader.rules.Goals as goal

abbrev with_items : List ℕ → Head → List Rule → PlainDef
with_items name head items = record { name = name; head = head; rules = map plain_rule items }

one_more : (name : List ℕ) (head : Head) (items more : List Rule) (r : Rule) → more ≡ items ++ r ∷ [] → with_rule (with_items name head items) (plain_rule r) ≡ with_items name head more
one_more name head items more r e = ap (λ (rules : List PlainRule). record { name = name; head = head; rules = rules }) (sym (ap (map plain_rule) e ∙ rules_append items r))

pub loop-rules-preserved : goal.loop-rules-preserved
loop-rules-preserved c =
    let items = c.loop-rules.rules.items in
    let fixed = c.loop-rules.only_fixed in
    let rule = c.in-Rule.rule in
    let now = c.push.new.self.items in
    let grown = c.in_ok-push-in-Rule.ensures.items in
    let keeps : rule.kind ≡ Fixed → fixed ≡ true = rw c.in-Rule.is at c.in_ok-rule.ensures.ordered in
    let goes : c.loop-rules.self.taken < c.following_rules.new.self.taken = rw c.in-Rule.is at c.in_ok-rule.ensures.farther in
    record {
      read = λ done name head.
          (let d = with_items name head items in
          c.loop-rules.invariant.read done name head
          ∙ c.in_ok-rule.ensures.read done d c.loop-rules.invariant.fixed
          ∙ ap (λ (b : After). course (after_rules done d b) c.following_rules.new.self) c.in-Rule.is
          ∙ ap (λ (e : PlainDef). course (done, Rules e) c.following_rules.new.self) (one_more name head items now rule grown));
      fixed = fixed_more items now rule fixed c.is_fixed-only_fixed.result grown c.loop-rules.invariant.fixed (kind_recorded rule.kind fixed keeps ∙ sym c.is_fixed-only_fixed.ensures);
      ordered = order_more items now rule fixed grown c.loop-rules.invariant.fixed c.loop-rules.invariant.ordered keeps;
      placed = rules_more items now rule c.args.self.now.taken c.loop-rules.self c.following_rules.new.self grown c.loop-rules.invariant.placed (rw c.in-Rule.is at c.in_ok-rule.ensures.derived)
          (rw c.in-Rule.is at c.in_ok-rule.ensures.placed);
      farther = omega (arith, c.loop-rules.invariant.farther, goes);
    }

pub returns-in-Definition-clause-placed : goal.returns-in-Definition-clause-placed
returns-in-Definition-clause-placed c =
    let old = c.loop-rules.self in
    let new = c.following_rules.new.self in
    let items = c.loop-rules.rules.items in
    (old.taken, rules_still old.text.now new.text.now c.args.self.now.taken old.taken items (same_text (c.in_ok-rule.ensures.read nothing_read (with_items [] no_head items) c.loop-rules.invariant.fixed)) c.loop-rules.invariant.placed)

pub returns-in-Nothing-clause-placed : goal.returns-in-Nothing-clause-placed
returns-in-Nothing-clause-placed c =
    let old = c.loop-rules.self in
    let new = c.following_rules.new.self in
    let items = c.loop-rules.rules.items in
    (old.taken, rules_still old.text.now new.text.now c.args.self.now.taken old.taken items (same_text (c.in_ok-rule.ensures.read nothing_read (with_items [] no_head items) c.loop-rules.invariant.fixed)) c.loop-rules.invariant.placed)

pub returns-in-Definition-clause-begun : goal.returns-in-Definition-clause-begun
returns-in-Definition-clause-begun c =
    let next = c.in-Definition.opening in
    from_place (opened (string_bytes next.name)) next.at c.loop-rules.self c.following_rules.new.self (rw c.in-Definition.is at c.in_ok-rule.ensures.placed) (rw c.in-Definition.is at c.in_ok-rule.ensures.derived)

pub returns-in-Definition-clause-later : goal.returns-in-Definition-clause-later
returns-in-Definition-clause-later c =
    let old = c.args.self.now in
    let here = c.loop-rules.self in
    let begins : c.in-Definition.opening.at ≡ here.at = rw c.in-Definition.is at c.in_ok-rule.ensures.placed in
    let back = never_back old here (same_text (c.loop-rules.invariant.read nothing_read [] no_head)) c.loop-rules.invariant.farther in
    omega (arith, begins, back)
