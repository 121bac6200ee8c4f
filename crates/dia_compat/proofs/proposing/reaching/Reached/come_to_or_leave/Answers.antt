use Rattle.std.proofs.Common.{refl, sym, ◌∙◌}
use Rattle.dia_compat.proofs.ReachedKeys.{sorts_new, sorts_listed, listed_by_test, unlisted_by_test}
use Rattle.dia_compat.proofs.proposing.reaching.Reached.come_to_or_leave.Goals as goal

pub returns-in_ok-come_to : goal.returns-in_ok-come_to
returns-in_ok-come_to g c =
    sorts_new c.args.sides.now c.args.rules.now c.args.key c.args.self.now c.come_to.new.self (unlisted_by_test c.args.rules.now c.args.key (sym c.lists.ensures ∙ c.if-lists.false))
    c.in_ok-come_to.ensures

pub returns-in_ok-push : goal.returns-in_ok-push
returns-in_ok-push g c =
    sorts_listed c.args.sides.now c.args.rules.now c.args.key c.args.self.now (record { keys = c.args.self.now.keys; waiting = c.args.self.now.waiting; rest = c.push.new.self })
    (λ none. none (listed_by_test c.args.rules.now c.args.key (sym c.lists.ensures ∙ c.if-lists.true))) (λ other. refl) refl refl c.in_ok-push.ensures.items
