use Rattle.std.proofs.Common.{◌≡◌, false, true, List, sym, subst, ◌∙◌}
use Rattle.dia_book.specs.declared.DRule.{DRule}
use Rattle.dia_compat.specs.Below.{IsAboveZero}
use Rattle.dia_valid.specs.Rules.{HasWildcard}
use Rattle.dia_compat.specs.ReachedKeys.{ComesToAll, IsAllowed}
use Rattle.dia_compat.proofs.ReachedKeys.{admitted, only_listed, rest_then}
use Rattle.dia_compat.proofs.proposing.reaching.Reached.come_to_admitted.Goals as goal

pub returns-in_ok-come_to_unlisted : goal.returns-in_ok-come_to_unlisted
returns-in_ok-come_to_unlisted g c =
    let same = c.list-list.ensures in
    let listed = subst (λ (rules : List DRule). ComesToAll c.args.sides.now (IsAllowed rules) c.args.self.now c.come_to_listed.new.self) same c.in_ok-come_to_listed.ensures in
    let wild = subst (λ (rules : List DRule). (w : DRule) × HasWildcard rules w × IsAboveZero w.max) same (c.has_open_wildcard.ensures.0 c.if-has_open_wildcard.true) in
    admitted c.args.sides.now c.args.rules.now c.args.self.now c.come_to_listed.new.self c.come_to_unlisted.new.self wild listed c.in_ok-come_to_unlisted.ensures

pub come_to_unlisted-requires : goal.come_to_unlisted-requires
come_to_unlisted-requires g c =
    rest_then c.args.sides.now (IsAllowed c.list-list.result.now) c.args.self.now c.come_to_listed.new.self c.requires c.in_ok-come_to_listed.ensures

pub returns-else-has_open_wildcard : goal.returns-else-has_open_wildcard
returns-else-has_open_wildcard g c =
    let same = c.list-list.ensures in
    let listed = subst (λ (rules : List DRule). ComesToAll c.args.sides.now (IsAllowed rules) c.args.self.now c.come_to_listed.new.self) same c.in_ok-come_to_listed.ensures in
    let none : ¬ ((w : DRule) × HasWildcard c.args.rules.now w × IsAboveZero w.max) = λ w. let e : false ≡ true = sym c.if-has_open_wildcard.false
    ∙ c.has_open_wildcard.ensures.1 (subst (λ (rules : List DRule). (w : DRule) × HasWildcard rules w × IsAboveZero w.max) (sym same) w) in cc in
    only_listed c.args.sides.now c.args.rules.now c.args.self.now c.come_to_listed.new.self none listed
