use Rattle.std.proofs.Common.{◌≡◌, false, true, Result, Ok, Err, OnOk, sym, ◌∙◌}
use Rattle.std.proofs.lemmas.Option.{none-some, same_Some}
use Rattle.dia_wire.specs.declared.Key.{Key}
use Rattle.dia_compat.specs.Sides.{Sides}
use Rattle.dia_compat.specs.declared.proposing.reaching.Reached.{Reached}
use Rattle.dia_compat.specs.ReachedKeys.{ComesTo, ComesToAll, IsAllowedBy}
use Rattle.dia_compat.proofs.ReachedKeys.{all_none, all_one}
use Rattle.dia_compat.proofs.proposing.reaching.Reached.come_to_allowed.Goals as goal

came : {E X : Type 0} (r : Result X E) (sides : Sides) (P : Key → Type 0) (key : Key) (x y : Reached) → P key → ((other : Key) → P other → other ≡ key) → OnOk r (ComesTo sides key x y)
    → OnOk r (ComesToAll sides P x y)
came (Ok a) sides P key x y p only h = all_one sides P key x y h p only
came (Err e) sides P key x y p only h = tt

pub returns-in-Some : goal.returns-in-Some
returns-in-Some g c =
    came c.come_to.result c.args.sides.now (IsAllowedBy c.args.rule) c.in-Some.key c.args.self.now c.come_to.new.self (c.in-Some.is, c.is_above_zero.ensures.0 c.if-is_above_zero.true)
    (λ other h. same_Some other c.in-Some.key (sym h.0 ∙ c.in-Some.is)) c.come_to.ensures

pub returns-in_default : goal.returns-in_default
returns-in_default g c =
    all_none c.args.sides.now (IsAllowedBy c.args.rule) c.args.self.now
    (λ key h. let e : false ≡ true = sym c.if-is_above_zero.false ∙ c.is_above_zero.ensures.1 h.1 in cc)

pub returns-in_default-2 : goal.returns-in_default-2
returns-in_default-2 g c = all_none c.args.sides.now (IsAllowedBy c.args.rule) c.args.self.now (λ key h. none-some key (sym c.in_default.is ∙ h.0))
