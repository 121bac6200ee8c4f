use Rattle.std.proofs.Common.{◌≡◌, ◌-◌, ℕ, None, ap, length, refl, rules, take, ◌∙◌}
use Rattle.std.specs.Prelude.{vec_len}
use Rattle.dia_lint.proofs.NormalParts.{last_follows}
use Rattle.dia_lint.proofs.normal.last_in_any_order.Goals as goal

pub returns : goal.returns
returns c = λ p firsts anys empty none.
    let old = c.args.firsts.items in
    let size : vec_len c.args.firsts ≡ length old = search rules in
    let rest = c.pop-last.ensures.rest ∙ ap (λ (n : ℕ). take (n - 1) old) size in
    last_follows p old c.pop-last.new.self.items c.pop-last.result c.args.anys c.add_counts.new.set (record { firsts = c.pop-last.new.self; anys = c.add_counts.new.set; others = None })
    firsts anys none empty c.pop-last.ensures.items rest c.in_ok-add_counts.ensures.ordered c.in_ok-add_counts.ensures.more refl refl refl
