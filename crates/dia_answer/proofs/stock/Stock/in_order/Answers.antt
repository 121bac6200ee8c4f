use Rattle.std.proofs.Common.{List, ◌++◌, not, ap, ◌∙◌}
use Rattle.std.specs.Prelude.{filter, flat_map}
use Rattle.std.proofs.lemmas.List.{take_all}
use Rattle.dia_wire.specs.Wire.{PlainAvp, key_of}
use Rattle.dia_book.specs.Dictionary.{lists_key}
use Rattle.dia_valid.specs.Valid.{is_listed}
use Rattle.dia_answer.specs.Helds.{plains}
use Rattle.dia_answer.proofs.stock.Stock.in_order.Goals as goal

pub returns : goal.returns
returns c =
    let rules = c.args.rules.now in
    let all = plains c.args.self.now.few.items ++ plains c.args.self.now.proxies.items in
    c.in_ok-push_rest.ensures
    ∙ ap (λ (vs : List PlainAvp). vs ++ filter (λ v. not (is_listed rules (key_of v))) all)
    (c.loop-rule.invariant ∙ ap (flat_map (λ rule. filter (λ v. lists_key (key_of v) rule) all)) (take_all c.loop-rule.rule-index rules c.loop-rule-test.false))
