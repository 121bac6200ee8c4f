use Rattle.dia_answer.proofs.Building.{with_proxies, without_proxies}
use Rattle.dia_answer.proofs.stock.Stock.push_of_rule.Goals as goal

pub returns-in_ok-extend_from_slice : goal.returns-in_ok-extend_from_slice
returns-in_ok-extend_from_slice c =
    with_proxies c.args.rule.now c.args.out.now.items c.args.self.now.few.items c.deref.result.now c.push_listed.new.out.items c.extend_from_slice.new.self.items c.deref-then-lists.result.now c.args.self.now.proxies.items c.base_key.result
    c.lists.result c.requires c.in_ok-push_listed.ensures c.deref.ensures.value c.base_key.ensures c.lists.ensures c.if-lists.true c.in_ok-extend_from_slice.ensures.items c.deref-then-lists.ensures.value

pub returns-else-lists : goal.returns-else-lists
returns-else-lists c =
    without_proxies c.args.rule.now c.args.out.now.items c.args.self.now.few.items c.deref.result.now c.push_listed.new.out.items c.args.self.now.proxies.items c.base_key.result c.lists.result c.requires c.in_ok-push_listed.ensures c.deref.ensures.value
    c.base_key.ensures c.lists.ensures c.if-lists.false
