use Rattle.dia_answer.proofs.Building.{rest_with_proxies, rest_without_proxies}
use Rattle.dia_answer.proofs.stock.Stock.push_rest.Goals as goal

pub returns-in_ok-extend_from_slice : goal.returns-in_ok-extend_from_slice
returns-in_ok-extend_from_slice c =
    rest_with_proxies c.args.rules.now c.args.out.now.items c.args.self.now.few.items c.deref.result.now c.push_unlisted.new.out.items c.extend_from_slice.new.self.items c.deref-then-is_unlisted.result.now c.args.self.now.proxies.items
    c.base_key.result c.is_unlisted.result c.requires c.in_ok-push_unlisted.ensures c.deref.ensures.value c.base_key.ensures c.is_unlisted.ensures c.if-is_unlisted.true c.in_ok-extend_from_slice.ensures.items
    c.deref-then-is_unlisted.ensures.value

pub returns-else-is_unlisted : goal.returns-else-is_unlisted
returns-else-is_unlisted c =
    rest_without_proxies c.args.rules.now c.args.out.now.items c.args.self.now.few.items c.deref.result.now c.push_unlisted.new.out.items c.args.self.now.proxies.items c.base_key.result c.is_unlisted.result c.requires
    c.in_ok-push_unlisted.ensures c.deref.ensures.value c.base_key.ensures c.is_unlisted.ensures c.if-is_unlisted.false
