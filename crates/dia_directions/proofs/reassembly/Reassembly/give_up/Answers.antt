use Rattle.std.proofs.Common.{◌≡◌, [], ap, sym, rules}
use Rattle.dia_directions.specs.Reassemblies.{order_of}
use Rattle.dia_directions.proofs.Gathering.{gives_all}
use Rattle.dia_directions.proofs.reassembly.Reassembly.give_up.Goals as goal

pub returns : goal.returns
returns c =
    let none : (order_of c.loop-parts.self).waiting ≡ [] = search (rules, c.in_ok-part.ensures.none, c.in_default.is) in
    let same : c.resume.new.self ≡ c.loop-parts.self = search (rules, c.in_ok-part.ensures.unchanged, c.in_default.is) in
    gives_all c.loop-parts.parts.items (order_of c.args.self.now) (order_of c.loop-parts.self) (order_of c.resume.new.self) c.loop-parts.invariant none (ap order_of (sym same))
