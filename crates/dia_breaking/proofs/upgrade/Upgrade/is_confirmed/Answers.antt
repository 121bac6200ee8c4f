use Rattle.std.proofs.Common.{arith}
use Rattle.dia_breaking.specs.Upgrades.{sides_of}
use Rattle.dia_breaking.proofs.Confirmed.{not_accepted, refused, are_bytes, unsent}
use Rattle.dia_breaking.proofs.upgrade.Upgrade.is_confirmed.Goals as goal

pub returns-then-sent : goal.returns-then-sent
returns-then-sent g c =
    let s = sides_of c.args.self.now in (
      refused s.sender s.receiver s.sends s.unknown c.args.bytes.now c.args.command c.in_ok-accepted.accepted
          (are_bytes c.args.bytes.now (λ k. omega (arith, c.type_inv.bytes k))) c.own_policy.result c.own_policy.ensures (c.in_ok-sent.ensures.0 c.if-sent.true) c.in_ok-accepted.ensures,
      not_accepted s.sender s.receiver s.sends s.unknown c.args.bytes.now c.args.command c.in_ok-accepted.accepted c.in_ok-accepted.ensures,
    )

pub returns-else-sent : goal.returns-else-sent
returns-else-sent g c =
    let s = sides_of c.args.self.now in
    unsent s.sender s.receiver s.sends s.unknown c.args.bytes.now c.args.command c.own_policy.result c.own_policy.ensures c.in_ok-sent.sent c.if-sent.false c.in_ok-sent.ensures
