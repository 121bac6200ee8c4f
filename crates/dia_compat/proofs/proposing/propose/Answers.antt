use Rattle.std.proofs.Common.{map, String, string_bytes, sym, subst}
use Rattle.std.specs.Global.{Global}
use Rattle.dia_wire.specs.declared.Key.{Key}
use Rattle.dia_compat.specs.TableText.{plain_table, plain_pair}
use Rattle.dia_compat.specs.Sides.{Sides}
use Rattle.dia_compat.specs.Proposed.{IsProposed, AreAvpPairs}
use Rattle.dia_compat.proofs.LeastProposal.{proposal_is_least}
use Rattle.dia_compat.proofs.WritableProposal.{writable}
use Rattle.dia_compat.proofs.NamedCommands.{all_named, are_avp_pairs, proposed, follows}
use Rattle.dia_compat.proofs.proposing.propose.Goals as goal

pub returns-clause-proposal : goal.returns-clause-proposal
returns-clause-proposal g c =
    let da = g.A.Book.meaning c.args.a.now in
    let db = g.B.Book.meaning c.args.b.now in
    let sa = (g.met.A.Book.sound c.args.a.now) in
    let sb = (g.met.B.Book.sound c.args.b.now) in
    let u = c.args.unknown in
    let sides : Sides = record { first = da; second = db; unknown = u } in
    let names = map (λ (n : String Global). string_bytes n) c.args.names.now in
    let named = c.in_ok-named.named in
    let so = c.in_ok-named.ensures.ok in
    let pairs = map plain_pair named.pairs.items in
    let r = c.follow.new.self in
    let all = are_avp_pairs sides sa sb r (IsProposed da db u pairs)
    (λ (key : Key) h. proposed sides sa sb u pairs named.reached so.roots key ((c.in_ok-follow.ensures key).0 h))
    (λ (key : Key) w. (c.in_ok-follow.ensures key).1 (follows sides sa sb u pairs named.reached so.roots key w)) in
    record {
      commands = all_named sides sa sb names named so;
      avps = subst (AreAvpPairs da db (IsProposed da db u pairs)) (sym c.in_ok-avps.ensures) all;
    }

pub returns-clause-least : goal.returns-clause-least
returns-clause-least g c =
    proposal_is_least (g.A.Book.meaning c.args.a.now) (g.B.Book.meaning c.args.b.now) (g.met.A.Book.sound c.args.a.now) (g.met.B.Book.sound c.args.b.now) c.args.unknown
    (map (λ (n : String Global). string_bytes n) c.args.names.now)
    (plain_table (record { commands = c.in_ok-named.named.pairs; avps = c.in_ok-avps.avps })) (returns-clause-proposal g c)

pub returns-clause-writable : goal.returns-clause-writable
returns-clause-writable g c =
    writable (g.A.Book.meaning c.args.a.now) (g.B.Book.meaning c.args.b.now) (g.met.A.Book.sound c.args.a.now) (g.met.B.Book.sound c.args.b.now) c.args.unknown
    (map (λ (n : String Global). string_bytes n) c.args.names.now)
    (plain_table (record { commands = c.in_ok-named.named.pairs; avps = c.in_ok-avps.avps })) (returns-clause-proposal g c)
