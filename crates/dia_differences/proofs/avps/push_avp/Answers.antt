use Rattle.std.proofs.Common.{length, Some, None}
use Rattle.std.proofs.lemmas.Result.{on_ok_weaker}
use Rattle.dia_differences.specs.Partners.{paired}
use Rattle.dia_differences.proofs.PartLines.{avp_found, avp_missing, partner_is}
use Rattle.dia_differences.proofs.Paired.{partner_there}
use Rattle.dia_differences.proofs.avps.push_avp.Goals as goal

pub push_fields-requires-clause-second : goal.push_fields-requires-clause-second
push_fields-requires-clause-second g c =
    (partner_there c.args.partners.now.avps.there.items c.args.first (length (g.B.Book.meaning c.args.b.now).entries) c.in-Some.second
    (partner_is c.deref.result.now c.args.partners.now.avps.there.items c.args.first c.entries.result (length (g.B.Book.meaning c.args.b.now).entries) (Some c.in-Some.second) c.in-Some.ensures c.deref.ensures.value c.entries.ensures.count)).1

pub returns-in_ok-push_fields-in-Some : goal.returns-in_ok-push_fields-in-Some
returns-in_ok-push_fields-in-Some g c =
    on_ok_weaker c.push_rules.result
    (avp_found (g.A.Book.meaning c.args.a.now) (g.B.Book.meaning c.args.b.now) (paired c.args.partners.now) c.args.first c.args.lines.now.items c.push_fields.new.lines.items c.push_rules.new.lines.items c.in-Some.second
    (partner_is c.deref.result.now c.args.partners.now.avps.there.items c.args.first c.entries.result (length (g.B.Book.meaning c.args.b.now).entries) (Some c.in-Some.second) c.in-Some.ensures c.deref.ensures.value c.entries.ensures.count)
    c.in_ok-push_fields-in-Some.ensures)
    c.push_rules.ensures

pub returns-in-None : goal.returns-in-None
returns-in-None g c =
    on_ok_weaker c.push_alone.result
    (avp_missing (g.A.Book.meaning c.args.a.now) (g.B.Book.meaning c.args.b.now) (paired c.args.partners.now) c.args.first c.args.lines.now.items c.push_alone.new.lines.items
    (partner_is c.deref.result.now c.args.partners.now.avps.there.items c.args.first c.entries.result (length (g.B.Book.meaning c.args.b.now).entries) None c.in-None.ensures c.deref.ensures.value c.entries.ensures.count))
    c.push_alone.ensures
