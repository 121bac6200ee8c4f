use Rattle.std.proofs.lemmas.Result.{on_ok_weaker}
use Rattle.dia_wire.specs.Wire.{plain_avp}
use Rattle.dia_follow.proofs.Recordings.{records_inside, records_itself}
use Rattle.dia_follow.proofs.contents.add_recorded.Goals as goal

pub returns-then-is_avp : goal.returns-then-is_avp
returns-then-is_avp c =
    on_ok_weaker c.add_members.result (λ all. records_inside (plain_avp c.args.avp.now) c.args.apps.now c.add_members.new.apps c.if-is_avp.ensures c.know_front.ensures all) c.add_members.ensures

pub returns-else-is_avp : goal.returns-else-is_avp
returns-else-is_avp c =
    on_ok_weaker c.add_named.result (λ adds. records_itself (plain_avp c.args.avp.now) c.args.apps.now c.add_named.new.apps c.if-is_avp.ensures adds) c.add_named.ensures
